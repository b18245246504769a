use Rattle.word_mem.proofs.Holders.{held_disjoint}
use Rattle.word_mem.proofs.owners.runs_are_disjoint.Goals as goal

pub returns : goal.returns
returns c = held_disjoint
