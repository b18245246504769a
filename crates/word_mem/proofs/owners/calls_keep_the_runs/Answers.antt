use Rattle.word_mem.proofs.Holders.{held_taken}
use Rattle.word_mem.proofs.owners.calls_keep_the_runs.Goals as goal

pub returns-clause-taken : goal.returns-clause-taken
returns-clause-taken c = held_taken
