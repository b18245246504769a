use Rattle.std.proofs.Common.{arith}
use Rattle.std.proofs.lemmas.Grind.{common_steps}
use Rattle.word_mem.proofs.Filled.{slice_get-filled_inside}
use Rattle.word_mem.proofs.memory.WordMem.mark.Goals as goal

pub returns-clause-all : goal.returns-clause-all
returns-clause-all c = λ b from below. grind (arith, common_steps, slice_get-filled_inside c.self.inside.states.items c.args.first c.args.blocks c.args.state b)
