use Rattle.std.proofs.Common.{◌∙◌, arith}
use Rattle.std.proofs.lemmas.List.{take_rest}
use Rattle.drv_members.specs.Ranks.{rank_of}
use Rattle.drv_members.proofs.Sorted.{from_first, above_last}
use Rattle.drv_members.proofs.queues.from_rank.Goals as goal

pub returns-then-low-eq0 : goal.returns-then-low-eq0
returns-then-low-eq0 c = from_first rank_of c.args.low c.args.queues.now (omega arith)

pub returns : goal.returns
returns c = take_rest c.args.queues.now c.up_to.result ∙ c.up_to.ensures.back ∙ above_last rank_of c.args.low c.args.queues.now (omega arith)
