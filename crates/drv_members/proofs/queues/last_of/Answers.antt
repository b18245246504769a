use Rattle.std.proofs.Common.{arith}
use Rattle.drv_members.specs.Ranks.{rank_of}
use Rattle.drv_members.proofs.Sorted.{last_is, no_last}
use Rattle.drv_members.proofs.queues.last_of.Goals as goal

pub returns-then-rank_of_queue-low : goal.returns-then-rank_of_queue-low
returns-then-rank_of_queue-low c = no_last rank_of c.args.low c.args.queues.now c.args.count (record { id = 0; period = 0; phase = 0 }) c.requires.ranked (omega arith) c.requires.within (omega arith)

pub returns : goal.returns
returns c = last_is rank_of c.args.low c.args.queues.now c.args.count (record { id = 0; period = 0; phase = 0 }) (omega arith) c.requires.within (omega arith)
