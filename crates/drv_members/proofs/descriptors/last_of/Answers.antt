use Rattle.std.proofs.Common.{arith}
use Rattle.drv_members.specs.Members.{frame_in}
use Rattle.drv_members.proofs.Sorted.{last_is, no_last}
use Rattle.drv_members.proofs.descriptors.last_of.Goals as goal

pub returns-then-descriptor-low : goal.returns-then-descriptor-low
returns-then-descriptor-low c = no_last frame_in c.args.low c.args.descriptors.now c.args.count (record { id = 0; frame = 0 }) c.requires.framed (omega arith) c.requires.within (omega arith)

pub returns : goal.returns
returns c = last_is frame_in c.args.low c.args.descriptors.now c.args.count (record { id = 0; frame = 0 }) (omega arith) c.requires.within (omega arith)
