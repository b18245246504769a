-- A list of one queue head: in the block 130, of every eighth frame, from frame 3 on.
use Rattle.std.specs.Prelude.{[], ◌∷◌, None}
use Rattle.drv_chains.specs.declared.members.QueueHead.{QueueHead}
use Rattle.drv_chains.specs.Chains.{of_lists}
use Rattle.drv_periodic.specs.Periodic.{Periodic}

abbrev pub queue : QueueHead
queue = record { id = 4162; period = 64; phase = 3 }

abbrev pub one_queue : Periodic
one_queue = record { list = 0; members = record { schedule = of_lists [] (queue ∷ []); queue_room = 1; descriptor_room = 0 }; work = None }
