-- A frame list of worked rows, beside the structures of a driver that was just built: it begins in block 0, and has one member, a queue head that stands at
-- byte 4096 and is due in each microframe.
--     queue, list
use Rattle.std.specs.Prelude.{[], ◌∷◌, None}
use Rattle.drv_chains.specs.declared.members.QueueHead.{QueueHead}
use Rattle.drv_chains.specs.Chains.{of_lists}
use Rattle.drv_periodic.specs.Periodic.{Periodic}

abbrev pub queue : QueueHead
queue = record { id = 4098; period = 1; phase = 0 }

abbrev pub list : Periodic
list = record { list = 0; members = record { schedule = of_lists [] (queue ∷ []); queue_room = 1; descriptor_room = 0 }; work = None }
