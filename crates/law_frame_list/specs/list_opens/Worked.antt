-- A list with one queue head, in block 130, and room for one more.
use Rattle.drv_periodic.specs.Periodic.{Periodic}
use Rattle.law_frame_words.specs.list_words.Worked.{one_queue}

abbrev pub with_room : Periodic
with_room = record one_queue { members = record one_queue.members { queue_room = 2 } }
