-- A list with one queue head, in block 130, and room for descriptors; and an iTD of frame 3, in block 140.
use Rattle.drv_chains.specs.declared.members.Descriptor.{Descriptor}
use Rattle.drv_periodic.specs.Periodic.{Periodic}
use Rattle.law_frame_words.specs.list_words.Worked.{one_queue}

abbrev pub with_places : Periodic
with_places = record one_queue { members = record one_queue.members { descriptor_room = 2 } }

abbrev pub in_three : Descriptor
in_three = record { id = 4480; frame = 3 }
