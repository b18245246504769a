-- What descriptors are noted, listed and written in, and what their lines tell.
--     listed_in h ts m       the notes of this part, these transfers and this memory
--     told_in note m t       the bytes that were moved in the slots of a descriptor, as many as its line may tell
use Rattle.std.specs.Prelude.{ℕ, List, take}
use Rattle.word_mem.specs.Memory.{Mem}
use Rattle.drv_periodic_table.specs.declared.content.DescriptorNote.{DescriptorNote}
use Rattle.drv_periodic_table.specs.Descriptors.{told_bytes}
use Rattle.drv_frames_content.specs.Part.{Held}
use Rattle.drv_table.specs.declared.content.Transfer.{Transfer}
use Rattle.drv_table.specs.IsoOffers.{Descriptors}

abbrev pub listed_in : Held → List Transfer → Mem → Descriptors
listed_in h ts m = record { notes = h.periodic.notes; transfers = ts; memory = m }

abbrev pub told_in : DescriptorNote → Mem → Transfer → List ℕ
told_in note m t = take t.most (told_bytes note m t.first)
