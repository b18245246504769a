-- Two isochronous descriptors for worked rows: an iTD in the blocks 2 and 3 with slots of 16 bytes in the microframes 0 and 2, whose buffer is in block 9, and a
-- siTD in block 4 of 40 bytes, whose buffer begins in block 10.
use Rattle.std.specs.Prelude.{true, false, List, [], ◌∷◌, None}
use Rattle.usb_base.specs.declared.endpoints.EpDesc.{EpDesc}
use Rattle.usb_base.specs.declared.packets.EpKind.TheVariants.{Iso}
use Rattle.usb_base.specs.declared.packets.Speed.TheVariants.{High}
use Rattle.usb_base.specs.declared.packets.Way.TheVariants.{In}
use Rattle.drv_periodic_table.specs.declared.content.DescriptorNote.{DescriptorNote}
use Rattle.drv_periodic_table.specs.Periodic.{no_descriptor}
use Rattle.drv_table.specs.declared.content.Slots.{Slots}
use Rattle.drv_table.specs.declared.content.Transfer.{Transfer}
use Rattle.drv_table.specs.IsoOffers.{descriptor_note, descriptor_transfer}

abbrev pub desc : EpDesc
desc = record { name = record { addr = 5; num = 3; way = In }; speed = High; kind = Iso; max = 16; multi = 1; period = 8; hub = None; port = 0; tt = 0 }

abbrev pub whole : Slots
whole = record { split = false; smask = 5; cmask = 0; slot = 16 }

abbrev pub split : Slots
split = record { split = true; smask = 1; cmask = 28; slot = 40 }

abbrev pub notes : List DescriptorNote
notes = no_descriptor ∷ no_descriptor ∷ descriptor_note whole (9 ∷ []) ∷ no_descriptor ∷ descriptor_note split (10 ∷ []) ∷ []

abbrev pub transfers : List Transfer
transfers = descriptor_transfer 0 whole 2 ∷ descriptor_transfer 0 split 4 ∷ []
