-- For worked rows: a driver with one put of five bytes, and the notes of two qTDs that send five bytes, two and three, of which two and one were moved.
use Rattle.std.specs.Prelude.{false, List, [], ◌∷◌}
use Rattle.usb_base.specs.declared.endpoints.EpName.{EpName}
use Rattle.usb_base.specs.declared.packets.Way.TheVariants as ways
use Rattle.drv_table.specs.declared.content.QtdNote.{QtdNote}
use Rattle.drv_table.specs.declared.content.Sort.TheVariants as sorts
use Rattle.drv_table.specs.declared.content.Transfer.{Transfer}
use Rattle.drv_table.specs.DriverContent.{DriverContent}
use Rattle.drv_table.specs.Opening.{opening}
use Rattle.law_world.specs.streams.put_laws.ByteSamples.{notes}
use Rattle.usb_base.specs.Rules.{first_rules}
use Rattle.drv_table.specs.declared.content.Part.TheVariants as parts

abbrev pub name : EpName
name = record { addr = 1; num = 2; way = ways.Out }

abbrev pub put : Transfer
put = record { endpoint = 0; sort = sorts.Put; first = 0; qtds = 1; place = 0; left = 1; most = 5; reported = false; released = false; part = parts.Own }

abbrev pub sending : DriverContent
sending = record (opening 2048 (record { endpoints = 4; transfers = 8; reports = 8; report_bytes = 4096; rules = first_rules })).driver { transfers = put ∷ []; notes = notes }

abbrev pub pieces : List QtdNote
pieces =
    record { next = 1; buffer = 8 ∷ 0 ∷ 0 ∷ 0 ∷ 0 ∷ []; runs = 1; told = 2; moved = 2 }
    ∷ record { next = 7; buffer = 9 ∷ 0 ∷ 0 ∷ 0 ∷ 0 ∷ []; runs = 1; told = 3; moved = 1 }
    ∷ []
