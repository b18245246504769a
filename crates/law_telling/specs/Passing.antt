-- Each event of a driver keeps its transfers, and notes what it reads.
--     EventsKeepTransfers      the law
--     reads_first p room       a driver with a get of two qTDs, whose first is done with 100 bytes left of 512
--     passed_with room n       what stands once it is read, with n bytes noted
--     AGetIsPassed             412 are to be noted
--     NothingNotedIsWrong, LeftUnreadIsWrong     a driver that notes none doesn't read it so, nor one that leaves it unread
use Rattle.std.specs.Prelude.{ℕ, List, [], ◌∷◌}
use Rattle.drv_table.specs.declared.content.QtdNote.{QtdNote}
use Rattle.drv_table.specs.declared.content.Reserve.{Reserve}
use Rattle.drv_table.specs.declared.content.Transfer.{Transfer}
use Rattle.drv_table.specs.declared.rows.DriverRow.{DriverRow}
use Rattle.drv_table.specs.declared.rows.DriverRow.TheVariants.{Harvest}
use Rattle.drv_table.specs.declared.rows.Found.TheVariants as founds
use Rattle.drv_table.specs.DriverContent.{DriverContent, no_note}
use Rattle.drv_table.specs.Parts.{Parts}
use Rattle.drv_table.specs.Rows.{driver_row, after_driver_row}
use Rattle.claims_answers.specs.Passing.{KeepsTransfers}
use Rattle.law_footprints.specs.Worked.{idle, a_get}

abbrev pub EventsKeepTransfers : Type 0
EventsKeepTransfers = (p : Parts) → KeepsTransfers (driver_row p) p (after_driver_row (driver_row p) p).driver

-- ---- worked rows

abbrev pub of_two : Transfer
of_two = record a_get { first = 0; place = 0; qtds = 2; left = 2; most = 1024 }

abbrev pub notes_with : ℕ → List QtdNote
notes_with moved = record no_note { next = 1; told = 512; moved = moved } ∷ record no_note { told = 512 } ∷ []

abbrev pub reads_first : Parts → Reserve → Parts
reads_first p room = record p {
  driver = record (idle room) { transfers = of_two ∷ []; notes = notes_with 0 };
  memory = record { words = 0 ∷ 0 ∷ 6553600 ∷ []; states = []; foreign = 0 };
}

abbrev pub passed_with : Reserve → ℕ → DriverContent
passed_with room moved = record (idle room) { transfers = record of_two { place = 1; left = 1 } ∷ []; notes = notes_with moved }

abbrev pub reads : DriverRow
reads = Harvest 0 0 (founds.Moved 412)

abbrev pub AGetIsPassed : Type 0
AGetIsPassed = (p : Parts) (room : Reserve) → KeepsTransfers reads (reads_first p room) (passed_with room 412)

abbrev pub NothingNotedIsWrong : Type 0
NothingNotedIsWrong = (p : Parts) (room : Reserve) → KeepsTransfers reads (reads_first p room) (passed_with room 0) → ⊥

abbrev pub LeftUnreadIsWrong : Type 0
LeftUnreadIsWrong = (p : Parts) (room : Reserve) → KeepsTransfers reads (reads_first p room) (reads_first p room).driver → ⊥
