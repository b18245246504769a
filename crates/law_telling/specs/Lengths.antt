-- How long a line is (EHCI 1.0, 3.5.3): the bytes moved in the qTDs of its transfer, each its length less what is left in its token.
--     LengthsAddUp            of a transfer whose token was read
--     OneQtdTells             .. with one qTD
-- and what breaks it:
--     NoBytesIsWrong          a line of no bytes where some were moved
--     ErrorAsStallIsWrong     a token that used up its errors and is told as a STALL; told as an error it has its reason
use Rattle.std.specs.Prelude.{◌≡◌, ℕ, ◌<◌, ◌≤◌, min, Bool, true, List, [], length}
use Rattle.std.specs.List.{sum_by}
use Rattle.usb_base.specs.declared.endpoints.EndCause.TheVariants as causes
use Rattle.usb_base.specs.declared.reports.Report.{Report}
use Rattle.usb_base.specs.declared.reports.What.TheVariants as lines
use Rattle.qh_qtd.specs.Blank.{blank_token}
use Rattle.qh_qtd.specs.declared.token.Token.{Token}
use Rattle.drv_table.specs.declared.content.QtdNote.{QtdNote}
use Rattle.drv_table.specs.declared.content.Transfer.{Transfer}
use Rattle.drv_table.specs.Harvests.{note_at}
use Rattle.drv_table.specs.Parts.{Parts}
use Rattle.claims_answers.specs.Telling.{token_of, HasReason, less, qtds_of, IsToldByToken}

abbrev pub moved_in : List QtdNote → Transfer → ℕ
moved_in notes y = sum_by (λ b. (note_at notes b).moved) (qtds_of notes y.first y.qtds)

abbrev pub LengthsAddUp : Type 0
LengthsAddUp = (p : Parts) (notes : List QtdNote) (line : Report) (bytes : List ℕ) (told : IsToldByToken p notes line bytes)
    → length bytes ≡ min told.of.transfer.most (moved_in notes told.of.transfer)

-- its one qTD, whose token is read
pub record HasOneQtd (p : Parts) (y : Transfer) : Type 0 where
  pub one : y.qtds ≡ 1
  pub first : y.first ≡ y.place
  pub within : y.place < length p.driver.notes

abbrev pub OneQtdTells : Type 0
OneQtdTells = (p : Parts) (notes : List QtdNote) (line : Report) (bytes : List ℕ) (told : IsToldByToken p notes line bytes)
    → HasOneQtd p told.of.transfer
    → length bytes
    ≡ min told.of.transfer.most (less (note_at p.driver.notes told.of.transfer.place).told (token_of p.memory told.of.transfer.place).total)

abbrev pub NoBytesIsWrong : Type 0
NoBytesIsWrong = (p : Parts) (notes : List QtdNote) (line : Report) (told : IsToldByToken p notes line [])
    → HasOneQtd p told.of.transfer → 1 ≤ told.of.transfer.most
    → (token_of p.memory told.of.transfer.place).total < (note_at p.driver.notes told.of.transfer.place).told → ⊥

-- three errors in a row, and no bit but Halted and Transaction Error (3.5.3)
abbrev pub three_errors : Token
three_errors = record blank_token { halted = true; xact_err = true; cerr = 0 }

-- the device answered STALL, and no error was counted
abbrev pub a_stall : Token
a_stall = record blank_token { halted = true; cerr = 3 }

abbrev pub ErrorIsToldAsError : Type 0
ErrorIsToldAsError = (get last : Bool) → HasReason get last three_errors (lines.Halt causes.Error)

abbrev pub StallIsToldAsStall : Type 0
StallIsToldAsStall = (get last : Bool) → HasReason get last a_stall (lines.Halt causes.Stall)

abbrev pub ErrorAsStallIsWrong : Type 0
ErrorAsStallIsWrong = (get last : Bool) → HasReason get last three_errors (lines.Halt causes.Stall) → ⊥

abbrev pub StallAsErrorIsWrong : Type 0
StallAsErrorIsWrong = (get last : Bool) → HasReason get last a_stall (lines.Halt causes.Error) → ⊥

abbrev pub ErrorAsDoneIsWrong : Type 0
ErrorAsDoneIsWrong = (get last : Bool) → HasReason get last three_errors lines.Done → ⊥
