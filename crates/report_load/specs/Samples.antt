-- A report to count.
--     line name what len     a line that tells of so many bytes
--     mixed name             a refused command, two transfers that are done, one halted, one that missed a complete-split, one cancelled
use Rattle.std.specs.Prelude.{ℕ, List, [], ◌∷◌}
use Rattle.usb_base.specs.declared.endpoints.EpName.{EpName}
use Rattle.usb_base.specs.declared.endpoints.EndCause.TheVariants.{Stall}
use Rattle.usb_base.specs.declared.reports.OfferError.TheVariants.{Busy}
use Rattle.usb_base.specs.declared.reports.Report.{Report}
use Rattle.usb_base.specs.declared.reports.What.{What}
use Rattle.usb_base.specs.declared.reports.What.TheVariants.{Done, Halt, Miss, Cancel, Refused}

abbrev pub line : EpName → What → ℕ → Report
line name what len = record { name = name; what = what; from = 0; len = len }

abbrev pub mixed : EpName → List Report
mixed name = line name (Refused 7 Busy) 0 ∷ line name Done 512 ∷ line name (Halt Stall) 64 ∷ line name Miss 8 ∷ line name Done 3 ∷ line name Cancel 5 ∷ []
