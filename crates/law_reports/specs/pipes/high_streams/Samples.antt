-- Reports for worked rows, of a script with a keyboard behind a hub beside a device at high speed.
--     told_of ..              these bytes of the interrupt endpoint at high speed, and these of the keyboard; the put is done; these bytes
--                             were taken; and these lines follow
--     cancelled               the line of the cancel
use Rattle.std.specs.Prelude.{ℕ, List, [], ◌∷◌, ◌++◌}
use Rattle.usb_base.specs.declared.endpoints.EpName.{EpName}
use Rattle.usb_base.specs.declared.reports.Report.{Report}
use Rattle.usb_base.specs.declared.reports.What.{What}
use Rattle.usb_base.specs.declared.reports.What.TheVariants.{Done, Cancel}
use Rattle.claims_report.specs.Reports.{WholeReport, Closing, Taken}
use Rattle.law_opened.specs.Samples.{key_name, sink_name, board_name}

abbrev pub line_of : EpName → What → ℕ → ℕ → Report
line_of name what from len = record { name = name; what = what; from = from; len = len }

abbrev pub cancelled : Report
cancelled = line_of key_name Cancel 5 0

-- two bytes of the first, two of the keyboard, and the byte that was put
abbrev pub told_of : List ℕ → List ℕ → List Closing → List Report → WholeReport
told_of own split closings rest = record {
  lines = line_of key_name Done 0 2 ∷ line_of board_name Done 2 2 ∷ line_of sink_name Done 4 1 ∷ rest;
  store = own ++ split ++ 7 ∷ [];
  closings = closings;
}

abbrev pub took : List ℕ → List Closing
took bytes = Taken sink_name bytes ∷ []
