-- A report as a value: its lines with the store of their bytes, and then the lines that close it.
--     WholeReport              the report of a run
--     whole_text r             the report as text
--     lines_of r name          the lines of an endpoint that tell of a transfer, a request or its end
--     taken, acted r name      what the closing lines tell of what the device took, and of how often it acted
use Rattle.std.specs.Prelude.{ℕ, ◌&&◌, not, Bool, true, false, List, ◌++◌, filter, filter_map, slice_get, Option, Some, None, if◌then◌else◌}
use Rattle.std.specs.List.{flat_map}
use Rattle.usb_base.specs.declared.endpoints.EpName.{EpName}
use Rattle.usb_base.specs.declared.reports.Report.{Report}
use Rattle.usb_base.specs.declared.reports.What.{What}
use Rattle.usb_base.specs.declared.reports.What.TheVariants.{Halt, Miss, Cancel, Refused}
use Rattle.report_text.specs.ReportText.{report_text, pending_line, taken_line, acted_line}
use Rattle.bus_wire.specs.Fates.{is_same_name}

-- a line that closes the report of an endpoint
pub data Closing : Type 0 where
  Pending : EpName → ℕ → Closing  -- so many transfers or requests weren't reported
  Taken : EpName → List ℕ → Closing  -- the bytes that its device took
  Acted : EpName → ℕ → Closing  -- how often its device acted on a request

pub record WholeReport : Type 0 where
  pub lines : List Report
  pub store : List ℕ  -- the bytes of all lines
  pub closings : List Closing

abbrev pub closing_line : Closing → List ℕ
closing_line (Pending name k) = pending_line name k
closing_line (Taken name bytes) = taken_line name bytes
closing_line (Acted name k) = acted_line name k

abbrev pub whole_text : WholeReport → List ℕ
whole_text r = report_text r.lines r.store ++ flat_map closing_line r.closings

-- ---- the lines of an endpoint

abbrev pub is_refusal : What → Bool
is_refusal (Refused line why) = true
is_refusal _ = false

-- the endpoint ends with this line: a halt, a miss or a cancel
abbrev pub is_end : What → Bool
is_end (Halt cause) = true
is_end Miss = true
is_end Cancel = true
is_end _ = false

abbrev pub is_line_of : EpName → Report → Bool
is_line_of name line = is_same_name line.name name && not (is_refusal line.what)

abbrev pub lines_of : WholeReport → EpName → List Report
lines_of r name = filter (is_line_of name) r.lines

-- ---- the closing lines of an endpoint

abbrev pub taken_in : EpName → Closing → Option (List ℕ)
taken_in name (Taken of bytes) = if is_same_name of name then Some bytes else None
taken_in name _ = None

abbrev pub acted_in : EpName → Closing → Option ℕ
acted_in name (Acted of k) = if is_same_name of name then Some k else None
acted_in name _ = None

abbrev pub is_pending : EpName → Closing → Bool
is_pending name (Pending of k) = is_same_name of name
is_pending name _ = false

-- what its device took, where a line tells it
abbrev pub taken : WholeReport → EpName → Option (List ℕ)
taken r name = slice_get (filter_map (taken_in name) r.closings) 0

-- how often its device acted, where a line tells it
abbrev pub acted : WholeReport → EpName → Option ℕ
acted r name = slice_get (filter_map (acted_in name) r.closings) 0
