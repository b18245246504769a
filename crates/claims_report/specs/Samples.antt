-- Scripts and reports of worked rows: one device with one endpoint; and what is so of all streams of such a report.
use Rattle.std.specs.List.{AllByRecursion}
use Rattle.std.specs.Prelude.{ℕ, List, [], ◌∷◌, filter, None}
use Rattle.usb_base.specs.declared.commands.Cmd.{Cmd}
use Rattle.usb_base.specs.declared.commands.Cmd.TheVariants as commands
use Rattle.usb_base.specs.declared.endpoints.EpDesc.{EpDesc}
use Rattle.usb_base.specs.declared.endpoints.EpName.{EpName}
use Rattle.usb_base.specs.declared.packets.EpKind.{EpKind}
use Rattle.usb_base.specs.declared.packets.EpKind.TheVariants as Kinds
use Rattle.usb_base.specs.declared.packets.Speed.TheVariants.{High}
use Rattle.usb_base.specs.declared.packets.Way.{Way}
use Rattle.usb_base.specs.declared.packets.Way.TheVariants as Ways
use Rattle.usb_base.specs.declared.reports.Report.{Report}
use Rattle.usb_base.specs.declared.endpoints.EndCause.TheVariants.{Stall, Error}
use Rattle.usb_base.specs.declared.reports.OfferError.TheVariants.{Closed}
use Rattle.usb_base.specs.declared.reports.What.{What}
use Rattle.usb_base.specs.declared.reports.What.TheVariants.{Done, Halt, Refused}
use Rattle.script_types.specs.declared.devices.Item.{Item}
use Rattle.script_types.specs.declared.devices.Item.TheVariants.{Request}
use Rattle.script_types.specs.declared.scripts.Line.{Line}
use Rattle.script_types.specs.declared.scripts.Line.TheVariants as lines
use Rattle.script_types.specs.declared.scripts.Script.{Script}
use Rattle.claims_report.specs.Reports.{WholeReport, Closing, Acted}
use Rattle.claims_report.specs.Requests.{Window}
use Rattle.claims_report.specs.Streams.{IsRightStream, has_stream, opened}

abbrev pub endpoint : ℕ → Way → EpName
endpoint num way = record { addr = 3; num = num; way = way }

abbrev pub desc_of : EpName → EpKind → EpDesc
desc_of name kind = record { name = name; speed = High; kind = kind; max = 2; period = 0; multi = 1; hub = None; port = 0; tt = 0 }

-- the script of a device with this endpoint: these items, its open on line 5, and then these commands
abbrev pub script_of : EpDesc → List Item → List (ℕ × Line) → Script
script_of desc items rest = record {
  words = 2048;
  hubs = [];
  devices = record { addr = 3; speed = High; eps = record { desc = desc; items = items; room = 0; stuff = 0; clears = 0 } ∷ [] } ∷ [];
  endpoints = desc.name ∷ [];
  fates = [];
  holds = [];
  lines = (5, lines.Command (commands.OpenEp desc)) ∷ rest;
  version = 1;
  frames = 1024;
  park = 0;
  roots = [];
  classics = [];
  disks = [];
}

abbrev pub commanded : ℕ → Cmd → ℕ × Line
commanded n cmd = (n, lines.Command cmd)

abbrev pub line_of : EpName → What → ℕ → ℕ → Report
line_of name what from len = record { name = name; what = what; from = from; len = len }

-- two gets of the same endpoint, of which the second was halted, and a command that is refused then
abbrev pub halted_lines : EpName → List Report
halted_lines name = line_of name Done 0 2 ∷ line_of name (Halt Error) 2 1 ∷ line_of name (Refused 11 (Closed Error)) 3 0 ∷ []

abbrev pub report_of : List Report → List ℕ → List Closing → WholeReport
report_of reports store closings = record { lines = reports; store = store; closings = closings }

-- ---- endpoints

abbrev pub sender : EpName
sender = endpoint 1 Ways.In

abbrev pub receiver : EpName
receiver = endpoint 2 Ways.Out

abbrev pub control : EpName
control = endpoint 0 Ways.Ctl

abbrev pub bulk : EpName → EpDesc
bulk name = desc_of name Kinds.Bulk

-- ---- requests

-- a read of at most two bytes, and one of a descriptor that the device doesn't know
abbrev pub read_two : List ℕ
read_two = 128 ∷ 6 ∷ 0 ∷ 1 ∷ 0 ∷ 0 ∷ 2 ∷ 0 ∷ []

abbrev pub read_unknown : List ℕ
read_unknown = 128 ∷ 6 ∷ 0 ∷ 2 ∷ 0 ∷ 0 ∷ 9 ∷ 0 ∷ []

-- the device knows the first one's reply, which is longer than what is asked
abbrev pub two_requests : Script
two_requests = script_of (desc_of control Kinds.Control) (Request read_two (18 ∷ 1 ∷ 0 ∷ 2 ∷ []) ∷ [])
    (commanded 7 (commands.Control control read_two []) ∷ commanded 9 (commands.Control control read_unknown []) ∷ [])

-- the first is done, the second stalled, and the device acted so often
abbrev pub two_lines : ℕ → WholeReport
two_lines k = report_of (line_of control Done 0 2 ∷ line_of control (Halt Stall) 2 0 ∷ []) (18 ∷ 1 ∷ []) (Acted control k ∷ [])

abbrev pub window : List ℕ → List (List ℕ) → Window
window setup acts = record { request = record { setup = setup; bytes = [] }; acts = acts }

-- each bulk and interrupt endpoint that was opened has a right stream
abbrev pub AreRightStreams : Script → WholeReport → Type 0
AreRightStreams s r = AllByRecursion (λ desc. IsRightStream s r desc.name) (filter (λ desc. has_stream desc.kind) (opened s r))
