-- The streams of bulk and interrupt endpoints at high speed, whatever else a script opens: control and isochronous endpoints, and endpoints
-- behind hubs (EHCI 1.0, 4.6, 4.8 and 4.10; USB 2.0, 5.7, 5.8, 8.5 and 8.6). The bytes that the report tells of each IN endpoint begin its
-- stream, each once and in order, and nothing follows its end; those that it tells of each OUT endpoint begin what its device took, and
-- these begin what is put to it: after the run, and at each moment of it (then of the puts that weren't refused so far). They count from
-- the beginning of the endpoint's epoch on.
--     claimed s x               something is claimed of the stream of the endpoint x: it has one, and its device is at high speed
--     since r name              the line of the report from which the epoch of an endpoint counts: its open begins the only one, and no
--                               line names it before
--     epoch_of r name           the report from there on
--     AreHighInStreams s r      each IN endpoint that is claimed and was opened has a right stream
--     AreHighTakenStreams s r   what is told of each OUT endpoint that is claimed and was opened begins what was taken, and it ends once
--     HighInsAreRight, HighOutsAreTaken     so it is at each moment of the script
--     KeepsHighThroughout s     the streams that are claimed, at each moment of the script
--     KeepsHighStreams s        .. and after its run; and the report that this is said of is the text that is printed
--     AreHighSentStreams s r    what was taken of each OUT endpoint that is claimed and was opened begins its stream
--     AreHighStreams s r        each endpoint that is claimed and was opened has a right stream
--     HighOutsAreSent s         so it is of what was taken at each moment of the script, of the puts that weren't refused so far
--     HighStreamsEndRight s     once no line is left to do these are all streams that are claimed
--     KeepsAllHighStreams s     all of this, at each moment of the script and after its run
use Rattle.std.specs.List.{AllByRecursion}
use Rattle.std.specs.Prelude.{◌≡◌, ℕ, ◌&&◌, not, Bool, [], drop, filter}
use Rattle.usb_base.specs.declared.endpoints.EpDesc.{EpDesc}
use Rattle.usb_base.specs.declared.endpoints.EpName.{EpName}
use Rattle.script_types.specs.declared.scripts.Script.{Script}
use Rattle.drv_table.specs.Words.{is_high}
use Rattle.bus_wire.specs.Bus.{fixed_of}
use Rattle.claims_report.specs.Reports.{WholeReport, taken, whole_text}
use Rattle.claims_report.specs.Streams.{opened, stream, has_stream, IsRightStream}
use Rattle.claims_driver.specs.Scripts.{comes_in, receives}
use Rattle.bus_world.specs.Budgets.{moment}
use Rattle.bus_world.specs.Closing.{world_text}
use Rattle.bus_world.specs.Runs.{IsWholeRunOf}
use Rattle.bus_world.specs.World.{Standing}
use Rattle.claims_world.specs.Streams.{report_of, IsTakenStream, IsTakenSent}

-- ---- what is claimed

abbrev pub claimed : Script → EpDesc → Bool
claimed s x = has_stream x.kind && is_high x.speed

-- ---- epochs

abbrev pub since : WholeReport → EpName → ℕ
since r name = 0

abbrev pub epoch_of : WholeReport → EpName → WholeReport
epoch_of r name = record r { lines = drop (since r name) r.lines }

-- ---- a report

abbrev pub AreHighInStreams : Script → WholeReport → Type 0
AreHighInStreams s r =
    AllByRecursion (λ desc. IsRightStream s (epoch_of r desc.name) desc.name)
    (filter (λ desc. claimed s desc && comes_in desc.name.way) (opened s r))

-- before its open an endpoint has no closing line, and nothing is told of it
abbrev pub AreHighTakenStreams : Script → WholeReport → Type 0
AreHighTakenStreams s r =
    AllByRecursion (λ desc. IsTakenStream (epoch_of r desc.name) desc.name)
    (filter (λ desc. claimed s desc && not (receives desc.name.way)) (opened s r))

-- ---- each moment

abbrev pub HighInsAreRight : Script → Type 0
HighInsAreRight s = (k : ℕ) → AreHighInStreams s (report_of (fixed_of s) (moment s k).world)

abbrev pub HighOutsAreTaken : Script → Type 0
HighOutsAreTaken s = (k : ℕ) → AreHighTakenStreams s (report_of (fixed_of s) (moment s k).world)

-- ---- the script

pub record KeepsHighThroughout (s : Script) : Type 0 where
  pub ins : HighInsAreRight s
  pub taken : HighOutsAreTaken s

pub record KeepsHighStreams (s : Script) : Type 0 where
  pub throughout : KeepsHighThroughout s
  pub ins : (w : Standing) → IsWholeRunOf s w → AreHighInStreams s (report_of w.fixed w.world)
  pub taken : (w : Standing) → IsWholeRunOf s w → AreHighTakenStreams s (report_of w.fixed w.world)
  pub printed : (w : Standing) → whole_text (report_of w.fixed w.world) ≡ world_text w.fixed w.world

-- ---- what was put

abbrev pub AreHighSentStreams : Script → WholeReport → Type 0
AreHighSentStreams s r =
    AllByRecursion (λ desc. IsTakenSent (taken r desc.name) (stream s r desc.name))
    (filter (λ desc. claimed s desc && not (receives desc.name.way)) (opened s r))

abbrev pub AreHighStreams : Script → WholeReport → Type 0
AreHighStreams s r = AllByRecursion (λ desc. IsRightStream s (epoch_of r desc.name) desc.name) (filter (claimed s) (opened s r))

-- of the puts that weren't refused so far
abbrev pub HighOutsAreSent : Script → Type 0
HighOutsAreSent s = (k : ℕ) → AreHighSentStreams s (report_of (fixed_of s) (moment s k).world)

abbrev pub HighStreamsEndRight : Script → Type 0
HighStreamsEndRight s = (k : ℕ) → (moment s k).orders ≡ [] → AreHighStreams s (report_of (fixed_of s) (moment s k).world)

pub record KeepsAllHighStreams (s : Script) : Type 0 where
  pub kept : KeepsHighStreams s
  pub sent_throughout : HighOutsAreSent s
  pub at_the_end : HighStreamsEndRight s
  -- after its run
  pub sent : (w : Standing) → IsWholeRunOf s w → AreHighSentStreams s (report_of w.fixed w.world)
  pub all : (w : Standing) → IsWholeRunOf s w → AreHighStreams s (report_of w.fixed w.world)
