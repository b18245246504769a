-- The streams of scripts that open high-speed bulk and control endpoints only, cancelled or not, by all that is told of them: it follows
-- from what is claimed of all streams at high speed.
--     AreRightInStreams s r            each bulk and interrupt IN endpoint that was opened has a right stream
--     AreTakenStreams s r              so is each bulk and interrupt OUT endpoint that was opened
--     AreSentStreams s r               so it is of each bulk and interrupt OUT endpoint that was opened
--     InStreamsAreRightThroughout s    the IN streams of its report are right then: what is told of each IN endpoint begins its packets
--     OutStreamsAreTakenThroughout s   what is told of each OUT endpoint, then, begins what its device took
--     OutStreamsAreSentThroughout s    what the device of each OUT endpoint took, by the closing lines of the report then, begins its
--                                      stream
--     StreamsAreRightAtTheEnd s        once no line is left to do all streams of the report are right
--     KeepsStreamsThroughout s         what is told of each bulk IN endpoint begins its stream, each byte once and in order, and nothing
--                                      follows its end; what is told of each bulk OUT endpoint begins the bytes that its device took, as
--                                      its closing line tells them, and these begin the puts that weren't refused so far; once no line is
--                                      left to do, these are all streams
--     KeepsStreams s                   after its run, and at each moment of it, what is told of each bulk IN endpoint begins its stream,
--                                      each byte once and in order, and nothing follows its end; what is told of each bulk OUT endpoint
--                                      begins the bytes that its device took, as its closing line tells them, and these begin what was put
--                                      to it; after the run these are all streams; and the report that this is said of is the text that is
--                                      printed
use Rattle.std.specs.List.{AllByRecursion, filter}
use Rattle.std.specs.Prelude.{◌≡◌, ℕ, ◌&&◌, not, []}
use Rattle.script_types.specs.declared.scripts.Script.{Script}
use Rattle.bus_wire.specs.Bus.{fixed_of}
use Rattle.claims_report.specs.Reports.{WholeReport, whole_text, taken}
use Rattle.claims_report.specs.Streams.{opened, stream, IsRightStream, has_stream}
use Rattle.claims_report.specs.Samples.{AreRightStreams}
use Rattle.bus_world.specs.Budgets.{moment}
use Rattle.bus_world.specs.Closing.{world_text}
use Rattle.bus_world.specs.Runs.{IsWholeRunOf}
use Rattle.bus_world.specs.World.{Standing}
use Rattle.claims_driver.specs.Scripts.{comes_in, receives}
use Rattle.claims_world.specs.Streams.{report_of, IsTakenStream, IsTakenSent}

abbrev pub AreRightInStreams : Script → WholeReport → Type 0
AreRightInStreams s r = AllByRecursion (λ desc. IsRightStream s r desc.name) (filter (λ desc. has_stream desc.kind && comes_in desc.name.way) (opened s r))

abbrev pub AreTakenStreams : Script → WholeReport → Type 0
AreTakenStreams s r = AllByRecursion (λ desc. IsTakenStream r desc.name) (filter (λ desc. has_stream desc.kind && not (receives desc.name.way)) (opened s r))

-- before its open an endpoint has no closing line
abbrev pub AreSentStreams : Script → WholeReport → Type 0
AreSentStreams s r = AllByRecursion (λ desc. IsTakenSent (taken r desc.name) (stream s r desc.name)) (filter (λ desc. has_stream desc.kind && not (receives desc.name.way)) (opened s r))

abbrev pub InStreamsAreRightThroughout : Script → Type 0
InStreamsAreRightThroughout s = (k : ℕ) → AreRightInStreams s (report_of (fixed_of s) (moment s k).world)

abbrev pub OutStreamsAreTakenThroughout : Script → Type 0
OutStreamsAreTakenThroughout s = (k : ℕ) → AreTakenStreams s (report_of (fixed_of s) (moment s k).world)

abbrev pub OutStreamsAreSentThroughout : Script → Type 0
OutStreamsAreSentThroughout s = (k : ℕ) → AreSentStreams s (report_of (fixed_of s) (moment s k).world)

abbrev pub StreamsAreRightAtTheEnd : Script → Type 0
StreamsAreRightAtTheEnd s = (k : ℕ) → (moment s k).orders ≡ [] → AreRightStreams s (report_of (fixed_of s) (moment s k).world)

pub record KeepsStreamsThroughout (s : Script) : Type 0 where
  pub ins : InStreamsAreRightThroughout s
  pub taken : OutStreamsAreTakenThroughout s
  pub sent : OutStreamsAreSentThroughout s
  pub at_the_end : StreamsAreRightAtTheEnd s

pub record KeepsStreams (s : Script) : Type 0 where
  pub throughout : KeepsStreamsThroughout s
  pub taken : (w : Standing) → IsWholeRunOf s w → AreTakenStreams s (report_of w.fixed w.world)
  pub sent : (w : Standing) → IsWholeRunOf s w → AreSentStreams s (report_of w.fixed w.world)
  pub all : (w : Standing) → IsWholeRunOf s w → AreRightStreams s (report_of w.fixed w.world)
  pub printed : (w : Standing) → whole_text (report_of w.fixed w.world) ≡ world_text w.fixed w.world
