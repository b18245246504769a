-- The streams of bulk and interrupt endpoints behind hubs, whatever else a script opens (EHCI 1.0, 4.6, 4.8, 4.10 and 4.12; USB 2.0, 5.7,
-- 5.8, 8.5, 8.6, 11.17, 11.18 and 11.24.2). Of an OUT endpoint of either kind: the bytes that the report tells begin what its device took,
-- and these begin what is put to it, after the run, and at each moment of it (then of the puts that weren't refused so far); no line
-- follows its end. A hub may have a packet when its endpoint ends, and works on: so what a device took may grow behind that line. No
-- request to a hub changes this, to clear a buffer (CLEAR_TT_BUFFER) or to reset a translator (RESET_TT). Of an IN endpoint of either kind: the bytes
-- that the report tells begin its stream, and no line follows its end, at each moment before which its hub never heard such a request
-- last: for that may throw away what the device has sent, and the host hasn't heard yet. So it is throughout a script none of whose
-- `control` lines to this hub is such a request.
--     is_out_below x              x is a bulk or interrupt OUT endpoint of a device that isn't at high speed
--     has_hub s hub port          the script has the hub with this address, and it has this port
--     is_claimed_below s x        x is such an endpoint behind a port of a hub of the script
--     AreBelowTakenStreams s r    what is told of each that was opened begins what was taken, and it ends once
--     AreBelowSentStreams s r     what was taken of each begins its stream
--     AreBelowStreams s r         each that was opened has a right stream
--     BelowOutsAreTaken s, BelowOutsAreSent s     so it is at each moment of the script
--     BelowStreamsEndRight s      once no line is left to do these are whole: all of them are right
--     is_in_below x, is_claimed_in s x     .. so of bulk and interrupt IN endpoints
--     clears_translator setup     a request of these setup bytes clears a buffer, or resets a translator
--     heard_clear h               the last request that the hub's endpoint 0 heard is such a one
--     IsSparedAt s x k            no hub with the address of x's hub has heard such a one last, at this moment
--     IsSparedBefore s x k        .. at each moment before
--     SparesHub hub l             this line of the script is no such request to this hub
--     LeavesTranslator s x        no line of the script is one to the hub of endpoint x
--     AreBelowInStreams s spared r     each IN endpoint that was opened and is spared has a right stream
--     KeepsBelowStreams s         all of this, at each moment of the script and after its run
--     KeepsStreams s              .. and the streams of the endpoints at high speed
use Rattle.std.specs.List.{AllByRecursion}
use Rattle.std.specs.Option.{option_map_or}
use Rattle.std.specs.Prelude.{◌≡◌, ℕ, ◌<◌, ◌==◌, nat_le, ◌&&◌, ◌||◌, not, Bool, true, false, List, [], length, filter, find, slice_index}
use Rattle.std.specs.Prelude.{Option, Some, None}
use Rattle.usb_base.specs.declared.commands.Cmd.TheVariants as commands
use Rattle.usb_base.specs.declared.endpoints.EpDesc.{EpDesc}
use Rattle.script_types.specs.declared.devices.HubText.{HubText}
use Rattle.script_types.specs.declared.scripts.Line.{Line}
use Rattle.script_types.specs.declared.scripts.Line.TheVariants as lines
use Rattle.script_types.specs.declared.scripts.Script.{Script}
use Rattle.dev_control.specs.Stages.{setup_of}
use Rattle.hub_class.specs.HubContent.{HubContent}
use Rattle.drv_table.specs.Words.{is_high}
use Rattle.bus_wire.specs.Bus.{fixed_of}
use Rattle.claims_report.specs.Reports.{WholeReport, taken}
use Rattle.claims_report.specs.Streams.{has_stream, opened, stream, IsRightStream}
use Rattle.claims_driver.specs.Scripts.{receives, comes_in}
use Rattle.bus_world.specs.Budgets.{moment}
use Rattle.bus_world.specs.Runs.{IsWholeRunOf}
use Rattle.bus_world.specs.World.{Standing}
use Rattle.claims_world.specs.HighStreams.{epoch_of, KeepsAllHighStreams}
use Rattle.claims_world.specs.Streams.{report_of, IsTakenStream, IsTakenSent}

-- ---- what is claimed

abbrev pub is_out_below : EpDesc → Bool
is_out_below x = has_stream x.kind && (not (is_high x.speed) && not (receives x.name.way))

-- ports have the numbers from 1 on (11.24.2)
abbrev pub has_port : ℕ → HubText → Bool
has_port port h = nat_le 1 port && nat_le port (length h.attached)

abbrev pub has_hub : Script → Option ℕ → ℕ → Bool
has_hub s None port = false
has_hub s (Some hub) port = option_map_or (has_port port) (find (λ h. h.addr == hub) s.hubs) false

abbrev pub is_claimed_below : Script → EpDesc → Bool
is_claimed_below s x = is_out_below x && has_hub s x.hub x.port

abbrev pub is_in_below : EpDesc → Bool
is_in_below x = has_stream x.kind && (not (is_high x.speed) && comes_in x.name.way)

abbrev pub is_claimed_in : Script → EpDesc → Bool
is_claimed_in s x = is_in_below x && has_hub s x.hub x.port

-- ---- what its hub hears

-- CLEAR_TT_BUFFER and RESET_TT, by bmRequestType and bRequest (11.24.2.3 and 11.24.2.9; tables 11-15 and 11-16)
abbrev pub clears_translator : List ℕ → Bool
clears_translator setup = slice_index setup 0 == 35 && (slice_index setup 1 == 8 || slice_index setup 1 == 9)

abbrev pub heard_clear : HubContent → Bool
heard_clear h = option_map_or clears_translator (setup_of h.control.request) false

abbrev pub IsSparedAt : Script → EpDesc → ℕ → Type 0
IsSparedAt s x k = AllByRecursion (λ h. Some h.address ≡ x.hub → heard_clear h ≡ false) (moment s k).world.bus.hubs

abbrev pub IsSparedBefore : Script → EpDesc → ℕ → Type 0
IsSparedBefore s x k = (j : ℕ) → j < k → IsSparedAt s x j

-- ---- the lines to its hub

abbrev pub SparesHub : ℕ → Line → Type 0
SparesHub hub (lines.Command (commands.Control name setup bytes)) = name.addr ≡ hub → clears_translator setup ≡ false
SparesHub hub _ = Unit {0}

abbrev pub LeavesTranslator : Script → EpDesc → Type 0
LeavesTranslator s x = (hub : ℕ) → x.hub ≡ Some hub → AllByRecursion (λ l. SparesHub hub l.1) s.lines

-- ---- a report

abbrev pub AreBelowInStreams : Script → (EpDesc → Type 0) → WholeReport → Type 0
AreBelowInStreams s spared r =
    AllByRecursion (λ desc. spared desc → IsRightStream s (epoch_of r desc.name) desc.name) (filter (is_claimed_in s) (opened s r))

abbrev pub AreBelowTakenStreams : Script → WholeReport → Type 0
AreBelowTakenStreams s r =
    AllByRecursion (λ desc. IsTakenStream (epoch_of r desc.name) desc.name) (filter (is_claimed_below s) (opened s r))

abbrev pub AreBelowSentStreams : Script → WholeReport → Type 0
AreBelowSentStreams s r =
    AllByRecursion (λ desc. IsTakenSent (taken r desc.name) (stream s r desc.name)) (filter (is_claimed_below s) (opened s r))

abbrev pub AreBelowStreams : Script → WholeReport → Type 0
AreBelowStreams s r = AllByRecursion (λ desc. IsRightStream s (epoch_of r desc.name) desc.name) (filter (is_claimed_below s) (opened s r))

-- ---- each moment

abbrev pub BelowOutsAreTaken : Script → Type 0
BelowOutsAreTaken s = (k : ℕ) → AreBelowTakenStreams s (report_of (fixed_of s) (moment s k).world)

-- of the puts that weren't refused so far
abbrev pub BelowOutsAreSent : Script → Type 0
BelowOutsAreSent s = (k : ℕ) → AreBelowSentStreams s (report_of (fixed_of s) (moment s k).world)

abbrev pub BelowStreamsEndRight : Script → Type 0
BelowStreamsEndRight s = (k : ℕ) → (moment s k).orders ≡ [] → AreBelowStreams s (report_of (fixed_of s) (moment s k).world)

abbrev pub BelowInsAreRight : Script → Type 0
BelowInsAreRight s = (k : ℕ) → AreBelowInStreams s (λ desc. IsSparedBefore s desc k) (report_of (fixed_of s) (moment s k).world)

abbrev pub LeftInsAreRight : Script → Type 0
LeftInsAreRight s = (k : ℕ) → AreBelowInStreams s (LeavesTranslator s) (report_of (fixed_of s) (moment s k).world)

-- ---- the script

pub record KeepsBelowStreams (s : Script) : Type 0 where
  pub taken_throughout : BelowOutsAreTaken s
  pub sent_throughout : BelowOutsAreSent s
  pub at_the_end : BelowStreamsEndRight s
  pub ins_throughout : BelowInsAreRight s
  pub left_throughout : LeftInsAreRight s
  -- after its run
  pub taken : (w : Standing) → IsWholeRunOf s w → AreBelowTakenStreams s (report_of w.fixed w.world)
  pub sent : (w : Standing) → IsWholeRunOf s w → AreBelowSentStreams s (report_of w.fixed w.world)
  pub all : (w : Standing) → IsWholeRunOf s w → AreBelowStreams s (report_of w.fixed w.world)
  pub ins : (w : Standing) → IsWholeRunOf s w → AreBelowInStreams s (λ desc. (k : ℕ) → IsSparedAt s desc k) (report_of w.fixed w.world)
  pub left_ins : (w : Standing) → IsWholeRunOf s w → AreBelowInStreams s (LeavesTranslator s) (report_of w.fixed w.world)

pub record KeepsStreams (s : Script) : Type 0 where
  pub high : KeepsAllHighStreams s
  pub below : KeepsBelowStreams s
