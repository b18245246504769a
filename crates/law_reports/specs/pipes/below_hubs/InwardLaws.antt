-- Laws of bulk and interrupt IN endpoints below hubs, whatever else is open (EHCI 1.0, 4.6 to 4.12; USB 2.0, 8.6, 11.14, 11.17, 11.24.2).
--     SparedHubsKeepKeys       a plain transaction takes nothing from a hub that hasn't heard last to clear a buffer or reset a translator
--     OpensInlet v cmd         an endpoint that the command opens by this name is the one so described
--     WaitsAt fixed x w n      the host of the queue head at n waits for complete-splits
--     BeginsFrame w            the next event of the controller begins a frame
--     IsLateBy fixed x w timely n   after it the host of the queue head at n isn't in time
--     IsStillInward ..         after it the endpoint stands as it must; and it is told who isn't in time any more
--     IsCompletingLast w h     the walk of the frames comes to the last complete-split of a frame, of the queue head in hand
--     WorldAsksInTime ..       where it is the inlet's, its host is in time and the result is there
--     ControllerKeepsInward, DriverKeepsInward, CommandKeepsInward
--                              each event and each command leaves one as it must stand, where its hub is spared; at an event of the
--                              controller an interrupt's last complete-split must come in time
--     inlet_of s x             the inlet of an endpoint of a script
--     OpensInlets s v          so it is of each line of the script
--     takes_in s x             it is an IN endpoint with a stream, behind a port of a hub of the script
--     IsInletOf s x            so it is, and a line opens it
--     TextsOpenInlets          so it is in each script that a text spells, and before the first line nothing of it is on its way
--     IsLateSince s n k        at moment k the host of the queue head at n waits, and a frame began since it does
--     CompletesInTime s v k    where the walk comes then to the last complete-split of an interrupt inlet's frame, it isn't so late
--     TextsHaveResults         at the last complete-split of an interrupt IN endpoint its result is there
--     IsInwardAt s v k         the endpoint stands as it must at moment k
--     TextsAreInward           so it is at each moment before which its hub was spared and it completed in time
--     TextsKeepInsBelow        so the stream of a bulk endpoint is right there
--     TextsKeepTimelyIns       .. and that of any, at each moment before which its last complete-splits came in time
--     TextsKeepIns             they always do, so that of any is right where its hub was spared
use Rattle.std.specs.Prelude.{◌≡◌, ℕ, suc, ◌==◌, ◌%◌, ◌<◌, ◌&&◌, Bool, true, false, List, Some, None}
use Rattle.std.specs.List.{AllByRecursion}
use Rattle.usb_base.specs.declared.commands.Cmd.{Cmd}
use Rattle.usb_base.specs.declared.commands.Cmd.TheVariants as commands
use Rattle.usb_base.specs.declared.endpoints.EpDesc.{EpDesc}
use Rattle.usb_base.specs.declared.packets.Dir.TheVariants as Directions
use Rattle.usb_base.specs.declared.packets.EpKind.TheVariants as kinds
use Rattle.hub_keys.specs.declared.key.Key.{Key}
use Rattle.script_types.specs.declared.scripts.Script.{Script}
use Rattle.script_text.specs.Faults.{Spells}
use Rattle.endpoint_script.specs.Items.{packets_of}
use Rattle.bus_wire.specs.Bus.{Fixed, Wired, fixed_of, opening_bus, opening_wired}
use Rattle.claims_report.specs.Streams.{items_of, IsRightStream}
use Rattle.claims_world.specs.BelowStreams.{has_hub, BelowInsAreRight, IsSparedBefore}
use Rattle.claims_world.specs.Streams.{report_of}
use Rattle.op_registers.specs.Events.{next_index}
use Rattle.hc_core.specs.declared.controller.ControllerRow.TheVariants as rows
use Rattle.hc_core.specs.declared.controller.MicroframePart.TheVariants.{Periodic}
use Rattle.hc_interrupt.specs.declared.turns.Turn.TheVariants as turns
use Rattle.hc_interrupt.specs.Turns.{turn_of, is_last_of}
use Rattle.periodic_walk.specs.declared.state.Hand.TheVariants as hands
use Rattle.periodic_walk.specs.declared.state.HeldQueue.{HeldQueue}
use Rattle.drv_table.specs.Offers.{IsOffered}
use Rattle.law_opened.specs.Opened.{IsOpened}
use Rattle.law_scripts.specs.byte_answers.Bytes.{IsByteCommand}
use Rattle.law_below_hubs.specs.HostEvents.{told_key, SparesKeyNow}
use Rattle.law_below_hubs.specs.HostIns.{HasResult}
use Rattle.law_below_hubs.specs.Splits.{IsAtHub}
use Rattle.law_world.specs.steps.receiving_runs.Runs.{KindOfLine}
use Rattle.law_world.specs.steps.Streaming.{wired}
use Rattle.law_world.specs.streams.put_laws.HeldPuts.{puts_then}
use Rattle.law_world.specs.streams.put_laws.TakenPuts.{puts_at}
use Rattle.law_world.specs.memory.Opens.{OpensMixed}
use Rattle.bus_world.specs.Budgets.{moment}
use Rattle.law_world.specs.memory.Mixed.{Standing}
use Rattle.bus_world.specs.World.{World, driver_next, controller_next, controller_row, commanded}
use Rattle.law_reports.specs.lines.Lined.{in_hand, Lines}
use Rattle.law_reports.specs.pipes.Declared.{Sides, sides_of}
use Rattle.law_reports.specs.pipes.Piped.{Heads, asked_as, IsPiped}
use Rattle.law_reports.specs.pipes.PipedLaws.{OpensDeclared}
use Rattle.law_reports.specs.pipes.below_hubs.Behind.{Spots}
use Rattle.law_reports.specs.pipes.below_hubs.BehindLaws.{WorldFindsNoneTold, OpensSpot, hub_of, place_of, spots_of}
use Rattle.claims_world.specs.BelowStreams.{is_in_below}
use Rattle.law_reports.specs.pipes.below_hubs.Inward.{Inlet, IsInletBy, Unmoved, IsSpared, may_be_late, HasInward}
use Rattle.law_microframes.specs.translators.Fresh.{key_started}

abbrev pub SparedHubsKeepKeys : Type 0
SparedHubsKeepKeys = (v : Inlet) (k : Key) (wire after : Wired) → IsSpared v wire → SparesKeyNow k v.hub v.place wire after

abbrev pub OpensInlet : Inlet → Cmd → Type 0
OpensInlet v (commands.OpenEp d) = IsInletBy v d d.name.way
OpensInlet v _ = Unit {0}

-- its host waits for complete-splits, be it in hand or not
pub record WaitsAt (fixed : Fixed) (x : Sides) (w : World) (n : ℕ) : Type 0 where
  pub standing : Standing
  pub lines : Lines
  pub heads : Heads
  pub piped : IsPiped fixed x standing lines heads w
  pub late : may_be_late (in_hand standing) n (standing.parts n n) ≡ true

-- where a frame begins, the translators' pipelines drop all they have (USB 2.0, 11.18)
pub record BeginsFrame (w : World) : Type 0 where
  pub row : controller_row w ≡ rows.Begin
  pub first : next_index w.registers.frame_index % 8 ≡ 0

-- a host that isn't in time any more waits as a frame begins; or it wasn't before, and waits
pub data IsLateBy (fixed : Fixed) (x : Sides) (w : World) (timely : ℕ → Bool) (n : ℕ) : Type 0 where
  now : BeginsFrame w → IsLateBy fixed x w timely n
  before : timely n ≡ false → WaitsAt fixed x w n → IsLateBy fixed x w timely n

pub record IsStillInward (fixed : Fixed) (x : Sides) (o : Spots) (v : Inlet) (timely : ℕ → Bool) (puts : ℕ → List ℕ)
    (w : World) : Type 0 where
  pub later : ℕ → Bool
  pub inward : HasInward fixed x o v later puts (controller_next fixed w)
  pub told : (n : ℕ) → later n ≡ false → IsLateBy fixed x w timely n

-- the walk of the frames comes to the last complete-split of a frame (4.12.2.4, Do-Complete)
pub record IsCompletingLast (w : World) (h : HeldQueue) : Type 0 where
  pub part : w.control.part ≡ Periodic
  pub held : w.control.frame.hand ≡ Some (hands.Queue h)
  pub unsettled : h.copy.settled ≡ None
  pub turn : turn_of w.control.frame.index h.copy.queue_head ≡ turns.Work
  pub works : h.copy.queue_head.token.active ≡ true
  pub below : (h.copy.queue_head.eps == 2) ≡ false
  pub waits : h.copy.queue_head.token.split_state ≡ true
  pub last : is_last_of w.control.frame.index h.copy.queue_head ≡ true

-- where it is that of an interrupt inlet, its host is in time, and the result is there
abbrev pub WorldAsksInTime : Inlet → (ℕ → Bool) → Wired → World → Type 0
WorldAsksInTime v timely wire w = v.desc.kind ≡ kinds.Interrupt → (h : HeldQueue) → IsCompletingLast w h
    → key_started h.copy.queue_head ≡ told_key kinds.Interrupt Directions.In (asked_as v.desc)
    → (timely h.copy.at ≡ true) × HasResult (key_started h.copy.queue_head) v.hub v.place wire

abbrev pub ControllerKeepsInward : Type 0
ControllerKeepsInward = (fixed : Fixed) (x : Sides) (o : Spots) (v : Inlet) (timely : ℕ → Bool) (puts : ℕ → List ℕ) (w : World)
    → IsSpared v (wired fixed w) → WorldFindsNoneTold (wired fixed w) w → WorldAsksInTime v timely (wired fixed w) w
    → HasInward fixed x o v timely puts w → IsStillInward fixed x o v timely puts w

abbrev pub DriverKeepsInward : Type 0
DriverKeepsInward = (fixed : Fixed) (x : Sides) (o : Spots) (v : Inlet) (timely : ℕ → Bool) (puts : ℕ → List ℕ) (w : World)
    → HasInward fixed x o v timely puts w → HasInward fixed x o v timely puts (driver_next w)

abbrev pub CommandKeepsInward : Type 0
CommandKeepsInward = (fixed : Fixed) (x : Sides) (o : Spots) (v : Inlet) (timely : ℕ → Bool) (puts : ℕ → List ℕ) (w : World) (line : ℕ)
    (cmd : Cmd) → OpensMixed cmd → OpensDeclared x cmd → OpensSpot o cmd → OpensInlet v cmd → IsByteCommand cmd
    → IsOffered w.driver.room cmd → HasInward fixed x o v timely puts w
    → HasInward fixed x o v timely (puts_then w.driver cmd puts) (commanded w line cmd)

-- ---- a script

abbrev pub inlet_of : Script → EpDesc → Inlet
inlet_of s x = record {
  desc = x;
  hub = hub_of s x.hub;
  place = place_of s x.hub x.port;
  packets = packets_of (items_of s x.name);
}

-- it is behind a port of a hub of the script
abbrev pub takes_in : Script → EpDesc → Bool
takes_in s x = is_in_below x && has_hub s x.hub x.port

pub record IsInletOf (s : Script) (x : EpDesc) : Type 0 where
  pub claims : takes_in s x ≡ true
  pub opened : IsOpened s x

abbrev pub OpensInlets : Script → Inlet → Type 0
OpensInlets s v = AllByRecursion (λ line. KindOfLine (OpensInlet v) line.1) s.lines

pub record HasItsInlet (s : Script) (v : Inlet) : Type 0 where
  pub opens : OpensInlets s v
  pub hub : IsAtHub (opening_bus s).hubs (asked_as v.desc).hub (asked_as v.desc).port v.hub v.place
  pub unmoved : Unmoved v (opening_wired s)

abbrev pub TextsOpenInlets : Type 0
TextsOpenInlets = (text : List ℕ) (s : Script) (x : EpDesc) → Spells text s → IsInletOf s x → HasItsInlet s (inlet_of s x)

-- the host of the queue head at n has waited since a frame began, up to moment k, and isn't in time any more
pub data IsLateSince (s : Script) (n : ℕ) : ℕ → Type 0 where
  begins : (k : ℕ) → (moment s (suc k)).world ≡ controller_next (fixed_of s) (moment s k).world
      → BeginsFrame (moment s k).world → IsLateSince s n (suc k)
  waits_on : (k : ℕ) → IsLateSince s n k → WaitsAt (fixed_of s) (sides_of s) (moment s k).world n → IsLateSince s n (suc k)

-- where the walk comes to the last complete-split of an interrupt inlet's frame, its start-split came in this frame
abbrev pub CompletesInTime : Script → Inlet → ℕ → Type 0
CompletesInTime s v k = v.desc.kind ≡ kinds.Interrupt → (h : HeldQueue) → IsCompletingLast (moment s k).world h
    → key_started h.copy.queue_head ≡ told_key kinds.Interrupt Directions.In (asked_as v.desc) → IsLateSince s h.copy.at k → ⊥

-- whatever the hub and the translator are
abbrev pub TextsHaveResults : Type 0
TextsHaveResults = (text : List ℕ) (s : Script) (x : EpDesc) → Spells text s → (k : ℕ) (h : HeldQueue)
    → IsCompletingLast (moment s k).world h
    → key_started h.copy.queue_head ≡ told_key kinds.Interrupt Directions.In (asked_as x) → (i place : ℕ)
    → HasResult (key_started h.copy.queue_head) i place (wired (fixed_of s) (moment s k).world)

-- .. where nothing is on its way that the host has waited for too long
pub record IsInwardAt (s : Script) (v : Inlet) (k : ℕ) : Type 0 where
  pub timely : ℕ → Bool
  pub inward : HasInward (fixed_of s) (sides_of s) (spots_of s) v timely (puts_at s k) (moment s k).world
  pub late : (n : ℕ) → timely n ≡ false → IsLateSince s n k

abbrev pub TextsAreInward : Type 0
TextsAreInward = (text : List ℕ) (s : Script) (x : EpDesc) → Spells text s → IsInletOf s x → (k : ℕ)
    → ((j : ℕ) → j < k → IsSpared (inlet_of s x) (wired (fixed_of s) (moment s j).world))
    → ((j : ℕ) → j < k → CompletesInTime s (inlet_of s x) j) → IsInwardAt s (inlet_of s x) k

abbrev pub TextsKeepInsBelow : Type 0
TextsKeepInsBelow = (text : List ℕ) (s : Script) → Spells text s → BelowInsAreRight s

-- whatever its kind is
abbrev pub TextsKeepTimelyIns : Type 0
TextsKeepTimelyIns = (text : List ℕ) (s : Script) (x : EpDesc) → Spells text s → IsInletOf s x → (k : ℕ) → IsSparedBefore s x k
    → ((j : ℕ) → j < k → CompletesInTime s (inlet_of s x) j)
    → IsRightStream s (report_of (fixed_of s) (moment s k).world) x.name

-- .. always
abbrev pub TextsKeepIns : Type 0
TextsKeepIns = (text : List ℕ) (s : Script) (x : EpDesc) → Spells text s → IsInletOf s x → (k : ℕ) → IsSparedBefore s x k
    → IsRightStream s (report_of (fixed_of s) (moment s k).world) x.name
