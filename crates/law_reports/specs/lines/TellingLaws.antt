-- Laws of what is told of the queues of a world with endpoints of every kind: it stands after each event of the controller, after each step
-- of a queue that the driver makes, and after each command.
--     EventOfQueues s w a      the event of the controller, as the queues tell it
--     ControllerKeepsTelling   each event of the controller
--     LinesAfter step m l      what is told of the queues after this step: a harvest reports bytes of one more qTD, an open begins with
--                              none, and else it is as before
--     DriverKeepsTelling       each event of the driver
--     RowsKeepIsoGoing         .. after which no line of an isochronous endpoint that goes on ends it
--     CommandKeepsTelling      each command, accepted or refused
--     IsToldWorld w            what is told of the queues of w stands, for some standing
--     NewWorldIsTold, ScriptsAreTold, TextsAreTold     so it is before the first line of a script, and at each moment of it
--     ScriptsEndOnce, TextsEndOnce     no line follows the end of an endpoint whose data go one way
use Rattle.std.specs.Prelude.{◌≡◌, ◌≢◌, ℕ, ◌*◌, List, [], ◌++◌}
use Rattle.usb_base.specs.declared.commands.Cmd.{Cmd}
use Rattle.bus_wire.specs.Bus.{Fixed}
use Rattle.law_controller.specs.frame_control.Joined.{joined, BothStreamEffect}
use Rattle.law_frames.specs.FrameStreams.{IsIsoAsk}
use Rattle.law_descriptors.specs.Both.{both, parts_now}
use Rattle.law_world.specs.steps.Streaming.{begins_by, transacts_by, wired}
use Rattle.drv_table.specs.Offers.{IsOffered}
use Rattle.law_world.specs.memory.Mixed.{Standing, IsMixedAt}
use Rattle.law_world.specs.memory.Opens.{OpensMixed}
use Rattle.law_world.specs.memory.Steps.{IsEventOf, standing_then, IsMixedControlled, QueueStep, harvests, opens}
use Rattle.law_scripts.specs.byte_answers.Bytes.{IsByteScript}
use Rattle.law_world.specs.memory.PlacedLaws.{FitsMixed}
use Rattle.script_types.specs.declared.scripts.Script.{Script}
use Rattle.script_fits.specs.Fits.{IsFit}
use Rattle.script_text.specs.Faults.{Spells}
use Rattle.claims_world.specs.Ends.{EndsOnceThroughout}
use Rattle.bus_world.specs.Budgets.{moment}
use Rattle.bus_world.specs.Opening.{opening_world}
use Rattle.bus_world.specs.World.{World, driver_next, controller_next, commanded}
use Rattle.law_reports.specs.lines.Lined.{in_hand, Lines, IsTelling, AreIsoGoing, Adds}

-- ---- the controller

abbrev pub EventOfQueues : (fixed : Fixed) (s : Standing) (w : World) → IsEventOf fixed s w → Type 0
EventOfQueues fixed s w a =
    BothStreamEffect begins_by (IsIsoAsk (both s.descs s.parts)) transacts_by s.parts (in_hand s) (wired fixed w)
    (wired fixed (controller_next fixed w)) (parts_now s.descs s.parts a.now) (joined a.later a.frame_later)

abbrev pub ControllerKeepsTelling : Type 0
ControllerKeepsTelling = (fixed : Fixed) (s : Standing) (m : Lines) (w : World) → IsMixedAt s w → (c : IsMixedControlled fixed s w)
    → (z : EventOfQueues fixed s w c.event) (acc : ℕ → List (List ℕ)) → Adds m acc z → IsTelling s m w
    → IsTelling (standing_then s w c.event) (record m { acc = acc }) (controller_next fixed w)

-- ---- the driver

-- these bytes more were harvested of the queue head at n
pub record IsMoreTold (n : ℕ) (bytes : List ℕ) (m l : Lines) : Type 0 where
  pub moved : l.acc ≡ m.acc
  pub here : l.reported n ≡ m.reported n ++ bytes
  pub beside : (k : ℕ) → k ≢ n → l.reported k ≡ m.reported k

-- nothing was moved of the queue head at n yet
pub record IsNewlyTold (n : ℕ) (m l : Lines) : Type 0 where
  pub none : l.acc n ≡ []
  pub untold : l.reported n ≡ []
  pub moved : (k : ℕ) → k ≢ n → l.acc k ≡ m.acc k
  pub beside : (k : ℕ) → k ≢ n → l.reported k ≡ m.reported k

pub record IsToldMore (n : ℕ) (m l : Lines) : Type 0 where
  pub bytes : List ℕ
  pub more : IsMoreTold n bytes m l

abbrev pub LinesAfter : {s : Standing} {w new : World} {t : Standing} → QueueStep s w new t → Lines → Lines → Type 0
LinesAfter (harvests e t found due later row after) m l = IsToldMore (32 * due.endpoint.queue) m l
LinesAfter (opens k t alike opened) m l = IsNewlyTold (32 * k.endpoint.queue) m l
LinesAfter _ m l = l ≡ m

pub record IsTellingNext (s : Standing) (m : Lines) (w new : World) (t : Standing) (step : QueueStep s w new t) : Type 0 where
  pub lines : Lines
  pub after : LinesAfter step m lines
  pub telling : IsTelling t lines new

-- each event of the driver is such a step
abbrev pub DriverKeepsTelling : Type 0
DriverKeepsTelling = (s : Standing) (m : Lines) (w : World) (t : Standing) (step : QueueStep s w (driver_next w) t) → IsMixedAt s w
    → IsMixedAt t (driver_next w) → IsTelling s m w → AreIsoGoing w.driver → IsTellingNext s m w (driver_next w) t step

-- .. after which no line ends an isochronous endpoint that goes on
abbrev pub RowsKeepIsoGoing : Type 0
RowsKeepIsoGoing = (s : Standing) (m : Lines) (w : World) → IsMixedAt s w → IsTelling s m w → AreIsoGoing w.driver
    → AreIsoGoing (driver_next w).driver

-- ---- commands

abbrev pub CommandKeepsTelling : Type 0
CommandKeepsTelling = (s : Standing) (m : Lines) (w : World) (line : ℕ) (cmd : Cmd) → OpensMixed cmd → IsOffered w.driver.room cmd
    → IsMixedAt s w
    → IsTelling s m w → IsTelling s m (commanded w line cmd)

-- ---- moments

pub record IsToldWorld (w : World) : Type 0 where
  pub standing : Standing
  pub lines : Lines
  pub mixed : IsMixedAt standing w
  pub telling : IsTelling standing lines w
  pub going : AreIsoGoing w.driver

abbrev pub NewWorldIsTold : Type 0
NewWorldIsTold = (s : Script) → IsFit s → IsByteScript s → IsToldWorld (opening_world s)

abbrev pub ScriptsAreTold : Type 0
ScriptsAreTold = (s : Script) → IsFit s → IsByteScript s → FitsMixed s → (k : ℕ) → IsToldWorld (moment s k).world

abbrev pub TextsAreTold : Type 0
TextsAreTold = (text : List ℕ) (s : Script) → Spells text s → (k : ℕ) → IsToldWorld (moment s k).world

-- so no line follows the end of an endpoint whose data go one way, and nothing of it is pending then
abbrev pub ScriptsEndOnce : Type 0
ScriptsEndOnce = (s : Script) → IsFit s → IsByteScript s → FitsMixed s → EndsOnceThroughout s

abbrev pub TextsEndOnce : Type 0
TextsEndOnce = (text : List ℕ) (s : Script) → Spells text s → EndsOnceThroughout s
