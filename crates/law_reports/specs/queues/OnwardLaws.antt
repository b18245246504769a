-- Laws of how far queue heads have come along their qTDs: it is kept by each event of the controller, of either walk, by each step of a
-- queue that the driver makes, and by each command; so an unfinished transfer is what its queue head comes to.
--     GoOnward s d             each queue head leads onward, and so stands each that is met, is no control endpoint's and isn't halted
--     ControllerKeepsOnward    an event of the controller
--     DriverKeepsOnward        an event of the driver
--     CommandKeepsOnward       a command, accepted or refused
--     NewWorldGoesOnward       before the first line
--     IsOnwardWorld w          so it stands for some standing of the world
--     ScriptsGoOnward          at each moment of each script
--     OnwardComesToWork        what it comes to
--     ScriptsComeToWork, TextsComeToWork     so it is at each moment of each script
--     MixedCopiesComeToWork    and so it is of a copy in hand; TextsKeepCopiesAtWork: at each moment of each script
--     TextsKeepToWork          both
use Rattle.std.specs.Prelude.{◌≡◌, ◌≢◌, ℕ, ◌*◌, true, false, List, Some}
use Rattle.usb_base.specs.declared.commands.Cmd.{Cmd}
use Rattle.script_types.specs.declared.scripts.Script.{Script}
use Rattle.script_fits.specs.Fits.{IsFit}
use Rattle.script_text.specs.Faults.{Spells}
use Rattle.bus_wire.specs.Bus.{Fixed}
use Rattle.qh_qtd.specs.declared.queue_head.Qh.{Qh}
use Rattle.drv_table.specs.DriverContent.{DriverContent}
use Rattle.drv_table.specs.Words.{head_block}
use Rattle.law_structures.specs.lent_structures.Structures.{QueueHead}
use Rattle.bus_world.specs.Budgets.{moment}
use Rattle.bus_world.specs.Opening.{opening_world}
use Rattle.bus_world.specs.World.{World, driver_next, controller_next, commanded}
use Rattle.law_driver.specs.queued_drivers.Queued.{queued}
use Rattle.law_scripts.specs.byte_answers.Bytes.{IsByteScript}
use Rattle.law_world.specs.memory.Mixed.{Standing, IsMixedAt, IsMixedWorld}
use Rattle.law_world.specs.memory.PlacedLaws.{FitsMixed}
use Rattle.law_world.specs.memory.Steps.{IsEventOf, standing_then, QueueStep}
use Rattle.claims_world.specs.Unfinished.{ComesToWork, ComesToWorkThroughout, CopiesComeToWork, CopiesComeToWorkThroughout, KeepsToWork}
use Rattle.law_reports.specs.queues.Onward.{LeadsOnward, StandsOnward}

pub record GoOnward (s : Standing) (d : DriverContent) : Type 0 where
  pub links : (n : ℕ) → n ≢ 32 * head_block → LeadsOnward n (s.parts n)
  pub stand : (n : ℕ) (q : Qh) → s.near n ≡ true → n ≢ 32 * head_block → (s.ends n).dtc ≡ false → s.parts n n ≡ Some (QueueHead q)
      → q.token.halted ≡ false → StandsOnward (s.order n) d n (s.parts n) q

abbrev pub ControllerKeepsOnward : Type 0
ControllerKeepsOnward = (fixed : Fixed) (s : Standing) (w : World) → IsMixedAt s w → (a : IsEventOf fixed s w)
    → GoOnward s (queued w.driver) → GoOnward (standing_then s w a) (queued (controller_next fixed w).driver)

abbrev pub DriverKeepsOnward : Type 0
DriverKeepsOnward = (s : Standing) (w : World) (t : Standing) → IsMixedAt s w → QueueStep s w (driver_next w) t
    → IsMixedAt t (driver_next w) → GoOnward s (queued w.driver) → GoOnward t (queued (driver_next w).driver)

abbrev pub CommandKeepsOnward : Type 0
CommandKeepsOnward = (s : Standing) (w : World) (line : ℕ) (cmd : Cmd) → GoOnward s (queued w.driver)
    → GoOnward s (queued (commanded w line cmd).driver)

-- ---- moments

pub record IsOnwardWorld (w : World) : Type 0 where
  pub standing : Standing
  pub mixed : IsMixedAt standing w
  pub onward : GoOnward standing (queued w.driver)

abbrev pub NewWorldGoesOnward : Type 0
NewWorldGoesOnward = (s : Script) → IsFit s → IsByteScript s → IsOnwardWorld (opening_world s)

abbrev pub ScriptsGoOnward : Type 0
ScriptsGoOnward = (s : Script) → IsFit s → IsByteScript s → FitsMixed s → (k : ℕ) → IsOnwardWorld (moment s k).world

-- ---- what a queue head comes to

abbrev pub OnwardComesToWork : Type 0
OnwardComesToWork = (w : World) → IsOnwardWorld w → ComesToWork w

abbrev pub ScriptsComeToWork : Type 0
ScriptsComeToWork = (s : Script) → IsFit s → IsByteScript s → FitsMixed s → ComesToWorkThroughout s

abbrev pub TextsComeToWork : Type 0
TextsComeToWork = (text : List ℕ) (s : Script) → Spells text s → ComesToWorkThroughout s

abbrev pub MixedCopiesComeToWork : Type 0
MixedCopiesComeToWork = (w : World) → IsMixedWorld w → ComesToWork w → CopiesComeToWork w

abbrev pub TextsKeepCopiesAtWork : Type 0
TextsKeepCopiesAtWork = (text : List ℕ) (s : Script) → Spells text s → CopiesComeToWorkThroughout s

abbrev pub TextsKeepToWork : Type 0
TextsKeepToWork = (text : List ℕ) (s : Script) → Spells text s → KeepsToWork s
