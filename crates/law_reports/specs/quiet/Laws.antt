-- Laws of what tokens of queues at high speed never tell (EHCI 1.0, 3.5.3, 4.10.3 and 4.12.2).
--     AnswersCountNone         a transaction whose answer counts no error leaves as many errors as there were
--     DriverLeavesErrors       each event of the driver leaves errors: what is new has three
--     none                     no queue head at all
--     MissesNone s w           no token of a queue at high speed tells a missed microframe, in memory, in hand, or to be stored
--     IsUnmissedWorld w        so it is for some standing of the world
--     NewWorldMissesNone, ControllerMissesNone, DriverMissesNone, CommandMissesNone      before the first line, and after each event and
--                              command
--     ScriptsMissNone, TextsMissNone      so it is at each moment of each script
--     TextsMissBelow           so each line that tells a missed microframe is of an endpoint below a hub
use Rattle.std.specs.Prelude.{◌≡◌, ◌≢◌, ℕ, Bool, true, false, List}
use Rattle.usb_base.specs.declared.commands.Cmd.{Cmd}
use Rattle.usb_base.specs.declared.packets.Ask.{Ask}
use Rattle.usb_base.specs.declared.packets.EpKind.TheVariants.{Iso}
use Rattle.usb_base.specs.declared.packets.Pid.TheVariants.{Setup}
use Rattle.usb_base.specs.declared.packets.Reply.{Reply}
use Rattle.usb_base.specs.declared.packets.Speed.TheVariants.{High}
use Rattle.usb_base.specs.declared.packets.Split.TheVariants.{Plain}
use Rattle.script_types.specs.declared.scripts.Script.{Script}
use Rattle.script_fits.specs.Fits.{IsFit}
use Rattle.script_text.specs.Faults.{Spells}
use Rattle.toggle_error.specs.declared.host.HostSide.{HostSide}
use Rattle.toggle_error.specs.Settle.{settled}
use Rattle.hc_copy.specs.Planning.{pid_at}
use Rattle.bus_wire.specs.Bus.{Fixed}
use Rattle.drv_table.specs.Offers.{IsOffered}
use Rattle.law_controller.specs.frame_control.Joined.{joined}
use Rattle.law_scripts.specs.byte_answers.Bytes.{IsByteScript}
use Rattle.bus_world.specs.Budgets.{moment}
use Rattle.bus_world.specs.Opening.{opening_world}
use Rattle.claims_world.specs.Misses.{MissesAreBelowThroughout}
use Rattle.bus_world.specs.World.{World, driver_next, controller_next, commanded}
use Rattle.law_world.specs.memory.Mixed.{Standing, IsMixedAt}
use Rattle.law_world.specs.memory.Opens.{OpensMixed}
use Rattle.law_world.specs.memory.PlacedLaws.{FitsMixed}
use Rattle.law_world.specs.memory.Steps.{QueueStep}
use Rattle.law_reports.specs.quiet.Errors.{Key, HostHasLeft, PartHasLeft, HandHasLeft, PublishesLeft}
use Rattle.law_reports.specs.quiet.Replies.{tells}

-- ---- any queue heads

abbrev pub AnswersCountNone : Type 0
AnswersCountNone = (Q : Key → Bool) (x : Key) (pid : ℕ) (ask : Ask) (sent : ℕ) (last : Bool) (reply : Reply) (host : HostSide)
    → (x.eps ≡ 2 → host.missed ≡ false) → (Q x ≡ true → host.cerr ≢ 0)
    → (Q x ≡ true → (ask.split ≡ Plain) × ((ask.speed ≡ High) × ((ask.kind ≢ Iso) × (tells ask.kind ask.pid reply ≡ true))))
    → (Q x ≡ true → pid_at pid ≡ Setup → (ask.pid ≡ Setup) × ((sent ≡ 8) × (host.left ≡ 8)))
    → HostHasLeft Q x pid (settled ask sent last reply host)

pub record HasErrorsLeft (Q : Key → Bool) (s : Standing) (w : World) : Type 0 where
  pub parts : (n : ℕ) → PartHasLeft Q n (s.parts n)
  pub in_hand : HandHasLeft Q (joined s.hand s.frame)
  pub first : PublishesLeft w.driver.made w.driver.command

abbrev pub DriverLeavesErrors : Type 0
DriverLeavesErrors = (Q : Key → Bool) (s : Standing) (w : World) (t : Standing) → IsMixedAt s w → QueueStep s w (driver_next w) t
    → HasErrorsLeft Q s w → HasErrorsLeft Q t (driver_next w)

-- ---- a missed microframe

abbrev pub none : Key → Bool
none x = false

pub record IsUnmissedWorld (w : World) : Type 0 where
  pub standing : Standing
  pub mixed : IsMixedAt standing w
  pub left : HasErrorsLeft none standing w

abbrev pub NewWorldMissesNone : Type 0
NewWorldMissesNone = (s : Script) → IsFit s → IsByteScript s → IsUnmissedWorld (opening_world s)

abbrev pub ControllerMissesNone : Type 0
ControllerMissesNone = (fixed : Fixed) (w : World) → IsUnmissedWorld w → IsUnmissedWorld (controller_next fixed w)

abbrev pub DriverMissesNone : Type 0
DriverMissesNone = (w : World) → IsUnmissedWorld w → IsUnmissedWorld (driver_next w)

abbrev pub CommandMissesNone : Type 0
CommandMissesNone = (w : World) (line : ℕ) (cmd : Cmd) → OpensMixed cmd → IsOffered w.driver.room cmd → IsUnmissedWorld w → IsUnmissedWorld
    (commanded w line cmd)

abbrev pub ScriptsMissNone : Type 0
ScriptsMissNone = (s : Script) → IsFit s → IsByteScript s → FitsMixed s → (k : ℕ) → IsUnmissedWorld (moment s k).world

abbrev pub TextsMissNone : Type 0
TextsMissNone = (text : List ℕ) (s : Script) → Spells text s → (k : ℕ) → IsUnmissedWorld (moment s k).world

-- ---- lines

abbrev pub TextsMissBelow : Type 0
TextsMissBelow = (text : List ℕ) (s : Script) → Spells text s → MissesAreBelowThroughout s
