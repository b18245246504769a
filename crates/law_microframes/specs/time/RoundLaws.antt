-- Laws of the rounds of the walk of the ring (EHCI 1.0, 4.8, 4.8.1, 4.8.2 and 4.8.3): between two visits to the head of the ring it visits each queue head at most once,
-- also while queue heads are linked and unlinked.
--     NewIsRounding             a world before its first line has visited nothing
--     ControllerKeepsRounds     each event of the controller goes on with the round
--     RowKeepsRounds row        so does the driver's event where it is this row
--     EachRowKeepsRounds        .. whichever row it is
--     DriverKeepsRounds         .. and so each event of the driver
--     CommandLeavesRounds       .. and each command, accepted or refused
--     CommandKeepsRounds        .. which leaves nothing of the world out of place
--     ScriptsRoundOnce          so the rounds go on at each moment of the run of a script
--     RoundsApart w vs          no queue head was visited twice; each that was visited is the head, or in the ring, or left since the last answered doorbell was rung; one that is
--                               in hand was visited last; and what comes next is the head, or wasn't visited
--     RoundsEachOnce s          so it is at each moment of a script's run
--     TextsRoundOnce            the law, of each script that a text spells
use Rattle.std.specs.Prelude.{◌≡◌, ◌≢◌, ℕ, true, List, [], Some}
use Rattle.std.specs.List.{AllByRecursion}
use Rattle.usb_base.specs.declared.commands.Cmd.{Cmd}
use Rattle.script_types.specs.declared.scripts.Script.{Script}
use Rattle.link_words.specs.declared.kinds.Link.TheVariants as links
use Rattle.hc_copy.specs.declared.held.Held.{Held}
use Rattle.script_text.specs.Faults.{Spells}
use Rattle.script_fits.specs.Fits.{IsFit}
use Rattle.law_scripts.specs.byte_answers.Bytes.{IsByteScript}
use Rattle.drv_table.specs.declared.rows.DriverRow.{DriverRow}
use Rattle.drv_table.specs.Offers.{IsOffered}
use Rattle.drv_table.specs.Rows.{driver_row}
use Rattle.law_queues.specs.reached_rings.Reaching.{is_reached}
use Rattle.bus_wire.specs.Bus.{Fixed}
use Rattle.bus_world.specs.World.{World, driver_parts, driver_next, controller_parts, controller_row, controller_next, commanded}
use Rattle.bus_world.specs.Opening.{opening_world}
use Rattle.bus_world.specs.Budgets.{moment}
use Rattle.law_world.specs.memory.Mixed.{Standing, IsMixedAt}
use Rattle.law_world.specs.memory.Laws.{OpensMixed}
use Rattle.claims_world.specs.Memory.{IsNone, AreOnce}
use Rattle.law_world.specs.memory.PlacedLaws.{FitsMixed}
use Rattle.law_microframes.specs.time.Heights.{head_at}
use Rattle.law_microframes.specs.time.Rounds.{round_after, round, link_ahead, IsNewest, RoundsGoOn, IsRounding}

-- ---- each event and command

abbrev pub NewIsRounding : Type 0
NewIsRounding = (s : Script) → IsFit s → IsByteScript s → IsRounding (opening_world s) []

abbrev pub ControllerKeepsRounds : Type 0
ControllerKeepsRounds = (fixed : Fixed) (w : World) (vs : List ℕ) → IsRounding w vs → IsRounding (controller_next fixed w) (round_after (controller_row w) (controller_parts w) vs)

abbrev pub RowKeepsRounds : DriverRow → Type 0
RowKeepsRounds row = (s : Standing) (w : World) (vs : List ℕ) → IsMixedAt s w → RoundsGoOn w vs → driver_row (driver_parts w) ≡ row → RoundsGoOn (driver_next w) vs

abbrev pub EachRowKeepsRounds : Type 0
EachRowKeepsRounds = (row : DriverRow) → RowKeepsRounds row

abbrev pub DriverKeepsRounds : Type 0
DriverKeepsRounds = (w : World) (vs : List ℕ) → IsRounding w vs → IsRounding (driver_next w) vs

abbrev pub CommandLeavesRounds : Type 0
CommandLeavesRounds = (s : Standing) (w : World) (line : ℕ) (cmd : Cmd) (vs : List ℕ) → IsOffered w.driver.room cmd → IsMixedAt s w → RoundsGoOn w vs → RoundsGoOn (commanded w line cmd) vs

abbrev pub CommandKeepsRounds : Type 0
CommandKeepsRounds = (w : World) (line : ℕ) (cmd : Cmd) (vs : List ℕ) → OpensMixed cmd → IsOffered w.driver.room cmd → IsRounding w vs → IsRounding (commanded w line cmd) vs

-- ---- a run

abbrev pub ScriptsRoundOnce : Type 0
ScriptsRoundOnce = (s : Script) → IsFit s → IsByteScript s → FitsMixed s → (k : ℕ) → IsRounding (moment s k).world (round s k)

pub record RoundsApart (w : World) (vs : List ℕ) : Type 0 where
  pub once : AreOnce vs
  pub reached : AllByRecursion (λ v. is_reached w.driver w.registers.doorbell v ≡ true) vs
  pub in_hand : (h : Held) → w.control.walk.held ≡ Some h → IsNewest w.registers w.control.walk h vs
  pub next : (k : ℕ) → link_ahead w.registers w.control.walk ≡ links.Qh k → k ≢ head_at → IsNone k vs

abbrev pub RoundsEachOnce : Script → Type 0
RoundsEachOnce s = (k : ℕ) → RoundsApart (moment s k).world (round s k)

abbrev pub TextsRoundOnce : Type 0
TextsRoundOnce = (text : List ℕ) (s : Script) → Spells text s → RoundsEachOnce s
