-- How often the walk of the ring reads the head of the reclamation list with no transaction between (EHCI 1.0, 4.8, 4.8.3 and 4.8.6), as the run tells it. Reclamation is 1
-- where the asynchronous part of a microframe begins, and after each transaction; reading the head leaves it 0, and the head read with Reclamation 0 ends the part.
--     reads_head row           an event of the walk that reads the head: it ends the part, or goes on with its copy
--     reclamation_at p         Reclamation at an event of the walk: 1 at the first of its microframe
--     walked_to fixed p b      the place after an event of the walk
--     ReadsTheHead fixed p b   what an event of the walk makes of Reclamation: the first of a microframe finds it 1, reading the head leaves it 0, only a transaction sets it again,
--                              and a read of the head ends the part exactly where Reclamation is 0
--     EventsReadTheHead        the law of each event of the walk, whatever the place
--     LeavesReclamation w      no event of the driver and no command writes Reclamation
--     WorldsLeaveReclamation   the law, whatever the world
--     heads_by row n           how often the head was read after an event of the walk: none after a transaction
--     heads_after row c n      .. after an event of the controller; none was read where the part begins
--     heads_next fixed w n     .. after the next event of the controller of a world
--     heads_from fixed p n k   .. after k events and commands
--     heads s k                .. after k events and commands of the run of a script: since its last transaction in the ring, or since the part began, whichever came later
--     EndsThere fixed w n      the controller's next event ends the part, and is one more read of the head
--     HeadsAreFew fixed w n    at most two, and while the part goes on at most one; then Reclamation is 0, and the next event that reads the head ends the part
--     ReadsFewHeads s          so it is at each moment of a script's run
--     ScriptsReadFewHeads      the law, of each script
--     TextsReadFewHeads        .. and so of each that a text spells
use Rattle.std.specs.Prelude.{◌≡◌, ℕ, suc, ◌≤◌, Bool, true, false, List, if◌then◌else◌}
use Rattle.usb_base.specs.declared.commands.Cmd.{Cmd}
use Rattle.script_types.specs.declared.scripts.Script.{Script}
use Rattle.script_text.specs.Faults.{Spells}
use Rattle.hc_copy.specs.declared.held.Transaction.{Transaction}
use Rattle.async_walk.specs.declared.rows.WalkRow.{WalkRow}
use Rattle.async_walk.specs.declared.rows.WalkRow.TheVariants as walks
use Rattle.async_walk.specs.Rows.{WalkPlace, started, at_event, event_row, step_of}
use Rattle.hc_core.specs.declared.controller.ControllerRow.{ControllerRow}
use Rattle.hc_core.specs.declared.controller.ControllerRow.TheVariants as rows
use Rattle.hc_core.specs.declared.controller.HcStep.TheVariants as steps
use Rattle.hc_core.specs.declared.controller.MicroframePart.TheVariants.{Over, Asynchronous}
use Rattle.hc_core.specs.Controller.{Content, entered, part_after, walk_place}
use Rattle.bus_wire.specs.Bus.{Bus, Fixed, fixed_of}
use Rattle.bus_world.specs.World.{World, controller_parts, controller_row, controller_next, kind_next, walk_next, driver_next, commanded}
use Rattle.bus_world.specs.Budgets.{moment}
use Rattle.bus_world.specs.Orders.{OrderedWorld}
use Rattle.claims_world.specs.Carried.{carried_from, carried}

-- ---- one event of the walk

abbrev pub reads_head : WalkRow → Bool
reads_head walks.Fault = false
reads_head walks.HeadEnds = true
reads_head (walks.Fetch a q) = q.head
reads_head walks.Skip = false
reads_head walks.OutOfTime = false
reads_head (walks.Advance a t) = false
reads_head (walks.Transact t) = false
reads_head walks.WriteBack = false

abbrev pub reclamation_at : WalkPlace → Bool
reclamation_at p = (started p).registers.reclamation

abbrev pub walked_to : Fixed → WalkPlace → Bus → WalkPlace
walked_to fixed p b = (walk_next fixed p b).place

pub record ReadsTheHead (fixed : Fixed) (p : WalkPlace) (b : Bus) : Type 0 where
  pub begins : p.walk.first ≡ true → reclamation_at p ≡ true
  pub goes_on : p.walk.first ≡ false → reclamation_at p ≡ p.registers.reclamation
  pub read : reads_head (event_row p) ≡ true → (walked_to fixed p b).registers.reclamation ≡ false
  pub other : ((t : Transaction) → event_row p ≡ walks.Transact t → ⊥) → reads_head (event_row p) ≡ false → (walked_to fixed p b).registers.reclamation ≡ reclamation_at p
  -- the head was read with Reclamation 0
  pub quiet : reclamation_at p ≡ false → reads_head (event_row p) ≡ true → event_row p ≡ walks.HeadEnds
  pub ends : event_row p ≡ walks.HeadEnds → part_after Asynchronous (step_of (event_row p) (at_event p)) ≡ Over
  pub never : reclamation_at p ≡ true → event_row p ≡ walks.HeadEnds → ⊥

abbrev pub EventsReadTheHead : Type 0
EventsReadTheHead = (fixed : Fixed) (p : WalkPlace) (b : Bus) → ReadsTheHead fixed p b

pub record LeavesReclamation (w : World) : Type 0 where
  pub driver : (driver_next w).registers.reclamation ≡ w.registers.reclamation
  pub command : (n : ℕ) (cmd : Cmd) → (commanded w n cmd).registers.reclamation ≡ w.registers.reclamation

abbrev pub WorldsLeaveReclamation : Type 0
WorldsLeaveReclamation = (w : World) → LeavesReclamation w

-- ---- how often it was read

abbrev pub heads_by : WalkRow → ℕ → ℕ
heads_by walks.Fault n = n
heads_by walks.HeadEnds n = suc n
heads_by (walks.Fetch a q) n = if q.head then suc n else n
heads_by walks.Skip n = n
heads_by walks.OutOfTime n = n
heads_by (walks.Advance a t) n = n
heads_by (walks.Transact t) n = 0
heads_by walks.WriteBack n = n

abbrev pub heads_after : ControllerRow → Content → ℕ → ℕ
heads_after rows.Begin c n = n
heads_after rows.Frame c n = n
heads_after rows.Idle c n = n
heads_after rows.Enter c n = heads_by (event_row (walk_place (entered c))) 0
heads_after rows.Go c n = heads_by (event_row (walk_place c)) n
heads_after rows.End c n = n

abbrev pub heads_next : Fixed → World → ℕ → ℕ
heads_next fixed w n = heads_after (controller_row w) (controller_parts w) n

abbrev pub heads_from : Fixed → OrderedWorld → ℕ → ℕ → ℕ
heads_from fixed p n k = carried_from heads_next fixed p n k

abbrev pub heads : Script → ℕ → ℕ
heads s k = carried heads_next s 0 k

-- ---- so it is few

pub record EndsThere (fixed : Fixed) (w : World) (n : ℕ) : Type 0 where
  pub is_end : kind_next w ≡ steps.End
  pub over : (controller_next fixed w).control.part ≡ Over
  pub counted : heads_next fixed w n ≡ suc n

pub record HeadsAreFew (fixed : Fixed) (w : World) (n : ℕ) : Type 0 where
  pub most : n ≤ 2
  -- while the part goes on
  pub few : w.control.part ≡ Asynchronous → n ≤ 1
  pub quiet : w.control.part ≡ Asynchronous → 1 ≤ n → w.registers.reclamation ≡ false
  pub ends : controller_row w ≡ rows.Go → 1 ≤ n → reads_head (event_row (walk_place (controller_parts w))) ≡ true → EndsThere fixed w n

abbrev pub ReadsFewHeads : Script → Type 0
ReadsFewHeads s = (k : ℕ) → HeadsAreFew (fixed_of s) (moment s k).world (heads s k)

abbrev pub ScriptsReadFewHeads : Type 0
ScriptsReadFewHeads = (s : Script) → ReadsFewHeads s

abbrev pub TextsReadFewHeads : Type 0
TextsReadFewHeads = (text : List ℕ) (s : Script) → Spells text s → ReadsFewHeads s
