-- What the walk of the ring has visited since it read the head of the ring (EHCI 1.0, 4.8, 4.8.2, 4.8.3 and 4.10.3), as the run tells it. Reading the head begins a round,
-- and leaves the head alone; another queue head that is read is one more. A visit that ends for want of time isn't one, since the next microframe reads the queue head anew.
-- Every other event or command leaves the round, also the end of a microframe: the walk goes on at the same place of the ring.
--     round_read a vs         the queue head at byte address a is read: a new round begins if it is the head
--     dropped vs              the newest visit isn't one
--     round_by row vs         the round after an event of the walk; an event that reads the head and ends the microframe's part begins one too
--     round_after row c vs    .. after an event of the controller, the newest first
--     round_next fixed w vs   .. after the next event of the controller of a world
--     round_from fixed p vs n .. after n events and commands
--     round s k               .. after k events and commands of the run of a script
--     link_ahead r walk       the link by which the walk goes on, once the visit is over
--     IsNewest r walk h vs    the queue head in hand was visited last, and the cursor is there
--     IsBehind ..             what was visited lies above what comes next, unless that is the head, and may be met
--     RoundsGoOn w vs         so it is in a world whose links lead down
--     IsRounding w vs         .. where nothing of the world is out of place
use Rattle.std.specs.Prelude.{◌≡◌, ◌≢◌, ℕ, ◌==◌, ◌<◌, true, List, [], ◌∷◌, Option, Some, None, if◌then◌else◌}
use Rattle.std.specs.List.{AllByRecursion}
use Rattle.script_types.specs.declared.scripts.Script.{Script}
use Rattle.link_words.specs.declared.kinds.Link.{Link}
use Rattle.link_words.specs.declared.kinds.Link.TheVariants as links
use Rattle.link_words.specs.Links.{link_of}
use Rattle.op_registers.specs.RegisterFile.{RegisterFile}
use Rattle.hc_copy.specs.declared.held.Held.{Held}
use Rattle.async_walk.specs.declared.rows.WalkRow.{WalkRow}
use Rattle.async_walk.specs.declared.rows.WalkRow.TheVariants as walks
use Rattle.async_walk.specs.Walk.{Walk}
use Rattle.async_walk.specs.Rows.{cursor_link, event_row}
use Rattle.hc_core.specs.declared.controller.ControllerRow.{ControllerRow}
use Rattle.hc_core.specs.declared.controller.ControllerRow.TheVariants as rows
use Rattle.hc_core.specs.Controller.{Content, entered, walk_place}
use Rattle.drv_table.specs.DriverContent.{DriverContent}
use Rattle.law_queues.specs.reached_rings.Reaching.{is_reached}
use Rattle.bus_wire.specs.Bus.{Fixed}
use Rattle.bus_world.specs.World.{World, controller_parts, controller_row}
use Rattle.bus_world.specs.Orders.{OrderedWorld}
use Rattle.law_world.specs.memory.Mixed.{IsMixedWorld}
use Rattle.claims_world.specs.Carried.{carried_from, carried}
use Rattle.law_microframes.specs.time.Heights.{head_at, LinksFall, AreFalling}

-- ---- what was visited

abbrev pub round_read : ℕ → List ℕ → List ℕ
round_read a vs = if a == head_at then head_at ∷ [] else a ∷ vs

abbrev pub dropped : List ℕ → List ℕ
dropped [] = []
dropped (v ∷ vs) = vs

abbrev pub round_by : WalkRow → List ℕ → List ℕ
round_by walks.Fault vs = vs
round_by walks.HeadEnds vs = head_at ∷ []
round_by (walks.Fetch a q) vs = round_read a vs
round_by walks.Skip vs = vs
round_by walks.OutOfTime vs = dropped vs
round_by (walks.Advance a t) vs = vs
round_by (walks.Transact t) vs = vs
round_by walks.WriteBack vs = vs

abbrev pub round_after : ControllerRow → Content → List ℕ → List ℕ
round_after rows.Begin c vs = vs
round_after rows.Frame c vs = vs
round_after rows.Idle c vs = vs
round_after rows.Enter c vs = round_by (event_row (walk_place (entered c))) vs
round_after rows.Go c vs = round_by (event_row (walk_place c)) vs
round_after rows.End c vs = vs

abbrev pub round_next : Fixed → World → List ℕ → List ℕ
round_next fixed w vs = round_after (controller_row w) (controller_parts w) vs

abbrev pub round_from : Fixed → OrderedWorld → List ℕ → ℕ → List ℕ
round_from fixed p vs n = carried_from round_next fixed p vs n

abbrev pub round : Script → ℕ → List ℕ
round s k = carried round_next s [] k

-- ---- what comes next

abbrev pub link_from : Option Held → Link → Link
link_from None cursor = cursor
link_from (Some h) cursor = link_of h.queue_head.link

abbrev pub link_ahead : RegisterFile → Walk → Link
link_ahead r walk = link_from walk.held (cursor_link r walk.cursor)

pub record IsNewest (r : RegisterFile) (walk : Walk) (h : Held) (vs : List ℕ) : Type 0 where
  pub before : List ℕ
  pub newest : vs ≡ h.at ∷ before
  pub cursor : cursor_link r walk.cursor ≡ links.Qh h.at

pub record IsBehind (d : DriverContent) (height : ℕ → ℕ) (r : RegisterFile) (walk : Walk) (vs : List ℕ) : Type 0 where
  pub falling : AreFalling height vs
  pub reached : AllByRecursion (λ v. is_reached d r.doorbell v ≡ true) vs
  pub next : (k : ℕ) → link_ahead r walk ≡ links.Qh k → k ≢ head_at → AllByRecursion (λ v. height k < height v) vs
  pub in_hand : (h : Held) → walk.held ≡ Some h → IsNewest r walk h vs

-- ---- a world

pub record RoundsGoOn (w : World) (vs : List ℕ) : Type 0 where
  pub height : ℕ → ℕ
  pub links_fall : LinksFall w.memory w.driver w.registers.doorbell height
  pub behind : IsBehind w.driver height w.registers w.control.walk vs

pub record IsRounding (w : World) (vs : List ℕ) : Type 0 where
  pub mixed : IsMixedWorld w
  pub rounds : RoundsGoOn w vs
