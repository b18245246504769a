-- What holds of a world at each moment holds after each event and each command.
use Rattle.std.proofs.Common.{◌≡◌, ℕ, Bool, true, false, List, length, Option, Some, None, sym, subst, arith}
use Rattle.std.specs.List.{AllByRecursion}
use Rattle.report_text.specs.ReportText.{AreStored}
use Rattle.word_mem.specs.Memory.{Mem}
use Rattle.word_mem.specs.Access.{IsByController}
use Rattle.mem_runs.specs.Book.{Book, holding, Stands}
use Rattle.hc_copy.specs.declared.held.Held.{Held}
use Rattle.hc_copy.specs.declared.held.Transaction.{Transaction}
use Rattle.hc_copy.specs.Buffer.{sending}
use Rattle.hc_copy.specs.Transacting.{call_in}
use Rattle.op_registers.specs.Events.{next_index}
use Rattle.async_walk.specs.declared.rows.WalkRow.{WalkRow}
use Rattle.async_walk.specs.declared.rows.WalkRow.TheVariants as walks
use Rattle.async_walk.specs.Rows.{WalkPlace, at_event, event_row}
use Rattle.hc_core.specs.declared.controller.ControllerRow.{ControllerRow}
use Rattle.hc_core.specs.declared.controller.ControllerRow.TheVariants as rows
use Rattle.periodic_walk.specs.Place.{Effect}
use Rattle.periodic_walk.specs.Place.Effect.{Leaves, Asks}
use Rattle.periodic_walk.specs.Rows.{effect_of}
use Rattle.hc_core.specs.Controller.{Content, entered, frame_place, walk_place}
use Rattle.drv_table.specs.DriverContent.{DriverContent, new_driver}
use Rattle.drv_table.specs.declared.content.Reserve.{Reserve}
use Rattle.bandwidth.proofs.Budgets.{fits_none}
use Rattle.law_admission.specs.Budgets.{account_of, KeepsBudgets}
use Rattle.bus_wire.specs.Bus.{Fixed, Bus}
use Rattle.bus_world.specs.World.{Standing, World, controller_row, controller_parts, controller_next, turned_by, frame_by, walk_by, sends_by, sent_by}
use Rattle.bus_world.specs.Sound.{IsSound, IsRoomyDevice}
use Rattle.bus_world.proofs.Standing.{book_stands}
use Rattle.bus_world.proofs.Roomy.{transact_roomy, begin_roomy}

-- ---- the controller

abbrev AreRoomy : Bus → Type 0
AreRoomy b = AllByRecursion IsRoomyDevice b.devices

sent_roomy : (fixed : Fixed) (all : Bool) (t : Transaction) (h : Held) (bytes : List ℕ) (p : WalkPlace) (b : Bus) → AreRoomy b → AreRoomy (sent_by fixed all t h bytes p b).bus
sent_roomy fixed true t h bytes p b r = transact_roomy fixed b (call_in t bytes false).ask (call_in t bytes false).out r
sent_roomy fixed false t h bytes p b r = r

sends_roomy : (fixed : Fixed) (t : Transaction) (p : WalkPlace) (held : Option Held) (b : Bus) → AreRoomy b → AreRoomy (sends_by fixed t p held b).bus
sends_roomy fixed t p None b r = r
sends_roomy fixed t p (Some h) b r =
    sent_roomy fixed (sending t h.queue_head p.memory).all t h (sending t h.queue_head p.memory).bytes (record p { memory = (sending t h.queue_head p.memory).memory }) b r

walk_roomy : (fixed : Fixed) (row : WalkRow) (p : WalkPlace) (b : Bus) → AreRoomy b → AreRoomy (walk_by fixed row p b).bus
walk_roomy fixed (walks.Transact t) p b r = sends_roomy fixed t p p.walk.held b r
walk_roomy fixed _ p b r = r

frame_roomy : (fixed : Fixed) (e : Effect) (b : Bus) → AreRoomy b → AreRoomy (frame_by fixed e b).bus
frame_roomy fixed (Leaves p) b r = r
frame_roomy fixed (Asks ask out left_by) b r = transact_roomy fixed b ask out r

turned_roomy : (fixed : Fixed) (row : ControllerRow) (c : Content) (b : Bus) → AreRoomy b → AreRoomy (turned_by fixed row c b).bus
turned_roomy fixed rows.Begin c b r = begin_roomy fixed (next_index c.registers.frame_index) b r
turned_roomy fixed rows.Frame c b r = frame_roomy fixed (effect_of (frame_place c)) b r
turned_roomy fixed rows.Enter c b r = walk_roomy fixed (event_row (walk_place (entered c))) (at_event (walk_place (entered c))) b r
turned_roomy fixed rows.Go c b r = walk_roomy fixed (event_row (walk_place c)) (at_event (walk_place c)) b r
turned_roomy fixed _ c b r = r

pub next_roomy : (fixed : Fixed) (w : World) → AreRoomy w.bus → AreRoomy (controller_next fixed w).bus
next_roomy fixed w r = turned_roomy fixed (controller_row w) (controller_parts w) w.bus r

pub controller_sound : (s : Standing) (m : Mem) (b : Bus) → IsSound s.world.driver s.world.memory s.world.bus → IsByController s.world.memory m → b ≡ (controller_next s.fixed s.world).bus
    → IsSound s.world.driver m b
controller_sound s m b h by e = record {
  stands = book_stands s.world.driver.book s.world.memory m h.stands by;
  stored = h.stored;
  roomy = subst AreRoomy (sym e) (next_roomy s.fixed s.world h.roomy);
  budgets = h.budgets;
}

-- ---- the opening

new_kept : (book : Book) (blocks : ℕ) (room : Reserve) → KeepsBudgets (account_of (new_driver book blocks room))
new_kept book blocks room = record { fits = fits_none; room = omega arith }

pub opening_sound : (d : DriverContent) (m : Mem) (b : Bus) (book : Book) (blocks : ℕ) (room : Reserve) → d ≡ new_driver book blocks room → Stands (holding d.book m) → AreRoomy b → IsSound d m b
opening_sound d m b book blocks room e stands roomy = record {
  stands = stands;
  stored = subst (λ (x : DriverContent). AreStored x.reports (length x.store)) (sym e) tt;
  roomy = roomy;
  budgets = subst (λ (x : DriverContent). KeepsBudgets (account_of x)) (sym e) (new_kept book blocks room);
}
