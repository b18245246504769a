-- Along a run the budgets are kept: each event and command keeps them, and there is room for the opens that are still ordered.
use Rattle.std.proofs.Common.{◌≡◌, ℕ, zero, suc, ◌≤◌, List, [], ◌∷◌, Result, Ok, Err, refl, ap, sym, subst, ◌∙◌}
use Rattle.std.specs.List.{AllByRecursion}
use Rattle.usb_base.specs.declared.commands.Cmd.{Cmd}
use Rattle.usb_base.specs.declared.commands.Cmd.TheVariants.{OpenEp}
use Rattle.usb_base.specs.declared.endpoints.EpDesc.{EpDesc}
use Rattle.usb_base.specs.declared.endpoints.EpName.{EpName}
use Rattle.usb_base.specs.declared.reports.OfferError.{OfferError}
use Rattle.usb_base.specs.declared.rules.Rules.{Rules}
use Rattle.script_types.specs.declared.scripts.Event.{Event}
use Rattle.script_types.specs.declared.scripts.Event.TheVariants as events
use Rattle.script_types.specs.declared.scripts.Line.{Line}
use Rattle.script_types.specs.declared.scripts.Line.TheVariants as lines
use Rattle.script_types.specs.declared.scripts.Script.{Script}
use Rattle.bus_wire.specs.Bus.{Fixed, fixed_of}
use Rattle.drv_table.specs.declared.content.Reserve.{Reserve}
use Rattle.drv_table.specs.Accepting.{Offered}
use Rattle.drv_table.specs.Offers.{IsOffered, offered}
use Rattle.script_fits.specs.Fits.{IsFit, IsFitCommand, IsFitLine}
use Rattle.law_admission.specs.Budgets.{account_of, KeepsBudgets}
use Rattle.law_admission.proofs.Budgets.{opening_keeps_budgets, commands_keep_budgets, events_keep_budgets, command_rules, event_rules}
use Rattle.law_admission.proofs.Refusals.{refused_where_none_fits}
use Rattle.bus_world.specs.World.{World, next, driver_parts, commanded, commanded_by, name_in}
use Rattle.bus_world.specs.Opening.{opening_world}
use Rattle.bus_world.specs.Orders.{Left, Events, Microframes, Answer, Command, Plugs, OrderedWorld, at_place, left_of, orders_of, fewer, tick, tick_by, tick_at, ticks}
use Rattle.bus_world.specs.Rooms.{needs, needs_line, no_room, with_room, reserve_of, room_of_script, HasRoomFor}
use Rattle.bus_world.specs.Budgets.{AdmitsExactly, AdmitsThroughout}
use Rattle.bus_world.proofs.Ways.{next_room}
use Rattle.bus_world.proofs.Rooming.{less_room, rest_room, room_of_all, can_offer, command_leaves}

-- ---- one event or command

next_kept : (fixed : Fixed) (w : World) (event : Event) → KeepsBudgets (account_of w.driver) → KeepsBudgets (account_of (next fixed w event).driver)
next_kept fixed w events.D old = events_keep_budgets (driver_parts w) old
next_kept fixed w events.C old = old

answered_kept : (w : World) (n : ℕ) (name : EpName) (cmd : Cmd) (r : Result Offered OfferError) → IsOffered w.driver.room cmd → KeepsBudgets (account_of w.driver)
    → offered w.driver w.memory cmd ≡ r → KeepsBudgets (account_of (commanded_by w n name r).driver)
answered_kept w n name cmd (Ok o) ok old is = commands_keep_budgets w.driver w.memory cmd o ok old is
answered_kept w n name cmd (Err why) ok old is = old

pub commanded_kept : (w : World) (n : ℕ) (cmd : Cmd) → IsOffered w.driver.room cmd → KeepsBudgets (account_of w.driver) → KeepsBudgets (account_of (commanded w n cmd).driver)
commanded_kept w n cmd ok old = answered_kept w n (name_in cmd) cmd (offered w.driver w.memory cmd) ok old refl

-- placements follow the same rules
next_rules : (fixed : Fixed) (w : World) (event : Event) → (next fixed w event).driver.periodic.plan.rules ≡ w.driver.periodic.plan.rules
next_rules fixed w events.D = event_rules (driver_parts w)
next_rules fixed w events.C = refl

answered_rules : (w : World) (n : ℕ) (name : EpName) (cmd : Cmd) (r : Result Offered OfferError) → offered w.driver w.memory cmd ≡ r
    → (commanded_by w n name r).driver.periodic.plan.rules ≡ w.driver.periodic.plan.rules
answered_rules w n name cmd (Ok o) is = command_rules w.driver w.memory cmd o is
answered_rules w n name cmd (Err why) is = refl

-- ---- what is left of the orders

abbrev pub needs_left : Left → Reserve
needs_left (Command n cmd) = needs cmd
needs_left _ = no_room

unfoldable pub reserve_left : List Left → Reserve
reserve_left [] = no_room
reserve_left (x ∷ xs) = with_room (needs_left x) (reserve_left xs)

abbrev pub FitsLeft : Left → Type 0
FitsLeft (Events event n) = Unit {0}
FitsLeft (Microframes n) = Unit {0}
FitsLeft (Answer ended n) = Unit {0}
FitsLeft (Command n cmd) = IsFitCommand cmd
FitsLeft (Plugs there port) = Unit {0}

record IsReady (rules : Rules) (w : World) (orders : List Left) : Type 0 where
  rules_stand : w.driver.periodic.plan.rules ≡ rules
  budgets : KeepsBudgets (account_of w.driver)
  room : HasRoomFor w.driver.room (reserve_left orders)
  fits : AllByRecursion FitsLeft orders

-- an order that needs no room ends, or goes on after an event
ends : (rules : Rules) (w : World) (x : Left) (rest : List Left) → needs_left x ≡ no_room → IsReady rules w (x ∷ rest) → IsReady rules w rest
unfolding reserve_left
ends rules w x rest none h = record {
  rules_stand = h.rules_stand;
  budgets = h.budgets;
  room = rest_room w.driver.room (reserve_left rest) (subst (λ r. HasRoomFor w.driver.room (with_room r (reserve_left rest))) none h.room);
  fits = h.fits.1;
}

goes_on : (rules : Rules) (fixed : Fixed) (w : World) (event : Event) (x y : Left) (rest : List Left) → needs_left x ≡ no_room → needs_left y ≡ no_room → FitsLeft y → IsReady rules w (x ∷ rest) → IsReady rules (next fixed w event) (y ∷ rest)
unfolding reserve_left
goes_on rules fixed w event x y rest one two fit h = record {
  rules_stand = next_rules fixed w event ∙ h.rules_stand;
  budgets = next_kept fixed w event h.budgets;
  room =
      subst (λ r. HasRoomFor r (with_room (needs_left y) (reserve_left rest))) (sym (next_room fixed w event))
      (subst (λ r. HasRoomFor w.driver.room (with_room r (reserve_left rest))) (one ∙ sym two) h.room);
  fits = (fit, h.fits.1);
}

command_ready : (rules : Rules) (w : World) (n : ℕ) (cmd : Cmd) (rest : List Left) → IsReady rules w (Command n cmd ∷ rest) → IsReady rules (commanded w n cmd) rest
unfolding reserve_left
command_ready rules w n cmd rest h = record {
  rules_stand = answered_rules w n (name_in cmd) cmd (offered w.driver w.memory cmd) refl ∙ h.rules_stand;
  budgets = commanded_kept w n cmd (can_offer w.driver.room cmd h.fits.0 (less_room w.driver.room (needs cmd) (reserve_left rest) h.room)) h.budgets;
  room = command_leaves w n cmd (reserve_left rest) h.fits.0 h.room;
  fits = h.fits.1;
}

abbrev IsReadyAt : Rules → OrderedWorld → Type 0
IsReadyAt rules p = IsReady rules p.world p.orders

by_ready : (rules : Rules) (fixed : Fixed) (w : World) (x : Left) (rest : List Left) → IsReady rules w (x ∷ rest) → IsReadyAt rules (tick_by fixed w x rest)
by_ready rules fixed w (Events event zero) rest h = ends rules w (Events event zero) rest refl h
by_ready rules fixed w (Events event (suc n)) rest h = goes_on rules fixed w event (Events event (suc n)) (Events event n) rest refl refl tt h
by_ready rules fixed w (Microframes zero) rest h = ends rules w (Microframes zero) rest refl h
by_ready rules fixed w (Microframes (suc n)) rest h = goes_on rules fixed w events.C (Microframes (suc n)) (Answer _ (suc n)) rest refl refl tt h
by_ready rules fixed w (Answer ended n) rest h = goes_on rules fixed w events.D (Answer ended n) (Microframes (fewer ended n)) rest refl refl tt h
by_ready rules fixed w (Command n cmd) rest h = command_ready rules w n cmd rest h
by_ready rules fixed w (Plugs there port) rest h = ends rules w (Plugs there port) rest refl h

at_ready : (rules : Rules) (fixed : Fixed) (w : World) (orders : List Left) → IsReady rules w orders → IsReadyAt rules (tick_at fixed w orders)
at_ready rules fixed w [] h = h
at_ready rules fixed w (x ∷ rest) h = by_ready rules fixed w x rest h

all_ready : (rules : Rules) (fixed : Fixed) (p : OrderedWorld) (k : ℕ) → IsReadyAt rules p → IsReadyAt rules (ticks fixed p k)
unfolding ticks
all_ready rules fixed p zero h = h
all_ready rules fixed p (suc k) h = all_ready rules fixed (tick fixed p) k (at_ready rules fixed p.world p.orders h)

-- ---- what that says of opens

open_room : (rules : Rules) (w : World) (orders : List Left) (n : ℕ) (x : EpDesc) (rest : List Left) → orders ≡ Command n (OpenEp x) ∷ rest → IsReady rules w orders → 1 ≤ w.driver.room.endpoints
unfolding reserve_left
open_room rules w orders n x rest is h =
    let room : HasRoomFor w.driver.room (with_room (needs (OpenEp x)) (reserve_left rest)) = subst (λ (os : List Left). HasRoomFor w.driver.room (reserve_left os)) is h.room in
    (less_room w.driver.room (needs (OpenEp x)) (reserve_left rest) room).endpoints

admits : (rules : Rules) (w : World) (orders : List Left) → IsReady rules w orders → AdmitsExactly rules (at_place w orders)
admits rules w orders h = record {
  rules_stand = h.rules_stand;
  fits = h.budgets.fits;
  refused = λ n x rest is passes. refused_where_none_fits w.driver w.memory x h.budgets (open_room rules w orders n x rest is h) passes;
}

-- ---- the lines of a script

line_needs : (l : Line) (n : ℕ) → needs_left (left_of l n) ≡ needs_line l
line_needs (lines.Order event count) n = refl
line_needs _ n = refl

pub lines_need : (xs : List (ℕ × Line)) → reserve_left (orders_of xs) ≡ reserve_of xs
unfolding reserve_left
lines_need [] = refl
lines_need (x ∷ xs) =
    ap (λ r. with_room r (reserve_left (orders_of xs))) (line_needs x.1 x.0)
    ∙ ap (with_room (needs_line x.1)) (lines_need xs)

line_fits : (l : Line) (n : ℕ) → IsFitLine l → FitsLeft (left_of l n)
line_fits (lines.Command cmd) n h = h
line_fits _ n h = tt

pub lines_fit : (xs : List (ℕ × Line)) → AllByRecursion (λ x. IsFitLine x.1) xs → AllByRecursion FitsLeft (orders_of xs)
lines_fit [] h = tt
lines_fit (x ∷ xs) h = (line_fits x.1 x.0 h.0, lines_fit xs h.1)

pub run_admits : (fixed : Fixed) (w : World) (xs : List (ℕ × Line)) → KeepsBudgets (account_of w.driver) → HasRoomFor w.driver.room (reserve_of xs) → AllByRecursion (λ x. IsFitLine x.1) xs
    → (k : ℕ) → AdmitsExactly w.driver.periodic.plan.rules (ticks fixed (at_place w (orders_of xs)) k)
run_admits fixed w xs budgets room fits k =
    let p : OrderedWorld = ticks fixed (at_place w (orders_of xs)) k in
    let rules : Rules = w.driver.periodic.plan.rules in
    admits rules p.world p.orders (all_ready rules fixed (at_place w (orders_of xs)) k (record {
      rules_stand = refl;
      budgets = budgets;
      room = subst (HasRoomFor w.driver.room) (sym (lines_need xs)) room;
      fits = lines_fit xs fits;
    }))

-- each moment of the run of a script that fits
pub script_admits : (s : Script) → IsFit s → AdmitsThroughout s
script_admits s fit k =
    run_admits (fixed_of s) (opening_world s) s.lines (opening_keeps_budgets s.words (room_of_script s)) (room_of_all s) fit.lines k
