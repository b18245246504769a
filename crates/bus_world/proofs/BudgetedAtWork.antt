-- Along a run whose driver may be at a job the budgets are kept: each event and command keeps them, and there is room for the opens that
-- are still ordered.
use Rattle.std.proofs.Common.{◌≡◌, ℕ, zero, suc, ◌≤◌, List, [], ◌∷◌, Option, None, Result, Ok, Err}
use Rattle.std.proofs.Common.{refl, ap, sym, subst, ◌∙◌, arith}
use Rattle.std.specs.Prelude.{◌↔◌}
use Rattle.std.specs.List.{AllByRecursion}
use Rattle.usb_base.specs.declared.commands.Cmd.{Cmd}
use Rattle.usb_base.specs.declared.commands.Cmd.TheVariants as commands
use Rattle.usb_base.specs.declared.endpoints.EpDesc.{EpDesc}
use Rattle.usb_base.specs.declared.endpoints.EpName.{EpName}
use Rattle.usb_base.specs.declared.reports.OfferError.{OfferError}
use Rattle.usb_base.specs.declared.reports.OfferError.TheVariants as errors
use Rattle.usb_base.specs.declared.rules.Rules.{Rules}
use Rattle.script_types.specs.declared.scripts.Event.{Event}
use Rattle.script_types.specs.declared.scripts.Event.TheVariants as events
use Rattle.script_types.specs.declared.scripts.Line.{Line}
use Rattle.script_types.specs.declared.scripts.Script.{Script}
use Rattle.bus_wire.specs.Bus.{Fixed, fixed_of}
use Rattle.drv_table.specs.Accepting.{Offered}
use Rattle.drv_table.specs.Offers.{offered}
use Rattle.drv_table.specs.PeriodicOpens.{BreaksBudgets}
use Rattle.drv_jobs.specs.declared.jobs.Job.{Job}
use Rattle.drv_jobs.specs.declared.jobs.JobRow.{JobRow}
use Rattle.drv_jobs.specs.declared.jobs.JobRow.TheVariants as rows
use Rattle.drv_jobs.specs.AtWork.{free_room}
use Rattle.drv_jobs.specs.Jobs.{job_row, after_job_row}
use Rattle.drv_jobs.specs.JobOffers.{OfferedAny, IsOfferedAny, offered_any, without_job}
use Rattle.script_fits.specs.Fits.{IsFit, IsFitLine}
use Rattle.law_admission.specs.Budgets.{account_of, KeepsBudgets}
use Rattle.law_admission.proofs.Budgets.{opening_keeps_budgets}
use Rattle.law_admission.proofs.Refusals.{refused_where_none_fits}
use Rattle.bus_world.specs.World.{name_in}
use Rattle.bus_world.specs.Orders.{Left, Events, Microframes, Answer, Command, Plugs, orders_of, fewer}
use Rattle.bus_world.specs.Rooms.{needs, no_room, with_room, reserve_of, room_of_script, HasRoomFor}
use Rattle.bus_world.specs.AtWork.{WorldAtWork, parts_of, with_work, reset_by, driver_next_by, next_at_work, driver_of, room_in, answered_at_work}
use Rattle.bus_world.specs.AtWork.{commanded_at_work}
use Rattle.bus_world.specs.RunsAtWork.{PlaceAtWork, place_at_work, tick_by_at_work, tick_from_at_work, tick_at_work, ticks_at_work}
use Rattle.bus_world.specs.RunsAtWork.{opening_at_work}
use Rattle.bus_world.specs.BudgetsAtWork.{AdmitsExactlyAtWork, IsRefusedExactlyAtWork, AdmitsAtWork}
use Rattle.bus_world.proofs.Budgeted.{needs_left, reserve_left, FitsLeft, lines_need, lines_fit}
use Rattle.bus_world.proofs.PlainRuns.{offer_plain}
use Rattle.bus_world.proofs.KeptAtWork.{KeepsWork, work_keeps}
use Rattle.bus_world.proofs.OffersAtWork.{IsWell, offer_well}
use Rattle.bus_world.proofs.Rooming.{less_room, rest_room, room_of_all}
use Rattle.bus_world.proofs.RoomsAtWork.{work_leaves, can_offer_any}

-- ---- one event

-- what an event keeps of a world
record Kept (w v : WorldAtWork) : Type 0 where
  budgets : KeepsBudgets (account_of w.world.driver) → KeepsBudgets (account_of v.world.driver)
  room : free_room (driver_of v) ≡ free_room (driver_of w)
  rules : v.world.driver.periodic.plan.rules ≡ w.world.driver.periodic.plan.rules

reset_kept : (row : JobRow) (w v : WorldAtWork) → Kept w v → Kept w (reset_by row v)
reset_kept (rows.Resets name) w v k = record { budgets = k.budgets; room = k.room; rules = k.rules }
reset_kept (rows.Plain row) w v k = k
reset_kept (rows.EndsRequest h t n what) w v k = k
reset_kept (rows.ReadsFrame n) w v k = k
reset_kept (rows.Mends m) w v k = k
reset_kept (rows.Reopens e) w v k = k

driver_kept : (w : WorldAtWork) (row : JobRow) → KeepsWork row (parts_of w) (after_job_row row (parts_of w)) → Kept w (driver_next_by row w)
driver_kept w row k =
    reset_kept row w (with_work w (after_job_row row (parts_of w))) (record { budgets = k.budgets; room = k.room; rules = k.rules })

next_kept : (fixed : Fixed) (w : WorldAtWork) (event : Event) → Kept w (next_at_work fixed w event)
next_kept fixed w events.D = driver_kept w (job_row (parts_of w)) (work_keeps (parts_of w))
next_kept fixed w events.C = record { budgets = λ h. h; room = refl; rules = refl }

-- what of the driver's reserve is free stays
pub next_room : (fixed : Fixed) (w : WorldAtWork) (event : Event) → room_in (next_at_work fixed w event) ≡ room_in w
next_room fixed w event = (next_kept fixed w event).room

-- ---- one command

answered_kept : (w : WorldAtWork) (n : ℕ) (name : EpName) (cmd : Cmd) (x : Result OfferedAny OfferError)
    → ((o : OfferedAny) → x ≡ Ok o → IsWell w.world.driver o) → KeepsBudgets (account_of w.world.driver)
    → KeepsBudgets (account_of (answered_at_work w n name x).world.driver)
answered_kept w n name cmd (Ok o) well h = (well o refl).budgets h
answered_kept w n name cmd (Err why) well h = record { fits = h.fits; room = h.room }

answered_rules : (w : WorldAtWork) (n : ℕ) (name : EpName) (cmd : Cmd) (x : Result OfferedAny OfferError)
    → ((o : OfferedAny) → x ≡ Ok o → IsWell w.world.driver o)
    → (answered_at_work w n name x).world.driver.periodic.plan.rules ≡ w.world.driver.periodic.plan.rules
answered_rules w n name cmd (Ok o) well = (well o refl).rules
answered_rules w n name cmd (Err why) well = refl

-- ---- what is left of the orders

record IsReady (rules : Rules) (w : WorldAtWork) (orders : List Left) : Type 0 where
  rules_stand : w.world.driver.periodic.plan.rules ≡ rules
  budgets : KeepsBudgets (account_of w.world.driver)
  room : HasRoomFor (free_room (driver_of w)) (reserve_left orders)
  fits : AllByRecursion FitsLeft orders

-- an order that needs no room ends, or goes on after an event
ends : (rules : Rules) (w : WorldAtWork) (x : Left) (rest : List Left) → needs_left x ≡ no_room → IsReady rules w (x ∷ rest)
    → IsReady rules w rest
unfolding reserve_left
ends rules w x rest none h = record {
  rules_stand = h.rules_stand;
  budgets = h.budgets;
  room = rest_room (free_room (driver_of w)) (reserve_left rest)
      (subst (λ r. HasRoomFor (free_room (driver_of w)) (with_room r (reserve_left rest))) none h.room);
  fits = h.fits.1;
}

goes_on : (rules : Rules) (fixed : Fixed) (w : WorldAtWork) (event : Event) (x y : Left) (rest : List Left) → needs_left x ≡ no_room
    → needs_left y ≡ no_room → FitsLeft y → IsReady rules w (x ∷ rest) → IsReady rules (next_at_work fixed w event) (y ∷ rest)
unfolding reserve_left
goes_on rules fixed w event x y rest one two fit h =
    let k : Kept w (next_at_work fixed w event) = next_kept fixed w event in
    record {
      rules_stand = k.rules ∙ h.rules_stand;
      budgets = k.budgets h.budgets;
      room =
          subst (λ r. HasRoomFor r (with_room (needs_left y) (reserve_left rest))) (sym k.room)
          (subst (λ r. HasRoomFor (free_room (driver_of w)) (with_room r (reserve_left rest))) (one ∙ sym two) h.room);
      fits = (fit, h.fits.1);
    }

command_ready : (rules : Rules) (w : WorldAtWork) (n : ℕ) (cmd : Cmd) (rest : List Left) → IsReady rules w (Command n cmd ∷ rest)
    → IsReady rules (commanded_at_work w n cmd) rest
unfolding reserve_left
command_ready rules w n cmd rest h =
    let has : HasRoomFor (free_room (driver_of w)) (needs cmd) =
    less_room (free_room (driver_of w)) (needs cmd) (reserve_left rest) h.room in
    let may : IsOfferedAny (free_room (driver_of w)) cmd = can_offer_any (free_room (driver_of w)) cmd h.fits.0 has in
    let well : (o : OfferedAny) → offered_any (driver_of w) w.world.memory cmd ≡ Ok o → IsWell w.world.driver o =
    λ o is. offer_well (driver_of w) w.world.memory cmd o may is in
    record {
      rules_stand = answered_rules w n (name_in cmd) cmd (offered_any (driver_of w) w.world.memory cmd) well ∙ h.rules_stand;
      budgets = answered_kept w n (name_in cmd) cmd (offered_any (driver_of w) w.world.memory cmd) well h.budgets;
      room = work_leaves w n cmd (reserve_left rest) h.fits.0 h.room;
      fits = h.fits.1;
    }

abbrev IsReadyAt : Rules → PlaceAtWork → Type 0
IsReadyAt rules p = IsReady rules p.work p.orders

by_ready : (rules : Rules) (fixed : Fixed) (w : WorldAtWork) (x : Left) (rest : List Left) → IsReady rules w (x ∷ rest)
    → IsReadyAt rules (tick_by_at_work fixed w x rest)
by_ready rules fixed w (Events event zero) rest h = ends rules w (Events event zero) rest refl h
by_ready rules fixed w (Events event (suc n)) rest h =
    goes_on rules fixed w event (Events event (suc n)) (Events event n) rest refl refl tt h
by_ready rules fixed w (Microframes zero) rest h = ends rules w (Microframes zero) rest refl h
by_ready rules fixed w (Microframes (suc n)) rest h =
    goes_on rules fixed w events.C (Microframes (suc n)) (Answer _ (suc n)) rest refl refl tt h
by_ready rules fixed w (Answer ended n) rest h =
    goes_on rules fixed w events.D (Answer ended n) (Microframes (fewer ended n)) rest refl refl tt h
by_ready rules fixed w (Command n cmd) rest h = command_ready rules w n cmd rest h
by_ready rules fixed w (Plugs there port) rest h = ends rules w (Plugs there port) rest refl h

at_ready : (rules : Rules) (fixed : Fixed) (w : WorldAtWork) (orders : List Left) → IsReady rules w orders
    → IsReadyAt rules (tick_from_at_work fixed w orders)
at_ready rules fixed w [] h = h
at_ready rules fixed w (x ∷ rest) h = by_ready rules fixed w x rest h

all_ready : (rules : Rules) (fixed : Fixed) (p : PlaceAtWork) (k : ℕ) → IsReadyAt rules p → IsReadyAt rules (ticks_at_work fixed p k)
unfolding ticks_at_work
all_ready rules fixed p zero h = h
all_ready rules fixed p (suc k) h = all_ready rules fixed (tick_at_work fixed p) k (at_ready rules fixed p.work p.orders h)

-- ---- what that says of opens

open_room : (rules : Rules) (w : WorldAtWork) (orders : List Left) (n : ℕ) (x : EpDesc) (rest : List Left)
    → orders ≡ Command n (commands.OpenEp x) ∷ rest → IsReady rules w orders → 1 ≤ w.world.driver.room.endpoints
unfolding reserve_left
open_room rules w orders n x rest is h =
    let room : HasRoomFor (free_room (driver_of w)) (with_room (needs (commands.OpenEp x)) (reserve_left rest)) =
    subst (λ (os : List Left). HasRoomFor (free_room (driver_of w)) (reserve_left os)) is h.room in
    (less_room (free_room (driver_of w)) (needs (commands.OpenEp x)) (reserve_left rest) room).endpoints

-- with no job an open is answered as by the driver alone
err_of : (x : Result Offered OfferError) (why : OfferError) → without_job x ≡ Err why → x ≡ Err why
err_of (Ok o) why e = absurd cc
err_of (Err other) why e = let same : other ≡ why = cc in ap Err same

jobless_answer : (w : WorldAtWork) (x : EpDesc) → w.job ≡ None
    → offered_any (driver_of w) w.world.memory (commands.OpenEp x) ≡ without_job (offered w.world.driver w.world.memory (commands.OpenEp x))
jobless_answer w x none =
    ap (λ (j : Option Job). offered_any (record { driver = w.world.driver; job = j }) w.world.memory (commands.OpenEp x)) none
    ∙ offer_plain w.world (commands.OpenEp x) tt

refused_exactly : (w : WorldAtWork) (x : EpDesc) → w.job ≡ None
    → (offered w.world.driver w.world.memory (commands.OpenEp x) ≡ Err errors.NoPlacement) ↔ BreaksBudgets w.world.driver x
    → IsRefusedExactlyAtWork w x
refused_exactly w x none alone =
    let same = jobless_answer w x none in (
      λ e. alone.0 (err_of (offered w.world.driver w.world.memory (commands.OpenEp x)) errors.NoPlacement (sym same ∙ e)),
      λ all. same ∙ ap without_job (alone.1 all),
    )

admits : (rules : Rules) (w : WorldAtWork) (orders : List Left) → IsReady rules w orders
    → AdmitsExactlyAtWork rules (place_at_work w orders)
admits rules w orders h = record {
  rules_stand = h.rules_stand;
  fits = h.budgets.fits;
  refused = λ n x rest is none passes. refused_exactly w x none
      (refused_where_none_fits w.world.driver w.world.memory x h.budgets (open_room rules w orders n x rest is h) passes);
}

-- ---- the lines of a script

-- the whole reserve of a driver without a job is free
free_opening : (s : Script) → HasRoomFor (free_room (driver_of (opening_at_work s))) (reserve_of s.lines)
free_opening s =
    let all : HasRoomFor (room_of_script s) (reserve_of s.lines) = room_of_all s in
    record { endpoints = all.endpoints; transfers = all.transfers; reports = omega (arith, all.reports); report_bytes = all.report_bytes }

pub run_admits_at_work : (fixed : Fixed) (w : WorldAtWork) (xs : List (ℕ × Line)) → KeepsBudgets (account_of w.world.driver)
    → HasRoomFor (room_in w) (reserve_of xs) → AllByRecursion (λ x. IsFitLine x.1) xs → (k : ℕ)
    → AdmitsExactlyAtWork w.world.driver.periodic.plan.rules (ticks_at_work fixed (place_at_work w (orders_of xs)) k)
run_admits_at_work fixed w xs budgets room fits k =
    let p : PlaceAtWork = ticks_at_work fixed (place_at_work w (orders_of xs)) k in
    let rules : Rules = w.world.driver.periodic.plan.rules in
    admits rules p.work p.orders (all_ready rules fixed (place_at_work w (orders_of xs)) k (record {
      rules_stand = refl;
      budgets = budgets;
      room = subst (HasRoomFor (room_in w)) (sym (lines_need xs)) room;
      fits = lines_fit xs fits;
    }))

-- each moment of the run of a script that fits
pub scripts_admit_at_work : (s : Script) → IsFit s → AdmitsAtWork s
scripts_admit_at_work s fit k =
    run_admits_at_work (fixed_of s) (opening_at_work s) s.lines (opening_keeps_budgets s.words (room_of_script s)) (free_opening s) fit.lines k
