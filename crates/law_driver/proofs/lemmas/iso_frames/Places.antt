-- Each placement of the plan is a place, of the period that was asked.
use Rattle.std.proofs.Common.{◌≡◌, ℕ, Bool, true, false, cond, nat_lt, List, [], ◌∷◌, ◌++◌, length, filter, slice_get, Option, Some, None, Result, Ok, Err, refl, ap, sym, subst, ◌∙◌}
use Rattle.std.specs.Prelude.{IfOk}
use Rattle.std.specs.List.{AllByRecursion}
use Rattle.std.proofs.lemmas.Result.{IfOk-at_ok}
use Rattle.std.proofs.lemmas.Bool.{false≢true}
use Rattle.law_admission.proofs.Common.{refused_again}
use Rattle.law_driver.proofs.Common.{all_at}
use Rattle.law_common.proofs.Lists.{all_both}
use Rattle.usb_base.specs.declared.packets.EpKind.{EpKind}
use Rattle.usb_base.specs.declared.packets.EpKind.TheVariants as kinds
use Rattle.usb_base.specs.declared.endpoints.EpDesc.{EpDesc}
use Rattle.usb_base.specs.declared.commands.Cmd.{Cmd}
use Rattle.usb_base.specs.declared.commands.Cmd.TheVariants as commands
use Rattle.usb_base.specs.declared.reports.OfferError.{OfferError}
use Rattle.usb_base.specs.declared.reports.OfferError.TheVariants as errors
use Rattle.word_mem.specs.Memory.{Mem}
use Rattle.mem_runs.specs.Book.{Holding, holding}
use Rattle.bandwidth.specs.declared.placements.Want.{Want}
use Rattle.bandwidth.specs.declared.placements.Placement.{Placement}
use Rattle.bandwidth.specs.declared.placements.Placed.{Placed as Counted}
use Rattle.bandwidth.specs.declared.placements.Refused.{Refused}
use Rattle.bandwidth.specs.declared.placements.Refused.TheVariants as refusals
use Rattle.bandwidth.specs.Placements.{IsWant, IsPlace}
use Rattle.bandwidth.specs.Admission.{Admissions, best, chosen, answer}
use Rattle.bandwidth.proofs.Admits.{IsOption, best_option}
use Rattle.drv_periodic_table.specs.declared.content.Removed.TheVariants as removed
use Rattle.drv_periodic_table.specs.Periodic.{is_periodic, want_of}
use Rattle.drv_table.specs.declared.content.Endpoint.{Endpoint}
use Rattle.drv_table.specs.declared.rows.DriverRow.{DriverRow}
use Rattle.drv_table.specs.declared.rows.DriverRow.TheVariants as rows
use Rattle.drv_table.specs.DriverContent.{DriverContent, busy, endpoint_named}
use Rattle.drv_table.specs.Parts.{Parts}
use Rattle.drv_table.specs.Rows.{driver_row, after_driver_row}
use Rattle.drv_table.specs.Accepting.{Offered, take_runs}
use Rattle.drv_table.specs.Offers.{taken_open, taken_chain, placed_open, planned_open, offered_open, offered_next, offered, IsOpened, IsOffered}
use Rattle.law_admission.specs.Budgets.{Account, account_of, taken_out, account_after}
use Rattle.law_admission.proofs.Events.{events_take_out_what_left}
use Rattle.law_admission.proofs.Commands.{commands_place_the_best}
use Rattle.claims_driver.specs.Leaving.{HasOwners}
use Rattle.claims_driver.specs.FrameListMembers.{Framed, framed_in}
use Rattle.law_driver.specs.planned_endpoints.Planned.{IsPlanned}
use Rattle.law_driver.proofs.lemmas.planned_endpoints.Laws.{endpoints_count_until_given_back}
use Rattle.law_driver.specs.iso_frames.Frames.{HasPlace, ArePlaces}
use Rattle.law_driver.proofs.lemmas.iso_frames.Framing.{framed_at}

-- ---- lists

all_filtered : (P : Counted → Type 0) (test : Counted → Bool) (ps : List Counted) → AllByRecursion P ps → AllByRecursion P (filter test ps)
all_filtered P test [] h = tt
all_filtered P test (y ∷ ps) h = at (test y) (all_filtered P test ps h.1)
  where
    at : (b : Bool) → AllByRecursion P (filter test ps) → AllByRecursion P (cond b (y ∷ filter test ps) (filter test ps))
    at true rest = (h.0, rest)
    at false rest = rest

-- ---- an event

out_places : (a : Account) (e : ℕ) (o : Option Endpoint) → ArePlaces a.plan.placed → ArePlaces (taken_out a e o).plan.placed
out_places a e None h = h
out_places a e (Some x) h = all_filtered HasPlace _ a.plan.placed h

after_places : (row : DriverRow) (d : DriverContent) → ArePlaces d.periodic.plan.placed → ArePlaces (account_after row d).plan.placed
after_places (rows.ReleaseRemoved (removed.Endpoint e)) d h = out_places (account_of d) e (slice_get d.endpoints e) h
after_places _ d h = h

pub event_places : (p : Parts) → ArePlaces p.driver.periodic.plan.placed → ArePlaces (after_driver_row (driver_row p) p).driver.periodic.plan.placed
event_places p h = subst (λ (a : Account). ArePlaces a.plan.placed) (sym (events_take_out_what_left (driver_row p) p)) (after_places (driver_row p) p.driver h)

-- ---- an open

abbrev Places : Offered → Type 0
Places o = ArePlaces o.driver.periodic.plan.placed

chosen_is : (o : Option Placement) (p : Placement) → chosen o ≡ Ok p → o ≡ Some p
chosen_is None p f = absurd (cc)
chosen_is (Some q) p f = ap Some (same q p f)
  where
    same : (q p : Placement) → ◌≡◌ {A = Result Placement Refused} (Ok q) (Ok p) → q ≡ p
    same q p f = cc

answered_best : (a : Admissions) (w : Want) (p : Placement) (b : Bool) → cond b (chosen (best a.rules a.placed w)) (Err refusals.Room) ≡ Ok p → best a.rules a.placed w ≡ Some p
answered_best a w p true f = chosen_is (best a.rules a.placed w) p f
answered_best a w p false f = absurd (cc)

answered_option : (a : Admissions) (w : Want) (p : Placement) → IsWant w → answer a w ≡ Ok p → IsOption w p
answered_option a w p want f = best_option a.rules a.placed w p want (answered_best a w p (nat_lt (length a.placed) a.room) f)

opened_places : (d : DriverContent) (x : EpDesc) (r : Result Holding OfferError) → ArePlaces d.periodic.plan.placed → IfOk (taken_open d x r) Places
opened_places d x (Err why) h = tt
opened_places d x (Ok g) h = h

one_more : (d : DriverContent) (x : EpDesc) (p : Placement) → IsOption (want_of (length d.endpoints) x) p → ArePlaces d.periodic.plan.placed → ArePlaces (d.periodic.plan.placed ++ record { want = want_of (length d.endpoints) x; placement = p } ∷ [])
one_more d x p option h =
    all_both HasPlace d.periodic.plan.placed (record { want = want_of (length d.endpoints) x; placement = p } ∷ []) h
    (record { place = option.place; period = ap (λ (q : Placement). q.period) option.at }, tt)

chain_places : (d : DriverContent) (x : EpDesc) (p : Placement) (r : Result Holding OfferError) → IsOption (want_of (length d.endpoints) x) p → ArePlaces d.periodic.plan.placed → IfOk (taken_chain d x p r) Places
chain_places d x p (Err why) option h = tt
chain_places d x p (Ok g) option h = one_more d x p option h

place_places : (d : DriverContent) (m : Mem) (x : EpDesc) (p : Placement) (k : EpKind) → IsOption (want_of (length d.endpoints) x) p → ArePlaces d.periodic.plan.placed → IfOk (placed_open d m x p k) Places
place_places d m x p kinds.Iso option h = one_more d x p option h
place_places d m x p _ option h = chain_places d x p (take_runs (holding d.book m) (2 ∷ 1 ∷ [])) option h

plan_places : (d : DriverContent) (m : Mem) (x : EpDesc) (r : Result Placement Refused) → answer d.periodic.plan (want_of (length d.endpoints) x) ≡ r → IsWant (want_of 0 x) → ArePlaces d.periodic.plan.placed → IfOk (planned_open d m x r) Places
plan_places d m x (Err why) is want h = tt
plan_places d m x (Ok p) is want h =
    let w : IsWant (want_of (length d.endpoints) x) = record { period = want.period; frames = want.frames; some_bytes = want.some_bytes; bytes = want.bytes; some_multi = want.some_multi; multi = want.multi; hub = want.hub; tt = want.tt } in
    place_places d m x p x.kind (answered_option d.periodic.plan (want_of (length d.endpoints) x) p w is) h

new_places : (d : DriverContent) (m : Mem) (x : EpDesc) (b : Bool) → is_periodic x.kind ≡ b → IsOpened x → ArePlaces d.periodic.plan.placed
    → IfOk (cond b (planned_open d m x (answer d.periodic.plan (want_of (length d.endpoints) x))) (taken_open d x (take_runs (holding d.book m) (2 ∷ 1 ∷ [])))) Places
new_places d m x true periodic want h = plan_places d m x (answer d.periodic.plan (want_of (length d.endpoints) x)) refl (want periodic) h
new_places d m x false ring want h = opened_places d x (take_runs (holding d.book m) (2 ∷ 1 ∷ [])) h

open_places : (d : DriverContent) (m : Mem) (x : EpDesc) (q : Option Endpoint) → IsOpened x → ArePlaces d.periodic.plan.placed → IfOk (offered_open d m x q) Places
open_places d m x (Some old) want h = refused_again Places old.ended
open_places d m x None want h = new_places d m x (is_periodic x.kind) refl want h

busy_or : (b : Bool) (r : Result Offered OfferError) → IfOk r Places → IfOk (cond b (Err errors.Busy) r) Places
busy_or true r h = tt
busy_or false r h = h

same_plan : (d : DriverContent) (o : Offered) → account_of o.driver ≡ account_of d → ArePlaces d.periodic.plan.placed → Places o
same_plan d o e h = subst (λ (a : Account). ArePlaces a.plan.placed) (sym e) h

pub command_places : (d : DriverContent) (m : Mem) (cmd : Cmd) (o : Offered) → IsOffered d.room cmd → offered d m cmd ≡ Ok o → ArePlaces d.periodic.plan.placed → ArePlaces o.driver.periodic.plan.placed
command_places d m (commands.OpenEp x) o may is h = IfOk-at_ok Places is (busy_or (busy d) (offered_next d m (commands.OpenEp x)) (open_places d m x (endpoint_named d x.name) may.3 h))
command_places d m (commands.Get name len by) o may is h = same_plan d o (commands_place_the_best d m (commands.Get name len by) o is) h
command_places d m (commands.Put name bytes by) o may is h = same_plan d o (commands_place_the_best d m (commands.Put name bytes by) o is) h
command_places d m (commands.Control name setup bytes) o may is h = same_plan d o (commands_place_the_best d m (commands.Control name setup bytes) o is) h
command_places d m (commands.Iso name count len seed) o may is h = same_plan d o (commands_place_the_best d m (commands.Iso name count len seed) o is) h
command_places d m (commands.Cancel name) o may is h = same_plan d o (commands_place_the_best d m (commands.Cancel name) o is) h
command_places d m (commands.Clear name) o may is h = same_plan d o (commands_place_the_best d m (commands.Clear name) o is) h
command_places d m (commands.Reset port) o may is h = same_plan d o (commands_place_the_best d m (commands.Reset port) o is) h
command_places d m (commands.Give port) o may is h = same_plan d o (commands_place_the_best d m (commands.Give port) o is) h
command_places d m (commands.DiskRead addr lba count) o may is h = same_plan d o (commands_place_the_best d m (commands.DiskRead addr lba count) o is) h
command_places d m (commands.DiskWrite addr lba bytes) o may is h = same_plan d o (commands_place_the_best d m (commands.DiskWrite addr lba bytes) o is) h
command_places d m (commands.Revive addr) o may is h = same_plan d o (commands_place_the_best d m (commands.Revive addr) o is) h

-- ---- the placement of an endpoint in its frames

pub record IsWell (d : DriverContent) (e : ℕ) (x : Framed) (p : Placement) : Type 0 where
  pub endpoint : Endpoint
  pub here : slice_get d.endpoints e ≡ Some endpoint
  pub place : IsPlace p
  pub period : p.period ≡ endpoint.desc.period

pub is_well : (d : DriverContent) → HasOwners d → IsPlanned d → ArePlaces d.periodic.plan.placed → (e : ℕ) (x : Framed) (p : Placement) → framed_in d.endpoints e ≡ Some x → x.chained ≡ true → x.placement ≡ Some p → IsWell d e x p
is_well d has planned places e x p here chained placed =
    let s = framed_at d e x here in
    let on : s.endpoint.chained ≡ true = ap (λ (w : Framed). w.chained) (sym s.is) ∙ chained in
    let kept : s.endpoint.gone ≡ false = alive s.endpoint.gone (λ g. ((has.orderly.steady e s.endpoint s.here).gone g).1) on in
    let at = endpoints_count_until_given_back d e s.endpoint p planned s.here kept (ap (λ (w : Framed). w.placement) (sym s.is) ∙ placed) in
    let h = all_at HasPlace d.periodic.plan.placed at.place _ places at.there in
    record { endpoint = s.endpoint; here = s.here; place = h.place; period = h.period }
  where
    alive : {c : Bool} (g : Bool) → (g ≡ true → c ≡ false) → c ≡ true → g ≡ false
    alive true h on = absurd (false≢true (sym (h refl) ∙ on))
    alive false h on = refl
