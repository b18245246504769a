-- What becomes of a command, by what stands in the driver.
use Rattle.std.proofs.Common.{◌≡◌, ℕ, ◌-◌, ◌*◌, ◌≤◌, Bool, true, false, nat_eq, nat_lt, cond, List, [], ◌∷◌, ◌++◌, length, take, drop, get_or, set, Some, None, Result, Ok, Err, unwrap_or, arith, ap, sym, subst, ◌∙◌}
use Rattle.std.proofs.lemmas.Bool.Decides.{nat_tests}
use Rattle.usb_base.specs.declared.endpoints.EpName.{EpName}
use Rattle.usb_base.specs.declared.endpoints.EpDesc.{EpDesc}
use Rattle.usb_base.specs.declared.endpoints.EndCause.TheVariants as causes
use Rattle.usb_base.specs.declared.reports.OfferError.{OfferError}
use Rattle.usb_base.specs.declared.reports.OfferError.TheVariants as errors
use Rattle.word_mem.specs.Memory.{Mem}
use Rattle.qh_qtd.specs.Qtd.{qtd_words}
use Rattle.mem_runs.specs.Book.{Book, Holding, holding, store_words}
use Rattle.bandwidth.specs.Admission.{answer}
use Rattle.drv_periodic_table.specs.Periodic.{is_periodic, want_of}
use Rattle.drv_table.specs.declared.content.Endpoint.{Endpoint}
use Rattle.drv_table.specs.declared.content.Command.TheVariants as unfinished
use Rattle.drv_table.specs.DriverContent.{DriverContent, endpoint_of, endpoint_named}
use Rattle.drv_table.specs.Harvests.{note_at}
use Rattle.drv_table.specs.Words.{needs, dummy_qtd}
use Rattle.drv_table.specs.Accepting.{Offered, take_runs}
use Rattle.drv_table.specs.Offers.{Asked, offered_open, planned_open, taken_open, accepted_open, offered_transfer, found_transfer, open_transfer, taken_transfer, accepted_transfer, with_queued, with_transfer, stage_words, note_stages, write_stages, send_stages, first_of}
use Rattle.drv_table.specs.CancelOffers.{cancelled_by, offered_cancel}
use Rattle.drv_table.specs.declared.content.Part.TheVariants as parts

-- ---- which endpoint

pub no_such : (d : DriverContent) (m : Mem) (name : EpName) (takes : Endpoint → Bool) (a : Asked) → endpoint_named d name ≡ None → offered_transfer d m name takes a ≡ Err errors.NoEndpoint
no_such d m name takes a none = ap (λ o. found_transfer d m takes a (unwrap_or (endpoint_of d name) 0) o) none

if_taken : DriverContent → Mem → ℕ → Endpoint → Asked → Bool → Result Offered OfferError
if_taken d m e x a b = cond b (open_transfer d m e x a x.ended) (Err errors.NoEndpoint)

at_endpoint : (d : DriverContent) (m : Mem) (name : EpName) (takes : Endpoint → Bool) (a : Asked) (e : ℕ) (x : Endpoint) → endpoint_of d name ≡ Some e → endpoint_named d name ≡ Some x → offered_transfer d m name takes a ≡ if_taken d m e x a (takes x)
unfolding if_taken
at_endpoint d m name takes a e x number there =
    ap (λ o. found_transfer d m takes a (unwrap_or (endpoint_of d name) 0) o) there ∙ ap (λ o. found_transfer d m takes a (unwrap_or o 0) (Some x)) number

pub not_for_it : (d : DriverContent) (m : Mem) (name : EpName) (takes : Endpoint → Bool) (a : Asked) (e : ℕ) (x : Endpoint) → endpoint_of d name ≡ Some e → endpoint_named d name ≡ Some x → takes x ≡ false → offered_transfer d m name takes a ≡ Err errors.NoEndpoint
unfolding if_taken
not_for_it d m name takes a e x number there off = at_endpoint d m name takes a e x number there ∙ ap (λ b. if_taken d m e x a b) off

pub for_it : (d : DriverContent) (m : Mem) (name : EpName) (takes : Endpoint → Bool) (a : Asked) (e : ℕ) (x : Endpoint) (r : Result Offered OfferError) → endpoint_of d name ≡ Some e → endpoint_named d name ≡ Some x → takes x ≡ true → open_transfer d m e x a x.ended ≡ r → offered_transfer d m name takes a ≡ r
unfolding if_taken
for_it d m name takes a e x r number there on this = at_endpoint d m name takes a e x number there ∙ ap (λ b. if_taken d m e x a b) on ∙ this

pub goes_on : (d : DriverContent) (m : Mem) (e : ℕ) (x : Endpoint) (a : Asked) (r : Result Offered OfferError) → x.ended ≡ None → a.most ≤ 20480 → taken_transfer d e x a (take_runs (holding d.book m) (needs a.stages)) ≡ r → open_transfer d m e x a x.ended ≡ r
goes_on d m e x a r going short this =
    let fits : nat_lt 20480 a.most ≡ false = grind (arith, nat_tests) in
    ap (λ o. open_transfer d m e x a o) going ∙ ap (λ b. cond b (Err errors.TooLong) (taken_transfer d e x a (take_runs (holding d.book m) (needs a.stages)))) fits ∙ this

-- ---- a transfer

pub accepted_is : (d d1 d2 : DriverContent) (m m2 : Mem) (e : ℕ) (x : Endpoint) (a : Asked) (runs : List ℕ) (qtds dummy : ℕ) (words : List ℕ) → qtds ≡ length a.stages → dummy ≡ get_or (take (length a.stages) runs) (length a.stages - 1) 0 → d1 ≡ record d { notes = note_stages d.notes a.stages x.dummy (take (length a.stages) runs) (drop (length a.stages) runs) } → words ≡ stage_words d1.notes (first_of a.stages) x.dummy dummy (nat_eq (length a.stages) 1) → m2 ≡ send_stages d.book (store_words d.book (write_stages d.book m d1.notes dummy (drop 1 a.stages) (note_at d1.notes x.dummy).next) dummy (32 * dummy) (qtd_words dummy_qtd)) d1.notes a.stages x.dummy a.bytes → d2 ≡ record d1 { endpoints = set d1.endpoints e (with_queued x dummy (length d1.transfers)); transfers = d1.transfers ++ (record { endpoint = e; sort = a.sort; first = x.dummy; qtds = qtds; place = x.dummy; left = qtds; most = a.most; reported = false; released = false; part = parts.Own }) ∷ []; command = Some (unfinished.Publish x.dummy words); made = 0; room = with_transfer d1.room a.most } → ◌≡◌ {A = Offered} (record { driver = d2; memory = m2 }) (accepted_transfer d e x a (holding d.book m) (get_or (take (length a.stages) runs) (length a.stages - 1) 0) (note_stages d.notes a.stages x.dummy (take (length a.stages) runs) (drop (length a.stages) runs)))
accepted_is d d1 d2 m m2 e x a runs qtds dummy words q1 q2 q3 q4 q5 q6 = cc

-- the runs that were taken after the first `keep`
pub taken_is : (d : DriverContent) (e : ℕ) (x : Endpoint) (a : Asked) (h : Holding) (r : Result Holding OfferError) (keep : ℕ) → r ≡ Ok h → keep ≡ length d.book.taken → taken_transfer d e x a r ≡ Ok (accepted_transfer d e x a h (get_or (take (length a.stages) (drop keep h.book.taken)) (length a.stages - 1) 0) (note_stages d.notes a.stages x.dummy (take (length a.stages) (drop keep h.book.taken)) (drop (length a.stages) (drop keep h.book.taken))))
taken_is d e x a h r keep there same =
    ap (λ o. taken_transfer d e x a o) there
    ∙ ap (λ n. Ok (accepted_transfer d e x a h (get_or (take (length a.stages) (drop n h.book.taken)) (length a.stages - 1) 0) (note_stages d.notes a.stages x.dummy (take (length a.stages) (drop n h.book.taken)) (drop (length a.stages) (drop n h.book.taken))))) (sym same)

pub refused_is : (d : DriverContent) (e : ℕ) (x : Endpoint) (a : Asked) (r : Result Holding OfferError) (why : OfferError) → r ≡ Err why → taken_transfer d e x a r ≡ Err why
refused_is d e x a r why there = ap (λ o. taken_transfer d e x a o) there

-- v is the driver as its fields show it
pub taken_by : (v d : DriverContent) (e : ℕ) (x : Endpoint) (a : Asked) (k : Book) (m q : Mem) (keep : ℕ) (o : Offered) → v ≡ d → take_runs (holding v.book m) (needs a.stages) ≡ Ok (holding k q) → keep ≡ length v.book.taken → o ≡ accepted_transfer (record v { book = k }) e x a (holding k q) (get_or (take (length a.stages) (drop keep k.taken)) (length a.stages - 1) 0) (note_stages v.notes a.stages x.dummy (take (length a.stages) (drop keep k.taken)) (drop (length a.stages) (drop keep k.taken))) → taken_transfer d e x a (take_runs (holding d.book m) (needs a.stages)) ≡ Ok o
taken_by v d e x a k m q keep o same there long this =
    let core : taken_transfer v e x a (take_runs (holding v.book m) (needs a.stages)) ≡ Ok o =
    taken_is v e x a (holding k q) (take_runs (holding v.book m) (needs a.stages)) keep there long ∙ ap Ok (sym this) in
    subst (λ (w : DriverContent). taken_transfer w e x a (take_runs (holding w.book m) (needs a.stages)) ≡ Ok o) same core

pub refused_by : (v d : DriverContent) (e : ℕ) (x : Endpoint) (a : Asked) (m : Mem) (why : OfferError) → v ≡ d → take_runs (holding v.book m) (needs a.stages) ≡ Err why → taken_transfer d e x a (take_runs (holding d.book m) (needs a.stages)) ≡ Err why
refused_by v d e x a m why same there =
    subst (λ (w : DriverContent). taken_transfer w e x a (take_runs (holding w.book m) (needs a.stages)) ≡ Err why) same (refused_is v e x a (take_runs (holding v.book m) (needs a.stages)) why there)

pub takes_it : (d : DriverContent) (m : Mem) (name : EpName) (takes : Endpoint → Bool) (a : Asked) (e : ℕ) (x : Endpoint) (r : Result Offered OfferError) → endpoint_of d name ≡ Some e → endpoint_named d name ≡ Some x → takes x ≡ true → x.ended ≡ None → a.most ≤ 20480 → taken_transfer d e x a (take_runs (holding d.book m) (needs a.stages)) ≡ r → offered_transfer d m name takes a ≡ r
takes_it d m name takes a e x r number there on going short this = for_it d m name takes a e x r number there on (goes_on d m e x a r going short this)

-- ---- open and cancel

pub open_again : (d : DriverContent) (m : Mem) (x : EpDesc) (old : Endpoint) (r : Result Offered OfferError) → endpoint_named d x.name ≡ Some old → offered_open d m x (Some old) ≡ r → offered_open d m x (endpoint_named d x.name) ≡ r
open_again d m x old r there this = ap (λ o. offered_open d m x o) there ∙ this

abbrev opened_as : DriverContent → Mem → EpDesc → Bool → Result Offered OfferError
opened_as d m x b = cond b (planned_open d m x (answer d.periodic.plan (want_of (length d.endpoints) x))) (taken_open d x (take_runs (holding d.book m) (2 ∷ 1 ∷ [])))

pub placed_new : (d : DriverContent) (m : Mem) (x : EpDesc) (r : Result Offered OfferError) → endpoint_named d x.name ≡ None → is_periodic x.kind ≡ true → planned_open d m x (answer d.periodic.plan (want_of (length d.endpoints) x)) ≡ r → offered_open d m x (endpoint_named d x.name) ≡ r
placed_new d m x r none on this = ap (λ e. offered_open d m x e) none ∙ ap (λ b. opened_as d m x b) on ∙ this

pub ring_new : (d : DriverContent) (m : Mem) (x : EpDesc) (r : Result Offered OfferError) → endpoint_named d x.name ≡ None → is_periodic x.kind ≡ false → taken_open d x (take_runs (holding d.book m) (2 ∷ 1 ∷ [])) ≡ r → offered_open d m x (endpoint_named d x.name) ≡ r
ring_new d m x r none off this = ap (λ e. offered_open d m x e) none ∙ ap (λ b. opened_as d m x b) off ∙ this

-- v is the driver as its fields show it
pub opened_by : (v d : DriverContent) (m q : Mem) (x : EpDesc) (k : Book) (queue dummy : ℕ) (o : Offered) → v ≡ d → take_runs (holding v.book m) (2 ∷ 1 ∷ []) ≡ Ok (holding k q) → get_or (drop (length v.book.taken) k.taken) 0 0 ≡ queue → get_or (drop (length v.book.taken) k.taken) 1 0 ≡ dummy → o ≡ accepted_open v x (holding k q) queue dummy → taken_open d x (take_runs (holding d.book m) (2 ∷ 1 ∷ [])) ≡ Ok o
opened_by v d m q x k queue dummy o same there first second this =
    let core : taken_open v x (take_runs (holding v.book m) (2 ∷ 1 ∷ [])) ≡ Ok o =
    ap (λ r. taken_open v x r) there
    ∙ ap (λ b. Ok (accepted_open v x (holding k q) b (get_or (drop (length v.book.taken) k.taken) 1 0))) first
    ∙ ap (λ b. Ok (accepted_open v x (holding k q) queue b)) second
    ∙ ap Ok (sym this) in
    subst (λ (w : DriverContent). taken_open w x (take_runs (holding w.book m) (2 ∷ 1 ∷ [])) ≡ Ok o) same core

pub not_opened : (v d : DriverContent) (m : Mem) (x : EpDesc) (why : OfferError) → v ≡ d → take_runs (holding v.book m) (2 ∷ 1 ∷ []) ≡ Err why → taken_open d x (take_runs (holding d.book m) (2 ∷ 1 ∷ [])) ≡ Err why
not_opened v d m x why same there =
    subst (λ (w : DriverContent). taken_open w x (take_runs (holding w.book m) (2 ∷ 1 ∷ [])) ≡ Err why) same (ap (λ r. taken_open v x r) there)

if_cancelled : DriverContent → Mem → ℕ → Endpoint → Bool → Result Offered OfferError
if_cancelled d m e x b = cond b (Err (errors.Closed causes.Cancel)) (Ok (record { driver = cancelled_by d e x x.placement; memory = m }))

cancel_at : (d : DriverContent) (m : Mem) (name : EpName) (e : ℕ) (x : Endpoint) → endpoint_of d name ≡ Some e → endpoint_named d name ≡ Some x → offered_cancel d m (unwrap_or (endpoint_of d name) 0) (endpoint_named d name) ≡ if_cancelled d m e x x.cancelled
unfolding if_cancelled
cancel_at d m name e x number there =
    ap (λ o. offered_cancel d m (unwrap_or (endpoint_of d name) 0) o) there ∙ ap (λ o. offered_cancel d m (unwrap_or o 0) (Some x)) number

pub cancel_again : (d : DriverContent) (m : Mem) (name : EpName) (e : ℕ) (x : Endpoint) → endpoint_of d name ≡ Some e → endpoint_named d name ≡ Some x → x.cancelled ≡ true → offered_cancel d m (unwrap_or (endpoint_of d name) 0) (endpoint_named d name) ≡ Err (errors.Closed causes.Cancel)
unfolding if_cancelled
cancel_again d m name e x number there on = cancel_at d m name e x number there ∙ ap (λ b. if_cancelled d m e x b) on

pub cancelled_now : (d new : DriverContent) (m : Mem) (name : EpName) (e : ℕ) (x : Endpoint) → endpoint_of d name ≡ Some e → endpoint_named d name ≡ Some x → x.cancelled ≡ false → new ≡ cancelled_by d e x x.placement → offered_cancel d m (unwrap_or (endpoint_of d name) 0) (endpoint_named d name) ≡ Ok (record { driver = new; memory = m })
unfolding if_cancelled
cancelled_now d new m name e x number there off this =
    cancel_at d m name e x number there ∙ ap (λ b. if_cancelled d m e x b) off ∙ ap (λ n. Ok (record { driver = n; memory = m })) (sym this)

pub both_are : (d e : DriverContent) (m q : Mem) → d ≡ e → m ≡ q → ◌≡◌ {A = Offered} (record { driver = d; memory = m }) (record { driver = e; memory = q })
both_are d e m q one other = cc
