-- An accepted command changes no field but those of its footprint.
use Rattle.std.proofs.Common.{◌≡◌, ℕ, Bool, true, false, List, [], ◌∷◌, ◌++◌, Option, Some, None, Result, Ok, Err, refl, ap}
use Rattle.std.specs.Prelude.{IfOk, unwrap_or, nat_lt, not, is_none, ◌||◌, ◌+◌, length, count_by, if◌then◌else◌}
use Rattle.std.proofs.lemmas.Result.{IfOk-at_ok}
use Rattle.usb_base.specs.Limits.{longest_qtd}
use Rattle.usb_base.specs.declared.commands.Cmd.{Cmd}
use Rattle.usb_base.specs.declared.commands.Cmd.TheVariants as commands
use Rattle.usb_base.specs.declared.endpoints.EndCause.{EndCause}
use Rattle.usb_base.specs.declared.endpoints.EndCause.TheVariants as causes
use Rattle.usb_base.specs.declared.endpoints.EpDesc.{EpDesc}
use Rattle.usb_base.specs.declared.packets.EpKind.{EpKind}
use Rattle.usb_base.specs.declared.packets.EpKind.TheVariants as kinds
use Rattle.usb_base.specs.declared.reports.OfferError.{OfferError}
use Rattle.usb_base.specs.declared.reports.OfferError.TheVariants as errors
use Rattle.word_mem.specs.Memory.{Mem}
use Rattle.mem_runs.specs.Book.{Holding, holding}
use Rattle.drv_chains.specs.declared.members.Member.{Member}
use Rattle.bandwidth.specs.declared.placements.Placement.{Placement}
use Rattle.bandwidth.specs.declared.placements.Refused.{Refused}
use Rattle.bandwidth.specs.Admission.{answer}
use Rattle.drv_periodic_table.specs.Periodic.{PeriodicContent, is_periodic, want_of}
use Rattle.drv_table.specs.declared.content.Command.TheVariants as unfinished
use Rattle.drv_table.specs.declared.content.Endpoint.{Endpoint}
use Rattle.drv_table.specs.declared.content.Slots.{Slots}
use Rattle.drv_table.specs.declared.content.Sort.TheVariants as sorts
use Rattle.drv_table.specs.Accepting.{Offered, take_runs}
use Rattle.drv_table.specs.CancelOffers.{with_cancel, accepted_unchain, cancelled_by, endpoint_members, offered_cancel}
use Rattle.drv_table.specs.Commands.{finished}
use Rattle.drv_table.specs.DriverContent.{DriverContent, busy, endpoint_of, endpoint_named, waits_for}
use Rattle.drv_table.specs.IsoOffers.{slots_of, iso_needs, taken_iso, open_iso, offered_iso, spans_too_long, has_slots}
use Rattle.drv_table.specs.Kinds.{is_iso}
use Rattle.drv_table.specs.Offers.{Asked, taken_open, taken_chain, placed_open, planned_open, offered_open, taken_transfer, open_transfer, found_transfer, takes_get, takes_put, takes_control, offered_next, offered}
use Rattle.drv_table.specs.Words.{needs, get_stages, put_stages, request_stages, request_length}
use Rattle.law_footprints.specs.Footprint.{Footprint, merged_driver, DriverStays, open_footprint, transfer_footprint, iso_footprint, cancel_footprint, offer_footprint}
use Rattle.law_footprints.proofs.Frame.{same_as, either, after, begun_stays, done_stays}

-- accepted, it changes what f names alone
abbrev Keeps : Footprint → DriverContent → Result Offered OfferError → Type 0
Keeps f d r = IfOk r (λ o. DriverStays f d o.driver)

or_else : (f : Footprint) (d : DriverContent) (b : Bool) (x y : Result Offered OfferError)
    → (b ≡ true → Keeps f d x) → (b ≡ false → Keeps f d y) → Keeps f d (if b then x else y)
or_else f d true x y one two = one refl
or_else f d false x y one two = two refl

-- ---- transfers

transfer_taken : (d : DriverContent) (e : ℕ) (x : Endpoint) (a : Asked) (r : Result Holding OfferError)
    → Keeps transfer_footprint d (taken_transfer d e x a r)
transfer_taken d e x a (Err why) = tt
transfer_taken d e x a (Ok h) = refl

transfer_opened : (d : DriverContent) (m : Mem) (e : ℕ) (x : Endpoint) (a : Asked) (c : Option EndCause)
    → Keeps transfer_footprint d (open_transfer d m e x a c)
transfer_opened d m e x a (Some cause) = tt
transfer_opened d m e x a None =
    let taken = take_runs (holding d.book m) (needs a.stages) in
    or_else transfer_footprint d (nat_lt longest_qtd a.most) (Err errors.TooLong) (taken_transfer d e x a taken)
    (λ is. tt) (λ is. transfer_taken d e x a taken)

transfer_found : (d : DriverContent) (m : Mem) (takes : Endpoint → Bool) (a : Asked) (e : ℕ) (q : Option Endpoint)
    → Keeps transfer_footprint d (found_transfer d m takes a e q)
transfer_found d m takes a e None = tt
transfer_found d m takes a e (Some x) =
    or_else transfer_footprint d (takes x) (open_transfer d m e x a x.ended) (Err errors.NoEndpoint)
    (λ is. transfer_opened d m e x a x.ended) (λ is. tt)

-- ---- iso

iso_taken : (d : DriverContent) (e : ℕ) (x : Endpoint) (s : Slots) (n seed : ℕ) (r : Result Holding OfferError)
    → Keeps iso_footprint d (taken_iso d e x s n seed r)
iso_taken d e x s n seed (Err why) = tt
iso_taken d e x s n seed (Ok h) = refl

iso_opened : (d : DriverContent) (m : Mem) (e : ℕ) (x : Endpoint) (s : Slots) (n seed : ℕ) (c : Option EndCause)
    → Keeps iso_footprint d (open_iso d m e x s n seed c)
iso_opened d m e x s n seed (Some cause) = tt
iso_opened d m e x s n seed None =
    let taken = take_runs (holding d.book m) (iso_needs s n) in
    or_else iso_footprint d (spans_too_long x (n + count_by (waits_for e) d.transfers) || not (has_slots x s)) (Err errors.TooLong)
    (taken_iso d e x s n seed taken) (λ is. tt) (λ is. iso_taken d e x s n seed taken)

iso_found : (d : DriverContent) (m : Mem) (e n len seed : ℕ) (q : Option Endpoint)
    → Keeps iso_footprint d (offered_iso d m e n len seed q)
iso_found d m e n len seed None = tt
iso_found d m e n len seed (Some x) =
    or_else iso_footprint d (is_iso x.desc.kind) (open_iso d m e x (slots_of x len) n seed x.ended) (Err errors.NoEndpoint)
    (λ is. iso_opened d m e x (slots_of x len) n seed x.ended) (λ is. tt)

-- ---- a cancel

pub unchain_stays : (d : DriverContent) (e : ℕ) (x : Endpoint) (ms : List Member)
    → DriverStays cancel_footprint d (accepted_unchain d e x ms)
unchain_stays d e x ms =
    let m = merged_driver cancel_footprint in
    let c = with_cancel d e x ms in
    let q = record d.periodic { queued = ms } in
    let first = same_as m d c _ (ap (λ (l : PeriodicContent). record c { periodic = l }) (begun_stays true q)) refl in
    let last = same_as m c (finished c (unfinished.Unchain e)) _ (done_stays c (unfinished.Unchain e)) refl in
    let done = either m c (finished c (unfinished.Unchain e)) c (is_none c.periodic.list.work) last refl in
    after m d c (accepted_unchain d e x ms) done first refl

cancelled : (d : DriverContent) (e : ℕ) (x : Endpoint) (o : Option Placement) → DriverStays cancel_footprint d (cancelled_by d e x o)
cancelled d e x None = refl
cancelled d e x (Some p) = unchain_stays d e x (endpoint_members d e x p)

cancel_found : (d : DriverContent) (m : Mem) (e : ℕ) (q : Option Endpoint) → Keeps cancel_footprint d (offered_cancel d m e q)
cancel_found d m e None = tt
cancel_found d m e (Some x) =
    or_else cancel_footprint d x.cancelled (Err (errors.Closed causes.Cancel))
    (Ok (record { driver = cancelled_by d e x x.placement; memory = m }))
    (λ is. tt) (λ is. cancelled d e x x.placement)

-- ---- an open

ring_opened : (d : DriverContent) (x : EpDesc) (r : Result Holding OfferError) (k : EpKind) → is_periodic k ≡ false
    → Keeps (open_footprint k) d (taken_open d x r)
ring_opened d x (Err why) k is = tt
ring_opened d x (Ok h) kinds.Bulk is = refl
ring_opened d x (Ok h) kinds.Control is = refl
ring_opened d x (Ok h) kinds.Interrupt is = absurd (cc)
ring_opened d x (Ok h) kinds.Iso is = absurd (cc)

chain_opened : (d : DriverContent) (x : EpDesc) (p : Placement) (r : Result Holding OfferError)
    → Keeps (open_footprint kinds.Interrupt) d (taken_chain d x p r)
chain_opened d x p (Err why) = tt
chain_opened d x p (Ok h) = refl

place_opened : (d : DriverContent) (m : Mem) (x : EpDesc) (p : Placement) (k : EpKind) → is_periodic k ≡ true
    → Keeps (open_footprint k) d (placed_open d m x p k)
place_opened d m x p kinds.Iso is = refl
place_opened d m x p kinds.Interrupt is = chain_opened d x p (take_runs (holding d.book m) (2 ∷ 1 ∷ []))
place_opened d m x p kinds.Bulk is = absurd (cc)
place_opened d m x p kinds.Control is = absurd (cc)

plan_opened : (d : DriverContent) (m : Mem) (x : EpDesc) (r : Result Placement Refused) → is_periodic x.kind ≡ true
    → Keeps (open_footprint x.kind) d (planned_open d m x r)
plan_opened d m x (Err why) is = tt
plan_opened d m x (Ok p) is = place_opened d m x p x.kind is

refused_again : (P : Offered → Type 0) (c : Option EndCause)
    → IfOk (elim c [ Some cause ↦ Err (errors.Closed cause) | None ↦ Err errors.AlreadyOpen ]) P
refused_again P None = tt
refused_again P (Some cause) = tt

open_found : (d : DriverContent) (m : Mem) (x : EpDesc) (q : Option Endpoint) → Keeps (open_footprint x.kind) d (offered_open d m x q)
open_found d m x (Some old) = refused_again (λ o. DriverStays (open_footprint x.kind) d o.driver) old.ended
open_found d m x None =
    let asked = answer d.periodic.plan (want_of (length d.endpoints) x) in
    let taken = take_runs (holding d.book m) (2 ∷ 1 ∷ []) in
    or_else (open_footprint x.kind) d (is_periodic x.kind) (planned_open d m x asked) (taken_open d x taken)
    (plan_opened d m x asked) (ring_opened d x taken x.kind)

-- ---- any command

next_offered : (d : DriverContent) (m : Mem) (cmd : Cmd) → Keeps (offer_footprint cmd) d (offered_next d m cmd)
next_offered d m (commands.OpenEp x) = open_found d m x (endpoint_named d x.name)
next_offered d m (commands.Get name len by) =
    transfer_found d m takes_get (record { sort = sorts.Get; stages = get_stages len by; most = len; bytes = [] })
    (unwrap_or (endpoint_of d name) 0) (endpoint_named d name)
next_offered d m (commands.Put name bytes by) =
    transfer_found d m takes_put (record { sort = sorts.Put; stages = put_stages (length bytes) by; most = length bytes; bytes = bytes })
    (unwrap_or (endpoint_of d name) 0) (endpoint_named d name)
next_offered d m (commands.Control name setup bytes) =
    transfer_found d m takes_control
    (record { sort = sorts.Request; stages = request_stages setup; most = request_length setup; bytes = setup ++ bytes })
    (unwrap_or (endpoint_of d name) 0) (endpoint_named d name)
next_offered d m (commands.Iso name count len seed) =
    iso_found d m (unwrap_or (endpoint_of d name) 0) count len seed (endpoint_named d name)
next_offered d m (commands.Cancel name) = cancel_found d m (unwrap_or (endpoint_of d name) 0) (endpoint_named d name)
next_offered d m _ = tt

pub accept_frame : (d : DriverContent) (m : Mem) (cmd : Cmd) (o : Offered) → offered d m cmd ≡ Ok o
    → DriverStays (offer_footprint cmd) d o.driver
accept_frame d m cmd o is =
    IfOk-at_ok (λ x. DriverStays (offer_footprint cmd) d x.driver) is
    (or_else (offer_footprint cmd) d (busy d) (Err errors.Busy) (offered_next d m cmd) (λ no. tt) (λ no. next_offered d m cmd))
