-- What each accepted command does to the placements of the endpoints.
use Rattle.std.proofs.Common.{◌≡◌, ℕ, ◌+◌, Bool, true, false, List, [], ◌∷◌, ◌++◌, length, slice_get, Option, Some, None, Result, Ok, Err, refl, ◌∙◌}
use Rattle.std.specs.Prelude.{IfOk, unwrap_or, nat_lt, not, ◌||◌, count_by, if◌then◌else◌}
use Rattle.std.proofs.lemmas.Result.{IfOk-at_ok}
use Rattle.std.proofs.lemmas.List.{append-nil}
use Rattle.law_admission.proofs.Common.{or_else, refused_again}
use Rattle.law_driver.proofs.Common.{there_by}
use Rattle.usb_base.specs.declared.endpoints.EpName.{EpName}
use Rattle.usb_base.specs.declared.endpoints.EpDesc.{EpDesc}
use Rattle.usb_base.specs.declared.endpoints.EndCause.{EndCause}
use Rattle.usb_base.specs.declared.endpoints.EndCause.TheVariants as causes
use Rattle.usb_base.specs.declared.commands.Cmd.{Cmd}
use Rattle.usb_base.specs.declared.commands.Cmd.TheVariants as commands
use Rattle.usb_base.specs.declared.reports.OfferError.{OfferError}
use Rattle.usb_base.specs.declared.reports.OfferError.TheVariants as errors
use Rattle.word_mem.specs.Memory.{Mem}
use Rattle.mem_runs.specs.Book.{Holding, holding}
use Rattle.bandwidth.specs.declared.placements.Placement.{Placement}
use Rattle.bandwidth.specs.Admission.{answer}
use Rattle.drv_chains.specs.declared.members.Member.{Member}
use Rattle.drv_periodic_table.specs.Periodic.{is_periodic, want_of}
use Rattle.drv_table.specs.declared.content.Endpoint.{Endpoint}
use Rattle.drv_table.specs.declared.content.Slots.{Slots}
use Rattle.drv_table.specs.declared.content.Command.TheVariants as unfinished
use Rattle.drv_table.specs.declared.content.Sort.TheVariants as sorts
use Rattle.drv_table.specs.DriverContent.{DriverContent, busy, endpoint_of, endpoint_named, waits_for}
use Rattle.drv_table.specs.Words.{needs, get_stages, put_stages, request_stages, request_length}
use Rattle.drv_table.specs.Kinds.{is_iso}
use Rattle.drv_table.specs.Accepting.{Offered, take_runs}
use Rattle.drv_table.specs.Offers.{Asked, taken_open, planned_open, offered_open, new_endpoint, taken_transfer, open_transfer, found_transfer, takes_get, takes_put, takes_control, offered_next, offered}
use Rattle.drv_table.specs.IsoOffers.{slots_of, iso_needs, taken_iso, open_iso, offered_iso, spans_too_long, has_slots}
use Rattle.drv_table.specs.CancelOffers.{with_cancel, accepted_unchain, cancelled_by, endpoint_members, offered_cancel}
use Rattle.law_driver.proofs.lemmas.planned_endpoints.Lists.{same_at, one_more}
use Rattle.law_driver.proofs.lemmas.planned_endpoints.Events.{placements, or_done}

abbrev pub Keeps : DriverContent → Offered → Type 0
Keeps d o = placements o.driver ≡ placements d

abbrev Stands : DriverContent → ℕ → Option Endpoint → Type 0
Stands d e q = (x : Endpoint) → q ≡ Some x → slice_get d.endpoints e ≡ Some x

named : (d : DriverContent) (name : EpName) → Stands d (unwrap_or (endpoint_of d name) 0) (endpoint_named d name)
named d name x e = there_by d.endpoints (endpoint_of d name) x e

-- ---- transfers

transfer_taken : (d : DriverContent) (e : ℕ) (x : Endpoint) (a : Asked) (r : Result Holding OfferError) → slice_get d.endpoints e ≡ Some x → IfOk (taken_transfer d e x a r) (Keeps d)
transfer_taken d e x a (Err why) here = tt
transfer_taken d e x a (Ok h) here = same_at 0 e d.endpoints x _ here refl refl refl

transfer_opened : (d : DriverContent) (m : Mem) (e : ℕ) (x : Endpoint) (a : Asked) (c : Option EndCause) → slice_get d.endpoints e ≡ Some x → IfOk (open_transfer d m e x a c) (Keeps d)
transfer_opened d m e x a (Some cause) here = tt
transfer_opened d m e x a None here =
    or_else (Keeps d) (nat_lt 20480 a.most) (Err errors.TooLong) (taken_transfer d e x a (take_runs (holding d.book m) (needs a.stages)))
    tt (transfer_taken d e x a (take_runs (holding d.book m) (needs a.stages)) here)

transfer_found : (d : DriverContent) (m : Mem) (takes : Endpoint → Bool) (a : Asked) (e : ℕ) (q : Option Endpoint) → Stands d e q → IfOk (found_transfer d m takes a e q) (Keeps d)
transfer_found d m takes a e None here = tt
transfer_found d m takes a e (Some x) here =
    or_else (Keeps d) (takes x) (open_transfer d m e x a x.ended) (Err errors.NoEndpoint) (transfer_opened d m e x a x.ended (here x refl)) tt

-- ---- iso

iso_taken : (d : DriverContent) (e : ℕ) (x : Endpoint) (s : Slots) (n seed : ℕ) (r : Result Holding OfferError) → slice_get d.endpoints e ≡ Some x → IfOk (taken_iso d e x s n seed r) (Keeps d)
iso_taken d e x s n seed (Err why) here = tt
iso_taken d e x s n seed (Ok h) here = same_at 0 e d.endpoints x _ here refl refl refl

iso_opened : (d : DriverContent) (m : Mem) (e : ℕ) (x : Endpoint) (s : Slots) (n seed : ℕ) (c : Option EndCause) → slice_get d.endpoints e ≡ Some x → IfOk (open_iso d m e x s n seed c) (Keeps d)
iso_opened d m e x s n seed (Some cause) here = tt
iso_opened d m e x s n seed None here =
    or_else (Keeps d) (spans_too_long x (n + count_by (waits_for e) d.transfers) || not (has_slots x s)) (Err errors.TooLong)
    (taken_iso d e x s n seed (take_runs (holding d.book m) (iso_needs s n)))
    tt (iso_taken d e x s n seed (take_runs (holding d.book m) (iso_needs s n)) here)

iso_found : (d : DriverContent) (m : Mem) (e n len seed : ℕ) (q : Option Endpoint) → Stands d e q → IfOk (offered_iso d m e n len seed q) (Keeps d)
iso_found d m e n len seed None here = tt
iso_found d m e n len seed (Some x) here =
    or_else (Keeps d) (is_iso x.desc.kind) (open_iso d m e x (slots_of x len) n seed x.ended) (Err errors.NoEndpoint)
    (iso_opened d m e x (slots_of x len) n seed x.ended (here x refl)) tt

-- ---- a cancel

unchained : (d : DriverContent) (e : ℕ) (x : Endpoint) (ms : List Member) → slice_get d.endpoints e ≡ Some x → placements (accepted_unchain d e x ms) ≡ placements d
unchained d e x ms here = or_done (with_cancel d e x ms) (unfinished.Unchain e) ∙ same_at 0 e d.endpoints x _ here refl refl refl

cancelled : (d : DriverContent) (e : ℕ) (x : Endpoint) (o : Option Placement) → slice_get d.endpoints e ≡ Some x → placements (cancelled_by d e x o) ≡ placements d
cancelled d e x None here = same_at 0 e d.endpoints x _ here refl refl refl
cancelled d e x (Some p) here = unchained d e x (endpoint_members d e x p) here

cancel_found : (d : DriverContent) (m : Mem) (e : ℕ) (q : Option Endpoint) → Stands d e q → IfOk (offered_cancel d m e q) (Keeps d)
cancel_found d m e None here = tt
cancel_found d m e (Some x) here =
    or_else (Keeps d) x.cancelled (Err (errors.Closed causes.Cancel)) (Ok (record { driver = cancelled_by d e x x.placement; memory = m }))
    tt (cancelled d e x x.placement (here x refl))

-- ---- an open

abbrev pub KeepsIf : DriverContent → Bool → Offered → Type 0
KeepsIf d true o = Unit {0}
KeepsIf d false o = Keeps d o

open_taken : (d : DriverContent) (x : EpDesc) (r : Result Holding OfferError) → IfOk (taken_open d x r) (KeepsIf d false)
open_taken d x (Err why) = tt
open_taken d x (Ok h) = one_more 0 d.endpoints (new_endpoint x _ _) ∙ append-nil (placements d)

any_planned : (d : DriverContent) (r : Result Offered OfferError) → IfOk r (KeepsIf d true)
any_planned d (Ok o) = tt
any_planned d (Err why) = tt

kind_open : (d : DriverContent) (m : Mem) (x : EpDesc) (b : Bool)
    → IfOk (if b then planned_open d m x (answer d.periodic.plan (want_of (length d.endpoints) x)) else taken_open d x (take_runs (holding d.book m) (2 ∷ 1 ∷ []))) (KeepsIf d b)
kind_open d m x true = any_planned d (planned_open d m x (answer d.periodic.plan (want_of (length d.endpoints) x)))
kind_open d m x false = open_taken d x (take_runs (holding d.book m) (2 ∷ 1 ∷ []))

open_found : (d : DriverContent) (m : Mem) (x : EpDesc) (q : Option Endpoint) → IfOk (offered_open d m x q) (KeepsIf d (is_periodic x.kind))
open_found d m x (Some old) = refused_again (KeepsIf d (is_periodic x.kind)) old.ended
open_found d m x None = kind_open d m x (is_periodic x.kind)

-- ---- any command: but for the open of a periodic endpoint, each keeps the placements

abbrev pub KeepsBy : DriverContent → Cmd → Offered → Type 0
KeepsBy d (commands.OpenEp x) o = KeepsIf d (is_periodic x.kind) o
KeepsBy d _ o = Keeps d o

next_offered : (d : DriverContent) (m : Mem) (cmd : Cmd) → IfOk (offered_next d m cmd) (KeepsBy d cmd)
next_offered d m (commands.OpenEp x) = open_found d m x (endpoint_named d x.name)
next_offered d m (commands.Get name len by) =
    transfer_found d m takes_get (record { sort = sorts.Get; stages = get_stages len by; most = len; bytes = [] }) (unwrap_or (endpoint_of d name) 0) (endpoint_named d name) (named d name)
next_offered d m (commands.Put name bytes by) =
    transfer_found d m takes_put (record { sort = sorts.Put; stages = put_stages (length bytes) by; most = length bytes; bytes = bytes }) (unwrap_or (endpoint_of d name) 0) (endpoint_named d name) (named d name)
next_offered d m (commands.Control name setup bytes) =
    transfer_found d m takes_control (record { sort = sorts.Request; stages = request_stages setup; most = request_length setup; bytes = setup ++ bytes }) (unwrap_or (endpoint_of d name) 0) (endpoint_named d name)
    (named d name)
next_offered d m (commands.Iso name count len seed) = iso_found d m (unwrap_or (endpoint_of d name) 0) count len seed (endpoint_named d name) (named d name)
next_offered d m (commands.Cancel name) = cancel_found d m (unwrap_or (endpoint_of d name) 0) (endpoint_named d name) (named d name)
next_offered d m _ = tt

command_keeps : (d : DriverContent) (m : Mem) (cmd : Cmd) → IfOk (offered d m cmd) (KeepsBy d cmd)
command_keeps d m cmd = or_else (KeepsBy d cmd) (busy d) (Err errors.Busy) (offered_next d m cmd) tt (next_offered d m cmd)

pub placements_of_command : (d : DriverContent) (m : Mem) (cmd : Cmd) (o : Offered) → offered d m cmd ≡ Ok o → KeepsBy d cmd o
placements_of_command d m cmd o is = IfOk-at_ok (KeepsBy d cmd) is (command_keeps d m cmd)
