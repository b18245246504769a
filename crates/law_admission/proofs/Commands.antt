-- What each accepted command does to the plan.
use Rattle.std.proofs.Common.{◌≡◌, ℕ, Bool, true, false, List, [], ◌∷◌, ◌++◌, Option, Some, None, Result, Ok, Err, refl, ap, ◌∙◌}
use Rattle.std.specs.Prelude.{IfOk, slice_index, unwrap_or, nat_lt, not, ◌||◌, ◌+◌, length, count_by, if◌then◌else◌}
use Rattle.std.proofs.lemmas.Result.{IfOk-at_ok}
use Rattle.law_admission.proofs.Common.{or_else, refused_again}
use Rattle.usb_base.specs.declared.endpoints.EpDesc.{EpDesc}
use Rattle.usb_base.specs.declared.endpoints.EndCause.{EndCause}
use Rattle.usb_base.specs.declared.endpoints.EndCause.TheVariants as causes
use Rattle.usb_base.specs.declared.packets.EpKind.{EpKind}
use Rattle.usb_base.specs.declared.packets.EpKind.TheVariants as kinds
use Rattle.usb_base.specs.declared.commands.Cmd.{Cmd}
use Rattle.usb_base.specs.declared.commands.Cmd.TheVariants as commands
use Rattle.usb_base.specs.declared.reports.OfferError.{OfferError}
use Rattle.usb_base.specs.declared.reports.OfferError.TheVariants as errors
use Rattle.word_mem.specs.Memory.{Mem}
use Rattle.mem_runs.specs.Book.{Holding, holding}
use Rattle.bandwidth.specs.declared.placements.Placement.{Placement}
use Rattle.bandwidth.specs.declared.placements.Refused.TheVariants.{Room}
use Rattle.bandwidth.specs.Admission.{IsBest, best, chosen, answer}
use Rattle.bandwidth.proofs.Admits.{best_is}
use Rattle.drv_chains.specs.declared.members.Member.{Member}
use Rattle.drv_periodic_table.specs.Periodic.{is_periodic}
use Rattle.drv_table.specs.declared.content.Endpoint.{Endpoint}
use Rattle.drv_table.specs.declared.content.Slots.{Slots}
use Rattle.drv_table.specs.declared.content.Command.TheVariants as unfinished
use Rattle.drv_table.specs.declared.content.Sort.TheVariants as sorts
use Rattle.drv_table.specs.DriverContent.{DriverContent, busy, endpoint_of, endpoint_named, waits_for}
use Rattle.drv_table.specs.Words.{needs, get_stages, put_stages, request_stages, request_length}
use Rattle.drv_table.specs.Kinds.{is_iso}
use Rattle.drv_table.specs.Accepting.{Offered, take_runs, new_runs}
use Rattle.drv_table.specs.Offers.{Asked, taken_open, taken_chain, placed_open, planned_open, offered_open, taken_transfer, open_transfer, found_transfer, takes_get, takes_put, takes_control, offered_next, offered}
use Rattle.drv_table.specs.IsoOffers.{slots_of, iso_needs, taken_iso, open_iso, offered_iso, spans_too_long, has_slots}
use Rattle.drv_table.specs.CancelOffers.{with_cancel, accepted_unchain, cancelled_by, endpoint_members, offered_cancel}
use Rattle.law_admission.specs.Budgets.{account_of}
use Rattle.drv_table.specs.PeriodicOpens.{asked}
use Rattle.law_admission.specs.Opens.{IsPlaced, OpenAfter, AccountAfter}
use Rattle.law_admission.proofs.Events.{with_plan, next_begun, or_done}

-- ---- transfers

transfer_taken : (d : DriverContent) (e : ℕ) (x : Endpoint) (a : Asked) (r : Result Holding OfferError) → IfOk (taken_transfer d e x a r) (λ o. account_of o.driver ≡ account_of d)
transfer_taken d e x a (Err why) = tt
transfer_taken d e x a (Ok h) = refl

transfer_opened : (d : DriverContent) (m : Mem) (e : ℕ) (x : Endpoint) (a : Asked) (c : Option EndCause) → IfOk (open_transfer d m e x a c) (λ o. account_of o.driver ≡ account_of d)
transfer_opened d m e x a (Some cause) = tt
transfer_opened d m e x a None =
    or_else (λ o. account_of o.driver ≡ account_of d) (nat_lt 20480 a.most) (Err errors.TooLong) (taken_transfer d e x a (take_runs (holding d.book m) (needs a.stages)))
    tt (transfer_taken d e x a (take_runs (holding d.book m) (needs a.stages)))

transfer_found : (d : DriverContent) (m : Mem) (takes : Endpoint → Bool) (a : Asked) (e : ℕ) (q : Option Endpoint) → IfOk (found_transfer d m takes a e q) (λ o. account_of o.driver ≡ account_of d)
transfer_found d m takes a e None = tt
transfer_found d m takes a e (Some x) =
    or_else (λ o. account_of o.driver ≡ account_of d) (takes x) (open_transfer d m e x a x.ended) (Err errors.NoEndpoint)
    (transfer_opened d m e x a x.ended) tt

-- ---- iso

iso_taken : (d : DriverContent) (e : ℕ) (x : Endpoint) (s : Slots) (n seed : ℕ) (r : Result Holding OfferError) → IfOk (taken_iso d e x s n seed r) (λ o. account_of o.driver ≡ account_of d)
iso_taken d e x s n seed (Err why) = tt
iso_taken d e x s n seed (Ok h) = refl

iso_opened : (d : DriverContent) (m : Mem) (e : ℕ) (x : Endpoint) (s : Slots) (n seed : ℕ) (c : Option EndCause) → IfOk (open_iso d m e x s n seed c) (λ o. account_of o.driver ≡ account_of d)
iso_opened d m e x s n seed (Some cause) = tt
iso_opened d m e x s n seed None =
    or_else (λ o. account_of o.driver ≡ account_of d) (spans_too_long x (n + count_by (waits_for e) d.transfers) || not (has_slots x s)) (Err errors.TooLong)
    (taken_iso d e x s n seed (take_runs (holding d.book m) (iso_needs s n)))
    tt (iso_taken d e x s n seed (take_runs (holding d.book m) (iso_needs s n)))

iso_found : (d : DriverContent) (m : Mem) (e n len seed : ℕ) (q : Option Endpoint) → IfOk (offered_iso d m e n len seed q) (λ o. account_of o.driver ≡ account_of d)
iso_found d m e n len seed None = tt
iso_found d m e n len seed (Some x) =
    or_else (λ o. account_of o.driver ≡ account_of d) (is_iso x.desc.kind) (open_iso d m e x (slots_of x len) n seed x.ended) (Err errors.NoEndpoint)
    (iso_opened d m e x (slots_of x len) n seed x.ended) tt

-- ---- a cancel

unchained : (d : DriverContent) (e : ℕ) (x : Endpoint) (ms : List Member) → account_of (accepted_unchain d e x ms) ≡ account_of d
unchained d e x ms =
    or_done (with_cancel d e x ms) (unfinished.Unchain e)
    ∙ ap (with_plan d.room.endpoints) (next_begun true (record d.periodic { queued = ms }))

cancelled : (d : DriverContent) (e : ℕ) (x : Endpoint) (o : Option Placement) → account_of (cancelled_by d e x o) ≡ account_of d
cancelled d e x None = refl
cancelled d e x (Some p) = unchained d e x (endpoint_members d e x p)

cancel_found : (d : DriverContent) (m : Mem) (e : ℕ) (q : Option Endpoint) → IfOk (offered_cancel d m e q) (λ o. account_of o.driver ≡ account_of d)
cancel_found d m e None = tt
cancel_found d m e (Some x) =
    or_else (λ o. account_of o.driver ≡ account_of d) x.cancelled (Err (errors.Closed causes.Cancel)) (Ok (record { driver = cancelled_by d e x x.placement; memory = m }))
    tt (cancelled d e x x.placement)

-- ---- an open

open_taken : (d : DriverContent) (x : EpDesc) (r : Result Holding OfferError) → IfOk (taken_open d x r) (λ o. OpenAfter d x o false)
open_taken d x (Err why) = tt
open_taken d x (Ok h) = refl

chain_taken : (d : DriverContent) (x : EpDesc) (p : Placement) (r : Result Holding OfferError) → IsBest d.periodic.plan.rules d.periodic.plan.placed (asked d x) p → IfOk (taken_chain d x p r) (IsPlaced d x)
chain_taken d x p (Err why) good = tt
chain_taken d x p (Ok h) good = record { placement = p; queue = slice_index (new_runs d h) 0; dummy = slice_index (new_runs d h) 1; best = good; account = refl; endpoints = refl }

pub placed_there : (d : DriverContent) (m : Mem) (x : EpDesc) (p : Placement) (k : EpKind) → IsBest d.periodic.plan.rules d.periodic.plan.placed (asked d x) p → IfOk (placed_open d m x p k) (IsPlaced d x)
placed_there d m x p kinds.Iso good = record { placement = p; queue = 0; dummy = 0; best = good; account = refl; endpoints = refl }
placed_there d m x p _ good = chain_taken d x p (take_runs (holding d.book m) (2 ∷ 1 ∷ [])) good

chosen_open : (d : DriverContent) (m : Mem) (x : EpDesc) (b : Option Placement) → best d.periodic.plan.rules d.periodic.plan.placed (asked d x) ≡ b → IfOk (planned_open d m x (chosen b)) (IsPlaced d x)
chosen_open d m x None is = tt
chosen_open d m x (Some p) is = placed_there d m x p x.kind (best_is d.periodic.plan.rules d.periodic.plan.placed (asked d x) p is)

answered_open : (d : DriverContent) (m : Mem) (x : EpDesc) (b : Bool) → IfOk (planned_open d m x (if b then chosen (best d.periodic.plan.rules d.periodic.plan.placed (asked d x)) else Err Room)) (IsPlaced d x)
answered_open d m x true = chosen_open d m x (best d.periodic.plan.rules d.periodic.plan.placed (asked d x)) refl
answered_open d m x false = tt

kind_open : (d : DriverContent) (m : Mem) (x : EpDesc) (b : Bool) → IfOk (if b then planned_open d m x (answer d.periodic.plan (asked d x)) else taken_open d x (take_runs (holding d.book m) (2 ∷ 1 ∷ []))) (λ o. OpenAfter d x o b)
kind_open d m x true = answered_open d m x (nat_lt (length d.periodic.plan.placed) d.periodic.plan.room)
kind_open d m x false = open_taken d x (take_runs (holding d.book m) (2 ∷ 1 ∷ []))

open_found : (d : DriverContent) (m : Mem) (x : EpDesc) (q : Option Endpoint) → IfOk (offered_open d m x q) (λ o. OpenAfter d x o (is_periodic x.kind))
open_found d m x (Some old) = refused_again (λ o. OpenAfter d x o (is_periodic x.kind)) old.ended
open_found d m x None = kind_open d m x (is_periodic x.kind)

-- ---- any command

next_offered : (d : DriverContent) (m : Mem) (cmd : Cmd) → IfOk (offered_next d m cmd) (λ o. AccountAfter d cmd o)
next_offered d m (commands.OpenEp x) = open_found d m x (endpoint_named d x.name)
next_offered d m (commands.Get name len by) = transfer_found d m takes_get (record { sort = sorts.Get; stages = get_stages len by; most = len; bytes = [] }) (unwrap_or (endpoint_of d name) 0) (endpoint_named d name)
next_offered d m (commands.Put name bytes by) = transfer_found d m takes_put (record { sort = sorts.Put; stages = put_stages (length bytes) by; most = length bytes; bytes = bytes }) (unwrap_or (endpoint_of d name) 0) (endpoint_named d name)
next_offered d m (commands.Control name setup bytes) = transfer_found d m takes_control (record { sort = sorts.Request; stages = request_stages setup; most = request_length setup; bytes = setup ++ bytes }) (unwrap_or (endpoint_of d name) 0) (endpoint_named d name)
next_offered d m (commands.Iso name count len seed) = iso_found d m (unwrap_or (endpoint_of d name) 0) count len seed (endpoint_named d name)
next_offered d m (commands.Cancel name) = cancel_found d m (unwrap_or (endpoint_of d name) 0) (endpoint_named d name)
next_offered d m _ = tt

pub command_account : (d : DriverContent) (m : Mem) (cmd : Cmd) → IfOk (offered d m cmd) (λ o. AccountAfter d cmd o)
command_account d m cmd = or_else (λ o. AccountAfter d cmd o) (busy d) (Err errors.Busy) (offered_next d m cmd) tt (next_offered d m cmd)

pub commands_place_the_best : (d : DriverContent) (m : Mem) (cmd : Cmd) (o : Offered) → offered d m cmd ≡ Ok o → AccountAfter d cmd o
commands_place_the_best d m cmd o is = IfOk-at_ok (λ o. AccountAfter d cmd o) is (command_account d m cmd)
