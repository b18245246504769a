-- Each accepted command leaves the frame list in order.
use Rattle.std.proofs.Common.{◌≡◌, ℕ, ◌+◌, Bool, true, false, [], ◌∷◌, ◌++◌, length, Option, Some, None, Result, Ok, Err, refl}
use Rattle.std.specs.Prelude.{IfOk, unwrap_or, nat_lt, not, ◌||◌, count_by, if◌then◌else◌}
use Rattle.std.proofs.lemmas.Result.{IfOk-at_ok}
use Rattle.usb_base.specs.declared.endpoints.EpDesc.{EpDesc}
use Rattle.usb_base.specs.declared.endpoints.EndCause.{EndCause}
use Rattle.usb_base.specs.declared.endpoints.EndCause.TheVariants as causes
use Rattle.usb_base.specs.declared.commands.Cmd.{Cmd}
use Rattle.usb_base.specs.declared.commands.Cmd.TheVariants as commands
use Rattle.usb_base.specs.declared.reports.OfferError.{OfferError}
use Rattle.usb_base.specs.declared.reports.OfferError.TheVariants as errors
use Rattle.word_mem.specs.Memory.{Mem}
use Rattle.mem_runs.specs.Book.{Holding, holding}
use Rattle.bandwidth.specs.declared.placements.Placement.{Placement}
use Rattle.bandwidth.specs.Admission.{answer}
use Rattle.drv_periodic_table.specs.Periodic.{is_periodic, want_of, queue_member}
use Rattle.drv_table.specs.declared.content.Endpoint.{Endpoint}
use Rattle.drv_table.specs.declared.content.Slots.{Slots}
use Rattle.drv_table.specs.declared.content.Command.TheVariants as unfinished
use Rattle.drv_table.specs.declared.content.Sort.TheVariants as sorts
use Rattle.drv_table.specs.DriverContent.{DriverContent, busy, endpoint_of, endpoint_named, waits_for}
use Rattle.drv_table.specs.Words.{needs, get_stages, put_stages, request_stages, request_length}
use Rattle.drv_table.specs.Kinds.{is_iso}
use Rattle.drv_table.specs.Accepting.{Offered, take_runs}
use Rattle.drv_table.specs.Offers.{Asked, taken_open, planned_open, offered_open, taken_transfer, open_transfer, found_transfer, takes_get, takes_put, takes_control, offered_next, offered, taken_chain, placed_open}
use Rattle.drv_table.specs.IsoOffers.{slots_of, iso_needs, taken_iso, open_iso, offered_iso, spans_too_long, has_slots}
use Rattle.drv_table.specs.CancelOffers.{with_cancel, accepted_unchain, cancelled_by, endpoint_members, offered_cancel}
use Rattle.usb_base.specs.declared.packets.EpKind.{EpKind}
use Rattle.usb_base.specs.declared.packets.EpKind.TheVariants as kinds
use Rattle.bandwidth.specs.declared.placements.Refused.{Refused}
use Rattle.drv_members.proofs.Keeping.{kept_at_first}
use Rattle.drv_table.specs.declared.content.Reserve.{Reserve}
use Rattle.drv_table.specs.Opening.{opening}
use Rattle.law_driver.specs.ordered_list.Ordered.{IsOrdered}
use Rattle.law_driver.proofs.lemmas.ordered_list.Lists.{linking_kept, next_kept}
use Rattle.law_driver.proofs.lemmas.ordered_list.Events.{kept_by, or_done}

abbrev Keeps : Offered → Type 0
Keeps o = IsOrdered o.driver

or_else : (b : Bool) (x y : Result Offered OfferError) → IfOk x Keeps → IfOk y Keeps → IfOk (if b then x else y) Keeps
or_else true x y one two = one
or_else false x y one two = two

-- ---- transfers

transfer_taken : (d : DriverContent) (e : ℕ) (x : Endpoint) (a : Asked) (r : Result Holding OfferError) → IsOrdered d → IfOk (taken_transfer d e x a r) Keeps
transfer_taken d e x a (Err why) h = tt
transfer_taken d e x a (Ok k) h = h

transfer_opened : (d : DriverContent) (m : Mem) (e : ℕ) (x : Endpoint) (a : Asked) (c : Option EndCause) → IsOrdered d → IfOk (open_transfer d m e x a c) Keeps
transfer_opened d m e x a (Some cause) h = tt
transfer_opened d m e x a None h =
    or_else (nat_lt 20480 a.most) (Err errors.TooLong) (taken_transfer d e x a (take_runs (holding d.book m) (needs a.stages))) tt (transfer_taken d e x a (take_runs (holding d.book m) (needs a.stages)) h)

transfer_found : (d : DriverContent) (m : Mem) (takes : Endpoint → Bool) (a : Asked) (e : ℕ) (q : Option Endpoint) → IsOrdered d → IfOk (found_transfer d m takes a e q) Keeps
transfer_found d m takes a e None h = tt
transfer_found d m takes a e (Some x) h = or_else (takes x) (open_transfer d m e x a x.ended) (Err errors.NoEndpoint) (transfer_opened d m e x a x.ended h) tt

-- ---- iso

iso_taken : (d : DriverContent) (e : ℕ) (x : Endpoint) (s : Slots) (n seed : ℕ) (r : Result Holding OfferError) → IsOrdered d → IfOk (taken_iso d e x s n seed r) Keeps
iso_taken d e x s n seed (Err why) h = tt
iso_taken d e x s n seed (Ok k) h = h

iso_opened : (d : DriverContent) (m : Mem) (e : ℕ) (x : Endpoint) (s : Slots) (n seed : ℕ) (c : Option EndCause) → IsOrdered d → IfOk (open_iso d m e x s n seed c) Keeps
iso_opened d m e x s n seed (Some cause) h = tt
iso_opened d m e x s n seed None h =
    or_else (spans_too_long x (n + count_by (waits_for e) d.transfers) || not (has_slots x s)) (Err errors.TooLong) (taken_iso d e x s n seed (take_runs (holding d.book m) (iso_needs s n)))
    tt (iso_taken d e x s n seed (take_runs (holding d.book m) (iso_needs s n)) h)

iso_found : (d : DriverContent) (m : Mem) (e n len seed : ℕ) (q : Option Endpoint) → IsOrdered d → IfOk (offered_iso d m e n len seed q) Keeps
iso_found d m e n len seed None h = tt
iso_found d m e n len seed (Some x) h =
    or_else (is_iso x.desc.kind) (open_iso d m e x (slots_of x len) n seed x.ended) (Err errors.NoEndpoint) (iso_opened d m e x (slots_of x len) n seed x.ended h) tt

-- ---- a cancel

cancelled : (d : DriverContent) (e : ℕ) (x : Endpoint) (o : Option Placement) → IsOrdered d → IsOrdered (cancelled_by d e x o)
cancelled d e x None h = h
cancelled d e x (Some p) h =
    let with : DriverContent = with_cancel d e x (endpoint_members d e x p) in
    kept_by (accepted_unchain d e x (endpoint_members d e x p)) with (or_done with (unfinished.Unchain e)) (next_kept true (record d.periodic { queued = endpoint_members d e x p }) h)

cancel_found : (d : DriverContent) (m : Mem) (e : ℕ) (q : Option Endpoint) → IsOrdered d → IfOk (offered_cancel d m e q) Keeps
cancel_found d m e None h = tt
cancel_found d m e (Some x) h =
    or_else x.cancelled (Err (errors.Closed causes.Cancel)) (Ok (record { driver = cancelled_by d e x x.placement; memory = m })) tt (cancelled d e x x.placement h)

-- ---- an open

open_taken : (d : DriverContent) (x : EpDesc) (r : Result Holding OfferError) → IsOrdered d → IfOk (taken_open d x r) Keeps
open_taken d x (Err why) h = tt
open_taken d x (Ok k) h = h

chain_taken : (d : DriverContent) (x : EpDesc) (p : Placement) (r : Result Holding OfferError) → IsOrdered d → IfOk (taken_chain d x p r) Keeps
chain_taken d x p (Err why) h = tt
chain_taken d x p (Ok k) h = linking_kept d.periodic.list (queue_member _ p) h

placed_there : (d : DriverContent) (m : Mem) (x : EpDesc) (p : Placement) (k : EpKind) → IsOrdered d → IfOk (placed_open d m x p k) Keeps
placed_there d m x p kinds.Iso h = h
placed_there d m x p _ h = chain_taken d x p (take_runs (holding d.book m) (2 ∷ 1 ∷ [])) h

planned_there : (d : DriverContent) (m : Mem) (x : EpDesc) (r : Result Placement Refused) → IsOrdered d → IfOk (planned_open d m x r) Keeps
planned_there d m x (Err why) h = tt
planned_there d m x (Ok p) h = placed_there d m x p x.kind h

refused_again : (c : Option EndCause) → IfOk (elim c [ Some cause ↦ Err (errors.Closed cause) | None ↦ Err errors.AlreadyOpen ]) Keeps
refused_again None = tt
refused_again (Some cause) = tt

open_found : (d : DriverContent) (m : Mem) (x : EpDesc) (q : Option Endpoint) → IsOrdered d → IfOk (offered_open d m x q) Keeps
open_found d m x (Some old) h = refused_again old.ended
open_found d m x None h =
    or_else (is_periodic x.kind) (planned_open d m x (answer d.periodic.plan (want_of (length d.endpoints) x))) (taken_open d x (take_runs (holding d.book m) (2 ∷ 1 ∷ [])))
    (planned_there d m x (answer d.periodic.plan (want_of (length d.endpoints) x)) h) (open_taken d x (take_runs (holding d.book m) (2 ∷ 1 ∷ [])) h)

-- ---- any command

next_offered : (d : DriverContent) (m : Mem) (cmd : Cmd) → IsOrdered d → IfOk (offered_next d m cmd) Keeps
next_offered d m (commands.OpenEp x) h = open_found d m x (endpoint_named d x.name) h
next_offered d m (commands.Get name len by) h =
    transfer_found d m takes_get (record { sort = sorts.Get; stages = get_stages len by; most = len; bytes = [] }) (unwrap_or (endpoint_of d name) 0) (endpoint_named d name) h
next_offered d m (commands.Put name bytes by) h =
    transfer_found d m takes_put (record { sort = sorts.Put; stages = put_stages (length bytes) by; most = length bytes; bytes = bytes }) (unwrap_or (endpoint_of d name) 0) (endpoint_named d name) h
next_offered d m (commands.Control name setup bytes) h =
    transfer_found d m takes_control (record { sort = sorts.Request; stages = request_stages setup; most = request_length setup; bytes = setup ++ bytes }) (unwrap_or (endpoint_of d name) 0) (endpoint_named d name) h
next_offered d m (commands.Iso name count len seed) h = iso_found d m (unwrap_or (endpoint_of d name) 0) count len seed (endpoint_named d name) h
next_offered d m (commands.Cancel name) h = cancel_found d m (unwrap_or (endpoint_of d name) 0) (endpoint_named d name) h
next_offered d m _ h = tt

pub commands_keep_the_order : (d : DriverContent) (m : Mem) (cmd : Cmd) (o : Offered) → IsOrdered d → offered d m cmd ≡ Ok o
    → IsOrdered o.driver
commands_keep_the_order d m cmd o h is =
    IfOk-at_ok Keeps is (or_else (busy d) (Err errors.Busy) (offered_next d m cmd) tt (next_offered d m cmd h))

pub opening_list_is_in_order : (n : ℕ) (room : Reserve) → IsOrdered (opening n room).driver
opening_list_is_in_order n room = kept_at_first [] [] refl refl
