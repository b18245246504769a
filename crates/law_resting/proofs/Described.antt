-- A command for isochronous descriptors that is accepted has one at least.
use Rattle.std.proofs.Common.{◌≡◌, ℕ, ◌+◌, ◌≤◌, Bool, true, false, List, [], ◌∷◌, ◌++◌, length, Option, Some, None, Result, Ok, Err, sym, subst}
use Rattle.std.specs.Prelude.{IfOk, ◌||◌, not, nat_lt, is_none, count_by, slice_get, slice_set, unwrap_or, if◌then◌else◌}
use Rattle.usb_base.specs.declared.commands.Cmd.{Cmd}
use Rattle.usb_base.specs.declared.commands.Cmd.TheVariants as commands
use Rattle.usb_base.specs.declared.endpoints.EndCause.{EndCause}
use Rattle.usb_base.specs.declared.endpoints.EndCause.TheVariants as causes
use Rattle.usb_base.specs.declared.endpoints.EpDesc.{EpDesc}
use Rattle.usb_base.specs.declared.packets.EpKind.{EpKind}
use Rattle.usb_base.specs.declared.packets.EpKind.TheVariants as kinds
use Rattle.usb_base.specs.declared.reports.OfferError.{OfferError}
use Rattle.usb_base.specs.declared.reports.OfferError.TheVariants as errors
use Rattle.word_mem.specs.Memory.{Mem}
use Rattle.mem_runs.specs.Book.{Holding, holding}
use Rattle.drv_chains.specs.declared.members.Member.{Member}
use Rattle.bandwidth.specs.Admission.{answer}
use Rattle.bandwidth.specs.declared.placements.Placement.{Placement}
use Rattle.bandwidth.specs.declared.placements.Refused.{Refused}
use Rattle.drv_periodic_table.specs.declared.content.Removed.TheVariants as removed
use Rattle.drv_periodic_table.specs.Periodic.{is_periodic}
use Rattle.drv_table.specs.declared.content.Endpoint.{Endpoint}
use Rattle.drv_table.specs.declared.content.Slots.{Slots}
use Rattle.drv_table.specs.declared.content.Sort.TheVariants as sorts
use Rattle.drv_table.specs.DriverContent.{DriverContent, busy, endpoint_of, endpoint_named, waits_for}
use Rattle.drv_table.specs.Words.{needs, get_stages, put_stages, request_stages, request_length}
use Rattle.drv_table.specs.Kinds.{is_iso}
use Rattle.drv_table.specs.Accepting.{Offered, take_runs}
use Rattle.drv_table.specs.Commands.{no_command, leave_frames, removal_of}
use Rattle.drv_table.specs.Offers.{Asked, taken_open, taken_chain, placed_open, planned_open, offered_open, taken_transfer, open_transfer, found_transfer, takes_get, takes_put, takes_control, offered_next, offered}
use Rattle.drv_table.specs.IsoOffers.{slots_of, iso_needs, taken_iso, open_iso, offered_iso, spans_too_long, has_slots}
use Rattle.drv_table.specs.CancelOffers.{with_cancel, accepted_unchain, cancelled_by, endpoint_members, offered_cancel}
use Rattle.drv_table.specs.PeriodicOpens.{asked}
use Rattle.law_resting.specs.Counted.{HasSome, HasSomeIn}

or_else : (P : Offered → Type 0) (b : Bool) (x y : Result Offered OfferError) → IfOk x P → IfOk y P → IfOk (if b then x else y) P
or_else P true x y one two = one
or_else P false x y one two = two

transfer_taken : (d : DriverContent) (e : ℕ) (x : Endpoint) (a : Asked) (r : Result Holding OfferError)
    → IfOk (taken_transfer d e x a r) (λ o. HasSomeIn o.driver.command)
transfer_taken d e x a (Err why) = tt
transfer_taken d e x a (Ok h) = tt

transfer_opened : (d : DriverContent) (m : Mem) (e : ℕ) (x : Endpoint) (a : Asked) (c : Option EndCause)
    → IfOk (open_transfer d m e x a c) (λ o. HasSomeIn o.driver.command)
transfer_opened d m e x a (Some cause) = tt
transfer_opened d m e x a None =
    or_else (λ o. HasSomeIn o.driver.command) (nat_lt 20480 a.most) (Err errors.TooLong)
    (taken_transfer d e x a (take_runs (holding d.book m) (needs a.stages)))
    tt (transfer_taken d e x a (take_runs (holding d.book m) (needs a.stages)))

transfer_found : (d : DriverContent) (m : Mem) (takes : Endpoint → Bool) (a : Asked) (e : ℕ) (q : Option Endpoint)
    → IfOk (found_transfer d m takes a e q) (λ o. HasSomeIn o.driver.command)
transfer_found d m takes a e None = tt
transfer_found d m takes a e (Some x) =
    or_else (λ o. HasSomeIn o.driver.command) (takes x) (open_transfer d m e x a x.ended) (Err errors.NoEndpoint)
    (transfer_opened d m e x a x.ended) tt

iso_taken : (d : DriverContent) (e : ℕ) (x : Endpoint) (s : Slots) (n seed : ℕ) (r : Result Holding OfferError) → 1 ≤ n
    → IfOk (taken_iso d e x s n seed r) (λ o. HasSomeIn o.driver.command)
iso_taken d e x s n seed (Err why) some = tt
iso_taken d e x s n seed (Ok h) some = some

iso_opened : (d : DriverContent) (m : Mem) (e : ℕ) (x : Endpoint) (s : Slots) (n seed : ℕ) (c : Option EndCause) → 1 ≤ n
    → IfOk (open_iso d m e x s n seed c) (λ o. HasSomeIn o.driver.command)
iso_opened d m e x s n seed (Some cause) some = tt
iso_opened d m e x s n seed None some =
    or_else (λ o. HasSomeIn o.driver.command) (spans_too_long x (n + count_by (waits_for e) d.transfers) || not (has_slots x s))
    (Err errors.TooLong)
    (taken_iso d e x s n seed (take_runs (holding d.book m) (iso_needs s n))) tt
    (iso_taken d e x s n seed (take_runs (holding d.book m) (iso_needs s n)) some)

iso_found : (d : DriverContent) (m : Mem) (e n len seed : ℕ) (q : Option Endpoint) → 1 ≤ n
    → IfOk (offered_iso d m e n len seed q) (λ o. HasSomeIn o.driver.command)
iso_found d m e n len seed None some = tt
iso_found d m e n len seed (Some x) some =
    or_else (λ o. HasSomeIn o.driver.command) (is_iso x.desc.kind) (open_iso d m e x (slots_of x len) n seed x.ended)
    (Err errors.NoEndpoint)
    (iso_opened d m e x (slots_of x len) n seed x.ended some) tt

-- ---- a cancel

left_fits : (d : DriverContent) (e : ℕ) (o : Option Endpoint) → HasSomeIn (leave_frames (no_command d) e o).command
left_fits d e None = tt
left_fits d e (Some x) =
    elim x.chained as (λ (b : Bool). HasSomeIn (if b then
    record (no_command d) {
      endpoints = slice_set d.endpoints e (record x { chained = false });
      periodic = record d.periodic { removals = d.periodic.removals ++ removal_of (removed.Endpoint e) ∷ [] };
    } else no_command d).command) [ true ↦ tt | false ↦ tt ]

unchained : (d : DriverContent) (e : ℕ) (x : Endpoint) (ms : List Member) → HasSomeIn (accepted_unchain d e x ms).command
unchained d e x ms = at (is_none (with_cancel d e x ms).periodic.list.work)
  where
    at : (b : Bool)
        → HasSomeIn (if b then leave_frames (no_command (with_cancel d e x ms)) e (slice_get (with_cancel d e x ms).endpoints e) else
        with_cancel d e x ms).command
    at true = left_fits (with_cancel d e x ms) e (slice_get (with_cancel d e x ms).endpoints e)
    at false = tt

cancelled : (d : DriverContent) (e : ℕ) (x : Endpoint) (o : Option Placement) → HasSomeIn (cancelled_by d e x o).command
cancelled d e x None = tt
cancelled d e x (Some p) = unchained d e x (endpoint_members d e x p)

cancel_found : (d : DriverContent) (m : Mem) (e : ℕ) (q : Option Endpoint) → IfOk (offered_cancel d m e q) (λ o. HasSomeIn o.driver.command)
cancel_found d m e None = tt
cancel_found d m e (Some x) =
    or_else (λ o. HasSomeIn o.driver.command) x.cancelled (Err (errors.Closed causes.Cancel))
    (Ok (record { driver = cancelled_by d e x x.placement; memory = m }))
    tt (cancelled d e x x.placement)

-- ---- an open

module _ (d : DriverContent) (idle : d.command ≡ None) where
  open_taken : (x : EpDesc) (r : Result Holding OfferError) → IfOk (taken_open d x r) (λ o. HasSomeIn o.driver.command)
  open_taken x (Err why) = tt
  open_taken x (Ok h) = tt

  chain_taken : (x : EpDesc) (p : Placement) (r : Result Holding OfferError) → IfOk (taken_chain d x p r) (λ o. HasSomeIn o.driver.command)
  chain_taken x p (Err why) = tt
  chain_taken x p (Ok h) = tt

  placed_there : (m : Mem) (x : EpDesc) (p : Placement) (k : EpKind) → IfOk (placed_open d m x p k) (λ o. HasSomeIn o.driver.command)
  placed_there m x p kinds.Iso = subst HasSomeIn (sym idle) tt
  placed_there m x p _ = chain_taken x p (take_runs (holding d.book m) (2 ∷ 1 ∷ []))

  planned : (m : Mem) (x : EpDesc) (r : Result Placement Refused) → IfOk (planned_open d m x r) (λ o. HasSomeIn o.driver.command)
  planned m x (Err why) = tt
  planned m x (Ok p) = placed_there m x p x.kind

  refused_again : (c : Option EndCause)
      → IfOk (elim c [ Some cause ↦ Err (errors.Closed cause) | None ↦ Err errors.AlreadyOpen ])
      (λ (o : Offered). HasSomeIn o.driver.command)
  refused_again None = tt
  refused_again (Some cause) = tt

  open_found : (m : Mem) (x : EpDesc) (q : Option Endpoint) → IfOk (offered_open d m x q) (λ o. HasSomeIn o.driver.command)
  open_found m x (Some old) = refused_again old.ended
  open_found m x None =
      or_else (λ o. HasSomeIn o.driver.command) (is_periodic x.kind) (planned_open d m x (answer d.periodic.plan (asked d x)))
      (taken_open d x (take_runs (holding d.book m) (2 ∷ 1 ∷ [])))
      (planned m x (answer d.periodic.plan (asked d x))) (open_taken x (take_runs (holding d.book m) (2 ∷ 1 ∷ [])))

  next_offered : (m : Mem) (cmd : Cmd) → HasSome cmd → IfOk (offered_next d m cmd) (λ o. HasSomeIn o.driver.command)
  next_offered m (commands.OpenEp x) some = open_found m x (endpoint_named d x.name)
  next_offered m (commands.Get name len by) some = transfer_found d m takes_get
      (record { sort = sorts.Get; stages = get_stages len by; most = len; bytes = [] }) (unwrap_or (endpoint_of d name) 0)
      (endpoint_named d name)
  next_offered m (commands.Put name bytes by) some = transfer_found d m takes_put
      (record { sort = sorts.Put; stages = put_stages (length bytes) by; most = length bytes; bytes = bytes })
      (unwrap_or (endpoint_of d name) 0) (endpoint_named d name)
  next_offered m (commands.Control name setup bytes) some = transfer_found d m takes_control
      (record { sort = sorts.Request; stages = request_stages setup; most = request_length setup; bytes = setup ++ bytes })
      (unwrap_or (endpoint_of d name) 0) (endpoint_named d name)
  next_offered m (commands.Iso name count len seed) some =
      iso_found d m (unwrap_or (endpoint_of d name) 0) count len seed (endpoint_named d name) some
  next_offered m (commands.Cancel name) some = cancel_found d m (unwrap_or (endpoint_of d name) 0) (endpoint_named d name)
  next_offered m _ some = tt

pub some_described : (d : DriverContent) (m : Mem) (cmd : Cmd) → d.command ≡ None → HasSome cmd
    → IfOk (offered d m cmd) (λ o. HasSomeIn o.driver.command)
some_described d m cmd idle some =
    or_else (λ o. HasSomeIn o.driver.command) (busy d) (Err errors.Busy) (offered_next d m cmd) tt (next_offered d idle m cmd some)
