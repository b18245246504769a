-- An offer writes no line of the report, and makes no more room for lines.
use Rattle.std.proofs.Common.{◌≡◌, ℕ, ◌+◌, ◌-◌, ◌≤◌, Bool, List, [], ◌∷◌, ◌++◌, length, slice_get, Option, Some, None}
use Rattle.std.proofs.Common.{Result, Ok, Err, refl, arith}
use Rattle.std.specs.Prelude.{nat_lt, unwrap_or, is_none, count_by, ◌||◌, not}
use Rattle.std.proofs.lemmas.Bool.{cond_both}
use Rattle.usb_base.specs.declared.commands.Cmd.{Cmd}
use Rattle.usb_base.specs.declared.commands.Cmd.TheVariants as commands
use Rattle.usb_base.specs.declared.endpoints.EpName.{EpName}
use Rattle.usb_base.specs.declared.endpoints.EpDesc.{EpDesc}
use Rattle.usb_base.specs.declared.endpoints.EndCause.{EndCause}
use Rattle.usb_base.specs.declared.endpoints.EndCause.TheVariants as causes
use Rattle.usb_base.specs.declared.packets.EpKind.{EpKind}
use Rattle.usb_base.specs.declared.packets.EpKind.TheVariants as kinds
use Rattle.usb_base.specs.declared.reports.OfferError.{OfferError}
use Rattle.usb_base.specs.declared.reports.OfferError.TheVariants as errors
use Rattle.word_mem.specs.Memory.{Mem}
use Rattle.mem_runs.specs.Book.{Holding, holding}
use Rattle.bandwidth.specs.declared.placements.Placement.{Placement}
use Rattle.bandwidth.specs.declared.placements.Refused.{Refused}
use Rattle.bandwidth.specs.Admission.{answer}
use Rattle.drv_periodic_table.specs.Periodic.{is_periodic, want_of}
use Rattle.drv_table.specs.declared.content.Endpoint.{Endpoint}
use Rattle.drv_table.specs.declared.content.Slots.{Slots}
use Rattle.drv_table.specs.declared.content.Command.TheVariants as unfinished
use Rattle.drv_table.specs.declared.content.Sort.TheVariants as sorts
use Rattle.drv_table.specs.Words.{get_stages, put_stages, request_stages, request_length}
use Rattle.drv_table.specs.DriverContent.{DriverContent, busy, endpoint_of, endpoint_named, waits_for}
use Rattle.drv_table.specs.Kinds.{is_iso}
use Rattle.drv_table.specs.Commands.{or_finished, finished, no_command, leave_frames}
use Rattle.drv_table.specs.Accepting.{Offered, take_runs}
use Rattle.drv_table.specs.Offers.{offered, offered_next, offered_open, taken_open, taken_chain, placed_open, planned_open, new_open, offered_transfer, found_transfer, open_transfer, taken_transfer, takes_get, takes_put, takes_control, Asked}
use Rattle.drv_table.specs.IsoOffers.{offered_iso, open_iso, taken_iso, iso_needs, slots_of, spans_too_long, has_slots}
use Rattle.drv_table.specs.CancelOffers.{offered_cancel, cancelled_by, with_cancel, endpoint_members}

-- what is asked by a get, a put and a request
abbrev pub get_asked : ℕ → ℕ → Asked
get_asked len by = record { sort = sorts.Get; stages = get_stages len by; most = len; bytes = [] }

abbrev pub put_asked : List ℕ → ℕ → Asked
put_asked bytes by = record { sort = sorts.Put; stages = put_stages (length bytes) by; most = length bytes; bytes = bytes }

abbrev pub request_asked : List ℕ → List ℕ → Asked
request_asked setup bytes = record { sort = sorts.Request; stages = request_stages setup; most = request_length setup; bytes = setup ++ bytes }

pub record SameLines (d e : DriverContent) : Type 0 where
  pub reports : e.reports ≡ d.reports
  pub store : e.store ≡ d.store
  pub fewer : e.room.reports ≤ d.room.reports

abbrev pub Lines : DriverContent → Result Offered OfferError → Type 0
Lines d (Ok o) = SameLines d o.driver
Lines d (Err why) = Unit {0}

ended_lines : (d : DriverContent) (cause : Option EndCause) → Lines d (elim cause [ Some c ↦ Err (errors.Closed c) | None ↦ Err errors.AlreadyOpen ])
ended_lines d (Some c) = tt
ended_lines d None = tt

taken_open_lines : (d : DriverContent) (x : EpDesc) (h : Result Holding OfferError) → Lines d (taken_open d x h)
taken_open_lines d x (Err why) = tt
taken_open_lines d x (Ok h) = record { reports = refl; store = refl; fewer = omega arith }

taken_chain_lines : (d : DriverContent) (x : EpDesc) (p : Placement) (h : Result Holding OfferError) → Lines d (taken_chain d x p h)
taken_chain_lines d x p (Err why) = tt
taken_chain_lines d x p (Ok h) = record { reports = refl; store = refl; fewer = omega arith }

placed_open_lines : (d : DriverContent) (m : Mem) (x : EpDesc) (p : Placement) (kind : EpKind) → Lines d (placed_open d m x p kind)
placed_open_lines d m x p kinds.Iso = record { reports = refl; store = refl; fewer = omega arith }
placed_open_lines d m x p _ = taken_chain_lines d x p (take_runs (holding d.book m) (2 ∷ 1 ∷ []))

planned_open_lines : (d : DriverContent) (m : Mem) (x : EpDesc) (p : Result Placement Refused) → Lines d (planned_open d m x p)
planned_open_lines d m x (Err why) = tt
planned_open_lines d m x (Ok p) = placed_open_lines d m x p x.kind

new_open_lines : (d : DriverContent) (m : Mem) (x : EpDesc) → Lines d (new_open d m x)
new_open_lines d m x =
    cond_both (is_periodic x.kind) (planned_open d m x (answer d.periodic.plan (want_of (length d.endpoints) x))) (taken_open d x (take_runs (holding d.book m) (2 ∷ 1 ∷ []))) (Lines d)
    (λ _. planned_open_lines d m x (answer d.periodic.plan (want_of (length d.endpoints) x)))
    (λ _. taken_open_lines d x (take_runs (holding d.book m) (2 ∷ 1 ∷ [])))

open_lines : (d : DriverContent) (m : Mem) (x : EpDesc) (old : Option Endpoint) → Lines d (offered_open d m x old)
open_lines d m x (Some old) = ended_lines d old.ended
open_lines d m x None = new_open_lines d m x

taken_transfer_lines : (d : DriverContent) (e : ℕ) (x : Endpoint) (a : Asked) (h : Result Holding OfferError) → Lines d (taken_transfer d e x a h)
taken_transfer_lines d e x a (Err why) = tt
taken_transfer_lines d e x a (Ok h) = record { reports = refl; store = refl; fewer = omega arith }

open_transfer_lines : (d : DriverContent) (m : Mem) (e : ℕ) (x : Endpoint) (a : Asked) (cause : Option EndCause) → Lines d (open_transfer d m e x a cause)
open_transfer_lines d m e x a (Some cause) = tt
open_transfer_lines d m e x a None =
    cond_both (nat_lt 20480 a.most) (Err errors.TooLong) (taken_transfer d e x a (take_runs (holding d.book m) _)) (Lines d) (λ _. tt) (λ _. taken_transfer_lines d e x a _)

found_lines : (d : DriverContent) (m : Mem) (takes : Endpoint → Bool) (a : Asked) (e : ℕ) (x : Option Endpoint) → Lines d (found_transfer d m takes a e x)
found_lines d m takes a e None = tt
found_lines d m takes a e (Some x) =
    cond_both (takes x) (open_transfer d m e x a x.ended) (Err errors.NoEndpoint) (Lines d) (λ _. open_transfer_lines d m e x a x.ended) (λ _. tt)

transfer_lines : (d : DriverContent) (m : Mem) (name : EpName) (takes : Endpoint → Bool) (a : Asked) → Lines d (offered_transfer d m name takes a)
transfer_lines d m name takes a = found_lines d m takes a (unwrap_or (endpoint_of d name) 0) (endpoint_named d name)

taken_iso_lines : (d : DriverContent) (e : ℕ) (x : Endpoint) (s : Slots) (n seed : ℕ) (h : Result Holding OfferError) → Lines d (taken_iso d e x s n seed h)
taken_iso_lines d e x s n seed (Err why) = tt
taken_iso_lines d e x s n seed (Ok h) = record { reports = refl; store = refl; fewer = omega arith }

open_iso_lines : (d : DriverContent) (m : Mem) (e : ℕ) (x : Endpoint) (s : Slots) (n seed : ℕ) (cause : Option EndCause) → Lines d (open_iso d m e x s n seed cause)
open_iso_lines d m e x s n seed (Some cause) = tt
open_iso_lines d m e x s n seed None =
    cond_both (spans_too_long x (n + count_by (waits_for e) d.transfers) || not (has_slots x s)) (Err errors.TooLong) (taken_iso d e x s n seed (take_runs (holding d.book m) (iso_needs s n))) (Lines d)
    (λ _. tt)
    (λ _. taken_iso_lines d e x s n seed (take_runs (holding d.book m) (iso_needs s n)))

iso_lines : (d : DriverContent) (m : Mem) (e n len seed : ℕ) (x : Option Endpoint) → Lines d (offered_iso d m e n len seed x)
iso_lines d m e n len seed None = tt
iso_lines d m e n len seed (Some x) =
    cond_both (is_iso x.desc.kind) (open_iso d m e x (slots_of x len) n seed x.ended) (Err errors.NoEndpoint) (Lines d)
    (λ _. open_iso_lines d m e x (slots_of x len) n seed x.ended) (λ _. tt)

-- a cancel takes one line of the report, and nothing else of the room
pub record IsCancelled (d e : DriverContent) : Type 0 where
  pub lines : SameLines d e
  pub room : e.room ≡ record d.room { reports = d.room.reports - 1 }

frames_left : (d f : DriverContent) (e : ℕ) (x : Option Endpoint) → IsCancelled d f → IsCancelled d (leave_frames f e x)
frames_left d f e None h = h
frames_left d f e (Some x) h =
    cond_both x.chained _ f (IsCancelled d) (λ _. record { lines = record { reports = h.lines.reports; store = h.lines.store; fewer = h.lines.fewer }; room = h.room }) (λ _. h)

unchained : (d f : DriverContent) (e : ℕ) → IsCancelled d f → IsCancelled d (or_finished f (unfinished.Unchain e))
unchained d f e h =
    cond_both (is_none f.periodic.list.work) (finished f (unfinished.Unchain e)) f (IsCancelled d)
    (λ _. frames_left d (no_command f) e (slice_get f.endpoints e) (record { lines = record { reports = h.lines.reports; store = h.lines.store; fewer = h.lines.fewer }; room = h.room }))
    (λ _. h)

pub is_cancelled : (d : DriverContent) (e : ℕ) (x : Endpoint) (p : Option Placement) → IsCancelled d (cancelled_by d e x p)
is_cancelled d e x None = record { lines = record { reports = refl; store = refl; fewer = omega arith }; room = refl }
is_cancelled d e x (Some p) =
    unchained d (with_cancel d e x (endpoint_members d e x p)) e
    (record { lines = record { reports = refl; store = refl; fewer = omega arith }; room = refl })

cancel_lines : (d : DriverContent) (m : Mem) (e : ℕ) (x : Option Endpoint) → Lines d (offered_cancel d m e x)
cancel_lines d m e None = tt
cancel_lines d m e (Some x) =
    cond_both x.cancelled (Err (errors.Closed causes.Cancel)) (Ok (record { driver = cancelled_by d e x x.placement; memory = m })) (Lines d) (λ _. tt)
    (λ _. (is_cancelled d e x x.placement).lines)

pub next_lines : (d : DriverContent) (m : Mem) (cmd : Cmd) → Lines d (offered_next d m cmd)
next_lines d m (commands.OpenEp x) = open_lines d m x (endpoint_named d x.name)
next_lines d m (commands.Get name len by) = transfer_lines d m name takes_get (get_asked len by)
next_lines d m (commands.Put name bytes by) = transfer_lines d m name takes_put (put_asked bytes by)
next_lines d m (commands.Control name setup bytes) = transfer_lines d m name takes_control (request_asked setup bytes)
next_lines d m (commands.Iso name count len seed) = iso_lines d m (unwrap_or (endpoint_of d name) 0) count len seed (endpoint_named d name)
next_lines d m (commands.Cancel name) = cancel_lines d m (unwrap_or (endpoint_of d name) 0) (endpoint_named d name)
next_lines d m _ = tt

pub offer_lines : (d : DriverContent) (m : Mem) (cmd : Cmd) → Lines d (offered d m cmd)
offer_lines d m cmd = cond_both (busy d) (Err errors.Busy) (offered_next d m cmd) (Lines d) (λ _. tt) (λ _. next_lines d m cmd)
