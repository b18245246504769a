-- A command that is accepted takes as much of its room as it has transfers.
use Rattle.std.proofs.Common.{◌≡◌, ℕ, zero, suc, ◌+◌, ◌≤◌, ◌%◌, Bool, true, false, not, ◌||◌, cond, nat_lt, List, [], ◌∷◌, ◌++◌, length, drop, get_or, slice_get, Option, Some, None, Result, Ok, Err, unwrap_or, ap, sym, subst, refl, arith, length-append}
use Rattle.std.specs.Prelude.{is_some, is_none, count_by}
use Rattle.law_driver.proofs.Common.{ok_is}
use Rattle.usb_base.specs.declared.endpoints.EpDesc.{EpDesc}
use Rattle.usb_base.specs.declared.endpoints.EndCause.{EndCause}
use Rattle.usb_base.specs.declared.endpoints.EndCause.TheVariants as causes
use Rattle.usb_base.specs.declared.packets.EpKind.{EpKind}
use Rattle.usb_base.specs.declared.packets.EpKind.TheVariants as kinds
use Rattle.usb_base.specs.declared.commands.Cmd.{Cmd}
use Rattle.usb_base.specs.declared.commands.Cmd.TheVariants as commands
use Rattle.usb_base.specs.declared.reports.OfferError.{OfferError}
use Rattle.usb_base.specs.declared.reports.OfferError.TheVariants as errors
use Rattle.word_mem.specs.Memory.{Mem}
use Rattle.mem_runs.specs.Book.{Book, Holding, holding}
use Rattle.bandwidth.specs.declared.placements.Placement.{Placement}
use Rattle.bandwidth.specs.declared.placements.Refused.{Refused}
use Rattle.bandwidth.specs.Admission.{answer}
use Rattle.drv_periodic_table.specs.Periodic.{is_periodic, want_of}
use Rattle.drv_table.specs.declared.content.Endpoint.{Endpoint}
use Rattle.drv_table.specs.declared.content.Slots.{Slots}
use Rattle.drv_table.specs.declared.content.Sort.TheVariants as sorts
use Rattle.drv_table.specs.declared.content.Command.{Command}
use Rattle.drv_table.specs.declared.content.Command.TheVariants as unfinished
use Rattle.drv_table.specs.DriverContent.{DriverContent, waits_for, endpoint_of, endpoint_named}
use Rattle.drv_table.specs.Words.{get_stages, put_stages, request_length, request_stages, needs}
use Rattle.drv_table.specs.Accepting.{Offered, new_runs, take_runs}
use Rattle.drv_table.specs.Offers.{Asked, taken_open, taken_chain, placed_open, planned_open, offered_open, new_transfer, taken_transfer, open_transfer, found_transfer, takes_get, takes_put, takes_control, offered_next, offered, IsOffered}
use Rattle.drv_table.specs.IsoOffers.{Descriptors, total_of, slot_runs, slots_of, iso_needs, descriptor_transfer, one_descriptor, all_descriptors, taken_iso, spans_too_long, has_slots, open_iso, offered_iso}
use Rattle.drv_table.specs.CancelOffers.{endpoint_members, with_cancel, cancelled_by, offered_cancel}
use Rattle.drv_table.specs.Kinds.{is_iso}
use Rattle.drv_table.specs.Commands.{leave_frames, no_command, finished, or_finished}

abbrev pub KeepsRoom : DriverContent → Offered → Type 0
KeepsRoom d o = length o.driver.transfers + o.driver.room.transfers ≤ length d.transfers + d.room.transfers

by_ok : (d : DriverContent) (p o : Offered) → KeepsRoom d p → ◌≡◌ {A = Result Offered OfferError} (Ok p) (Ok o) → KeepsRoom d o
by_ok d p o kept is = subst (λ (f : Offered). KeepsRoom d f) (sym (ok_is p o is)) kept

-- ---- an open

open_taken : (d : DriverContent) (x : EpDesc) (o : Offered) (r : Result Holding OfferError) → taken_open d x r ≡ Ok o → KeepsRoom d o
open_taken d x o (Err why) f = absurd (cc)
open_taken d x o (Ok h) f = by_ok d _ o (omega arith) f

chain_taken : (d : DriverContent) (x : EpDesc) (p : Placement) (o : Offered) (r : Result Holding OfferError) → taken_chain d x p r ≡ Ok o → KeepsRoom d o
chain_taken d x p o (Err why) f = absurd (cc)
chain_taken d x p o (Ok h) f = by_ok d _ o (omega arith) f

placed_room : (d : DriverContent) (m : Mem) (x : EpDesc) (p : Placement) (o : Offered) (k : EpKind) → placed_open d m x p k ≡ Ok o → KeepsRoom d o
placed_room d m x p o kinds.Iso f = by_ok d _ o (omega arith) f
placed_room d m x p o _ f = chain_taken d x p o (take_runs (holding d.book m) (2 ∷ 1 ∷ [])) f

planned_room : (d : DriverContent) (m : Mem) (x : EpDesc) (o : Offered) (r : Result Placement Refused) → planned_open d m x r ≡ Ok o → KeepsRoom d o
planned_room d m x o (Err why) f = absurd (cc)
planned_room d m x o (Ok p) f = placed_room d m x p o x.kind f

new_room : (d : DriverContent) (m : Mem) (x : EpDesc) (o : Offered) (b : Bool) → cond b (planned_open d m x (answer d.periodic.plan (want_of (length d.endpoints) x))) (taken_open d x (take_runs (holding d.book m) (2 ∷ 1 ∷ []))) ≡ Ok o → KeepsRoom d o
new_room d m x o true f = planned_room d m x o (answer d.periodic.plan (want_of (length d.endpoints) x)) f
new_room d m x o false f = open_taken d x o (take_runs (holding d.book m) (2 ∷ 1 ∷ [])) f

again_room : (d : DriverContent) (m : Mem) (x : EpDesc) (o : Offered) (old : Endpoint) (c : Option EndCause) → old.ended ≡ c → offered_open d m x (Some old) ≡ Ok o → KeepsRoom d o
again_room d m x o old (Some cause) is f =
    let e : offered_open d m x (Some old) ≡ Err (errors.Closed cause) = ap (λ (k : Option EndCause). again k) is in absurd (cc)
  where
    again : Option EndCause → Result Offered OfferError
    again k = elim k [ Some cause ↦ Err (errors.Closed cause) | None ↦ Err errors.AlreadyOpen ]
again_room d m x o old None is f =
    let e : offered_open d m x (Some old) ≡ Err errors.AlreadyOpen = ap (λ (k : Option EndCause). again k) is in absurd (cc)
  where
    again : Option EndCause → Result Offered OfferError
    again k = elim k [ Some cause ↦ Err (errors.Closed cause) | None ↦ Err errors.AlreadyOpen ]

open_room : (d : DriverContent) (m : Mem) (x : EpDesc) (o : Offered) (q : Option Endpoint) → offered_open d m x q ≡ Ok o → KeepsRoom d o
open_room d m x o (Some old) f = again_room d m x o old old.ended refl f
open_room d m x o None f = new_room d m x o (is_periodic x.kind) f

-- ---- a transfer

transfer_taken : (d : DriverContent) (e : ℕ) (x : Endpoint) (a : Asked) (o : Offered) (r : Result Holding OfferError) → 1 ≤ d.room.transfers → taken_transfer d e x a r ≡ Ok o → KeepsRoom d o
transfer_taken d e x a o (Err why) some f = absurd (cc)
transfer_taken d e x a o (Ok h) some f = let n = length-append d.transfers (new_transfer e a x.dummy ∷ []) in by_ok d _ o (omega (arith, n, some)) f

transfer_opened : (d : DriverContent) (m : Mem) (e : ℕ) (x : Endpoint) (a : Asked) (o : Offered) (c : Option EndCause) → 1 ≤ d.room.transfers → open_transfer d m e x a c ≡ Ok o → KeepsRoom d o
transfer_opened d m e x a o (Some cause) some f = absurd (cc)
transfer_opened d m e x a o None some f = at (nat_lt 20480 a.most) f
  where
    at : (b : Bool) → cond b (Err errors.TooLong) (taken_transfer d e x a (take_runs (holding d.book m) (needs a.stages))) ≡ Ok o → KeepsRoom d o
    at true g = absurd (cc)
    at false g = transfer_taken d e x a o (take_runs (holding d.book m) (needs a.stages)) some g

transfer_found : (d : DriverContent) (m : Mem) (takes : Endpoint → Bool) (a : Asked) (e : ℕ) (o : Offered) (q : Option Endpoint) → 1 ≤ d.room.transfers → found_transfer d m takes a e q ≡ Ok o → KeepsRoom d o
transfer_found d m takes a e o None some f = absurd (cc)
transfer_found d m takes a e o (Some x) some f = at (takes x) f
  where
    at : (b : Bool) → cond b (open_transfer d m e x a x.ended) (Err errors.NoEndpoint) ≡ Ok o → KeepsRoom d o
    at true g = transfer_opened d m e x a o x.ended some g
    at false g = absurd (cc)

-- ---- descriptors

pub descriptors_many : (k : Book) (e : ℕ) (x : EpDesc) (s : Slots) (n seed : ℕ) (rs : List ℕ) (a : Descriptors) → length (all_descriptors k e x s n seed rs a).transfers ≡ length a.transfers + n
unfolding all_descriptors
descriptors_many k e x s zero seed rs a = omega arith
descriptors_many k e x s (suc n) seed rs a =
    let more = descriptors_many k e x s n ((seed + total_of s) % 256) (drop (suc (slot_runs s)) rs) (one_descriptor k e x s seed rs a) in
    let one = length-append a.transfers (descriptor_transfer e s (get_or rs 0 0) ∷ []) in
    omega (arith, more, one)

iso_taken : (d : DriverContent) (e : ℕ) (x : Endpoint) (s : Slots) (n seed : ℕ) (o : Offered) (r : Result Holding OfferError) → n ≤ d.room.transfers → taken_iso d e x s n seed r ≡ Ok o → KeepsRoom d o
iso_taken d e x s n seed o (Err why) few f = absurd (cc)
iso_taken d e x s n seed o (Ok h) few f =
    let many = descriptors_many h.book e x.desc s n seed (new_runs d h) (record { notes = d.periodic.notes; transfers = d.transfers; memory = h.memory }) in
    by_ok d _ o (omega (arith, many, few)) f

iso_opened : (d : DriverContent) (m : Mem) (e : ℕ) (x : Endpoint) (s : Slots) (n seed : ℕ) (o : Offered) (c : Option EndCause) → n ≤ d.room.transfers → open_iso d m e x s n seed c ≡ Ok o → KeepsRoom d o
iso_opened d m e x s n seed o (Some cause) few f = absurd (cc)
iso_opened d m e x s n seed o None few f = at (spans_too_long x (n + count_by (waits_for e) d.transfers) || not (has_slots x s)) f
  where
    at : (b : Bool) → cond b (Err errors.TooLong) (taken_iso d e x s n seed (take_runs (holding d.book m) (iso_needs s n))) ≡ Ok o → KeepsRoom d o
    at true g = absurd (cc)
    at false g = iso_taken d e x s n seed o (take_runs (holding d.book m) (iso_needs s n)) few g

iso_found : (d : DriverContent) (m : Mem) (e n len seed : ℕ) (o : Offered) (q : Option Endpoint) → n ≤ d.room.transfers → offered_iso d m e n len seed q ≡ Ok o → KeepsRoom d o
iso_found d m e n len seed o None few f = absurd (cc)
iso_found d m e n len seed o (Some x) few f = at (is_iso x.desc.kind) f
  where
    at : (b : Bool) → cond b (open_iso d m e x (slots_of x len) n seed x.ended) (Err errors.NoEndpoint) ≡ Ok o → KeepsRoom d o
    at true g = iso_opened d m e x (slots_of x len) n seed o x.ended few g
    at false g = absurd (cc)

-- ---- a cancel

abbrev SameRoom : DriverContent → DriverContent → Type 0
SameRoom d e = length e.transfers + e.room.transfers ≡ length d.transfers + d.room.transfers

either : (d x y : DriverContent) (b : Bool) → SameRoom d x → SameRoom d y → SameRoom d (cond b x y)
either d x y true one two = one
either d x y false one two = two

frames_same : (d : DriverContent) (e : ℕ) (o : Option Endpoint) → SameRoom d (leave_frames d e o)
frames_same d e None = refl
frames_same d e (Some x) = either d _ d x.chained refl refl

done_same : (d : DriverContent) (e : ℕ) → SameRoom d (or_finished d (unfinished.Unchain e))
done_same d e = either d (finished d (unfinished.Unchain e)) d (is_none d.periodic.list.work) (frames_same (no_command d) e (slice_get d.endpoints e)) refl

cancel_same : (d : DriverContent) (e : ℕ) (x : Endpoint) (p : Option Placement) → length (cancelled_by d e x p).transfers + (cancelled_by d e x p).room.transfers ≤ length d.transfers + d.room.transfers
cancel_same d e x None = omega arith
cancel_same d e x (Some p) = let s = done_same (with_cancel d e x (endpoint_members d e x p)) e in omega (arith, s)

cancel_found : (d : DriverContent) (m : Mem) (e : ℕ) (o : Offered) (q : Option Endpoint) → offered_cancel d m e q ≡ Ok o → KeepsRoom d o
cancel_found d m e o None f = absurd (cc)
cancel_found d m e o (Some x) f = at x.cancelled f
  where
    at : (b : Bool) → cond b (Err (errors.Closed causes.Cancel)) (Ok (record { driver = cancelled_by d e x x.placement; memory = m })) ≡ Ok o → KeepsRoom d o
    at true g = absurd (cc)
    at false g = by_ok d (record { driver = cancelled_by d e x x.placement; memory = m }) o (cancel_same d e x x.placement) g

-- ---- any command

next_room : (d : DriverContent) (m : Mem) (cmd : Cmd) (o : Offered) → IsOffered d.room cmd → offered_next d m cmd ≡ Ok o → KeepsRoom d o
next_room d m (commands.OpenEp x) o room f = open_room d m x o (endpoint_named d x.name) f
next_room d m (commands.Get name len by) o room f = transfer_found d m takes_get (record { sort = sorts.Get; stages = get_stages len by; most = len; bytes = [] }) (unwrap_or (endpoint_of d name) 0) o (endpoint_named d name) room.2.0 f
next_room d m (commands.Put name bytes by) o room f = transfer_found d m takes_put (record { sort = sorts.Put; stages = put_stages (length bytes) by; most = length bytes; bytes = bytes }) (unwrap_or (endpoint_of d name) 0) o (endpoint_named d name) room.2.0 f
next_room d m (commands.Control name setup bytes) o room f = transfer_found d m takes_control (record { sort = sorts.Request; stages = request_stages setup; most = request_length setup; bytes = setup ++ bytes }) (unwrap_or (endpoint_of d name) 0) o (endpoint_named d name) room.0 f
next_room d m (commands.Iso name count len seed) o room f = iso_found d m (unwrap_or (endpoint_of d name) 0) count len seed o (endpoint_named d name) room.0 f
next_room d m (commands.Cancel name) o room f = cancel_found d m (unwrap_or (endpoint_of d name) 0) o (endpoint_named d name) f
next_room d m _ o room f = absurd (cc)

pub room_kept : (d : DriverContent) (m : Mem) (cmd : Cmd) (o : Offered) → IsOffered d.room cmd → offered d m cmd ≡ Ok o → KeepsRoom d o
room_kept d m cmd o room f = at d.command f
  where
    at : (c : Option Command) → cond (is_some c) (Err errors.Busy) (offered_next d m cmd) ≡ Ok o → KeepsRoom d o
    at (Some c) g = absurd (cc)
    at None g = next_room d m cmd o room g
