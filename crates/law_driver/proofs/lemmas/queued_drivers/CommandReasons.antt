-- What an accepted command was accepted for, with the endpoint that it names.
use Rattle.std.proofs.Common.{◌≡◌, ℕ, ◌+◌, Bool, true, false, not, ◌||◌, cond, nat_lt, List, [], ◌∷◌, ◌++◌, length, get_or, slice_get, Option, Some, None, Result, Ok, Err, unwrap_or, ap, sym, ◌∙◌, refl}
use Rattle.std.specs.Prelude.{option_and_then, is_some, position, count_by}
use Rattle.std.proofs.lemmas.Bool.{false≢true}
use Rattle.std.proofs.lemmas.Option.{slice_get-get_or}
use Rattle.std.proofs.lemmas.List.Quantifiers.{position-Some}
use Rattle.law_driver.proofs.Common.{ok_is}
use Rattle.usb_base.specs.declared.endpoints.EpDesc.{EpDesc}
use Rattle.usb_base.specs.declared.endpoints.EpName.{EpName}
use Rattle.usb_base.specs.declared.endpoints.EndCause.{EndCause}
use Rattle.usb_base.specs.declared.endpoints.EndCause.TheVariants as causes
use Rattle.usb_base.specs.declared.commands.Cmd.{Cmd}
use Rattle.usb_base.specs.declared.commands.Cmd.TheVariants as commands
use Rattle.usb_base.specs.declared.reports.OfferError.{OfferError}
use Rattle.usb_base.specs.declared.reports.OfferError.TheVariants as errors
use Rattle.usb_base.specs.declared.packets.EpKind.{EpKind}
use Rattle.usb_base.specs.declared.packets.EpKind.TheVariants as kinds
use Rattle.word_mem.specs.Memory.{Mem}
use Rattle.mem_runs.specs.Book.{Holding, holding}
use Rattle.bandwidth.specs.declared.placements.Placement.{Placement}
use Rattle.bandwidth.specs.declared.placements.Refused.{Refused}
use Rattle.bandwidth.specs.Admission.{answer}
use Rattle.drv_periodic_table.specs.Periodic.{is_periodic, want_of}
use Rattle.drv_table.specs.declared.content.Endpoint.{Endpoint}
use Rattle.drv_table.specs.declared.content.Command.{Command}
use Rattle.drv_table.specs.declared.content.Slots.{Slots}
use Rattle.drv_table.specs.declared.content.Sort.TheVariants as sorts
use Rattle.drv_table.specs.Kinds.{is_iso}
use Rattle.drv_table.specs.DriverContent.{DriverContent, endpoint_of, endpoint_named, waits_for}
use Rattle.drv_table.specs.Words.{needs, get_stages, put_stages, request_length, request_stages}
use Rattle.drv_table.specs.Accepting.{Offered, take_runs, new_runs}
use Rattle.drv_table.specs.Offers.{Asked, placed_open, planned_open, taken_open, taken_chain, offered_open, taken_transfer, open_transfer, found_transfer, takes_get, takes_put, takes_control, offered_next, offered}
use Rattle.drv_table.specs.IsoOffers.{total_of, iso_needs, all_descriptors, entered_iso, slots_of, spans_too_long, has_slots, taken_iso, open_iso, offered_iso}
use Rattle.drv_table.specs.CancelOffers.{cancelled_by, offered_cancel}
use Rattle.law_driver.specs.run_owners.Accepts.{Opens, Chains, Places, Cancels, Unchains}

-- ---- what it comes to

pub data IsNew (d : DriverContent) (m : Mem) (o : Offered) (x : EpDesc) : Type 0 where
  in_ring : (w : Opens d m o) → w.desc ≡ x → IsNew d m o x
  in_frames : (w : Chains d m o) → w.desc ≡ x → IsNew d m o x
  bare : (w : Places d m o) → w.desc ≡ x → IsNew d m o x

-- this is asked of the endpoint with this name, which takes it
pub record IsTakenOn (d : DriverContent) (m : Mem) (o : Offered) (name : EpName) (takes : Endpoint → Bool) (a : Asked) : Type 0 where
  pub number : ℕ
  pub endpoint : Endpoint
  pub holding_after : Holding
  pub idle : d.command ≡ None
  pub named : endpoint_of d name ≡ Some number
  pub here : slice_get d.endpoints number ≡ Some endpoint
  pub taken : takes endpoint ≡ true
  pub goes_on : endpoint.ended ≡ None
  pub few : nat_lt 20480 a.most ≡ false
  pub runs : take_runs (holding d.book m) (needs a.stages) ≡ Ok holding_after
  pub is : ◌≡◌ {A = Result Offered OfferError} (taken_transfer d number endpoint a (Ok holding_after)) (Ok o)

-- descriptors of an isochronous endpoint are taken on
pub record IsDescribedAs (d : DriverContent) (m : Mem) (o : Offered) : Type 0 where
  pub number : ℕ
  pub endpoint : Endpoint
  pub slots : Slots
  pub count : ℕ
  pub seed : ℕ
  pub holding_after : Holding
  pub idle : d.command ≡ None
  pub here : slice_get d.endpoints number ≡ Some endpoint
  pub isochronous : is_iso endpoint.desc.kind ≡ true
  pub is : o ≡ entered_iso d number endpoint count (total_of slots) holding_after.book
      (all_descriptors holding_after.book number endpoint.desc slots count seed (new_runs d holding_after)
      (record { notes = d.periodic.notes; transfers = d.transfers; memory = holding_after.memory }))

pub data IsLeft (d : DriverContent) (m : Mem) (o : Offered) (name : EpName) : Type 0 where
  from_ring : (w : Cancels d m o) → endpoint_of d name ≡ Some w.number → IsLeft d m o name
  from_frames : (w : Unchains d m o) → endpoint_of d name ≡ Some w.number → IsLeft d m o name

abbrev pub request_of : List ℕ → List ℕ → Asked
request_of setup bytes = record { sort = sorts.Request; stages = request_stages setup; most = request_length setup; bytes = setup ++ bytes }

abbrev pub get_of : ℕ → ℕ → Asked
get_of len by = record { sort = sorts.Get; stages = get_stages len by; most = len; bytes = [] }

abbrev pub put_of : List ℕ → ℕ → Asked
put_of bytes by = record { sort = sorts.Put; stages = put_stages (length bytes) by; most = length bytes; bytes = bytes }

abbrev pub IsReasonOf : DriverContent → Mem → Offered → Cmd → Type 0
IsReasonOf d m o (commands.OpenEp x) = IsNew d m o x
IsReasonOf d m o (commands.Get name len by) = IsTakenOn d m o name takes_get (get_of len by)
IsReasonOf d m o (commands.Put name bytes by) = IsTakenOn d m o name takes_put (put_of bytes by)
IsReasonOf d m o (commands.Control name setup bytes) = IsTakenOn d m o name takes_control (request_of setup bytes)
IsReasonOf d m o (commands.Iso name count len seed) = IsDescribedAs d m o
IsReasonOf d m o (commands.Cancel name) = IsLeft d m o name
IsReasonOf d m o _ = ⊥

module _ (d : DriverContent) (m : Mem) (o : Offered) (idle : d.command ≡ None) where
  -- ---- a transfer

  module _ (name : EpName) (takes : Endpoint → Bool) (a : Asked) where
    taken_one : (e : ℕ) (x : Endpoint) (r : Result Holding OfferError) → endpoint_of d name ≡ Some e → slice_get d.endpoints e ≡ Some x → takes x ≡ true → x.ended ≡ None → nat_lt 20480 a.most ≡ false
        → take_runs (holding d.book m) (needs a.stages) ≡ r → taken_transfer d e x a r ≡ Ok o → IsTakenOn d m o name takes a
    taken_one e x (Err why) named here taken ended few is f = absurd (cc)
    taken_one e x (Ok h) named here taken ended few is f =
        record { number = e; endpoint = x; holding_after = h; idle = idle; named = named; here = here; taken = taken; goes_on = ended; few = few; runs = is; is = f }

    allowed_one : (e : ℕ) (x : Endpoint) (b : Bool) → endpoint_of d name ≡ Some e → slice_get d.endpoints e ≡ Some x → takes x ≡ true → x.ended ≡ None → nat_lt 20480 a.most ≡ b
        → cond b (Err errors.TooLong) (taken_transfer d e x a (take_runs (holding d.book m) (needs a.stages))) ≡ Ok o → IsTakenOn d m o name takes a
    allowed_one e x true named here taken ended is f = absurd (cc)
    allowed_one e x false named here taken ended is f = taken_one e x (take_runs (holding d.book m) (needs a.stages)) named here taken ended is refl f

    ended_one : (e : ℕ) (x : Endpoint) (c : Option EndCause) → endpoint_of d name ≡ Some e → slice_get d.endpoints e ≡ Some x → takes x ≡ true → x.ended ≡ c → open_transfer d m e x a c ≡ Ok o → IsTakenOn d m o name takes a
    ended_one e x (Some cause) named here taken ended f = absurd (cc)
    ended_one e x None named here taken ended f = allowed_one e x (nat_lt 20480 a.most) named here taken ended refl f

    takes_one : (e : ℕ) (x : Endpoint) (b : Bool) → endpoint_of d name ≡ Some e → slice_get d.endpoints e ≡ Some x → takes x ≡ b → cond b (open_transfer d m e x a x.ended) (Err errors.NoEndpoint) ≡ Ok o → IsTakenOn d m o name takes a
    takes_one e x false named here is f = absurd (cc)
    takes_one e x true named here is f = ended_one e x x.ended named here is refl f

    found_one : (e : ℕ) (q : Option Endpoint) → endpoint_of d name ≡ Some e → slice_get d.endpoints e ≡ q → found_transfer d m takes a e q ≡ Ok o → IsTakenOn d m o name takes a
    found_one e None named here f = absurd (cc)
    found_one e (Some x) named here f = takes_one e x (takes x) named here refl f

    named_one : (q : Option ℕ) → endpoint_of d name ≡ q → found_transfer d m takes a (unwrap_or q 0) (option_and_then (λ e. slice_get d.endpoints e) q) ≡ Ok o → IsTakenOn d m o name takes a
    named_one None named f = absurd (cc)
    named_one (Some e) named f = found_one e (slice_get d.endpoints e) named refl f

  -- ---- descriptors

  iso_taken : (e : ℕ) (x : Endpoint) (s : Slots) (n seed : ℕ) (r : Result Holding OfferError) → slice_get d.endpoints e ≡ Some x → is_iso x.desc.kind ≡ true → taken_iso d e x s n seed r ≡ Ok o → IsDescribedAs d m o
  iso_taken e x s n seed (Err why) here iso f = absurd (cc)
  iso_taken e x s n seed (Ok h) here iso f = record { number = e; endpoint = x; slots = s; count = n; seed = seed; holding_after = h; idle = idle; here = here; isochronous = iso; is = ok_is _ o f }

  iso_long : (e : ℕ) (x : Endpoint) (s : Slots) (n seed : ℕ) (b : Bool) → slice_get d.endpoints e ≡ Some x → is_iso x.desc.kind ≡ true
      → cond b (Err errors.TooLong) (taken_iso d e x s n seed (take_runs (holding d.book m) (iso_needs s n))) ≡ Ok o → IsDescribedAs d m o
  iso_long e x s n seed true here iso f = absurd (cc)
  iso_long e x s n seed false here iso f = iso_taken e x s n seed (take_runs (holding d.book m) (iso_needs s n)) here iso f

  iso_ended : (e : ℕ) (x : Endpoint) (s : Slots) (n seed : ℕ) (c : Option EndCause) → slice_get d.endpoints e ≡ Some x → is_iso x.desc.kind ≡ true → open_iso d m e x s n seed c ≡ Ok o → IsDescribedAs d m o
  iso_ended e x s n seed (Some cause) here iso f = absurd (cc)
  iso_ended e x s n seed None here iso f = iso_long e x s n seed (spans_too_long x (n + count_by (waits_for e) d.transfers) || not (has_slots x s)) here iso f

  iso_kind : (e : ℕ) (x : Endpoint) (len n seed : ℕ) (b : Bool) → slice_get d.endpoints e ≡ Some x → is_iso x.desc.kind ≡ b → cond b (open_iso d m e x (slots_of x len) n seed x.ended) (Err errors.NoEndpoint) ≡ Ok o → IsDescribedAs d m o
  iso_kind e x len n seed false here iso f = absurd (cc)
  iso_kind e x len n seed true here iso f = iso_ended e x (slots_of x len) n seed x.ended here iso f

  iso_found : (e len n seed : ℕ) (q : Option Endpoint) → slice_get d.endpoints e ≡ q → offered_iso d m e n len seed q ≡ Ok o → IsDescribedAs d m o
  iso_found e len n seed None here f = absurd (cc)
  iso_found e len n seed (Some x) here f = iso_kind e x len n seed (is_iso x.desc.kind) here refl f

  iso_named : (len n seed : ℕ) (q : Option ℕ) → offered_iso d m (unwrap_or q 0) n len seed (option_and_then (λ e. slice_get d.endpoints e) q) ≡ Ok o → IsDescribedAs d m o
  iso_named len n seed None f = absurd (cc)
  iso_named len n seed (Some e) f = iso_found e len n seed (slice_get d.endpoints e) refl f

  -- ---- an open

  found_there : (xs : List Endpoint) (p : Endpoint → Bool) (e : ℕ) → position p xs ≡ Some e → (y : Endpoint) × (slice_get xs e ≡ Some y)
  found_there [] p e f = absurd (cc)
  found_there (x ∷ xs) p e f =
      let at = position-Some p (x ∷ xs) e x f in (get_or (x ∷ xs) e x, slice_get-get_or (x ∷ xs) e x at.0)

  taken_new : (x : EpDesc) (r : Result Holding OfferError) → is_periodic x.kind ≡ false → endpoint_of d x.name ≡ None → take_runs (holding d.book m) (2 ∷ 1 ∷ []) ≡ r → taken_open d x r ≡ Ok o → IsNew d m o x
  taken_new x (Err why) ring none runs f = absurd (cc)
  taken_new x (Ok h) ring none runs f = in_ring (record { desc = x; holding_after = h; idle = idle; new_name = none; ring = ring; runs = runs; is = ok_is _ o f }) refl

  chained_new : (x : EpDesc) (p : Placement) (r : Result Holding OfferError) → is_periodic x.kind ≡ true → is_iso x.kind ≡ false → endpoint_of d x.name ≡ None → take_runs (holding d.book m) (2 ∷ 1 ∷ []) ≡ r → taken_chain d x p r ≡ Ok o → IsNew d m o x
  chained_new x p (Err why) frames queued none runs f = absurd (cc)
  chained_new x p (Ok h) frames queued none runs f =
      in_frames (record { desc = x; placement = p; holding_after = h; idle = idle; new_name = none; periodic = frames; queued = queued; runs = runs; is = ok_is _ o f }) refl

  kind_new : (x : EpDesc) (p : Placement) (k : EpKind) → x.kind ≡ k → is_periodic x.kind ≡ true → endpoint_of d x.name ≡ None → placed_open d m x p k ≡ Ok o → IsNew d m o x
  kind_new x p kinds.Iso kind frames none f = bare (record { desc = x; placement = p; idle = idle; new_name = none; isochronous = ap is_iso kind; is = ok_is _ o f }) refl
  kind_new x p kinds.Interrupt kind frames none f = chained_new x p (take_runs (holding d.book m) (2 ∷ 1 ∷ [])) frames (ap is_iso kind) none refl f
  kind_new x p _ kind frames none f = absurd (false≢true (sym (ap is_periodic kind) ∙ frames))

  planned_new : (x : EpDesc) (r : Result Placement Refused) → is_periodic x.kind ≡ true → endpoint_of d x.name ≡ None → planned_open d m x r ≡ Ok o → IsNew d m o x
  planned_new x (Err why) frames none f = absurd (cc)
  planned_new x (Ok p) frames none f = kind_new x p x.kind refl frames none f

  new_one : (x : EpDesc) (b : Bool) → is_periodic x.kind ≡ b → endpoint_of d x.name ≡ None
      → cond b (planned_open d m x (answer d.periodic.plan (want_of (length d.endpoints) x))) (taken_open d x (take_runs (holding d.book m) (2 ∷ 1 ∷ []))) ≡ Ok o → IsNew d m o x
  new_one x true is none f = planned_new x (answer d.periodic.plan (want_of (length d.endpoints) x)) is none f
  new_one x false is none f = taken_new x (take_runs (holding d.book m) (2 ∷ 1 ∷ [])) is none refl f

  again : (x : EpDesc) (old : Endpoint) (c : Option EndCause) → old.ended ≡ c → offered_open d m x (Some old) ≡ Ok o → ⊥
  again x old (Some cause) is f =
      let e : offered_open d m x (Some old) ≡ Err (errors.Closed cause) = ap (λ (k : Option EndCause). by k) is in cc
    where
      by : Option EndCause → Result Offered OfferError
      by k = elim k [ Some cause ↦ Err (errors.Closed cause) | None ↦ Err errors.AlreadyOpen ]
  again x old None is f =
      let e : offered_open d m x (Some old) ≡ Err errors.AlreadyOpen = ap (λ (k : Option EndCause). by k) is in cc
    where
      by : Option EndCause → Result Offered OfferError
      by k = elim k [ Some cause ↦ Err (errors.Closed cause) | None ↦ Err errors.AlreadyOpen ]

  open_one : (x : EpDesc) (n : Option ℕ) (q : Option Endpoint) → endpoint_of d x.name ≡ n → option_and_then (λ e. slice_get d.endpoints e) n ≡ q
      → ((e : ℕ) → n ≡ Some e → (y : Endpoint) × (slice_get d.endpoints e ≡ Some y)) → offered_open d m x q ≡ Ok o → IsNew d m o x
  open_one x n (Some old) named at some f = absurd (again x old old.ended refl f)
  open_one x None None named at some f = new_one x (is_periodic x.kind) refl named f
  open_one x (Some e) None named at some f = let y = some e refl in let w : Some y.0 ≡ None = sym y.1 ∙ at in absurd (cc)

  -- ---- a cancel

  cancelled_how : (name : EpName) (e : ℕ) (x : Endpoint) (p : Option Placement) → endpoint_of d name ≡ Some e → slice_get d.endpoints e ≡ Some x → x.cancelled ≡ false → x.placement ≡ p
      → ◌≡◌ {A = Result Offered OfferError} (Ok (record { driver = cancelled_by d e x p; memory = m })) (Ok o) → IsLeft d m o name
  cancelled_how name e x None named here fresh is f = from_ring (record { number = e; endpoint = x; idle = idle; here = here; fresh = fresh; ring = is; is = ok_is _ o f }) named
  cancelled_how name e x (Some p) named here fresh is f = from_frames (record { number = e; endpoint = x; placement = p; idle = idle; here = here; fresh = fresh; placed = is; is = ok_is _ o f }) named

  cancelled_one : (name : EpName) (e : ℕ) (x : Endpoint) (b : Bool) → endpoint_of d name ≡ Some e → slice_get d.endpoints e ≡ Some x → x.cancelled ≡ b
      → cond b (Err (errors.Closed causes.Cancel)) (Ok (record { driver = cancelled_by d e x x.placement; memory = m })) ≡ Ok o → IsLeft d m o name
  cancelled_one name e x true named here is f = absurd (cc)
  cancelled_one name e x false named here is f = cancelled_how name e x x.placement named here is refl f

  cancelled_at : (name : EpName) (e : ℕ) (q : Option Endpoint) → endpoint_of d name ≡ Some e → slice_get d.endpoints e ≡ q → offered_cancel d m e q ≡ Ok o → IsLeft d m o name
  cancelled_at name e None named here f = absurd (cc)
  cancelled_at name e (Some x) named here f = cancelled_one name e x x.cancelled named here refl f

  cancelled_named : (name : EpName) (q : Option ℕ) → endpoint_of d name ≡ q → offered_cancel d m (unwrap_or q 0) (option_and_then (λ e. slice_get d.endpoints e) q) ≡ Ok o → IsLeft d m o name
  cancelled_named name None named f = absurd (cc)
  cancelled_named name (Some e) named f = cancelled_at name e (slice_get d.endpoints e) named refl f

  -- ---- any command

  next_reason : (cmd : Cmd) → offered_next d m cmd ≡ Ok o → IsReasonOf d m o cmd
  next_reason (commands.OpenEp x) f = open_one x (endpoint_of d x.name) (endpoint_named d x.name) refl refl (λ e at. found_there d.endpoints _ e at) f
  next_reason (commands.Get name len by) f = named_one name takes_get (get_of len by) (endpoint_of d name) refl f
  next_reason (commands.Put name bytes by) f = named_one name takes_put (put_of bytes by) (endpoint_of d name) refl f
  next_reason (commands.Control name setup bytes) f = named_one name takes_control (request_of setup bytes) (endpoint_of d name) refl f
  next_reason (commands.Iso name count len seed) f = iso_named len count seed (endpoint_of d name) f
  next_reason (commands.Cancel name) f = cancelled_named name (endpoint_of d name) refl f
  next_reason _ f = absurd (cc)

busy_reason : (d : DriverContent) (m : Mem) (cmd : Cmd) (o : Offered) (c : Option Command) → d.command ≡ c → cond (is_some c) (Err errors.Busy) (offered_next d m cmd) ≡ Ok o → IsReasonOf d m o cmd
busy_reason d m cmd o (Some c) is f = absurd (cc)
busy_reason d m cmd o None is f = next_reason d m o is cmd f

pub reason_of : (d : DriverContent) (m : Mem) (cmd : Cmd) (o : Offered) → offered d m cmd ≡ Ok o → IsReasonOf d m o cmd
reason_of d m cmd o f = busy_reason d m cmd o d.command refl f
