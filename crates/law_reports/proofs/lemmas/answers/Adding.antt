-- An accepted command adds what it asks for.
use Rattle.std.proofs.Common.{◌≡◌, ℕ, zero, suc, get_or, ◌+◌, ◌-◌, ◌%◌, ◌≤◌, Bool, true, false, cond, not, ◌||◌, nat_eq, nat_lt, List, [], ◌∷◌, ◌++◌, length, take, drop, map, set, slice_get, Option, Some, None, option_map, unwrap_or, Result, Ok, Err, refl, ap, sym, subst, ◌∙◌, arith, append_assoc}
use Rattle.std.specs.List.{AllByRecursion, sum_by}
use Rattle.std.specs.Prelude.{option_and_then, is_some, is_none, count_by, slice_index}
use Rattle.std.proofs.lemmas.List.{append-nil, map-append, map-set}
use Rattle.std.proofs.lemmas.Option.{same_Some}
use Rattle.law_driver.proofs.Common.{control_kind, queue_kind}
use Rattle.law_common.proofs.Lists.{drop_first}
use Rattle.usb_base.specs.declared.commands.Cmd.{Cmd}
use Rattle.usb_base.specs.declared.commands.Cmd.TheVariants as commands
use Rattle.usb_base.specs.declared.endpoints.EndCause.{EndCause}
use Rattle.usb_base.specs.declared.endpoints.EndCause.TheVariants as causes
use Rattle.usb_base.specs.declared.endpoints.EpDesc.{EpDesc}
use Rattle.usb_base.specs.declared.packets.EpKind.{EpKind}
use Rattle.usb_base.specs.declared.packets.EpKind.TheVariants as kinds
use Rattle.usb_base.specs.declared.packets.Way.TheVariants as ways
use Rattle.usb_base.specs.declared.reports.OfferError.{OfferError}
use Rattle.usb_base.specs.declared.reports.OfferError.TheVariants as errors
use Rattle.word_mem.specs.Memory.{Mem}
use Rattle.mem_runs.specs.Book.{Book, Holding, holding, Stands}
use Rattle.bandwidth.specs.Admission.{answer}
use Rattle.bandwidth.specs.declared.placements.Placement.{Placement}
use Rattle.bandwidth.specs.declared.placements.Refused.{Refused}
use Rattle.drv_periodic_table.specs.declared.content.Removed.TheVariants as removed
use Rattle.drv_periodic_table.specs.Periodic.{is_periodic, want_of}
use Rattle.drv_table.specs.declared.content.Endpoint.{Endpoint}
use Rattle.drv_table.specs.declared.content.QtdNote.{QtdNote}
use Rattle.drv_table.specs.declared.content.Transfer.{Transfer}
use Rattle.drv_table.specs.Accepting.{Offered, take_runs, new_runs}
use Rattle.drv_table.specs.CancelOffers.{accepted_cancel, endpoint_members, with_cancel, cancelled_by, offered_cancel, first_end}
use Rattle.drv_table.specs.Commands.{no_command, removal_of, leave_frames}
use Rattle.drv_table.specs.DriverContent.{DriverContent, endpoint_of, endpoint_named, is_same_way, waits_for}
use Rattle.drv_table.specs.Harvests.{note_at}
use Rattle.drv_table.specs.IsoOffers.{Descriptors, slots_of, total_of, slot_runs, iso_needs, descriptor_transfer, one_descriptor, all_descriptors, taken_iso, spans_too_long, has_slots, open_iso, offered_iso}
use Rattle.drv_table.specs.Kinds.{is_iso}
use Rattle.drv_table.specs.Offers.{Asked, note_stages, new_transfer, with_queued, taken_open, taken_chain, placed_open, planned_open, offered_open, accepted_transfer, taken_transfer, open_transfer, found_transfer, takes_get, takes_put, takes_control, offered_next}
use Rattle.drv_table.specs.Words.{needs, request_length, request_stages, setup_stage, data_stage, status_stage, asks_in}
use Rattle.script_fits.specs.Fits.{IsFitCommand}
use Rattle.claims_driver.specs.Leaving.{HasOwners}
use Rattle.claims_driver.specs.Owners.{Element, runs_of_endpoint}
use Rattle.claims_answers.specs.Adding.{standing_of, standings, opened_as, AddsEndpoint, ended_by, Cancels, bytes_asked, sort_asked, AddsTransfer, IsDescriptorFor, AddsDescriptors, IsAdded}
use Rattle.claims_answers.specs.Refusals.{number_for}
use Rattle.claims_answers.specs.Telling.{qtds_of}
use Rattle.law_answers.proofs.Needs.{total_is}
use Rattle.law_driver.proofs.lemmas.chained_transfers.Ways.{stages_some}
use Rattle.law_driver.proofs.lemmas.run_owners.Accepted.{within_slots}
use Rattle.law_driver.proofs.lemmas.run_owners.Runs.{placed_run}
use Rattle.law_driver.proofs.lemmas.run_owners.Taking.{runs_taken}
use Rattle.law_driver.proofs.lemmas.run_owners.Transferred.{are_new, goes_on_alive}
use Rattle.law_queues.proofs.lemmas.harvest_laws.Stages.{AreBlocks, stages_told, told_in_all}
use Rattle.law_reports.proofs.lemmas.answers.Sizes.{cut_sum, request_sum, sum_told}
use Rattle.law_reports.specs.answers.Adding.{CommandsAddWhatTheyAsk}

ok_is : (o p : Offered) → ◌≡◌ {A = Result Offered OfferError} (Ok o) (Ok p) → o ≡ p
ok_is o p e = cc

no_ok : (why : OfferError) (o : Offered) → ◌≡◌ {A = Result Offered OfferError} (Err why) (Ok o) → ⊥
no_ok why o e = cc

-- an endpoint is replaced by one that stands alike
same_standings : (xs : List Endpoint) (e : ℕ) (x y : Endpoint) → slice_get xs e ≡ Some x → standing_of y ≡ standing_of x
    → map standing_of (set xs e y) ≡ map standing_of xs
same_standings [] e x y here same = refl
same_standings (z ∷ zs) zero x y here same =
    ap (λ s. s ∷ map standing_of zs) (same ∙ sym (ap standing_of (same_Some z x here)))
same_standings (z ∷ zs) (suc e) x y here same = ap (λ ss. standing_of z ∷ ss) (same_standings zs e x y here same)

-- ---- gets, puts and requests

-- runs were found for a transfer of endpoint e
record IsTaken (d : DriverContent) (m : Mem) (e : ℕ) (a : Asked) (o : Offered) : Type 0 where
  endpoint : Endpoint
  here : slice_get d.endpoints e ≡ Some endpoint
  going : endpoint.ended ≡ None
  queued : is_iso endpoint.desc.kind ≡ false
  holding_after : Holding
  runs : take_runs (holding d.book m) (needs a.stages) ≡ Ok holding_after
  is : o ≡ accepted_transfer d e endpoint a holding_after
      (slice_index (take (length a.stages) (new_runs d holding_after)) (length a.stages - 1))
      (note_stages d.notes a.stages endpoint.dummy (take (length a.stages) (new_runs d holding_after))
      (drop (length a.stages) (new_runs d holding_after)))

module _ (d : DriverContent) (m : Mem) (o : Offered) (a : Asked) where
  runs_taken_by : (e : ℕ) (x : Endpoint) (r : Result Holding OfferError) → slice_get d.endpoints e ≡ Some x → x.ended ≡ None
      → is_iso x.desc.kind ≡ false → take_runs (holding d.book m) (needs a.stages) ≡ r → taken_transfer d e x a r ≡ Ok o → IsTaken d m e a o
  runs_taken_by e x (Err why) here going queued runs f = absurd (no_ok why o f)
  runs_taken_by e x (Ok h) here going queued runs f =
      record { endpoint = x; here = here; going = going; queued = queued; holding_after = h; runs = runs; is = sym (ok_is _ o f) }

  short_taken : (e : ℕ) (x : Endpoint) (b : Bool) → slice_get d.endpoints e ≡ Some x → x.ended ≡ None → is_iso x.desc.kind ≡ false
      → cond b (Err errors.TooLong) (taken_transfer d e x a (take_runs (holding d.book m) (needs a.stages))) ≡ Ok o → IsTaken d m e a o
  short_taken e x true here going queued f = absurd (no_ok errors.TooLong o f)
  short_taken e x false here going queued f = runs_taken_by e x (take_runs (holding d.book m) (needs a.stages)) here going queued refl f

  going_taken : (e : ℕ) (x : Endpoint) (c : Option EndCause) → slice_get d.endpoints e ≡ Some x → x.ended ≡ c → is_iso x.desc.kind ≡ false
      → open_transfer d m e x a c ≡ Ok o → IsTaken d m e a o
  going_taken e x (Some cause) here going queued f = absurd (no_ok (errors.Closed cause) o f)
  going_taken e x None here going queued f = short_taken e x (nat_lt 20480 a.most) here going queued f

  kind_taken : (e : ℕ) (x : Endpoint) (b : Bool) → slice_get d.endpoints e ≡ Some x → (b ≡ true → is_iso x.desc.kind ≡ false)
      → cond b (open_transfer d m e x a x.ended) (Err errors.NoEndpoint) ≡ Ok o → IsTaken d m e a o
  kind_taken e x false here queued f = absurd (no_ok errors.NoEndpoint o f)
  kind_taken e x true here queued f = going_taken e x x.ended here refl (queued refl) f

  module _ (takes : Endpoint → Bool) (queued : (x : Endpoint) → takes x ≡ true → is_iso x.desc.kind ≡ false) where
    found_taken : (e : ℕ) (q : Option Endpoint) → slice_get d.endpoints e ≡ q → found_transfer d m takes a e q ≡ Ok o → IsTaken d m e a o
    found_taken e None here f = absurd (no_ok errors.NoEndpoint o f)
    found_taken e (Some x) here f = kind_taken e x (takes x) here (queued x) f

    named_taken : (q : Option ℕ)
        → found_transfer d m takes a (unwrap_or q 0) (option_and_then (λ e. slice_get d.endpoints e) q) ≡ Ok o
        → IsTaken d m (unwrap_or q 0) a o
    named_taken None f = absurd (no_ok errors.NoEndpoint o f)
    named_taken (Some e) f = found_taken e (slice_get d.endpoints e) refl f

  -- the blocks of its qTDs are among the notes, and no two of them are one
  its_bytes : (e : ℕ) → HasOwners d → Stands (holding d.book m) → 1 ≤ length a.stages → (k : IsTaken d m e a o)
      → sum_by (λ b. (note_at o.driver.notes b).told) (qtds_of o.driver.notes k.endpoint.dummy (length a.stages)) ≡ told_in_all a.stages
  its_bytes e owners stands some k =
      let all = runs_taken (holding d.book m) k.holding_after (needs a.stages) stands k.runs in
      let bs = all.blocks in
      let n = length a.stages in
      let x = k.endpoint in
      let qtds = take n bs in
      let runs = drop n bs in
      let made : new_runs d k.holding_after ≡ bs = ap (drop (length d.book.taken)) all.are.taken ∙ drop_first d.book.taken bs in
      let alive = goes_on_alive x k.going (owners.orderly.steady e x k.here) in
      let was = owners.owned.each.dummy e (runs_of_endpoint x) (ap (option_map runs_of_endpoint) k.here)
      (ap (λ q. q || x.gone) k.queued ∙ alive) in
      let are = are_new a.stages owners.owner x.dummy e (length d.transfers) some all.are was in
      let blocks : AreBlocks d.notes a.stages x.dummy qtds = record {
        within = λ i below. let p = are.elements i below in
            omega (
              arith,
              within_slots (get_or (x.dummy ∷ qtds) i 0) all.are
                  (placed_run (get_or (x.dummy ∷ qtds) i 0) (Element (length d.transfers)) p),
              all.are.many,
              owners.owned.sizes,
            );
        distinct = are.distinct;
      } in
      let notes : List QtdNote = note_stages d.notes a.stages x.dummy qtds runs in
      let is : o.driver.notes ≡ notes = ap (λ (p : Offered). p.driver.notes) k.is
      ∙ ap (λ (rs : List ℕ). note_stages d.notes a.stages x.dummy (take n rs) (drop n rs)) made in
      ap (λ (ns : List QtdNote). sum_by (λ b. (note_at ns b).told) (qtds_of ns x.dummy n)) is
      ∙ sum_told notes x.dummy n ∙ stages_told d.notes a.stages x.dummy qtds runs blocks

  taken_adds : (cmd : Cmd) (e : ℕ) → HasOwners d → Stands (holding d.book m) → 1 ≤ length a.stages → e ≡ number_for d cmd
      → a.sort ≡ sort_asked cmd → a.most ≡ bytes_asked cmd → told_in_all a.stages ≡ bytes_asked cmd → IsTaken d m e a o
      → AddsTransfer d cmd o.driver
  taken_adds cmd e owners stands some number sort most bytes k = record {
    transfer = new_transfer e a k.endpoint.dummy;
    added = ap (λ (p : Offered). p.driver.transfers) k.is;
    endpoint = number;
    of = k.endpoint;
    here = k.here;
    sort = sort;
    most = most;
    unbegun = record { place = refl; untold = refl; held = refl };
    left = refl;
    some = some;
    bytes = its_bytes e owners stands some k ∙ bytes;
    endpoints = ap (λ (p : Offered). standings p.driver) k.is
        ∙ same_standings d.endpoints e k.endpoint (with_queued k.endpoint _ (length d.transfers)) k.here refl;
  }

request_some : (setup : List ℕ) → 1 ≤ length (request_stages setup)
request_some setup = at (nat_eq (request_length setup) 0)
  where
    at : (b : Bool)
        → 1 ≤ length (cond b (setup_stage ∷ status_stage true ∷ [])
        (setup_stage ∷ data_stage (asks_in setup) (request_length setup) ∷ status_stage (not (asks_in setup)) ∷ []))
    at true = omega arith
    at false = omega arith

-- ---- isochronous transfers

record AreMore (e : ℕ) (x : Endpoint) (len n : ℕ) (a b : List Transfer) : Type 0 where
  more : List Transfer
  added : b ≡ a ++ more
  many : length more ≡ n
  each : AllByRecursion (IsDescriptorFor e x len) more

descriptors_more : (k : Book) (e : ℕ) (x : Endpoint) (len n seed : ℕ) (runs : List ℕ) (a : Descriptors)
    → AreMore e x len n a.transfers (all_descriptors k e x.desc (slots_of x len) n seed runs a).transfers
unfolding all_descriptors
descriptors_more k e x len zero seed runs a = record { more = []; added = sym (append-nil a.transfers); many = refl; each = tt }
descriptors_more k e x len (suc n) seed runs a =
    let s = slots_of x len in
    let rest = descriptors_more k e x len n ((seed + total_of s) % 256) (drop (suc (slot_runs s)) runs)
    (one_descriptor k e x.desc s seed runs a) in
    let y = descriptor_transfer e s (slice_index runs 0) in
    record {
      more = y ∷ rest.more;
      added = rest.added ∙ append_assoc a.transfers (y ∷ []) rest.more;
      many = ap suc rest.many;
      each = (
        record {
          endpoint = refl;
          sort = refl;
          most = sym (total_is x len);
          unbegun = record { place = refl; untold = refl; held = refl };
        },
        rest.each,
      );
    }

module _ (d : DriverContent) (m : Mem) (o : Offered) (n len seed : ℕ) where
  iso_taken : (e : ℕ) (x : Endpoint) (r : Result Holding OfferError) → slice_get d.endpoints e ≡ Some x
      → taken_iso d e x (slots_of x len) n seed r ≡ Ok o → AddsDescriptors d e n len o.driver
  iso_taken e x (Err why) here f = absurd (no_ok why o f)
  iso_taken e x (Ok h) here f =
      let is = sym (ok_is _ o f) in
      let a : Descriptors = record { notes = d.periodic.notes; transfers = d.transfers; memory = h.memory } in
      let all = descriptors_more h.book e x len n seed (new_runs d h) a in
      record {
        endpoint = x;
        here = here;
        more = all.more;
        added = ap (λ (p : Offered). p.driver.transfers) is ∙ all.added;
        many = all.many;
        each = all.each;
        endpoints = ap (λ (p : Offered). standings p.driver) is ∙ same_standings d.endpoints e x _ here refl;
      }

  iso_long : (e : ℕ) (x : Endpoint) (b : Bool) → slice_get d.endpoints e ≡ Some x
      → cond b (Err errors.TooLong) (taken_iso d e x (slots_of x len) n seed
      (take_runs (holding d.book m) (iso_needs (slots_of x len) n))) ≡
      Ok o → AddsDescriptors d e n len o.driver
  iso_long e x true here f = absurd (no_ok errors.TooLong o f)
  iso_long e x false here f = iso_taken e x (take_runs (holding d.book m) (iso_needs (slots_of x len) n)) here f

  iso_ended : (e : ℕ) (x : Endpoint) (c : Option EndCause) → slice_get d.endpoints e ≡ Some x
      → open_iso d m e x (slots_of x len) n seed c ≡ Ok o → AddsDescriptors d e n len o.driver
  iso_ended e x (Some cause) here f = absurd (no_ok (errors.Closed cause) o f)
  iso_ended e x None here f =
      iso_long e x (spans_too_long x (n + count_by (waits_for e) d.transfers) || not (has_slots x (slots_of x len))) here f

  iso_kind : (e : ℕ) (x : Endpoint) (b : Bool) → slice_get d.endpoints e ≡ Some x
      → cond b (open_iso d m e x (slots_of x len) n seed x.ended) (Err errors.NoEndpoint) ≡ Ok o → AddsDescriptors d e n len o.driver
  iso_kind e x false here f = absurd (no_ok errors.NoEndpoint o f)
  iso_kind e x true here f = iso_ended e x x.ended here f

  iso_found : (e : ℕ) (q : Option Endpoint) → slice_get d.endpoints e ≡ q → offered_iso d m e n len seed q ≡ Ok o
      → AddsDescriptors d e n len o.driver
  iso_found e None here f = absurd (no_ok errors.NoEndpoint o f)
  iso_found e (Some x) here f = iso_kind e x (is_iso x.desc.kind) here f

  iso_named : (q : Option ℕ) → offered_iso d m (unwrap_or q 0) n len seed (option_and_then (λ e. slice_get d.endpoints e) q) ≡ Ok o
      → AddsDescriptors d (unwrap_or q 0) n len o.driver
  iso_named None f = absurd (no_ok errors.NoEndpoint o f)
  iso_named (Some e) f = iso_found e (slice_get d.endpoints e) refl f

-- ---- a cancel

ended_is : (c : Option EndCause) → first_end c ≡ ended_by c
ended_is None = refl
ended_is (Some cause) = refl

frames_left : (d : DriverContent) (e : ℕ) (q : Option Endpoint) → slice_get d.endpoints e ≡ q
    → (standings (leave_frames d e q) ≡ standings d) × ((leave_frames d e q).transfers ≡ d.transfers)
frames_left d e None here = (refl, refl)
frames_left d e (Some x) here = at x.chained
  where
    at : (b : Bool) → (standings (cond b (record d {
      endpoints = set d.endpoints e (record x { chained = false });
      periodic = record d.periodic { removals = d.periodic.removals ++ removal_of (removed.Endpoint e) ∷ [] };
    }) d) ≡ standings d) × ((cond b (record d {
      endpoints = set d.endpoints e (record x { chained = false });
      periodic = record d.periodic { removals = d.periodic.removals ++ removal_of (removed.Endpoint e) ∷ [] };
    }) d).transfers ≡ d.transfers)
    at true = (same_standings d.endpoints e x (record x { chained = false }) here refl, refl)
    at false = (refl, refl)

module _ (d : DriverContent) (m : Mem) (o : Offered) where
  -- whatever else is left to be done
  cancel_stands : (e : ℕ) (x : Endpoint) (f : DriverContent) → slice_get d.endpoints e ≡ Some x
      → f.endpoints ≡ set d.endpoints e (record x { cancelled = true; ended = first_end x.ended }) → f.transfers ≡ d.transfers
      → Cancels d e f
  cancel_stands e x f here endpoints transfers = record {
    endpoint = x;
    here = here;
    endpoints = ap (λ (xs : List Endpoint). map standing_of xs) endpoints
        ∙ map-set standing_of d.endpoints e (record x { cancelled = true; ended = first_end x.ended })
        ∙ ap (λ (c : Option EndCause). set (standings d) e (record (standing_of x) { cancelled = true; ended = c })) (ended_is x.ended);
    transfers = transfers;
  }

  cancel_by : (e : ℕ) (x : Endpoint) (q : Option Placement) → slice_get d.endpoints e ≡ Some x → Cancels d e (cancelled_by d e x q)
  cancel_by e x None here = cancel_stands e x (accepted_cancel d e x) here refl refl
  cancel_by e x (Some p) here = by (is_none c.periodic.list.work)
    where
      c : DriverContent
      c = with_cancel d e x (endpoint_members d e x p)

      begun : Cancels d e c
      begun = cancel_stands e x c here refl refl

      by : (b : Bool) → Cancels d e (cond b (leave_frames (no_command c) e (slice_get c.endpoints e)) c)
      by true = let left = frames_left (no_command c) e (slice_get c.endpoints e) refl in record {
        endpoint = begun.endpoint;
        here = begun.here;
        endpoints = left.0 ∙ begun.endpoints;
        transfers = left.1 ∙ begun.transfers;
      }
      by false = begun

  cancel_fresh : (e : ℕ) (x : Endpoint) (b : Bool) → slice_get d.endpoints e ≡ Some x
      → cond b (Err (errors.Closed causes.Cancel)) (Ok (record { driver = cancelled_by d e x x.placement; memory = m })) ≡ Ok o
      → Cancels d e o.driver
  cancel_fresh e x true here f = absurd (no_ok (errors.Closed causes.Cancel) o f)
  cancel_fresh e x false here f = subst (λ (p : Offered). Cancels d e p.driver) (ok_is _ o f) (cancel_by e x x.placement here)

  cancel_found : (e : ℕ) (q : Option Endpoint) → slice_get d.endpoints e ≡ q → offered_cancel d m e q ≡ Ok o → Cancels d e o.driver
  cancel_found e None here f = absurd (no_ok errors.NoEndpoint o f)
  cancel_found e (Some x) here f = cancel_fresh e x x.cancelled here f

  cancel_named : (q : Option ℕ) → offered_cancel d m (unwrap_or q 0) (option_and_then (λ e. slice_get d.endpoints e) q) ≡ Ok o
      → Cancels d (unwrap_or q 0) o.driver
  cancel_named None f = absurd (no_ok errors.NoEndpoint o f)
  cancel_named (Some e) f = cancel_found e (slice_get d.endpoints e) refl f

  -- ---- an open

  module _ (x : EpDesc) where
    opened_with : (y : Endpoint) (f : DriverContent) → standing_of y ≡ opened_as x → f.endpoints ≡ d.endpoints ++ y ∷ []
        → f.transfers ≡ d.transfers → AddsEndpoint d x f
    opened_with y f same endpoints transfers = record {
      endpoints = ap (λ (xs : List Endpoint). map standing_of xs) endpoints ∙ map-append standing_of d.endpoints (y ∷ [])
          ∙ ap (λ s. standings d ++ s ∷ []) same;
      transfers = transfers;
    }

    open_taken : (r : Result Holding OfferError) → taken_open d x r ≡ Ok o → AddsEndpoint d x o.driver
    open_taken (Err why) f = absurd (no_ok why o f)
    open_taken (Ok h) f = subst (λ (p : Offered). AddsEndpoint d x p.driver) (ok_is _ o f) (opened_with _ _ refl refl refl)

    chain_taken : (p : Placement) (r : Result Holding OfferError) → taken_chain d x p r ≡ Ok o → AddsEndpoint d x o.driver
    chain_taken p (Err why) f = absurd (no_ok why o f)
    chain_taken p (Ok h) f = subst (λ (p : Offered). AddsEndpoint d x p.driver) (ok_is _ o f) (opened_with _ _ refl refl refl)

    open_placed : (p : Placement) (k : EpKind) → placed_open d m x p k ≡ Ok o → AddsEndpoint d x o.driver
    open_placed p kinds.Iso f = subst (λ (p : Offered). AddsEndpoint d x p.driver) (ok_is _ o f) (opened_with _ _ refl refl refl)
    open_placed p kinds.Interrupt f = chain_taken p (take_runs (holding d.book m) (2 ∷ 1 ∷ [])) f
    open_placed p kinds.Bulk f = chain_taken p (take_runs (holding d.book m) (2 ∷ 1 ∷ [])) f
    open_placed p kinds.Control f = chain_taken p (take_runs (holding d.book m) (2 ∷ 1 ∷ [])) f

    open_planned : (r : Result Placement Refused) → planned_open d m x r ≡ Ok o → AddsEndpoint d x o.driver
    open_planned (Err why) f = absurd (no_ok errors.NoPlacement o f)
    open_planned (Ok p) f = open_placed p x.kind f

    open_new : (b : Bool) → cond b (planned_open d m x (answer d.periodic.plan (want_of (length d.endpoints) x)))
        (taken_open d x (take_runs (holding d.book m) (2 ∷ 1 ∷ []))) ≡ Ok o → AddsEndpoint d x o.driver
    open_new true f = open_planned (answer d.periodic.plan (want_of (length d.endpoints) x)) f
    open_new false f = open_taken (take_runs (holding d.book m) (2 ∷ 1 ∷ [])) f

    open_again : (old : Endpoint) (c : Option EndCause)
        → ◌≡◌ {A = Result Offered OfferError} (elim c [ Some cause ↦ Err (errors.Closed cause) | None ↦ Err errors.AlreadyOpen ]) (Ok o) → ⊥
    open_again old (Some cause) f = no_ok (errors.Closed cause) o f
    open_again old None f = no_ok errors.AlreadyOpen o f

    open_found : (q : Option Endpoint) → offered_open d m x q ≡ Ok o → AddsEndpoint d x o.driver
    open_found None f = open_new (is_periodic x.kind) f
    open_found (Some old) f = absurd (open_again old old.ended f)

-- ---- any command

module _ (d : DriverContent) (m : Mem) (o : Offered) (owners : HasOwners d) (stands : Stands (holding d.book m)) where
  next_adds : (cmd : Cmd) → IsFitCommand cmd → offered_next d m cmd ≡ Ok o → IsAdded d cmd o.driver
  next_adds (commands.OpenEp x) fit f = open_found d m o x (endpoint_named d x.name) f
  next_adds (commands.Get name len by) fit f =
      taken_adds d m o _ (commands.Get name len by) _ owners stands (stages_some ways.In len by) refl refl refl
      (cut_sum ways.In len by fit.0)
      (named_taken d m o _ takes_get (λ x takes. queue_kind x.desc.kind (is_same_way x.desc.name.way ways.In) takes) (endpoint_of d name) f)
  next_adds (commands.Put name bytes by) fit f =
      taken_adds d m o _ (commands.Put name bytes by) _ owners stands (stages_some ways.Out (length bytes) by) refl refl refl
      (cut_sum ways.Out (length bytes) by fit.0)
      (named_taken d m o _ takes_put (λ x takes. queue_kind x.desc.kind (is_same_way x.desc.name.way ways.Out) takes)
      (endpoint_of d name) f)
  next_adds (commands.Control name setup bytes) fit f =
      taken_adds d m o _ (commands.Control name setup bytes) _ owners stands (request_some setup) refl refl refl (request_sum setup)
      (named_taken d m o _ takes_control (λ x takes. control_kind x.desc.kind takes) (endpoint_of d name) f)
  next_adds (commands.Iso name count len seed) fit f = iso_named d m o count len seed (endpoint_of d name) f
  next_adds (commands.Cancel name) fit f = cancel_named d m o (endpoint_of d name) f
  next_adds (commands.Clear name) fit f = no_ok errors.NoEndpoint o f
  next_adds (commands.Reset port) fit f = no_ok errors.NoEndpoint o f
  next_adds (commands.Give port) fit f = no_ok errors.NoEndpoint o f
  next_adds (commands.DiskRead addr lba count) fit f = no_ok errors.NoEndpoint o f
  next_adds (commands.DiskWrite addr lba bytes) fit f = no_ok errors.NoEndpoint o f
  next_adds (commands.Revive addr) fit f = no_ok errors.NoEndpoint o f

  idle_adds : (cmd : Cmd) (b : Bool) → IsFitCommand cmd → cond b (Err errors.Busy) (offered_next d m cmd) ≡ Ok o → IsAdded d cmd o.driver
  idle_adds cmd true fit f = absurd (no_ok errors.Busy o f)
  idle_adds cmd false fit f = next_adds cmd fit f

pub commands_add_what_they_ask : CommandsAddWhatTheyAsk
commands_add_what_they_ask d m cmd o owners stands fit f = idle_adds d m o owners stands cmd (is_some d.command) fit f
