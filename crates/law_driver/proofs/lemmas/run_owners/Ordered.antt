-- An accepted command keeps the order of what is to be given back.
use Rattle.std.proofs.Common.{◌+◌, ◌%◌, drop, ◌≡◌, ℕ, zero, suc, ◌-◌, ◌<◌, ◌≤◌, true, false, List, [], ◌∷◌, ◌++◌, length, take, get_or, set, slice_get, Option, Some, None, ap, sym, subst, ◌∙◌, ⊎_elim, refl, arith, length-append}
use Rattle.std.specs.Prelude.{is_some}
use Rattle.std.proofs.lemmas.Bool.{cases_lt, false≢true}
use Rattle.std.proofs.lemmas.Option.{same_Some, slice_get_past, slice_get_within}
use Rattle.law_common.proofs.Lists.{push_which, set_here}
use Rattle.law_driver.proofs.Common.{iso_frames}
use Rattle.usb_base.specs.declared.endpoints.EndCause.{EndCause}
use Rattle.word_mem.specs.Memory.{Mem}
use Rattle.drv_table.specs.declared.content.Endpoint.{Endpoint}
use Rattle.drv_table.specs.declared.content.Transfer.{Transfer}
use Rattle.drv_table.specs.declared.content.Command.{Command}
use Rattle.drv_table.specs.declared.content.Command.TheVariants as unfinished
use Rattle.usb_base.specs.declared.endpoints.EpDesc.{EpDesc}
use Rattle.mem_runs.specs.Book.{Book}
use Rattle.bandwidth.specs.declared.placements.Placement.{Placement}
use Rattle.drv_periodic_table.specs.Periodic.{is_periodic}
use Rattle.drv_table.specs.declared.content.Slots.{Slots}
use Rattle.drv_table.specs.Kinds.{is_iso}
use Rattle.drv_table.specs.DriverContent.{DriverContent}
use Rattle.drv_table.specs.Accepting.{Offered, new_runs, first_waiting}
use Rattle.drv_table.specs.IsoOffers.{Descriptors, total_of, slot_runs, descriptor_transfer, one_descriptor, all_descriptors}
use Rattle.drv_table.specs.CancelOffers.{first_end, endpoint_members, with_cancel}
use Rattle.drv_table.specs.Offers.{new_endpoint, placed_endpoint, with_queued, new_transfer}
use Rattle.law_driver.specs.run_owners.Accepts.{Accepts, opens, chains, places, transfers, describes, cancels, unchains}
use Rattle.claims_driver.specs.Leaving.{owes, leaves_ring, leaves_frames, leaver, IsSteady, Returns, returns_of, AreOrderly, IsOrderly}
use Rattle.claims_driver.specs.Owners.{is_descriptor}
use Rattle.law_driver.proofs.lemmas.run_owners.Orders.{IsLike, endpoint_changed}
use Rattle.law_driver.proofs.lemmas.run_owners.Leaves.{no_command_orderly}
use Rattle.law_driver.proofs.lemmas.run_owners.Goes.{begun_orderly, or_done_orderly}

-- ---- one more of a list

pub pushed_below : {X : Type 0} (xs : List X) (y : X) (i : ℕ) → i < length xs → slice_get (xs ++ y ∷ []) i ≡ slice_get xs i
pushed_below [] y i below = absurd (omega arith)
pushed_below (x ∷ xs) y zero below = refl
pushed_below (x ∷ xs) y (suc i) below = pushed_below xs y i (omega arith)

-- ---- an open

endpoint_pushed : {r : Returns} {ts : List Transfer} {xs : List Endpoint} {l : Option ℕ} (y : Endpoint) → IsSteady y → AreOrderly r ts xs l → AreOrderly r ts (xs ++ y ∷ []) None
endpoint_pushed {r = r} {ts = ts} {xs = xs} y new old = record {
  harvests = old.harvests;
  leaving = λ i.
      ⊎_elim (λ (below : i < length xs). let now = ap leaves_ring (pushed_below xs y i below) in omega (arith, now, old.leaving i))
      (λ (past : length xs ≤ i). let was = ap leaves_ring (slice_get_past xs i past) in omega (arith, was, old.leaving i)) (cases_lt i (length xs));
  removed = λ i.
      ⊎_elim (λ (below : i < length xs). let now = ap leaves_frames (pushed_below xs y i below) in omega (arith, now, old.removed i))
      (λ (past : length xs ≤ i). let was = ap leaves_frames (slice_get_past xs i past) in omega (arith, was, old.removed i)) (cases_lt i (length xs));
  steady = λ i z there.
      ⊎_elim (λ (w : slice_get xs i ≡ Some z). old.steady i z w)
      (λ (w : (i ≡ length xs) × (z ≡ y)). subst IsSteady (sym w.1) new)
      (push_which xs y i z there);
  within = λ t z there. omega (arith, length-append xs (y ∷ []), old.within t z there);
  sorts = λ t z w there at. old.sorts t z w there (sym (pushed_below xs y z.endpoint (old.within t z there)) ∙ at);
  unlinked = old.unlinked;
  untold = λ t z there back off w at. old.untold t z there back off w (sym (pushed_below xs y z.endpoint (old.within t z there)) ∙ at);
  leaver = λ i z is there. absurd (cc);
}

-- a new endpoint is in the ring or in its frames, and wasn't given back
new_steady : (x : EpDesc) (queue dummy : ℕ) → is_periodic x.kind ≡ false → IsSteady (new_endpoint x queue dummy)
new_steady x queue dummy ring = record {
  ended = λ off out. absurd (false≢true (sym off));
  gone = λ g. absurd (false≢true g);
  ring = λ on. ring;
  frames = λ f. absurd (false≢true f);
  placed = sym ring;
}

placed_steady : (x : EpDesc) (p : Placement) (queue dummy : ℕ) → is_periodic x.kind ≡ true → IsSteady (placed_endpoint x p queue dummy)
placed_steady x p queue dummy frames = record {
  ended = λ off out. absurd (false≢true (sym out));
  gone = λ g. absurd (false≢true g);
  ring = λ on. absurd (false≢true on);
  frames = λ f. frames;
  placed = sym frames;
}

-- ---- a transfer

transfer_pushed : {r : Returns} {ts : List Transfer} {xs : List Endpoint} {l : Option ℕ} (y : Transfer) (x : Endpoint) → slice_get xs y.endpoint ≡ Some x → y.released ≡ false → is_descriptor y.sort ≡ is_iso x.desc.kind → AreOrderly r ts xs l → AreOrderly r (ts ++ y ∷ []) xs None
transfer_pushed {r = r} {ts = ts} {xs = xs} y x here off sort old = record {
  harvests = λ i.
      ⊎_elim (λ (below : i < length ts). let now = ap owes (pushed_below ts y i below) in omega (arith, now, old.harvests i))
      (λ (past : length ts ≤ i). let was = ap owes (slice_get_past ts i past) in omega (arith, was, old.harvests i)) (cases_lt i (length ts));
  leaving = old.leaving;
  removed = old.removed;
  steady = old.steady;
  within = λ t z there.
      ⊎_elim (λ (w : slice_get ts t ≡ Some z). old.within t z w)
      (λ (w : (t ≡ length ts) × (z ≡ y)). subst (λ (v : Transfer). v.endpoint < length xs) (sym w.1) (slice_get_within xs y.endpoint x here)) (push_which ts y t z there);
  sorts = λ t z w there at.
      ⊎_elim (λ (v : slice_get ts t ≡ Some z). old.sorts t z w v at)
      (λ (v : (t ≡ length ts) × (z ≡ y)).
      ap (λ (u : Transfer). is_descriptor u.sort) v.1 ∙ sort ∙ ap (λ (u : Endpoint). is_iso u.desc.kind) (same_Some x w (sym here ∙ ap (λ (u : Transfer). slice_get xs u.endpoint) (sym v.1) ∙ at))) (push_which ts y t z there);
  unlinked = λ t z some there.
      ⊎_elim (λ (v : slice_get ts t ≡ Some z). old.unlinked t z some v)
      (λ (v : (t ≡ length ts) × (z ≡ y)). let was = ap owes (slice_get_past ts t (omega (arith, v.0))) in absurd (omega (arith, was, some, old.harvests t))) (push_which ts y t z there);
  untold = λ t z there back told w at.
      ⊎_elim (λ (v : slice_get ts t ≡ Some z). old.untold t z v back told w at)
      (λ (v : (t ≡ length ts) × (z ≡ y)). absurd (false≢true (sym (ap (λ (u : Transfer). u.released) v.1 ∙ off) ∙ back))) (push_which ts y t z there);
  leaver = λ i z is there. absurd (cc);
}

-- descriptors are taken on one after the other
descriptors_pushed : {r : Returns} {xs : List Endpoint} (k : Book) (e : ℕ) (desc : EpDesc) (s : Slots) (n seed : ℕ) (runs : List ℕ) (a : Descriptors) (x : Endpoint) → slice_get xs e ≡ Some x → is_iso x.desc.kind ≡ true → AreOrderly r a.transfers xs None → AreOrderly r (all_descriptors k e desc s n seed runs a).transfers xs None
unfolding all_descriptors
descriptors_pushed k e desc s zero seed runs a x here iso old = old
descriptors_pushed k e desc s (suc n) seed runs a x here iso old =
    descriptors_pushed k e desc s n ((seed + total_of s) % 256) (drop (suc (slot_runs s)) runs) (one_descriptor k e desc s seed runs a) x here iso
    (transfer_pushed (descriptor_transfer e s (get_or runs 0 0)) x here refl (sym iso) old)

-- ---- a cancel

first_some : (o : Option EndCause) → is_some (first_end o) ≡ true
first_some None = refl
first_some (Some cause) = refl

unlink_orderly : {r : Returns} {ts : List Transfer} {xs : List Endpoint} {l : Option ℕ} (e : ℕ) (x : Endpoint) → slice_get xs e ≡ Some x → is_some x.ended ≡ true → AreOrderly r ts xs l → AreOrderly r ts xs (Some e)
unlink_orderly {xs = xs} e x here ended old = record {
  harvests = old.harvests;
  leaving = old.leaving;
  removed = old.removed;
  steady = old.steady;
  within = old.within;
  sorts = old.sorts;
  unlinked = old.unlinked;
  untold = old.untold;
  leaver = λ i z is there.
      let same : i ≡ e = sym (same_Some e i is) in
      ap (λ (v : Endpoint). is_some v.ended) (same_Some z x (sym there ∙ ap (slice_get xs) same ∙ here)) ∙ ended;
}

like_cancelled : (x : Endpoint) → IsLike x (record x { cancelled = true; ended = first_end x.ended })
like_cancelled x = record { desc = refl; placement = refl; linked = refl; chained = refl; gone = refl; ended = λ s. first_some x.ended }

like_queued : (x : Endpoint) (dummy t : ℕ) → IsLike x (with_queued x dummy t)
like_queued x dummy t = record { desc = refl; placement = refl; linked = refl; chained = refl; gone = refl; ended = λ s. s }

like_next : (x : Endpoint) (n : Option ℕ) → IsLike x (record x { next = n })
like_next x n = record { desc = refl; placement = refl; linked = refl; chained = refl; gone = refl; ended = λ s. s }

cancelled_orderly : (d : DriverContent) (e : ℕ) (x : Endpoint) → slice_get d.endpoints e ≡ Some x → IsOrderly d → AreOrderly (returns_of d) d.transfers (set d.endpoints e (record x { cancelled = true; ended = first_end x.ended })) (Some e)
cancelled_orderly d e x here old =
    let y : Endpoint = record x { cancelled = true; ended = first_end x.ended } in
    unlink_orderly e y (set_here d.endpoints e x y here) (first_some x.ended) (endpoint_changed e x y here (like_cancelled x) old)

-- a cancel before its first member is begun
abbrev without_members : DriverContent → ℕ → Endpoint → DriverContent
without_members d e x =
    record d {
      endpoints = set d.endpoints e (record x { cancelled = true; ended = first_end x.ended });
      command = Some (unfinished.Unchain e);
      made = 0;
      room = record d.room { reports = d.room.reports - 1 };
    }

-- ---- any command

pub accepted_orderly : (d : DriverContent) (m : Mem) (o : Offered) → Accepts d m o → IsOrderly d → IsOrderly o.driver
accepted_orderly d m o (opens why) old =
    subst (λ (f : Offered). IsOrderly f.driver) (sym why.is) (endpoint_pushed (new_endpoint why.desc _ _) (new_steady why.desc _ _ why.ring) old)
accepted_orderly d m o (chains why) old =
    subst (λ (f : Offered). IsOrderly f.driver) (sym why.is) (endpoint_pushed (placed_endpoint why.desc why.placement _ _) (placed_steady why.desc why.placement _ _ why.periodic) old)
accepted_orderly d m o (places why) old =
    subst (λ (f : Offered). IsOrderly f.driver) (sym why.is)
    (subst (λ (c : Option Command). AreOrderly (returns_of d) d.transfers (d.endpoints ++ placed_endpoint why.desc why.placement 0 0 ∷ []) (leaver c)) (sym why.idle)
    (endpoint_pushed (placed_endpoint why.desc why.placement 0 0) (placed_steady why.desc why.placement 0 0 (iso_frames why.desc.kind why.isochronous)) old))
accepted_orderly d m o (transfers why) old =
    let dummy = get_or (take (length why.asked.stages) (new_runs d why.holding_after)) (length why.asked.stages - 1) 0 in
    let y = with_queued why.endpoint dummy (length d.transfers) in
    subst (λ (f : Offered). IsOrderly f.driver) (sym why.is)
    (transfer_pushed (new_transfer why.number why.asked why.endpoint.dummy) y (set_here d.endpoints why.number why.endpoint y why.here) refl (why.sort ∙ sym why.queued)
    (endpoint_changed why.number why.endpoint y why.here (like_queued why.endpoint dummy (length d.transfers)) old))
accepted_orderly d m o (describes why) old =
    let y : Endpoint = record why.endpoint { next = first_waiting why.endpoint.next (length d.transfers) } in
    subst (λ (f : Offered). IsOrderly f.driver) (sym why.is)
    (descriptors_pushed why.holding_after.book why.number why.endpoint.desc why.slots why.count why.seed (new_runs d why.holding_after)
    (record { notes = d.periodic.notes; transfers = d.transfers; memory = why.holding_after.memory }) y (set_here d.endpoints why.number why.endpoint y why.here) why.isochronous
    (no_command_orderly (endpoint_changed why.number why.endpoint y why.here (like_next why.endpoint (first_waiting why.endpoint.next (length d.transfers))) old)))
accepted_orderly d m o (cancels why) old =
    subst (λ (f : Offered). IsOrderly f.driver) (sym why.is) (cancelled_orderly d why.number why.endpoint why.here old)
accepted_orderly d m o (unchains why) old =
    let members = endpoint_members d why.number why.endpoint why.placement in
    subst (λ (f : Offered). IsOrderly f.driver) (sym why.is)
    (or_done_orderly (with_cancel d why.number why.endpoint members) (unfinished.Unchain why.number) refl
    (begun_orderly (without_members d why.number why.endpoint) true 0 (record d.periodic { queued = members }) refl refl (cancelled_orderly d why.number why.endpoint why.here old)))
