-- The chain stays where no run is told otherwise, where an endpoint is opened, and where a transfer or an endpoint is given back.
use Rattle.std.proofs.Common.{◌≡◌, ◌≢◌, ℕ, zero, suc, ◌<◌, ◌≤◌, Bool, true, false, ◌||◌, ◌==◌, cond, List, [], ◌∷◌, ◌++◌, length, map, set, slice_get, Option, Some, None, option_map, ap, sym, subst, ◌∙◌, ⊎_elim, refl, arith}
use Rattle.std.proofs.lemmas.Bool.{cases_eq}
use Rattle.std.proofs.lemmas.Option.{same_Some, slice_get-map}
use Rattle.law_common.proofs.Lists.{set_here, set_there}
use Rattle.mem_runs.specs.declared.slots.Slot.{Slot}
use Rattle.drv_table.specs.declared.content.Endpoint.{Endpoint}
use Rattle.drv_table.specs.declared.content.Transfer.{Transfer}
use Rattle.drv_table.specs.Releases.{let_go}
use Rattle.claims_driver.specs.Owners.{Owner, Element, IsPlaced, ArePieces, EndpointRuns, TransferRuns, NoteRuns, runs_of_endpoint, runs_of_transfer, endpoint_in, transfer_in, Views}
use Rattle.law_driver.proofs.lemmas.run_owners.Accepted.{push_case}
use Rattle.law_driver.proofs.lemmas.run_owners.Runs.{AreSame}
use Rattle.law_driver.specs.chained_transfers.Chains.{piece_at, NoneFrom, AreChained}

-- ---- the blocks of a chain

pub piece_same : (note other : ℕ → NoteRuns) (b i : ℕ) → ((c : ℕ) → other c ≡ note c) → piece_at other b i ≡ piece_at note b i
piece_same note other b zero same = refl
piece_same note other b (suc i) same = ap (λ (n : NoteRuns). piece_at other n.next i) (same b) ∙ piece_same note other (note b).next i same

-- where the notes of its own qTDs stay
pub pieces_same : (slot : ℕ → Slot) (owner : ℕ → Owner) (note other : ℕ → NoteRuns) (t b n : ℕ) → ArePieces slot owner note t b n
    → ((c : ℕ) → IsPlaced slot owner c (Element t) → other c ≡ note c) → (i : ℕ) → i ≤ n → piece_at other b i ≡ piece_at note b i
pieces_same slot owner note other t b n all same zero below = refl
pieces_same slot owner note other t b zero all same (suc i) below = absurd (omega arith)
pieces_same slot owner note other t b (suc n) all same (suc i) below =
    ap (λ (r : NoteRuns). piece_at other r.next i) (same b all.0.element) ∙ pieces_same slot owner note other t (note b).next n all.1 same i (omega arith)

-- ---- no run is told otherwise

pub same_chained : (v w : Views) → AreSame v w → AreChained v → AreChained w
same_chained v w same old = record {
  some = λ t y there held. old.some t y (was t y there) held;
  next = λ t u y z there held there_u less is none.
      piece_same v.note w.note y.first y.qtds same.notes ∙ old.next t u y z (was t y there) held (was u z there_u) less is (none_before y.endpoint (suc t) u none);
  last = λ t y x there held here none.
      piece_same v.note w.note y.first y.qtds same.notes
      ∙ old.last t y x (was t y there) held (sym (same.endpoints y.endpoint) ∙ here) (λ u. none_before y.endpoint (suc t) u (none u));
}
  where
    was : (t : ℕ) (y : TransferRuns) → w.transfer t ≡ Some y → v.transfer t ≡ Some y
    was t y there = sym (same.transfers t) ∙ there

    none_before : (e from to : ℕ) → NoneFrom w e from to → NoneFrom v e from to
    none_before e from to none k z least below there = none k z least below (same.transfers k ∙ there)

-- ---- lists

pub within_list : {X Y : Type 0} (f : X → Y) (xs : List X) (i : ℕ) (y : Y) → option_map f (slice_get xs i) ≡ Some y → i < length xs
within_list f [] i y here = absurd (cc)
within_list f (x ∷ xs) zero y here = omega arith
within_list f (x ∷ xs) (suc i) y here = let rest = within_list f xs i y here in omega arith

-- ---- an endpoint more, which has no transfer yet

pub endpoint_chained : (v : Views) (xs : List Endpoint) (x : Endpoint) → ((e : ℕ) → v.endpoint e ≡ endpoint_in xs e) → ((t : ℕ) (y : TransferRuns) → v.transfer t ≡ Some y → y.endpoint < length xs)
    → AreChained v → (slot : ℕ → Slot) → AreChained (record v { slot = slot; endpoint = endpoint_in (xs ++ x ∷ []) })
endpoint_chained v xs x are within old slot = record {
  some = old.some;
  next = old.next;
  last = λ t y z there held here none.
      ⊎_elim (λ (was : endpoint_in xs y.endpoint ≡ Some z). old.last t y z there held (are y.endpoint ∙ was) none)
      (λ (new : (y.endpoint ≡ length xs) × (z ≡ runs_of_endpoint x)). let w = within t y there in absurd (omega (arith, w, new.0)))
      (push_case runs_of_endpoint xs x y.endpoint z here);
}

-- ---- transfers are given back

-- what the view tells of number k was told before, but that it may be given back now
pub record IsHeldOf (v : Views) (k : ℕ) (w : TransferRuns) : Type 0 where
  pub before : TransferRuns
  pub there : v.transfer k ≡ Some before
  pub same : (w.endpoint ≡ before.endpoint) × (w.first ≡ before.first) × (w.qtds ≡ before.qtds)
  pub held : w.released ≡ false → w ≡ before

-- transfers are given back, and the ends of the queues stay
pub record AreGivenBack (v w : Views) : Type 0 where
  pub notes : (c : ℕ) → w.note c ≡ v.note c
  pub held : (k : ℕ) (y : TransferRuns) → w.transfer k ≡ Some y → IsHeldOf v k y
  pub there : (k : ℕ) (y : TransferRuns) → v.transfer k ≡ Some y → (z : TransferRuns) × (w.transfer k ≡ Some z) × (z.endpoint ≡ y.endpoint)
  pub endpoints : (e : ℕ) (x : EndpointRuns) → w.endpoint e ≡ Some x → (z : EndpointRuns) × (v.endpoint e ≡ Some z) × (z.dummy ≡ x.dummy)

pub given_back_chained : (v w : Views) → AreGivenBack v w → AreChained v → AreChained w
given_back_chained v w back old = record {
  some = λ k y there held. let b = back.held k y there in old.some k y (was k y b held) held;
  next = λ k u y z there held there_u less is none.
      let b = back.held k y there in
      let c = back.held u z there_u in
      piece_same v.note w.note y.first y.qtds back.notes
      ∙ old.next k u y c.before (was k y b held) held c.there less (sym c.same.0 ∙ is) (none_before y.endpoint (suc k) u none) ∙ sym c.same.1;
  last = λ k y x there held here none.
      let b = back.held k y there in
      let z = back.endpoints y.endpoint x here in
      piece_same v.note w.note y.first y.qtds back.notes ∙ old.last k y z.0 (was k y b held) held z.1 (λ u. none_before y.endpoint (suc k) u (none u)) ∙ z.2;
}
  where
    was : (k : ℕ) (y : TransferRuns) → IsHeldOf v k y → y.released ≡ false → v.transfer k ≡ Some y
    was k y b held = b.there ∙ ap Some (sym (b.held held))

    none_before : (e from to : ℕ) → NoneFrom w e from to → NoneFrom v e from to
    none_before e from to none k y least below there is =
        let z = back.there k y there in none k z.0 least below z.1 (z.2 ∙ is)

-- ---- one transfer

abbrev let_go_one : Transfer → Transfer
let_go_one y = record y { released = true }

go_back : (v : Views) (ts : List Transfer) (t : ℕ) (y : Transfer) (k : ℕ) (w : TransferRuns) → ((k : ℕ) → v.transfer k ≡ transfer_in ts k) → slice_get ts t ≡ Some y → transfer_in (set ts t (let_go_one y)) k ≡ Some w → IsHeldOf v k w
go_back v ts t y k w are here there = ⊎_elim
    (λ (same : k ≡ t).
    let is : w ≡ runs_of_transfer (let_go_one y) = sym (same_Some _ w (sym (ap (option_map runs_of_transfer) (ap (slice_get (set ts t (let_go_one y))) same ∙ set_here ts t y (let_go_one y) here)) ∙ there)) in
    record {
      before = runs_of_transfer y;
      there = are k ∙ ap (option_map runs_of_transfer) (ap (slice_get ts) same ∙ here);
      same = (ap (λ (r : TransferRuns). r.endpoint) is, ap (λ (r : TransferRuns). r.first) is, ap (λ (r : TransferRuns). r.qtds) is);
      held = λ held. absurd (gone is held);
    })
    (λ (differs : k ≢ t). record {
      before = w;
      there = are k ∙ sym (ap (option_map runs_of_transfer) (set_there ts t k (let_go_one y) differs)) ∙ there;
      same = (refl, refl, refl);
      held = λ held. refl;
    })
    (cases_eq k t)
  where
    gone : w ≡ runs_of_transfer (let_go_one y) → w.released ≡ false → ⊥
    gone is held = let e : true ≡ false = sym (ap (λ (r : TransferRuns). r.released) is) ∙ held in absurd (cc)

go_on : (ts : List Transfer) (t : ℕ) (y : Transfer) (k : ℕ) (w : TransferRuns) → slice_get ts t ≡ Some y → transfer_in ts k ≡ Some w → (z : TransferRuns) × (transfer_in (set ts t (let_go_one y)) k ≡ Some z) × (z.endpoint ≡ w.endpoint)
go_on ts t y k w here there = ⊎_elim
    (λ (same : k ≡ t).
    let is : w ≡ runs_of_transfer y = sym (same_Some _ w (sym (ap (option_map runs_of_transfer) (ap (slice_get ts) same ∙ here)) ∙ there)) in
    (runs_of_transfer (let_go_one y), ap (option_map runs_of_transfer) (ap (slice_get (set ts t (let_go_one y))) same ∙ set_here ts t y (let_go_one y) here), sym (ap (λ (r : TransferRuns). r.endpoint) is)))
    (λ (differs : k ≢ t). (w, ap (option_map runs_of_transfer) (set_there ts t k (let_go_one y) differs) ∙ there, refl))
    (cases_eq k t)

pub released_chained : (v : Views) (ts : List Transfer) (t : ℕ) (y : Transfer) → ((k : ℕ) → v.transfer k ≡ transfer_in ts k) → slice_get ts t ≡ Some y → (slot : ℕ → Slot) → AreChained v
    → AreChained (record v { slot = slot; transfer = transfer_in (set ts t (let_go_one y)) })
released_chained v ts t y are here slot old = given_back_chained v (record v { slot = slot; transfer = transfer_in (set ts t (let_go_one y)) })
    (record {
      notes = λ c. refl;
      held = λ k w there. go_back v ts t y k w are here there;
      there = λ k w there. go_on ts t y k w here (sym (are k) ∙ there);
      endpoints = λ e x at. (x, at, refl);
    }) old

-- ---- all transfers of an endpoint, which is given back with them

-- one of them, or another endpoint's
pub gone_from : (e : ℕ) (told : Bool) (ts : List Transfer) (k : ℕ) (z : Transfer) → slice_get (map (let_go e told) ts) k ≡ Some z → (y : Transfer) × (slice_get ts k ≡ Some y) × (let_go e told y ≡ z)
gone_from e told ts k z there = by (slice_get ts k) refl (sym (slice_get-map (let_go e told) ts k) ∙ there)
  where
    by : (o : Option Transfer) → slice_get ts k ≡ o → option_map (let_go e told) o ≡ Some z → (y : Transfer) × (slice_get ts k ≡ Some y) × (let_go e told y ≡ z)
    by None is f = absurd (cc)
    by (Some y) is f = (y, is, same_Some (let_go e told y) z f)

gone_runs : (v : Views) (told b : Bool) (k : ℕ) (y : Transfer) → v.transfer k ≡ Some (runs_of_transfer y) → IsHeldOf v k (runs_of_transfer (cond b (record y { reported = y.reported || told; released = true }) y))
gone_runs v told true k y there = record { before = runs_of_transfer y; there = there; same = (refl, refl, refl); held = λ held. let e : true ≡ false = held in absurd (cc) }
gone_runs v told false k y there = record { before = runs_of_transfer y; there = there; same = (refl, refl, refl); held = λ held. refl }

pub let_go_endpoint : (told b : Bool) (y : Transfer) → (cond b (record y { reported = y.reported || told; released = true }) y).endpoint ≡ y.endpoint
let_go_endpoint told true y = refl
let_go_endpoint told false y = refl

pub endpoint_gone_chained : (v : Views) (ts : List Transfer) (xs : List Endpoint) (e : ℕ) (x : Endpoint) (told : Bool) (slot : ℕ → Slot) → ((k : ℕ) → v.transfer k ≡ transfer_in ts k) → ((k : ℕ) → v.endpoint k ≡ endpoint_in xs k) → slice_get xs e ≡ Some x → AreChained v
    → AreChained (record v { slot = slot; endpoint = endpoint_in (set xs e (record x { gone = true })); transfer = transfer_in (map (let_go e told) ts) })
endpoint_gone_chained v ts xs e x told slot are ends here old = given_back_chained v (record v { slot = slot; endpoint = endpoint_in (set xs e z); transfer = transfer_in (map (let_go e told) ts) })
    (record { notes = λ c. refl; held = held; there = there; endpoints = endpoints }) old
  where
    z : Endpoint
    z = record x { gone = true }

    go : Transfer → Transfer
    go = let_go e told

    held : (k : ℕ) (w : TransferRuns) → transfer_in (map go ts) k ≡ Some w → IsHeldOf v k w
    held k w there = by (slice_get (map go ts) k) refl there
      where
        by : (o : Option Transfer) → slice_get (map go ts) k ≡ o → option_map runs_of_transfer o ≡ Some w → IsHeldOf v k w
        by None is f = absurd (cc)
        by (Some u) is f =
            let y = gone_from e told ts k u is in
            subst (λ (r : TransferRuns). IsHeldOf v k r) (ap runs_of_transfer y.2 ∙ same_Some (runs_of_transfer u) w f)
            (gone_runs v told (y.0.endpoint == e) k y.0 (are k ∙ ap (option_map runs_of_transfer) y.1))

    there : (k : ℕ) (w : TransferRuns) → v.transfer k ≡ Some w → (r : TransferRuns) × (transfer_in (map go ts) k ≡ Some r) × (r.endpoint ≡ w.endpoint)
    there k w at = by (slice_get ts k) refl (sym (are k) ∙ at)
      where
        by : (o : Option Transfer) → slice_get ts k ≡ o → option_map runs_of_transfer o ≡ Some w → (r : TransferRuns) × (transfer_in (map go ts) k ≡ Some r) × (r.endpoint ≡ w.endpoint)
        by None is f = absurd (cc)
        by (Some y) is f = (
          runs_of_transfer (go y),
          ap (option_map runs_of_transfer) (slice_get-map go ts k ∙ ap (option_map go) is),
          let_go_endpoint told (y.endpoint == e) y ∙ ap (λ (r : TransferRuns). r.endpoint) (same_Some (runs_of_transfer y) w f),
        )

    endpoints : (k : ℕ) (w : EndpointRuns) → endpoint_in (set xs e z) k ≡ Some w → (r : EndpointRuns) × (v.endpoint k ≡ Some r) × (r.dummy ≡ w.dummy)
    endpoints k w at = ⊎_elim
        (λ (own : k ≡ e). (
          runs_of_endpoint x,
          ends k ∙ ap (option_map runs_of_endpoint) (ap (slice_get xs) own ∙ here),
          ap (λ (r : EndpointRuns). r.dummy) (same_Some (runs_of_endpoint z) w (sym (ap (option_map runs_of_endpoint) (ap (slice_get (set xs e z)) own ∙ set_here xs e x z here)) ∙ at)),
        ))
        (λ (other : k ≢ e). (w, ends k ∙ sym (ap (option_map runs_of_endpoint) (set_there xs e k z other)) ∙ at, refl))
        (cases_eq k e)
