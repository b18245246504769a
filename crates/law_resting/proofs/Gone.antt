-- What is to be given back stays counted where an endpoint leaves, and where a transfer or an endpoint is given back.
use Rattle.std.proofs.Common.{◌≡◌, ◌≢◌, ℕ, ◌+◌, ◌≤◌, ◌==◌, Bool, true, false, cond, not, ◌||◌, ◌&&◌, List, [], ◌∷◌, ◌++◌, map, drop, set, slice_get, Option, Some, None, option_map, ap, sym, ◌∙◌, ⊎_elim, refl, arith}
use Rattle.std.proofs.lemmas.Bool.{cases_eq, cases_Bool, false≢true}
use Rattle.std.proofs.lemmas.Option.{same_Some, slice_get-map}
use Rattle.law_driver.proofs.Common.{frames_most}
use Rattle.law_driver.proofs.Common.{gone_was, ring_most}
use Rattle.law_common.proofs.Lists.{set_here, set_there}
use Rattle.drv_periodic_table.specs.Periodic.{is_periodic}
use Rattle.drv_periodic_table.specs.declared.content.Removal.{Removal}
use Rattle.drv_periodic_table.specs.declared.content.Removed.TheVariants as removed
use Rattle.drv_table.specs.declared.content.Endpoint.{Endpoint}
use Rattle.drv_table.specs.declared.content.Transfer.{Transfer}
use Rattle.claims_driver.specs.Leaving.{times, endpoint_before, transfers_in, endpoints_in, owes, leaves_ring, leaves_frames, IsSteady, Returns}
use Rattle.law_driver.proofs.lemmas.run_owners.Orders.{times_push, times_first, one_same, none_other, removed_first, endpoints_kept, transfers_push, endpoints_push, set_case, same_count}
use Rattle.law_driver.proofs.lemmas.run_owners.Leaves.{HasGone, GoesBy, IsLess}
use Rattle.law_resting.specs.Counted.{IsNextIn, counted, AreCounted}
use Rattle.law_resting.proofs.Counting.{next_on, next_changed}

-- ---- at most once

most_one : (b : Bool) → cond b 1 0 ≤ 1
most_one true = omega arith
most_one false = omega arith

pub owes_most : (y : Transfer) → owes (Some y) ≤ 1
owes_most y = most_one (y.reported && not y.released)

back_owes : (b : Bool) → ◌≡◌ {A = ℕ} (cond (b && false) 1 0) 0
back_owes true = refl
back_owes false = refl

second_true : (a b : Bool) → ◌≡◌ {A = ℕ} (cond ((a || true) || b) 0 1) 0
second_true true b = refl
second_true false b = refl

-- ---- nobody leaves any more

-- who was to leave is out of ring and frames
pub none_leaves : {r : Returns} {ts : List Transfer} {xs : List Endpoint} (e : ℕ)
    → ((x : Endpoint) → slice_get xs e ≡ Some x → (x.linked || x.chained) ≡ false)
    → AreCounted r ts xs (Some e) → AreCounted r ts xs None
none_leaves {xs = xs} e out old = record {
  harvests = old.harvests;
  leaving = old.leaving;
  removed = old.removed;
  cancelled = λ i x here over on.
      let same : e ≡ i = same_Some e i (old.cancelled i x here over on) in
      absurd (false≢true (sym (out x (ap (slice_get xs) same ∙ here)) ∙ on));
  next = old.next;
}

-- one of the ring has no place in the frames
pub ring_alone : (x : Endpoint) → IsSteady x → is_periodic x.desc.kind ≡ false → x.chained ≡ false
ring_alone x s ring = ⊎_elim (λ (on : x.chained ≡ true). absurd (false≢true (sym ring ∙ s.frames on))) (λ (off : x.chained ≡ false). off)
    (cases_Bool x.chained)

pub frames_alone : (x : Endpoint) → IsSteady x → is_periodic x.desc.kind ≡ true → x.linked ≡ false
frames_alone x s frames = ⊎_elim (λ (on : x.linked ≡ true). absurd (false≢true (sym (s.ring on) ∙ frames)))
    (λ (off : x.linked ≡ false). off) (cases_Bool x.linked)

-- it left the ring
pub left_ring : {r : Returns} {ts : List Transfer} {xs : List Endpoint} (e : ℕ) (x : Endpoint) → slice_get xs e ≡ Some x → x.chained ≡ false
    → AreCounted r ts xs (Some e) → AreCounted (record r { waiting = r.waiting ++ e ∷ [] }) ts (set xs e (record x { linked = false })) None
left_ring {r = r} {ts = ts} {xs = xs} e x here out old =
    let y : Endpoint = record x { linked = false } in
    record {
      harvests = λ t v z there at goes.
          set_case (λ j w. j ≡ v.endpoint → w.ended ≡ None → owes (Some v) ≤ counted r t) xs e v.endpoint x y z here at
          (λ same going. old.harvests t v x there (ap (slice_get xs) (sym same) ∙ here) going)
          (λ differs was same going. old.harvests t v z there was going) refl goes;
      leaving = λ i.
          ⊎_elim (λ (same : i ≡ e).
          let one : ◌≡◌ {A = ℕ} (cond (e == i) 1 0) 1 = ap (λ j. cond (e == j) 1 0) same ∙ one_same e in
          omega (arith, times_push i e r.waiting, one, ring_most (slice_get (set xs e y) i)))
          (λ (differs : i ≢ e). let now = ap leaves_ring (set_there xs e i y differs) in omega
          (arith, times_push i e r.waiting, now, old.leaving i)) (cases_eq i e);
      removed = λ i. let now = same_count leaves_frames xs e x y here refl i in omega (arith, now, old.removed i);
      cancelled = λ i z there over on.
          set_case (λ j w. w.cancelled ≡ true → (w.linked || w.chained) ≡ true → None ≡ Some j) xs e i x y z here there
          (λ over2 on2. absurd (false≢true (sym out ∙ on2)))
          (λ differs was over2 on2. absurd (differs (sym (same_Some e i (old.cancelled i z was over2 on2))))) over on;
      next = λ i z there goes.
          set_case (λ j w. w.ended ≡ None → IsNextIn ts j w.next) xs e i x y z here there
          (λ going. old.next e x here going)
          (λ differs was. old.next i z was) goes;
    }

-- it left its frames
pub left_frames : {r : Returns} {ts : List Transfer} {xs : List Endpoint} (e : ℕ) (x : Endpoint) (m : Removal) → m.what ≡ removed.Endpoint e
    → slice_get xs e ≡ Some x → x.linked ≡ false
    → AreCounted r ts xs (Some e) → AreCounted (record r { removals = r.removals ++ m ∷ [] }) ts (set xs e (record x { chained = false }))
    None
left_frames {r = r} {ts = ts} {xs = xs} e x m what here out old =
    let y : Endpoint = record x { chained = false } in
    let one_endpoint : (i : ℕ) → times i (endpoints_in (r.removals ++ m ∷ [])) ≡ times i (endpoints_in r.removals) + cond (e == i) 1 0 =
    λ i. let p = endpoints_push i r.removals m in let n = ap (λ w. times i (endpoint_before w [])) what in omega (arith, p, n) in
    record {
      harvests = λ t v z there at goes.
          let p = transfers_push t r.removals m in
          set_case (λ j w. j ≡ v.endpoint → w.ended ≡ None → owes (Some v) ≤ times t r.harvested + times t r.unlinks + times t
          (transfers_in (r.removals ++ m ∷ []))) xs e v.endpoint x y z here at
          (λ same going. omega (arith, p, old.harvests t v x there (ap (slice_get xs) (sym same) ∙ here) going))
          (λ differs was same going. omega (arith, p, old.harvests t v z there was going)) refl goes;
      leaving = λ i. let now = same_count leaves_ring xs e x y here refl i in omega (arith, now, old.leaving i);
      removed = λ i.
          ⊎_elim (λ (same : i ≡ e).
          let one : ◌≡◌ {A = ℕ} (cond (e == i) 1 0) 1 = ap (λ j. cond (e == j) 1 0) same ∙ one_same e in
          omega (arith, one_endpoint i, one, frames_most (slice_get (set xs e y) i)))
          (λ (differs : i ≢ e). let now = ap leaves_frames (set_there xs e i y differs) in omega
          (arith, one_endpoint i, now, old.removed i)) (cases_eq i e);
      cancelled = λ i z there over on.
          set_case (λ j w. w.cancelled ≡ true → (w.linked || w.chained) ≡ true → None ≡ Some j) xs e i x y z here there
          (λ over2 on2. absurd (false≢true (sym (ap (λ b. b || false) out) ∙ on2)))
          (λ differs was over2 on2. absurd (differs (sym (same_Some e i (old.cancelled i z was over2 on2))))) over on;
      next = λ i z there goes.
          set_case (λ j w. w.ended ≡ None → IsNextIn ts j w.next) xs e i x y z here there
          (λ going. old.next e x here going)
          (λ differs was. old.next i z was) goes;
    }

-- ---- a transfer is given back

transfer_back : {r s : Returns} {ts : List Transfer} {xs : List Endpoint} {l : Option ℕ} (t : ℕ) (x : Transfer) → slice_get ts t ≡ Some x
    → ((i : ℕ) → counted r i ≡ cond (t == i) 1 0 + counted s i)
    → ((e : ℕ) → times e r.waiting + times e r.rung + times e r.cleared ≡ times e s.waiting + times e s.rung + times e s.cleared)
    → ((e : ℕ) → times e (endpoints_in r.removals) ≡ times e (endpoints_in s.removals)) → AreCounted r ts xs l → AreCounted s
    (set ts t (record x { released = true })) xs l
transfer_back {r = r} {s = s} {ts = ts} {xs = xs} t x here less ring frames old = record {
  harvests = λ i v z there at goes.
      set_case (λ j (w : Transfer). slice_get xs w.endpoint ≡ Some z → owes (Some w) ≤ counted s j) ts t i x (record x { released = true })
      v here there
      (λ at2. let none = back_owes x.reported in omega (arith, none))
      (λ differs was at2. omega (arith, less i, none_other t i (λ same. differs (sym same)), old.harvests i v z was at2 goes)) at;
  leaving = λ e. omega (arith, ring e, old.leaving e);
  removed = λ e. omega (arith, frames e, old.removed e);
  cancelled = old.cancelled;
  next = λ e z there goes. next_changed ts t x (record x { released = true }) e z.next here refl refl (old.next e z there goes);
}

pub transfer_gone : {r : Returns} {ts : List Transfer} {xs : List Endpoint} {l : Option ℕ} (t : ℕ) (x : Transfer) → slice_get ts t ≡ Some x
    → slice_get r.harvested 0 ≡ Some t → AreCounted r ts xs l
    → AreCounted (record r { harvested = drop 1 r.harvested }) (set ts t (record x { released = true })) xs l
transfer_gone {r = r} t x here first old = transfer_back t x here (λ i. let c = times_first i t r.harvested first in omega (arith, c))
    (λ e. refl) (λ e. refl) old

pub descriptor_gone : {r : Returns} {ts : List Transfer} {xs : List Endpoint} {l : Option ℕ} (t : ℕ) (x : Transfer) (m : Removal)
    → slice_get ts t ≡ Some x → slice_get r.removals 0 ≡ Some m → m.what ≡ removed.Descriptor t
    → AreCounted r ts xs l → AreCounted (record r { removals = drop 1 r.removals }) (set ts t (record x { released = true })) xs l
descriptor_gone {r = r} t x m here first what old =
    transfer_back t x here (λ i. let c = removed_first i t r.removals m first what in omega (arith, c)) (λ e. refl)
    (λ e. ap (times e) (sym (endpoints_kept t r.removals m first what))) old

-- ---- an endpoint is given back

module _ (r s : Returns) (ts : List Transfer) (xs : List Endpoint) (l : Option ℕ) (e : ℕ) (x : Endpoint) (go : Transfer → Transfer)
    (here : slice_get xs e ≡ Some x) (over : x.ended ≡ None → ⊥)
    (off : x.linked ≡ false) (out : x.chained ≡ false) (less : IsLess r s e)
    (goes : (t : ℕ) (y : Transfer) → slice_get ts t ≡ Some y → GoesBy e r t y (go y)) where
  was : (t : ℕ) (z : Transfer) → slice_get (map go ts) t ≡ Some z → (y : Transfer) × (slice_get ts t ≡ Some y) × (go y ≡ z)
  was t z there = gone_was go ts t (slice_get ts t) z refl (sym (slice_get-map go ts t) ∙ there)

  -- a transfer of another endpoint stays
  other : (t : ℕ) (y : Transfer) → slice_get ts t ≡ Some y → (y.endpoint ≡ e → ⊥) → go y ≡ y
  other t y there differs = ⊎_elim (λ (same : go y ≡ y). same) (λ (h : HasGone e r t y (go y)). absurd (differs h.was)) (goes t y there)

  same_endpoint : (t : ℕ) (y : Transfer) → slice_get ts t ≡ Some y → (go y).endpoint ≡ y.endpoint
  same_endpoint t y there =
      ⊎_elim (λ (k : go y ≡ y). ap (λ (v : Transfer). v.endpoint) k) (λ (k : HasGone e r t y (go y)). k.endpoint) (goes t y there)

  next_gone : (i : ℕ) (o : Option ℕ) → i ≢ e → IsNextIn ts i o → IsNextIn (map go ts) i o
  next_gone i o differs old =
      next_on ts (map go ts) i o
      (λ u z there at.
      let w = was u z there in
      let of_i : w.0.endpoint ≡ i = sym (same_endpoint u w.0 w.1) ∙ ap (λ (v : Transfer). v.endpoint) w.2 ∙ at in
      let same : go w.0 ≡ w.0 = other u w.0 w.1 (λ at_e. differs (sym of_i ∙ at_e)) in
      record { one = w.0; here = w.1; endpoint = of_i; told = λ told. ap (λ (v : Transfer). v.reported) (sym w.2 ∙ same) ∙ told })
      (λ u y there at untold.
      record {
        one = y;
        here = slice_get-map go ts u ∙ ap (option_map go) there ∙ ap Some
            (other u y there (λ at_e. differs (sym at ∙ at_e)));
        endpoint = at;
        untold = untold;
      })
      old

  pub endpoint_gone : AreCounted r ts xs l → AreCounted s (map go ts) (set xs e (record x { gone = true })) l
  endpoint_gone old =
      let y : Endpoint = record x { gone = true } in
      record {
        harvests = λ t z v there at going.
            let w = was t z there in
            let place : z.endpoint ≡ w.0.endpoint = ap (λ (u : Transfer). u.endpoint) (sym w.2) ∙ same_endpoint t w.0 w.1 in
            set_case (λ j u. j ≡ z.endpoint → u.ended ≡ None → owes (Some z) ≤ counted s t) xs e z.endpoint x y v here at
            (λ same going2. absurd (over going2))
            (λ differs at2 same going2.
            let stays : z ≡ w.0 = sym w.2 ∙ other t w.0 w.1 (λ at_e. differs (place ∙ at_e)) in
            let owed = ap (λ (u : Transfer). owes (Some u)) stays in
            omega (arith, owed, less.same t, old.harvests t w.0 v w.1 (ap (slice_get xs) (sym place) ∙ at2) going2)) refl going;
        leaving = λ i.
            ⊎_elim (λ (at : i ≡ e).
            let now : leaves_ring (slice_get (set xs e y) i) ≡ 0 = ap (λ j. leaves_ring (slice_get (set xs e y) j)) at ∙ ap leaves_ring
            (set_here xs e x y here) ∙ second_true x.linked (is_periodic x.desc.kind) in
            omega (arith, now))
            (λ (differs : i ≢ e). let now = ap leaves_ring (set_there xs e i y differs) in omega
            (arith, now, less.leaving i differs, old.leaving i)) (cases_eq i e);
        removed = λ i.
            ⊎_elim (λ (at : i ≡ e).
            let now : leaves_frames (slice_get (set xs e y) i) ≡ 0 = ap (λ j. leaves_frames (slice_get (set xs e y) j)) at ∙ ap
            leaves_frames (set_here xs e x y here) ∙ second_true x.chained (not (is_periodic x.desc.kind)) in
            omega (arith, now))
            (λ (differs : i ≢ e). let now = ap leaves_frames (set_there xs e i y differs) in omega
            (arith, now, less.removed i differs, old.removed i)) (cases_eq i e);
        cancelled = λ i z there left on.
            set_case (λ j w. w.cancelled ≡ true → (w.linked || w.chained) ≡ true → l ≡ Some j) xs e i x y z here there
            (λ left2 on2. absurd (false≢true (sym (ap (λ b. b || x.chained) off ∙ out) ∙ on2)))
            (λ differs was. old.cancelled i z was) left on;
        next = λ i z there going.
            set_case (λ j w. j ≡ i → w.ended ≡ None → IsNextIn (map go ts) i w.next) xs e i x y z here there
            (λ same going2. absurd (over going2))
            (λ differs was same going2. next_gone i z.next differs (old.next i z was going2)) refl going;
      }
