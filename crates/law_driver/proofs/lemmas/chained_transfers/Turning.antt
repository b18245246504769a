-- Turns along harvests, releases and commands, where some endpoints stay: what is given back of them was reported.
use Rattle.std.proofs.Common.{◌≡◌, ◌≢◌, ℕ, zero, suc, ◌<◌, true, List, [], ◌∷◌, set, drop, slice_get, Option, Some, None, option_map, ap, sym, ◌∙◌, ⊎_elim, inl, inr, refl, arith}
use Rattle.std.specs.Prelude.{◌⊎◌}
use Rattle.std.proofs.lemmas.Bool.{cases_eq, false≢true}
use Rattle.std.proofs.lemmas.Option.{same_Some}
use Rattle.law_common.proofs.Lists.{set_here, set_there}
use Rattle.drv_table.specs.declared.content.Endpoint.{Endpoint}
use Rattle.drv_table.specs.DriverContent.{DriverContent}
use Rattle.claims_driver.specs.Owners.{note_in}
use Rattle.law_driver.specs.chained_transfers.Turns.{Turn, turn_in, AreAtPlaces, StandsBefore, IsInList, AreReportedTo, AreTurnsOf}

-- ---- turns of a driver

pub record AreInTurnOf (S : ℕ → Type 0) (d : DriverContent) : Type 0 where
  pub places : AreAtPlaces (note_in d.notes) d.transfers
  pub turns : AreTurnsOf S (turn_in d.transfers) (slice_get d.endpoints) d.harvested

-- fewer endpoints stay
pub fewer_turns : (S R : ℕ → Type 0) (v : ℕ → Option Turn) (ends : ℕ → Option Endpoint) (hs : List ℕ) → ((t : ℕ) (y : Turn) → v t ≡ Some y → R y.endpoint → S y.endpoint) → AreTurnsOf S v ends hs → AreTurnsOf R v ends hs
fewer_turns S R v ends hs fewer old = record {
  reported = old.reported;
  released = old.released;
  told = λ t y here stays. old.told t y here (fewer t y here stays);
  next = old.next;
  owed = old.owed;
  order = old.order;
}

-- ---- views in which one is changed

-- the view w is v, but for number t
pub record IsChangedAt {X : Type 0} (v w : ℕ → Option X) (t : ℕ) (x y : X) : Type 0 where
  pub was : v t ≡ Some x
  pub here : w t ≡ Some y
  pub there : (i : ℕ) → i ≢ t → w i ≡ v i

pub changed : {X Y : Type 0} (f : X → Y) (xs : List X) (t : ℕ) (x y : X) → slice_get xs t ≡ Some x → IsChangedAt (λ i. option_map f (slice_get xs i)) (λ i. option_map f (slice_get (set xs t y) i)) t (f x) (f y)
changed f xs t x y here = record {
  was = ap (option_map f) here;
  here = ap (option_map f) (set_here xs t x y here);
  there = λ i differs. ap (option_map f) (set_there xs t i y differs);
}

pub changed_plain : {X : Type 0} (xs : List X) (t : ℕ) (x y : X) → slice_get xs t ≡ Some x → IsChangedAt (slice_get xs) (slice_get (set xs t y)) t x y
changed_plain xs t x y here = record { was = here; here = set_here xs t x y here; there = λ i differs. set_there xs t i y differs }

-- number k is the changed one, or another
pub which : {X : Type 0} (v w : ℕ → Option X) (t : ℕ) (x y : X) (k : ℕ) (z : X) → IsChangedAt v w t x y → w k ≡ Some z → ((k ≡ t) × (z ≡ y)) ⊎ ((k ≢ t) × (v k ≡ Some z))
which v w t x y k z c there = ⊎_elim
    (λ (same : k ≡ t). inl (same, sym (same_Some y z (sym c.here ∙ ap w (sym same) ∙ there))))
    (λ (differs : k ≢ t). inr (differs, sym (c.there k differs) ∙ there)) (cases_eq k t)

-- ---- turns by number

-- what a turn was before
record Was (v : ℕ → Option Turn) (k : ℕ) (z : Turn) : Type 0 where
  turn : Turn
  there : v k ≡ Some turn
  endpoint : z.endpoint ≡ turn.endpoint

-- number t changes, and its endpoint stays
was_turn : (v w : ℕ → Option Turn) (t : ℕ) (x y : Turn) (k : ℕ) (z : Turn) → IsChangedAt v w t x y → y.endpoint ≡ x.endpoint → w k ≡ Some z → Was v k z
was_turn v w t x y k z c same there = ⊎_elim
    (λ (own : (k ≡ t) × (z ≡ y)). record { turn = x; there = ap v own.0 ∙ c.was; endpoint = ap (λ (r : Turn). r.endpoint) own.1 ∙ same })
    (λ (other : (k ≢ t) × (v k ≡ Some z)). record { turn = z; there = other.1; endpoint = refl })
    (which v w t x y k z c there)

in_place : (v w : ℕ → Option Turn) (t : ℕ) (x y : Turn) (k : ℕ) (z : Turn) → IsChangedAt v w t x y → w k ≡ Some z → k ≢ t → v k ≡ Some z
in_place v w t x y k z c there differs = sym (c.there k differs) ∙ there

-- ---- a transfer is given back

module _ (S : ℕ → Type 0) (v w : ℕ → Option Turn) (ends : ℕ → Option Endpoint) (hs : List ℕ) (t : ℕ) (x : Turn) (c : IsChangedAt v w t x (record x { released = true })) where
  gone : Turn
  gone = record x { released = true }

  cases : (k : ℕ) (z : Turn) → w k ≡ Some z → ((k ≡ t) × (z ≡ gone)) ⊎ ((k ≢ t) × (v k ≡ Some z))
  unfolding gone
  cases k z there = which v w t x gone k z c there

  told_before : (k : ℕ) (z : Turn) → w k ≡ Some z → z.reported ≡ true → (y : Turn) × (v k ≡ Some y) × (z.endpoint ≡ y.endpoint) × (y.reported ≡ true)
  unfolding gone
  told_before k z there told = ⊎_elim
      (λ (own : (k ≡ t) × (z ≡ gone)). (x, ap v own.0 ∙ c.was, ap (λ (r : Turn). r.endpoint) own.1, sym (ap (λ (r : Turn). r.reported) own.1) ∙ told))
      (λ (other : (k ≢ t) × (v k ≡ Some z)). (z, other.1, refl, told)) (cases k z there)

  told_now : (k : ℕ) (y z : Turn) → v k ≡ Some y → w k ≡ Some z → y.reported ≡ true → z.reported ≡ true
  unfolding gone
  told_now k y z was there told = ⊎_elim
      (λ (own : (k ≡ t) × (z ≡ gone)). ap (λ (r : Turn). r.reported) own.1 ∙ ap (λ (r : Turn). r.reported) (same_Some x y (sym c.was ∙ sym (ap v own.0) ∙ was)) ∙ told)
      (λ (other : (k ≢ t) × (v k ≡ Some z)). ap (λ (r : Turn). r.reported) (same_Some z y (sym other.1 ∙ was)) ∙ told) (cases k z there)

  gone_now : (k : ℕ) (y z : Turn) → v k ≡ Some y → w k ≡ Some z → y.released ≡ true → z.released ≡ true
  unfolding gone
  gone_now k y z was there told = ⊎_elim
      (λ (own : (k ≡ t) × (z ≡ gone)). ap (λ (r : Turn). r.released) own.1)
      (λ (other : (k ≢ t) × (v k ≡ Some z)). ap (λ (r : Turn). r.released) (same_Some z y (sym other.1 ∙ was)) ∙ told) (cases k z there)

  same_end : (k : ℕ) (y z : Turn) → v k ≡ Some y → w k ≡ Some z → z.endpoint ≡ y.endpoint
  unfolding gone
  same_end k y z was there = ⊎_elim
      (λ (own : (k ≡ t) × (z ≡ gone)). ap (λ (r : Turn). r.endpoint) own.1 ∙ ap (λ (r : Turn). r.endpoint) (same_Some x y (sym c.was ∙ sym (ap v own.0) ∙ was)))
      (λ (other : (k ≢ t) × (v k ≡ Some z)). ap (λ (r : Turn). r.endpoint) (same_Some z y (sym other.1 ∙ was))) (cases k z there)

  before : (k : ℕ) (z : Turn) → w k ≡ Some z → Was v k z
  unfolding gone
  before k z there = was_turn v w t x gone k z c refl there

  still_reported : (e : ℕ) (o : Option ℕ) → AreReportedTo v e o → AreReportedTo w e o
  unfolding gone
  still_reported e None old = λ u z there is.
      let b = before u z there in told_now u b.turn z b.there there (old u b.turn b.there (sym b.endpoint ∙ is))
  still_reported e (Some k) old = ⊎_elim
      (λ (own : k ≡ t).
      let is : x ≡ old.transfer = same_Some x old.transfer (sym c.was ∙ sym (ap v own) ∙ old.here) in
      record {
        transfer = gone;
        here = ap w own ∙ c.here;
        endpoint = ap (λ (r : Turn). r.endpoint) is ∙ old.endpoint;
        waits = ap (λ (r : Turn). r.reported) is ∙ old.waits;
        before = λ u z less there is_of. let b = before u z there in told_now u b.turn z b.there there (old.before u b.turn less b.there (sym b.endpoint ∙ is_of));
      })
      (λ (other : k ≢ t).
      record {
        transfer = old.transfer;
        here = c.there k other ∙ old.here;
        endpoint = old.endpoint;
        waits = old.waits;
        before = λ u z less there is_of. let b = before u z there in told_now u b.turn z b.there there (old.before u b.turn less b.there (sym b.endpoint ∙ is_of));
      }) (cases_eq k t)

  dropped : (n k : ℕ) → slice_get hs (suc n) ≡ Some k → slice_get (drop 1 hs) n ≡ Some k
  dropped n k here = drop_get hs n ∙ here
    where
      drop_get : (ys : List ℕ) (n : ℕ) → slice_get (drop 1 ys) n ≡ slice_get ys (suc n)
      drop_get [] n = refl
      drop_get (y ∷ ys) n = refl

  undropped : (n k : ℕ) → slice_get (drop 1 hs) n ≡ Some k → slice_get hs (suc n) ≡ Some k
  undropped n k here = sym (drop_get hs n) ∙ here
    where
      drop_get : (ys : List ℕ) (n : ℕ) → slice_get (drop 1 ys) n ≡ slice_get ys (suc n)
      drop_get [] n = refl
      drop_get (y ∷ ys) n = refl

  pub released_turns : slice_get hs 0 ≡ Some t → x.reported ≡ true → AreTurnsOf S v ends hs → AreTurnsOf S w ends (drop 1 hs)
  unfolding gone
  released_turns first told old = record {
    reported = λ k u y z less there there_u is reported.
        let b = told_before u z there_u reported in
        let a = before k y there in
        told_now k a.turn y a.there there (old.reported k u a.turn b.0 less a.there b.1 (sym b.2 ∙ is ∙ a.endpoint) b.3);
    released = λ k u y z less there there_u is released.
        let a = before k y there in
        ⊎_elim
        (λ (own : (u ≡ t) × (z ≡ gone)).
        let at_first : slice_get hs 0 ≡ Some u = first ∙ ap Some (sym own.0) in
        ⊎_elim (λ (r : a.turn.released ≡ true). gone_now k a.turn y a.there there r)
        (λ (s : StandsBefore hs 0 k). let e = s.earlier in absurd (omega (arith, e)))
        (old.order 0 k u a.turn x at_first less a.there (ap v own.0 ∙ c.was) (sym (ap (λ (r : Turn). r.endpoint) own.1) ∙ is ∙ a.endpoint)))
        (λ (other : (u ≢ t) × (v u ≡ Some z)). gone_now k a.turn y a.there there (old.released k u a.turn z less a.there other.1 (is ∙ a.endpoint) released))
        (cases u z there_u);
    told = λ k z there stays released.
        ⊎_elim (λ (own : (k ≡ t) × (z ≡ gone)). ap (λ (r : Turn). r.reported) own.1 ∙ told)
        (λ (other : (k ≢ t) × (v k ≡ Some z)). old.told k z other.1 stays released) (cases k z there);
    next = λ e y here goes. still_reported e y.next (old.next e y here goes);
    owed = λ k y z there here goes reported held.
        ⊎_elim (λ (own : (k ≡ t) × (y ≡ gone)). absurd (false≢true (sym held ∙ ap (λ (r : Turn). r.released) own.1)))
        (λ (other : (k ≢ t) × (v k ≡ Some y)). left k other.0 (old.owed k y z other.1 here goes reported held)) (cases k y there);
    order = λ i k u y z here less there there_u is.
        let a = before k y there in
        let b = before u z there_u in
        stands i k a.turn y a.there there (old.order (suc i) k u a.turn b.turn (undropped i u here) less a.there b.there (sym b.endpoint ∙ is ∙ a.endpoint));
  }
    where
      left : (k : ℕ) → k ≢ t → IsInList hs k → IsInList (drop 1 hs) k
      left k differs l = by l.at l.here
        where
          by : (n : ℕ) → slice_get hs n ≡ Some k → IsInList (drop 1 hs) k
          by zero here = absurd (differs (sym (same_Some t k (sym first ∙ here))))
          by (suc n) here = record { at = n; here = dropped n k here }

      stands : (i k : ℕ) (a y : Turn) → v k ≡ Some a → w k ≡ Some y → (a.released ≡ true) ⊎ StandsBefore hs (suc i) k → (y.released ≡ true) ⊎ StandsBefore (drop 1 hs) i k
      stands i k a y was there (inl r) = inl (gone_now k a y was there r)
      stands i k a y was there (inr s) = by s.at s.earlier s.here
        where
          by : (n : ℕ) → n < suc i → slice_get hs n ≡ Some k → (y.released ≡ true) ⊎ StandsBefore (drop 1 hs) i k
          by zero less here =
              let own : k ≡ t = sym (same_Some t k (sym first ∙ here)) in
              inl (ap (λ (r : Turn). r.released) (same_Some y (record x { released = true }) (sym there ∙ ap w own ∙ c.here)))
          by (suc n) less here = inr (record { at = n; earlier = omega arith; here = dropped n k here })
