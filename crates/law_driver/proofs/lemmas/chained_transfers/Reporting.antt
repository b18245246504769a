-- Turns where a transfer is reported.
use Rattle.std.proofs.Common.{◌≡◌, ◌≢◌, ℕ, zero, suc, ◌<◌, true, false, List, [], ◌∷◌, ◌++◌, length, slice_get, Option, Some, None, ap, sym, subst, ◌∙◌, ⊎_elim, inl, inr, refl, arith}
use Rattle.std.specs.Prelude.{◌⊎◌}
use Rattle.std.proofs.lemmas.Bool.{cases_eq, cases_Bool}
use Rattle.std.proofs.lemmas.Option.{same_Some}
use Rattle.usb_base.specs.declared.endpoints.EndCause.{EndCause}
use Rattle.drv_table.specs.declared.content.Endpoint.{Endpoint}
use Rattle.law_driver.specs.endpoint_lives.Lives.{told_end}
use Rattle.law_driver.specs.chained_transfers.Turns.{Turn, StandsBefore, AreReportedTo, AreTurnsOf}
use Rattle.law_driver.proofs.lemmas.chained_transfers.Turning.{IsChangedAt, which}

module _ (S : ℕ → Type 0) (v w : ℕ → Option Turn) (ends ends_now : ℕ → Option Endpoint) (hs : List ℕ) (e t : ℕ) (x : Turn) (a b : Endpoint) (c : IsChangedAt v w t x (record x { reported = true })) (f : IsChangedAt ends ends_now e a b) where
  done : Turn
  done = record x { reported = true }

  cases : (k : ℕ) (z : Turn) → w k ≡ Some z → ((k ≡ t) × (z ≡ done)) ⊎ ((k ≢ t) × (v k ≡ Some z))
  unfolding done
  cases k z there = which v w t x done k z c there

  told_now : (k : ℕ) (y z : Turn) → v k ≡ Some y → w k ≡ Some z → y.reported ≡ true → z.reported ≡ true
  unfolding done
  told_now k y z was there told = ⊎_elim
      (λ (own : (k ≡ t) × (z ≡ done)). ap (λ (r : Turn). r.reported) own.1)
      (λ (other : (k ≢ t) × (v k ≡ Some z)). ap (λ (r : Turn). r.reported) (same_Some z y (sym other.1 ∙ was)) ∙ told) (cases k z there)

  -- what it was before, as much of it given back
  record Was (k : ℕ) (z : Turn) : Type 0 where
    turn : Turn
    there : v k ≡ Some turn
    endpoint : z.endpoint ≡ turn.endpoint
    released : z.released ≡ turn.released
    reported : k ≢ t → z.reported ≡ turn.reported

  before : (k : ℕ) (z : Turn) → w k ≡ Some z → Was k z
  unfolding done
  before k z there = ⊎_elim
      (λ (own : (k ≡ t) × (z ≡ done)). record {
        turn = x;
        there = ap v own.0 ∙ c.was;
        endpoint = ap (λ (r : Turn). r.endpoint) own.1;
        released = ap (λ (r : Turn). r.released) own.1;
        reported = λ differs. absurd (differs own.0);
      })
      (λ (other : (k ≢ t) × (v k ≡ Some z)). record { turn = z; there = other.1; endpoint = refl; released = refl; reported = λ differs. refl }) (cases k z there)

  -- the endpoint's transfers before it are reported, and it is the endpoint's
  pub record IsFirst : Type 0 where
    pub endpoint : x.endpoint ≡ e
    pub earlier : (u : ℕ) (z : Turn) → u < t → v u ≡ Some z → z.endpoint ≡ e → z.reported ≡ true
    pub unreleased : x.released ≡ false

  other_next : (k : ℕ) (o : Option ℕ) → x.endpoint ≢ k → AreReportedTo v k o → AreReportedTo w k o
  unfolding done
  other_next k None differs old = λ u z there is. let b = before u z there in told_now u b.turn z b.there there (old u b.turn b.there (sym b.endpoint ∙ is))
  other_next k (Some n) differs old =
      let apart : n ≢ t = λ same. differs (ap (λ (r : Turn). r.endpoint) (same_Some x old.transfer (sym c.was ∙ sym (ap v same) ∙ old.here)) ∙ old.endpoint) in
      record {
        transfer = old.transfer;
        here = c.there n apart ∙ old.here;
        endpoint = old.endpoint;
        waits = old.waits;
        before = λ u z less there is. let b = before u z there in told_now u b.turn z b.there there (old.before u b.turn less b.there (sym b.endpoint ∙ is));
      }

  reported_order : IsFirst → AreTurnsOf S v ends hs → (k u : ℕ) (y z : Turn) → k < u → w k ≡ Some y → w u ≡ Some z → z.endpoint ≡ y.endpoint → z.reported ≡ true → y.reported ≡ true
  reported_order first old k u y z less there there_u is reported =
      let p = before k y there in
      let q = before u z there_u in
      told_now k p.turn y p.there there (⊎_elim
      (λ (own : u ≡ t).
      first.earlier k p.turn (subst (λ n. k < n) own less) p.there
      (sym p.endpoint ∙ sym is ∙ q.endpoint ∙ ap (λ (r : Turn). r.endpoint) (same_Some q.turn x (sym q.there ∙ ap v own ∙ c.was)) ∙ first.endpoint))
      (λ (other : u ≢ t). old.reported k u p.turn q.turn less p.there q.there (sym q.endpoint ∙ is ∙ p.endpoint) (sym (q.reported other) ∙ reported)) (cases_eq u t))

  released_order : AreTurnsOf S v ends hs → (k u : ℕ) (y z : Turn) → k < u → w k ≡ Some y → w u ≡ Some z → z.endpoint ≡ y.endpoint → z.released ≡ true → y.released ≡ true
  released_order old k u y z less there there_u is released =
      let p = before k y there in
      let q = before u z there_u in
      p.released ∙ old.released k u p.turn q.turn less p.there q.there (sym q.endpoint ∙ is ∙ p.endpoint) (sym q.released ∙ released)

  told_order : AreTurnsOf S v ends hs → (k : ℕ) (y : Turn) → w k ≡ Some y → S y.endpoint → y.released ≡ true → y.reported ≡ true
  told_order old k y there stays released =
      let p = before k y there in
      told_now k p.turn y p.there there (old.told k p.turn p.there (subst (λ (i : ℕ). S i) p.endpoint stays) (sym p.released ∙ released))

  next_order : IsFirst → (told_end b ≡ None → AreReportedTo w e b.next) → AreTurnsOf S v ends hs → (k : ℕ) (y : Endpoint) → ends_now k ≡ Some y → told_end y ≡ None → AreReportedTo w k y.next
  next_order first mine old k y here goes = ⊎_elim
      (λ (own : (k ≡ e) × (y ≡ b)).
      subst (λ (i : ℕ). AreReportedTo w i y.next) (sym own.0)
      (subst (λ (z : Endpoint). AreReportedTo w e z.next) (sym own.1) (mine (sym (ap told_end own.1) ∙ goes))))
      (λ (other : (k ≢ e) × (ends k ≡ Some y)). other_next k y.next (λ is. other.0 (sym is ∙ first.endpoint)) (old.next k y other.1 goes))
      (which ends ends_now e a b k y f here)

  -- the endpoint has ended with it
  pub ended_turns : (cause : EndCause) → told_end b ≡ Some cause → IsFirst → AreTurnsOf S v ends hs → AreTurnsOf S w ends_now hs
  ended_turns cause ended first old = record {
    reported = reported_order first old;
    released = released_order old;
    told = told_order old;
    next = next_order first (λ goes. absurd (none goes)) old;
    owed = λ k y z there here goes reported held.
        let p = before k y there in
        ⊎_elim
        (λ (own : (y.endpoint ≡ e) × (z ≡ b)). absurd (none (sym (ap told_end own.1) ∙ goes)))
        (λ (other : (y.endpoint ≢ e) × (ends y.endpoint ≡ Some z)).
        let apart : k ≢ t = λ same. other.0 (p.endpoint ∙ ap (λ (r : Turn). r.endpoint) (same_Some p.turn x (sym p.there ∙ ap v same ∙ c.was)) ∙ first.endpoint) in
        old.owed k p.turn z p.there (ap ends (sym p.endpoint) ∙ other.1) goes (sym (p.reported apart) ∙ reported) (sym p.released ∙ held))
        (which ends ends_now e a b y.endpoint z f here);
    order = λ i k u y z here less there there_u is.
        let p = before k y there in
        let q = before u z there_u in
        ⊎_elim (λ (r : p.turn.released ≡ true). inl (p.released ∙ r)) (λ (s : StandsBefore hs i k). inr s)
        (old.order i k u p.turn q.turn here less p.there q.there (sym q.endpoint ∙ is ∙ p.endpoint));
  }
    where
      none : told_end b ≡ None → ⊥
      none goes = let is : ◌≡◌ {A = Option EndCause} (Some cause) None = sym ended ∙ goes in absurd (cc)

  -- it goes on with its next transfer
  pub harvested_turns : told_end a ≡ None → (told_end b ≡ None → AreReportedTo w e b.next) → IsFirst → AreTurnsOf S v ends hs → AreTurnsOf S w ends_now (hs ++ t ∷ [])
  harvested_turns goes_on mine first old = record {
    reported = reported_order first old;
    released = released_order old;
    told = told_order old;
    next = next_order first mine old;
    owed = λ k y z there here goes reported held.
        let p = before k y there in
        ⊎_elim (λ (own : k ≡ t). record { at = length hs; here = last_of k own })
        (λ (apart : k ≢ t).
        let in_list = old.owed k p.turn (was_end y.endpoint z here).0 p.there (ap ends (sym p.endpoint) ∙ (was_end y.endpoint z here).1) ((was_end y.endpoint z here).2 goes) (sym (p.reported apart) ∙ reported) (sym p.released ∙ held) in
        record { at = in_list.at; here = pushed_at hs in_list.at k in_list.here })
        (cases_eq k t);
    order = λ i k u y z here less there there_u is.
        let p = before k y there in
        let q = before u z there_u in
        ⊎_elim
        (λ (was : slice_get hs i ≡ Some u).
        ⊎_elim (λ (r : p.turn.released ≡ true). inl (p.released ∙ r))
        (λ (s : StandsBefore hs i k). inr (record { at = s.at; earlier = s.earlier; here = pushed_at hs s.at k s.here }))
        (old.order i k u p.turn q.turn was less p.there q.there (sym q.endpoint ∙ is ∙ p.endpoint)))
        (λ (new : (i ≡ length hs) × (u ≡ t)).
        let of_e : p.turn.endpoint ≡ e = sym p.endpoint ∙ sym is ∙ q.endpoint ∙ ap (λ (r : Turn). r.endpoint) (same_Some q.turn x (sym q.there ∙ ap v new.1 ∙ c.was)) ∙ first.endpoint in
        let told = first.earlier k p.turn (subst (λ n. k < n) new.1 less) p.there of_e in
        ⊎_elim (λ (r : p.turn.released ≡ true). inl (p.released ∙ r))
        (λ (held : p.turn.released ≡ false).
        let in_list = old.owed k p.turn a p.there (ap ends of_e ∙ f.was) goes_on told held in
        let low = within hs in_list.at k in_list.here in
        inr (record { at = in_list.at; earlier = omega (arith, low, new.0); here = pushed_at hs in_list.at k in_list.here })) (cases_Bool p.turn.released))
        (push_which hs t i u here);
  }
    where
      was_end : (k : ℕ) (z : Endpoint) → ends_now k ≡ Some z → (y : Endpoint) × (ends k ≡ Some y) × (told_end z ≡ None → told_end y ≡ None)
      was_end k z here = ⊎_elim (λ (own : (k ≡ e) × (z ≡ b)). (a, ap ends own.0 ∙ f.was, λ goes. goes_on))
          (λ (other : (k ≢ e) × (ends k ≡ Some z)). (z, other.1, λ goes. goes)) (which ends ends_now e a b k z f here)

      pushed_at : (ys : List ℕ) (n k : ℕ) → slice_get ys n ≡ Some k → slice_get (ys ++ t ∷ []) n ≡ Some k
      pushed_at [] n k here = absurd (cc)
      pushed_at (y ∷ ys) zero k here = here
      pushed_at (y ∷ ys) (suc n) k here = pushed_at ys n k here

      last_of : (k : ℕ) → k ≡ t → slice_get (hs ++ t ∷ []) (length hs) ≡ Some k
      last_of k own = at_end hs ∙ ap Some (sym own)
        where
          at_end : (ys : List ℕ) → slice_get (ys ++ t ∷ []) (length ys) ≡ Some t
          at_end [] = refl
          at_end (y ∷ ys) = at_end ys

      within : (ys : List ℕ) (n k : ℕ) → slice_get ys n ≡ Some k → n < length ys
      within [] n k here = absurd (cc)
      within (y ∷ ys) zero k here = omega arith
      within (y ∷ ys) (suc n) k here = let rest = within ys n k here in omega arith

      push_which : (ys : List ℕ) (t n k : ℕ) → slice_get (ys ++ t ∷ []) n ≡ Some k → (slice_get ys n ≡ Some k) ⊎ ((n ≡ length ys) × (k ≡ t))
      push_which [] t zero k here = inr (refl, sym (same_Some t k here))
      push_which [] t (suc n) k here = absurd (cc)
      push_which (y ∷ ys) t zero k here = inl here
      push_which (y ∷ ys) t (suc n) k here =
          ⊎_elim (λ (was : slice_get ys n ≡ Some k). inl was) (λ (new : (n ≡ length ys) × (k ≡ t)). inr (ap suc new.0, new.1)) (push_which ys t n k here)
