-- The frames of a placement, counted: a period divides the 1,024 frames.
use Rattle.std.proofs.Common.{◌≡◌, ℕ, ◌+◌, ◌*◌, ◌/◌, ◌%◌, ◌<◌, ◌≤◌, Bool, true, false, cond, List, [], ◌∷◌, refl, sym, ◌∙◌, subst, arith, inl, inr, ◌⊎◌, lit≤, get_or, set, length, ◌≢◌, get_or-set_other, get_or-set_same}
use Rattle.std.specs.Prelude.{zero, nat_eq, nat_lt, ◌||◌, ◌&&◌}
use Rattle.std.specs.List.{list_any}
use borrow.Author.Tests.{eqb-true}
use Rattle.std.proofs.lemmas.Bool.Decides.{nat_tests}
use Rattle.std.proofs.Common.{eq-eqb}
use Rattle.std.proofs.Math.Nat.{add-mul-div_right, add-mul-mod_self_right, mod-add-div', mod-eq_of_lt, div-eq_of_lt, mul-le-mul_right, div-lt_iff_lt-mul, eq-or-lt_of_le}
use Rattle.bandwidth.specs.declared.placements.Placement.{Placement}
use Rattle.bandwidth.specs.Placements.{frame_period, is_period, periods}
use Rattle.bandwidth.specs.Sums.{is_active}

-- what holds of each period of the table holds of a period
Each : (ℕ → Type 0) → List ℕ → Type 0
Each P [] = Unit {0}
Each P (x ∷ xs) = P x × Each P xs

either_true : (a b : Bool) → (a || b) ≡ true → (a ≡ true) ⊎ (b ≡ true)
either_true true b h = inl refl
either_true false b h = inr h

each_of : (P : ℕ → Type 0) (xs : List ℕ) (n : ℕ) → Each P xs → list_any (λ p. nat_eq p n) xs ≡ true → P n
unfolding Each
each_of P [] n all h = cc
each_of P (x ∷ xs) n all h =
    elim (either_true (nat_eq x n) (list_any (λ p. nat_eq p n) xs) h)
    [ inl e ↦ subst P (eqb-true x n e) all.0 | inr e ↦ each_of P xs n all.1 e ]

pub record IsWhole (every : ℕ) : Type 0 where
  pub some : 1 ≤ every
  pub most : every ≤ 1024
  pub divides : 1024 / every * every ≡ 1024

whole : (every : ℕ) → 1 ≤ every → every ≤ 1024 → 1024 / every * every ≡ 1024 → IsWhole every
whole every s m d = record { some = s; most = m; divides = d }

pub whole_of : (period : ℕ) → is_period period ≡ true → IsWhole (frame_period period)
unfolding Each
whole_of period h =
    each_of (λ p. IsWhole (frame_period p)) periods period (
      whole 1 (lit≤ tt) (lit≤ tt) refl,
      (
        whole 1 (lit≤ tt) (lit≤ tt) refl,
        (
          whole 1 (lit≤ tt) (lit≤ tt) refl,
          (
            whole 1 (lit≤ tt) (lit≤ tt) refl,
            (
              whole 2 (lit≤ tt) (lit≤ tt) refl,
              (
                whole 4 (lit≤ tt) (lit≤ tt) refl,
                (
                  whole 8 (lit≤ tt) (lit≤ tt) refl,
                  (
                    whole 16 (lit≤ tt) (lit≤ tt) refl,
                    (
                      whole 32 (lit≤ tt) (lit≤ tt) refl,
                      (
                        whole 64 (lit≤ tt) (lit≤ tt) refl,
                        (
                          whole 128 (lit≤ tt) (lit≤ tt) refl,
                          (
                            whole 256 (lit≤ tt) (lit≤ tt) refl,
                            (
                              whole 512 (lit≤ tt) (lit≤ tt) refl,
                              (whole 1024 (lit≤ tt) (lit≤ tt) refl, tt),
                            ),
                          ),
                        ),
                      ),
                    ),
                  ),
                ),
              ),
            ),
          ),
        ),
      ),
    )
    h

pub turn_bound : (every phase k : ℕ) → IsWhole every → phase < every → k < 1024 / every → phase + k * every < 1024
turn_bound every phase k w h t =
    let le : k + 1 ≤ 1024 / every = omega arith in
    omega (arith, mul-le-mul_right every le, w.divides)

pub turn_of : (every phase k : ℕ) → phase < every → (phase + k * every) / every ≡ k
turn_of every phase k h =
    let some : zero < every = omega arith in
    add-mul-div_right phase k some ∙ omega (arith, div-eq_of_lt h)

pub phase_of : (every phase k : ℕ) → phase < every → (phase + k * every) % every ≡ phase
phase_of every phase k h = add-mul-mod_self_right phase k every ∙ mod-eq_of_lt h

pub active_of : (p : Placement) (k : ℕ) → p.phase < frame_period p.period → is_active p (p.phase + k * frame_period p.period) ≡ true
active_of p k h = eq-eqb _ _ (phase_of (frame_period p.period) p.phase k h)

pub only_turn : (p : Placement) (k f : ℕ) → is_active p f ≡ true → f / frame_period p.period ≡ k → f ≡ p.phase + k * frame_period p.period
only_turn p k f active turn =
    let phase : f % frame_period p.period ≡ p.phase = eqb-true _ _ active in
    sym (mod-add-div' f (frame_period p.period)) ∙ rw (phase, turn) refl

pub turn_in : (every f : ℕ) → IsWhole every → f < 1024 → f / every < 1024 / every
turn_in every f w h = let some : zero < every = omega arith in (div-lt_iff_lt-mul some).1 (rw w.divides h)

-- a turn more visits one frame more
pub one_more : (b : Bool) (t k f n a : ℕ) → (f ≡ n → b ≡ true) → (f ≡ n → t ≡ k) → (b ≡ true → t ≡ k → f ≡ n) → cond (b && nat_lt t (k + 1)) a 0 ≡ cond (b && nat_lt t k) a 0 + cond (nat_eq f n) a 0
one_more true t k f n a e g h = grind (arith, nat_tests, e, g, h)
one_more false t k f n a e g h = grind (arith, nat_tests, e, g, h)

pub earlier_or_now : (P : Type 0) (t k : ℕ) → t < k + 1 → (t < k → P) → (t ≡ k → P) → P
earlier_or_now P t k h before now =
    let le : t ≤ k = omega arith in elim (eq-or-lt_of_le le) [ inl e ↦ now e | inr l ↦ before l ]

pub both_left : (a b : Bool) → (a && b) ≡ true → a ≡ true
both_left true b h = refl
both_left false b h = h

pub both_right : (a b : Bool) → (a && b) ≡ true → b ≡ true
both_right true b h = h
both_right false b h = cc

pub both : (a b : Bool) → a ≡ true → b ≡ true → (a && b) ≡ true
both true b h k = k
both false b h k = h

-- a fact of each element below i, and of the one that is written at i
pub written_more : (P : ℕ → ℕ → Type 0) (xs : List ℕ) (i v : ℕ) → i < length xs → ((k : ℕ) → k < i → P k (get_or xs k 0)) → P i v → (k : ℕ) → k < i + 1 → P k (get_or (set xs i v) k 0)
written_more P xs i v h below here k t =
    earlier_or_now (P k (get_or (set xs i v) k 0)) k i t
    (λ l. let ne : k ≢ i = omega arith in rw get_or-set_other (below k l))
    (λ (e : k ≡ i). rw e (rw get_or-set_same here))

-- the three periods below a frame, and the others
pub periods_each : (P : ℕ → Type 0) → P 1 → P 2 → P 4 → ((period : ℕ) → 8 ≤ period → P period) → (period : ℕ) → is_period period ≡ true → P period
unfolding Each
periods_each P one two four long period h =
    each_of P periods period (
      one,
      (
        two,
        (
          four,
          (
            long 8 (lit≤ tt),
            (
              long 16 (lit≤ tt),
              (
                long 32 (lit≤ tt),
                (
                  long 64 (lit≤ tt),
                  (
                    long 128 (lit≤ tt),
                    (
                      long 256 (lit≤ tt),
                      (
                        long 512 (lit≤ tt),
                        (
                          long 1024 (lit≤ tt),
                          (long 2048 (lit≤ tt), (long 4096 (lit≤ tt), (long 8192 (lit≤ tt), tt))),
                        ),
                      ),
                    ),
                  ),
                ),
              ),
            ),
          ),
        ),
      ),
    )
    h
