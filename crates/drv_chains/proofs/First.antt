-- A queue head's phase is its first frame, in the order of frames.
use Rattle.std.proofs.Common.{◌≡◌, ℕ, zero, suc, ◌+◌, ◌*◌, ◌/◌, ◌%◌, ◌^◌, ◌<◌, ◌≤◌, true, List, [], ◌∷◌, nat_eq, ◌⊎◌, inl, inr, refl, ap, sym, ◌∙◌, subst, arith}
use Rattle.std.specs.List.{AllByRecursion, list_any}
use Rattle.std.proofs.lemmas.Bool.{eqb-true, or_cases, false≢true}
use Rattle.std.proofs.lemmas.Nat.{mod-pow-add, shr-shr, pow_pos, mod_below, shr_split}
use Rattle.std.proofs.Math.Nat.{mod-mod, zero-mod, div-eq_of_lt}
use Rattle.drv_chains.specs.declared.members.QueueHead.{QueueHead}
use Rattle.drv_chains.specs.Order.{ComesFirst}
use Rattle.drv_chains.specs.Chains.{periods, is_period, frame_period, is_active}
use Rattle.drv_chains.proofs.Bits.{same_doubled, bit_doubled}

-- the lowest bit of a number that is 1
record LowestBit (j : ℕ) : Type 0 where
  at : ℕ
  zeros : j % 2 ^ at ≡ 0
  one : j / 2 ^ at % 2 ≡ 1

odd_bit : (j : ℕ) → j % 2 ≡ 1 → LowestBit j
odd_bit j e = record { at = 0; zeros = omega arith; one = omega (arith, e) }

zero_mod : (b : ℕ) → 0 % 2 ^ b ≡ 0
zero_mod b = zero-mod (2 ^ b)

even_bit : (j : ℕ) → j % 2 ≡ 0 → LowestBit (j / 2) → LowestBit j
even_bit j e l = record {
  at = l.at + 1;
  zeros = same_doubled j 0 (j / 2) 0 l.at refl refl e (l.zeros ∙ sym (zero_mod l.at)) ∙ zero_mod (l.at + 1);
  one = bit_doubled j (j / 2) l.at 1 refl l.one;
}

parity : (j : ℕ) → (j % 2 ≡ 0) ⊎ (j % 2 ≡ 1)
parity j = grind arith

half_within : (n j : ℕ) → 0 < j → j ≤ suc n → j % 2 ≡ 0 → (0 < j / 2) × (j / 2 ≤ n)
half_within n j p h e = (omega (arith, p, e), omega (arith, p, h))

none : (j : ℕ) → 0 < j → j ≤ 0 → ⊥
none j p h = omega (arith, p, h)

bit_within : (n j : ℕ) → 0 < j → j ≤ n → LowestBit j
bit_within zero j p h = absurd (none j p h)
bit_within (suc n) j p h = elim (parity j) [
  | inl e ↦ let k = half_within n j p h e in even_bit j e (bit_within n (j / 2) k.0 k.1)
  | inr e ↦ odd_bit j e
]

lowest_bit : (j : ℕ) → 0 < j → LowestBit j
lowest_bit j p = let h : j ≤ j = omega arith in bit_within j j p h

rid : (m r : ℕ) → 0 * m + r ≡ r
rid m r = omega arith

nothing : (n m : ℕ) → n < m → n / m ≡ 0
nothing n m h = div-eq_of_lt h

no_bit : (k : ℕ) → 0 / 2 ^ k % 2 ≡ 0
no_bit k = ap (λ x. x % 2) (nothing 0 (2 ^ k) (pow_pos k))

rest_alone : (f l : ℕ) → f / 2 ^ l ≡ 0 → f % 2 ^ l ≡ f
rest_alone f l e = let s : f / 2 ^ l * 2 ^ l + f % 2 ^ l ≡ f = shr_split f l in sym (rid (2 ^ l) (f % 2 ^ l)) ∙ ap (λ x. x * 2 ^ l + f % 2 ^ l) (sym e) ∙ s

low_part : (f l k : ℕ) → f / 2 ^ l % 2 ^ k ≡ 0 → f % 2 ^ (k + l) ≡ f % 2 ^ l
low_part f l k e = mod-pow-add f k l ∙ ap (λ x. x * 2 ^ l + f % 2 ^ l) e ∙ rid (2 ^ l) (f % 2 ^ l)

-- a remainder keeps itself, and has no bit above
high_part : (f l k : ℕ) → (f % 2 ^ l) / 2 ^ (k + l) % 2 ≡ 0
high_part f l k = let b : (f % 2 ^ l) / 2 ^ l ≡ 0 = nothing (f % 2 ^ l) (2 ^ l) (mod_below f (2 ^ l) (pow_pos l)) in
    let c : l + k ≡ k + l = omega arith in
    ap (λ x. (f % 2 ^ l) / 2 ^ x % 2) (sym c) ∙ ap (λ x. x % 2) (sym (shr-shr (f % 2 ^ l) l k)) ∙ ap (λ x. x / 2 ^ k % 2) b ∙ no_bit k

phase_first : (f l : ℕ) → 0 < f / 2 ^ l → ComesFirst (f % 2 ^ l) f
phase_first f l p =
    let b = lowest_bit (f / 2 ^ l) p in
    let c : l + b.at ≡ b.at + l = omega arith in
    let z : (f % 2 ^ l) / 2 ^ l ≡ 0 = nothing (f % 2 ^ l) (2 ^ l) (mod_below f (2 ^ l) (pow_pos l)) in
    record {
      bit = b.at + l;
      same_below = low_part (f % 2 ^ l) l b.at (ap (λ x. x % 2 ^ b.at) z ∙ zero_mod b.at) ∙ mod-mod f (2 ^ l) ∙ sym (low_part f l b.at b.zeros);
      zero_here = high_part f l b.at;
      one_there = ap (λ x. f / 2 ^ x % 2) (sym c) ∙ ap (λ x. x % 2) (sym (shr-shr f l b.at)) ∙ b.one;
    }

whole_or_more : (n : ℕ) → (n ≡ 0) ⊎ (0 < n)
whole_or_more n = grind arith

first_or_later : (f l : ℕ) → (f % 2 ^ l ≡ f) ⊎ ComesFirst (f % 2 ^ l) f
first_or_later f l = elim (whole_or_more (f / 2 ^ l)) [
  | inl e ↦ inl (rest_alone f l e)
  | inr p ↦ inr (phase_first f l p)
]

-- the frames of a period are a power of two
abbrev IsPower : ℕ → Type 0
IsPower p = (l : ℕ) × (frame_period p ≡ 2 ^ l)

powers : AllByRecursion IsPower periods
powers = ((10, refl), ((9, refl), ((8, refl), ((7, refl), ((6, refl), ((5, refl), ((4, refl), ((3, refl), ((2, refl), ((1, refl), ((0, refl), ((0, refl), ((0, refl), ((0, refl), tt))))))))))))))

power_in : (p : ℕ) (ps : List ℕ) → AllByRecursion IsPower ps → list_any (λ x. nat_eq p x) ps ≡ true → IsPower p
power_in p [] k h = absurd (false≢true h)
power_in p (x ∷ ps) k h = elim (or_cases (nat_eq p x) (list_any (λ x. nat_eq p x) ps) h) [
  | inl e ↦ subst IsPower (sym (eqb-true p x e)) k.0
  | inr e ↦ power_in p ps k.1 e
]

pub queue_first : (q : QueueHead) (f : ℕ) → is_period q.period ≡ true → is_active f q ≡ true → (q.phase ≡ f) ⊎ ComesFirst q.phase f
queue_first q f p h =
    let k = power_in q.period periods powers p in
    let e : q.phase ≡ f % 2 ^ k.0 = eqb-true q.phase (f % frame_period q.period) h ∙ ap (λ x. f % x) k.1 in
    subst (λ x. (x ≡ f) ⊎ ComesFirst x f) (sym e) (first_or_later f k.0)
