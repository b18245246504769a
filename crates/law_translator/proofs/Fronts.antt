-- The work of entries with stuffed bits, by fronts: of the first entries in order of arrival, what is owed, in 36ths, is at most
-- six times what the microframes so far could do, and what their starts call for beyond what is laid.
use Rattle.std.proofs.Common.{◌≡◌, ℕ, ◌+◌, ◌-◌, ◌*◌, ◌/◌, ◌<◌, ◌≤◌, min, List, [], ◌∷◌, sym, ◌∙◌, ap, inl, inr, arith, mul-add, mul-le-mul_right}
use Rattle.std.proofs.lemmas.Bool.{cases_lt}
use Rattle.usb_base.specs.declared.packets.Ask.{Ask}
use Rattle.hub_keys.specs.declared.key.Key.{Key}
use Rattle.tt_pipeline.specs.declared.entry.Brought.{Brought}
use Rattle.tt_pipeline.specs.Work.{called, called_unstuffed}
use Rattle.claims_world.specs.Plans.{Plan, laid}
use Rattle.claims_world.specs.Watched.{Watched, gap_between}
use Rattle.law_translator.proofs.Owing.{Came, unseen, partial, ended, Grew, same, more, called_partial, not_both}
use Rattle.law_translator.proofs.Sums.{due_at}

-- what is owed to an entry, in 36ths: c byte-times are called for, x 36ths more by stuffed bits, d were worked
abbrev pub weight : ℕ → ℕ → ℕ → ℕ
weight c x d = 36 * c + x - 36 * d

-- what is called for, missed parts counted as if they had come, beyond the l byte-times that are laid; at most the placed ones
abbrev pub excess : ℕ → ℕ → ℕ → ℕ → ℕ
excess a l c g = min a (c + 188 * g) - l

abbrev pub weight_of : Watched → ℕ
weight_of w = weight (called_unstuffed w.entry) (called_unstuffed w.entry * w.entry.stuff) w.entry.done

-- before microframe v
abbrev pub excess_of : Plan → ℕ → Watched → ℕ
excess_of p v w = excess (p.times w.entry.key) (laid p w.entry.key v) (called_unstuffed w.entry) w.gaps

-- of the entries before these a 36ths are owed, and b byte-times called for in excess
abbrev pub Fronts : Plan → ℕ → ℕ → ℕ → List Watched → Type 0
Fronts p v a b [] = Unit {0}
Fronts p v a b (w ∷ ws) =
    (a + weight_of w ≤ 1128 * v + 42 * (b + excess_of p v w)) × Fronts p v (a + weight_of w) (b + excess_of p v w) ws

-- ---- stuffed bits, up to one in six

pub bits_grow : (c d n : ℕ) → c ≤ d → n ≤ 6 → (c * n ≤ d * n) × (d * n + 6 * c ≤ c * n + 6 * d)
bits_grow c d n h few =
    let six : n + (6 - n) ≡ 6 = omega (arith, few) in
    let c6 : c * n + c * (6 - n) ≡ c * 6 = sym (mul-add c n (6 - n)) ∙ ap (λ (m : ℕ). c * m) six in
    let d6 : d * n + d * (6 - n) ≡ d * 6 = sym (mul-add d n (6 - n)) ∙ ap (λ (m : ℕ). d * m) six in
    let up = mul-le-mul_right (6 - n) h in
    (mul-le-mul_right n h, grow (c * n) (c * (6 - n)) (d * n) (d * (6 - n)) c d c6 d6 up)
  where
    grow : (cn cm dn dm c d : ℕ) → cn + cm ≡ c * 6 → dn + dm ≡ d * 6 → cm ≤ dm → dn + 6 * c ≤ cn + 6 * d
    grow cn cm dn dm c d h i j = omega arith

-- ---- an entry's turn in numbers

-- the calls c grow to e, their bits x to y; m byte-times are taken
pub gain : (c e x y d m b b' u : ℕ) → c ≤ e → y + 6 * c ≤ x + 6 * e → d ≤ c + x / 36 → m ≤ e + y / 36 - d → b + (e - c) ≤ b' + u
    → weight e y (d + m) + 36 * m + 42 * b ≤ weight c x d + 42 * b' + 42 * u
gain c e x y d m b b' u rises bits below taken grows = omega arith

pub paid : (a s v e y d m : ℕ) → e ≤ a → y ≤ 6 * e → (0 < e → s < v) → e + y / 36 - d ≤ m → weight e y (d + m) ≤ 6 * min a (188 * (v - s))
paid a s v e y d m fits few begun all =
    elim (cases_lt 0 e) [
      | inl some ↦ let b = begun some in some_paid a s v e y d m fits few b all
      | inr none ↦ none_paid a s v e y d m fits few none
    ]
  where
    some_paid : (a s v e y d m : ℕ) → e ≤ a → y ≤ 6 * e → s < v → e + y / 36 - d ≤ m → weight e y (d + m) ≤ 6 * min a (188 * (v - s))
    some_paid a s v e y d m fits few begun all = omega arith

    none_paid : (a s v e y d m : ℕ) → e ≤ a → y ≤ 6 * e → e ≤ 0 → weight e y (d + m) ≤ 6 * min a (188 * (v - s))
    none_paid a s v e y d m fits few none = omega arith

-- ---- what comes in one microframe

module _ (p : Plan) (k : Key) (ask : Ask) where
  pub excess_grows : (a b : Brought) (g v : ℕ) → Came p k ask a g (v - 1) → Grew p k ask a b (g + gap_between a b)
      → excess (p.times k) (laid p k (v - 1)) (called ask a) g + (called ask b - called ask a) ≤ excess (p.times k) (laid p k v) (called ask b) (g + gap_between a b) + due_at p k v
  excess_grows a b g v came (same is) =
      let e : called ask b ≡ called ask a = ap (λ (x : Brought). called ask x) is in
      stays (p.times k) (p.first k) v _ _ g (gap_between a b) e
    where
      stays : (a s v c e g h : ℕ) → e ≡ c
          → min a (c + 188 * g) - min a (188 * (v - 1 - s)) + (e - c) ≤ min a (e + 188 * (g + h)) - min a (188 * (v - s)) + (min a (188 * (v - s)) - min a (188 * (v - 1 - s)))
      stays a s v c e g h i = omega arith
  excess_grows a b g v (unseen is none ahead) (more lacked fits rises no_gap) =
      let c : called ask a ≡ 0 = ap (λ (x : Brought). called ask x) is in
      first (p.times k) (p.first k) v _ _ g (gap_between a b) c none ahead fits
    where
      first : (a s v c e g h : ℕ) → c ≡ 0 → g ≡ 0 → v - 1 ≤ s → e + 188 * (g + h) ≤ a
          → min a (c + 188 * g) - min a (188 * (v - 1 - s)) + (e - c) ≤ min a (e + 188 * (g + h)) - min a (188 * (v - s)) + (min a (188 * (v - s)) - min a (188 * (v - 1 - s)))
      first a s v c e g h i j l f = omega arith
  excess_grows a b g v (partial lacks some count bytes begun) (more lacked fits rises no_gap) =
      let c = called_partial ask a lacks in
      next (p.times k) (p.first k) v _ _ g (gap_between a b) (omega (arith, c, count)) rises fits
    where
      next : (a s v c e g h : ℕ) → c + 188 * g ≡ 188 * (v - 1 - s) → c ≤ e → e + 188 * (g + h) ≤ a
          → min a (c + 188 * g) - min a (188 * (v - 1 - s)) + (e - c) ≤ min a (e + 188 * (g + h)) - min a (188 * (v - s)) + (min a (188 * (v - s)) - min a (188 * (v - 1 - s)))
      next a s v c e g h i j f = omega arith
  excess_grows a b g v (ended whole _ _) (more lacked fits rises no_gap) = absurd (not_both a whole lacked)

  -- what is laid whole gets no more parts
  pub calls_stay : (a b : Brought) (g v : ℕ) → Came p k ask a g (v - 1) → Grew p k ask a b (g + gap_between a b)
      → p.times k ≤ laid p k (v - 1) → called ask b ≡ called ask a
  calls_stay a b g v came (same is) all = ap (λ (x : Brought). called ask x) is
  calls_stay a b g v (unseen is none ahead) (more lacked fits rises no_gap) all =
      let c : called ask a ≡ 0 = ap (λ (x : Brought). called ask x) is in
      nothing (p.times k) (p.first k) v _ _ (g + gap_between a b) c ahead fits all
    where
      nothing : (a s v c e g : ℕ) → c ≡ 0 → v - 1 ≤ s → e + 188 * g ≤ a → a ≤ min a (188 * (v - 1 - s)) → e ≡ c
      nothing a s v c e g i j f l = omega arith
  calls_stay a b g v (partial lacks some count bytes begun) (more lacked fits rises no_gap) all =
      let c = called_partial ask a lacks in
      no_more (p.times k) (p.first k) v _ _ g (gap_between a b) (omega (arith, c, count)) rises fits all
    where
      no_more : (a s v c e g h : ℕ) → c + 188 * g ≡ 188 * (v - 1 - s) → c ≤ e → e + 188 * (g + h) ≤ a → a ≤ min a (188 * (v - 1 - s))
          → e ≡ c
      no_more a s v c e g h i j f l = omega arith
  calls_stay a b g v (ended whole _ _) (more lacked fits rises no_gap) all = absurd (not_both a whole lacked)

  pub calls_begun : (b : Brought) (g v : ℕ) → Came p k ask b g v → 0 < called ask b → p.first k < v
  calls_begun b g v (unseen is none ahead) some =
      let c : called ask b ≡ 0 = ap (λ (x : Brought). called ask x) is in
      absurd (omega arith)
  calls_begun b g v (partial lacks count bytes here begun) some = begun
  calls_begun b g v (ended whole fits begun) some = begun
