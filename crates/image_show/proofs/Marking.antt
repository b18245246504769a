-- The marks of lists and of queues, while a list is gone through.
use Rattle.std.proofs.Common.{◌≡◌, ℕ, zero, suc, ◌+◌, ◌/◌, ◌%◌, ◌≤◌, ◌<◌, Bool, true, false, ◌&&◌, ◌||◌, eqb, ltb, List, [], ◌++◌, length, replicate, set, get_or, inl, inr, refl, sym, ap, subst, ◌∙◌, arith}
use Rattle.std.specs.Prelude.{◌⊎◌}
use Rattle.std.proofs.lemmas.Bool.{and_from, and_left, and_parts, and_right, cases_eq, cases_lt, cases_order, eq-eqb, lt-ltb, le-ltb, ltb-true, ne_eqb, or_right, true≢false}
use Rattle.std.proofs.lemmas.List.{get_or-set_other, get_or-set_same, length-replicate, length-set}
use Rattle.std.proofs.lemmas.List.Folds.{list_any-append}
use Rattle.image_show.specs.Linked.{is_in}
use Rattle.image_show.specs.Marks.{is_marked, is_marked_before, is_shown, AreMarks, IsFresh}
use Rattle.image_show.proofs.Listing.{or-false, not_marked, one_unit}

-- The marks while the list `number` is gone through.
pub record InList (lists queues : List ℕ) (number : ℕ) (seen : List ℕ) : Type 0 where
  pub below : (u : ℕ) → get_or lists u 0 ≤ number
  pub earlier : (a : ℕ) → a % 32 ≡ 0 → is_marked_before lists number a ≡ is_in a seen
  pub owned : (u : ℕ) → u < length queues → (get_or queues u 0 ≡ 1) ⊎ (is_shown lists (get_or queues u 0) ≡ true)

pub in_list-first : (lists queues : List ℕ) (number : ℕ) (seen : List ℕ) → AreMarks lists queues number seen → InList lists queues number seen
in_list-first lists queues number seen m = record {
  below = λ u. let h = m.below u in omega arith;
  earlier = m.earlier;
  owned = m.owned;
}

pub fresh-first : (lists queues : List ℕ) (number : ℕ) (seen : List ℕ) → AreMarks lists queues number seen → IsFresh lists number
fresh-first lists queues number seen m = λ u h e. let below = m.below u in absurd (omega arith)

-- ---- one mark

before-set_other : (marks : List ℕ) (u value number b : ℕ) → (b / 32 ≡ u → ⊥) → is_marked_before (set marks u value) number b ≡ is_marked_before marks number b
before-set_other marks u value number b differ =
    ap (λ (n : ℕ). (ltb (b / 32) n && ltb 0 (get_or (set marks u value) (b / 32) 0)) && ltb (get_or (set marks u value) (b / 32) 0) number) (length-set marks u value)
    ∙ ap (λ (m : ℕ). (ltb (b / 32) (length marks) && ltb 0 m) && ltb m number) (get_or-set_other marks u (b / 32) value 0 differ)

-- the list's own mark is of no list before it
before-set_same : (marks : List ℕ) (number a : ℕ) → a / 32 < length marks → is_marked_before (set marks (a / 32) number) number a ≡ false
before-set_same marks number a h =
    let own : ltb (get_or (set marks (a / 32) number) (a / 32) 0) number ≡ false =
    ap (λ (m : ℕ). ltb m number) (get_or-set_same marks (a / 32) number 0 h) ∙ le-ltb number number (omega arith) in
    and_right _ _ own

shown-set_other : (marks : List ℕ) (u value b : ℕ) → (b / 32 ≡ u → ⊥) → is_shown (set marks u value) b ≡ is_shown marks b
shown-set_other marks u value b differ =
    ap (λ (n : ℕ). ltb (b / 32) n && ltb 0 (get_or (set marks u value) (b / 32) 0)) (length-set marks u value)
    ∙ ap (λ (m : ℕ). ltb (b / 32) (length marks) && ltb 0 m) (get_or-set_other marks u (b / 32) value 0 differ)

shown-set_same : (marks : List ℕ) (number u b : ℕ) → 0 < number → u < length marks → b / 32 ≡ u → is_shown (set marks u number) b ≡ true
shown-set_same marks number u b some h e =
    let long : b / 32 < length (set marks u number) = omega (arith, length-set marks u number) in
    let mark : get_or (set marks u number) (b / 32) 0 ≡ number = ap (λ (i : ℕ). get_or (set marks u number) i 0) e ∙ get_or-set_same marks u number 0 h in
    and_from _ _ (lt-ltb _ _ long) (ap (ltb 0) mark ∙ lt-ltb 0 number some)

-- what was shown stays shown
shown-set : (marks : List ℕ) (number u b : ℕ) → 0 < number → u < length marks → is_shown marks b ≡ true → is_shown (set marks u number) b ≡ true
shown-set marks number u b some h shown = elim (cases_eq (b / 32) u) [
  | inl e ↦ shown-set_same marks number u b some h e
  | inr differ ↦ shown-set_other marks u number b differ ∙ shown
]

-- a unit with neither mark was shown by no list
not_shown : (lists : List ℕ) (number a : ℕ) → a / 32 < length lists → get_or lists (a / 32) 0 ≤ number → is_marked lists number a ≡ false
    → is_marked_before lists number a ≡ false → is_shown lists a ≡ true → ⊥
not_shown lists number a h below here earlier shown =
    let parts = and_parts (ltb (a / 32) (length lists)) (ltb 0 (get_or lists (a / 32) 0)) shown in
    let some : 0 < get_or lists (a / 32) 0 = ltb-true 0 (get_or lists (a / 32) 0) parts.1 in
    let differ = not_marked lists number a h here in
    let less : ltb (get_or lists (a / 32) 0) number ≡ true = lt-ltb _ _ (omega arith) in
    true≢false (sym (and_from _ _ shown less) ∙ earlier)

-- ---- the next structure

-- no queue has the mark of a queue head that was not shown
pub fresh_owner : (lists queues : List ℕ) (number : ℕ) (seen : List ℕ) (a : ℕ) → InList lists queues number seen → a % 32 ≡ 0 → a / 32 < length lists
    → is_marked lists number a ≡ false → is_marked_before lists number a ≡ false → IsFresh queues a
fresh_owner lists queues number seen a m whole h here earlier = λ u inside e. elim (m.owned u inside) [
  | inl one ↦ let same : a ≡ 1 = sym e ∙ one in absurd (omega arith)
  | inr shown ↦ not_shown lists number a h (m.below (a / 32)) here earlier (subst (λ (x : ℕ). is_shown lists x ≡ true) e shown)
]

pub in_list-more : (lists queues queues' : List ℕ) (number : ℕ) (seen : List ℕ) (a : ℕ) → InList lists queues number seen → a % 32 ≡ 0 → a / 32 < length lists → 0 < number
    → is_marked_before lists number a ≡ false → length queues' ≡ length queues
    → ((u : ℕ) → (get_or queues' u 0 ≡ a) ⊎ (get_or queues' u 0 ≡ get_or queues u 0))
    → InList (set lists (a / 32) number) queues' number seen
in_list-more lists queues queues' number seen a m whole h some earlier long marks = record {
  below = λ u. elim (cases_eq u (a / 32)) [
    | inl e ↦
        let mark : get_or (set lists (a / 32) number) u 0 ≡ number = ap (λ (i : ℕ). get_or (set lists (a / 32) number) i 0) e ∙ get_or-set_same lists (a / 32) number 0 h in
        omega arith
    | inr differ ↦ let other = get_or-set_other lists (a / 32) u number 0 differ in let below = m.below u in omega arith
  ];
  earlier = λ b hb. elim (cases_eq b a) [
    | inl e ↦
        let none : is_marked_before (set lists (a / 32) number) number b ≡ false =
        ap (is_marked_before (set lists (a / 32) number) number) e ∙ before-set_same lists number a h in
        none ∙ sym (ap (is_marked_before lists number) e ∙ earlier) ∙ m.earlier b hb
    | inr differ ↦ before-set_other lists (a / 32) number number b (λ e. differ (one_unit b a hb whole e)) ∙ m.earlier b hb
  ];
  owned = λ u inside. elim (marks u) [
    | inl e ↦ inr (ap (is_shown (set lists (a / 32) number)) e ∙ shown-set_same lists number (a / 32) a some h refl)
    | inr e ↦ elim (m.owned u (omega arith)) [
      | inl one ↦ inl (e ∙ one)
      | inr shown ↦ inr (ap (is_shown (set lists (a / 32) number)) e ∙ shown-set lists number (a / 32) (get_or queues u 0) some h shown)
    ]
  ];
}

-- ---- the next list

-- a mark up to a number is before the next one
before_next : (m number : ℕ) → 0 < number → m ≤ number → (ltb 0 m && ltb m (number + 1)) ≡ ((ltb 0 m && ltb m number) || eqb m number)
before_next m number some below = elim (cases_order m number) [
  | inl same ↦
      let zero_less : ltb 0 m ≡ true = lt-ltb _ _ (omega arith) in
      let less : ltb m (number + 1) ≡ true = lt-ltb _ _ (omega arith) in
      and_from _ _ zero_less less ∙ sym (or_right _ _ (eq-eqb _ _ same))
  | inr differ ↦ elim differ [
    | inl less ↦
        let next : ltb m (number + 1) ≡ true = lt-ltb _ _ (omega arith) in
        let now : ltb m number ≡ true = lt-ltb _ _ less in
        let other : eqb m number ≡ false = ne_eqb _ _ (λ e. absurd (omega arith)) in
        ap (λ (x : Bool). ltb 0 m && x) (next ∙ sym now) ∙ sym (ap (λ (x : Bool). (ltb 0 m && ltb m number) || x) other ∙ or-false _)
    | inr more ↦ absurd (omega arith)
  ]
]

next_either : (lists : List ℕ) (number a : ℕ) → 0 < number → get_or lists (a / 32) 0 ≤ number
    → is_marked_before lists (number + 1) a ≡ (is_marked_before lists number a || is_marked lists number a)
next_either lists number a some below = elim (cases_lt (a / 32) (length lists)) [
  | inl h ↦
      let inside = lt-ltb _ _ h in
      let m = get_or lists (a / 32) 0 in
      ap (λ (x : Bool). (x && ltb 0 m) && ltb m (number + 1)) inside ∙ before_next m number some below
      ∙ sym (ap (λ (x : Bool). ((x && ltb 0 m) && ltb m number) || (x && eqb m number)) inside)
  | inr h ↦
      let outside = le-ltb _ _ h in
      let m = get_or lists (a / 32) 0 in
      ap (λ (x : Bool). (x && ltb 0 m) && ltb m (number + 1)) outside
      ∙ sym (ap (λ (x : Bool). ((x && ltb 0 m) && ltb m number) || (x && eqb m number)) outside)
]

pub are_marks-next : (lists queues : List ℕ) (number : ℕ) (seen passed : List ℕ) → InList lists queues number seen → 0 < number
    → ((a : ℕ) → a % 32 ≡ 0 → is_marked lists number a ≡ is_in a passed)
    → AreMarks lists queues (number + 1) (seen ++ passed)
are_marks-next lists queues number seen passed m some here = record {
  below = λ u. let below = m.below u in omega arith;
  earlier = λ a h.
      next_either lists number a some (m.below (a / 32))
      ∙ ap (λ (x : Bool). x || is_marked lists number a) (m.earlier a h)
      ∙ ap (λ (x : Bool). is_in a seen || x) (here a h)
      ∙ sym (list_any-append (λ x. eqb x a) seen passed);
  owned = m.owned;
}

-- ---- the start

pub zeros : (n u : ℕ) → ◌≡◌ {A = ℕ} (get_or (replicate n 0) u 0) 0
zeros zero u = refl
zeros (suc n) zero = refl
zeros (suc n) (suc u) = zeros n u

ones : (n u : ℕ) → u < n → ◌≡◌ {A = ℕ} (get_or (replicate n 1) u 0) 1
ones zero u h = absurd (omega arith)
ones (suc n) zero h = refl
ones (suc n) (suc u) h = ones n u (omega arith)

-- no list has marked anything, and no queue
pub are_marks-start : (n : ℕ) → AreMarks (replicate n 0) (replicate n 1) 1 []
are_marks-start n = record {
  below = λ u. let e = zeros n u in omega arith;
  earlier = λ a h.
      let none : ltb 0 (get_or (replicate n 0) (a / 32) 0) ≡ false = ap (ltb 0) (zeros n (a / 32)) in
      and_left _ _ (and_right _ _ none);
  owned = λ u h. inl (ones n u (omega (arith, length-replicate {A = ℕ} n 1)));
}
