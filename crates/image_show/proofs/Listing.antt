-- A list of structures that is gone through with marks: how far it is, and what is left of its text.
use Rattle.std.proofs.Common.{◌≡◌, ℕ, zero, suc, ◌+◌, ◌/◌, ◌%◌, ◌≤◌, ◌<◌, Bool, true, false, cond, ◌&&◌, ◌||◌, eqb, ltb, List, [], ◌∷◌, ◌++◌, length, set, get_or, Option, Some, None, Result, inl, inr, refl, sym, ap, subst, ◌∙◌, append_assoc, append-nil, arith}
use Rattle.std.specs.Prelude.{is_some, sum_by, OnOk, OnErr, ◌⊎◌}
use Rattle.std.specs.List.{flat_map}
use Rattle.std.proofs.lemmas.Bool.{cases_eq, cases_lt, cases_Bool, eqb-false, eq-eqb, ne_eqb, lt-ltb, le-ltb}
use Rattle.std.proofs.lemmas.Grind.{flat_map-append}
use Rattle.std.proofs.lemmas.List.{map_push, get_or-set_same, get_or-set_other, length-set}
use Rattle.std.proofs.lemmas.List.Folds.{list_any-append}
use Rattle.std.proofs.lemmas.List.Sums.{sum_by-cons, sum_by-set}
use Rattle.image_show.specs.declared.ending.Ending.{Ending}
use Rattle.image_show.specs.Linked.{Linked, count, ending_at, ending_line, ending_lines, first_below, first_from, is_in, item_at, items, link_at, list_text, passed}
use Rattle.image_show.specs.Marks.{is_marked, IsFresh}
use Rattle.image_codec.specs.Printing.{Passes}
use Rattle.usb_base.specs.Outside.{AppendsPrefix}
use Rattle.image_codec.proofs.Passing.{passes_all, passes_join, passes_none, passes_same, prefix_same, prefix_within}
use Rattle.std.proofs.lemmas.Result.{on_ok_weaker, on_err_weaker}

-- ---- the first number of which a test holds

first_from-at : (test : ℕ → Bool) (k n j : ℕ) → ((i : ℕ) → k ≤ i → i < j → test i ≡ false) → k ≤ j → j ≤ k + n → test j ≡ true → first_from test k n ≡ j
first_from-at test k zero j before low high here = omega arith
first_from-at test k (suc n) j before low high here = elim (cases_eq k j) [
  | inl e ↦ rw (subst (λ (i : ℕ). test i ≡ true) (sym e) here) e
  | inr differ ↦
      let less : k < j = omega arith in
      rw (before k (omega arith) less) (first_from-at test (suc k) n j (λ i l h. before i (omega arith) h) less (omega arith) here)
]

first_from-more : (test : ℕ → Bool) (k n j : ℕ) → j < k → j < first_from test k n
first_from-more test k zero j h = h
first_from-more test k (suc n) j h = elim (cases_Bool (test k)) [
  | inl e ↦ rw e h
  | inr e ↦ rw e (first_from-more test (suc k) n j (omega arith))
]

first_from-above : (test : ℕ → Bool) (k n j : ℕ) → ((i : ℕ) → k ≤ i → i ≤ j → test i ≡ false) → k ≤ j → j < k + n → j < first_from test k n
first_from-above test k zero j before low high = absurd (omega arith)
first_from-above test k (suc n) j before low high = elim (cases_eq k j) [
  | inl e ↦
      let none : test k ≡ false = before k (omega arith) low in
      rw none (first_from-more test (suc k) n j (omega arith))
  | inr differ ↦
      let none : test k ≡ false = before k (omega arith) low in
      rw none (first_from-above test (suc k) n j (λ i l h. before i (omega arith) h) (omega arith) (omega arith))
]

pub first_below-at : (test : ℕ → Bool) (n j : ℕ) → ((i : ℕ) → i < j → test i ≡ false) → j ≤ n → test j ≡ true → first_below test n ≡ j
unfolding first_below
first_below-at test n j before high here = first_from-at test 0 n j (λ i l h. before i h) (omega arith) (omega arith) here

first_below-above : (test : ℕ → Bool) (n j : ℕ) → ((i : ℕ) → i ≤ j → test i ≡ false) → j < n → j < first_below test n
unfolding first_below
first_below-above test n j before high = first_from-above test 0 n j (λ i l h. before i h) (omega arith) (omega arith)

-- ---- items

-- the first n items begin with the first k and the item after them
items-front : {A : Type 0} (next : A → A) (first : A) (k n : ℕ) → k < n → (rest : List A) × (items next first n ≡ items next first k ++ (item_at next first k ∷ rest))
items-front next first k zero h = absurd (omega arith)
items-front next first k (suc n) h = elim (cases_eq k n) [
  | inl e ↦ ([], subst (λ (m : ℕ). items next first (suc m) ≡ items next first k ++ (item_at next first k ∷ [])) e refl)
  | inr differ ↦
      let front = items-front next first k n (omega arith) in
      let last = item_at next first n ∷ [] in
      (front.0 ++ last, ap (λ (t : List _). t ++ last) front.1 ∙ append_assoc (items next first k) (item_at next first k ∷ front.0) last)
]

-- ---- marks

-- 1 for a unit without the mark
abbrev weight : ℕ → ℕ → ℕ
weight number m = cond (eqb m number) 0 1

-- how many units don't have the mark
abbrev pub unmarked : ℕ → List ℕ → ℕ
unmarked number marks = sum_by (weight number) marks

weight-other : (number m : ℕ) → (m ≡ number → ⊥) → weight number m ≡ 1
weight-other number m differ = rw (ne_eqb m number differ) refl

weight-same : (number : ℕ) → weight number number ≡ 0
weight-same number = rw (eq-eqb number number refl) refl

unmarked-fresh : (number : ℕ) (marks : List ℕ) → IsFresh marks number → unmarked number marks ≡ length marks
unmarked-fresh number [] fresh = refl
unmarked-fresh number (m ∷ marks) fresh =
    let rest = unmarked-fresh number marks (λ u h e. fresh (suc u) (omega arith) e) in
    let first = weight-other number m (fresh 0 (omega arith)) in
    omega (arith, rest, first, sum_by-cons (weight number) m marks)

-- a unit without the mark is counted, and not any more once it is marked
unmarked-set : (number : ℕ) (marks : List ℕ) (u : ℕ) → u < length marks → (get_or marks u 0 ≡ number → ⊥)
    → unmarked number (set marks u number) + 1 ≡ unmarked number marks
unmarked-set number marks u h differ =
    let change = sum_by-set (weight number) marks u number 0 h in
    let before = weight-other number (get_or marks u 0) differ in
    let after = weight-same number in
    omega (arith, change, before, after)

-- a unit without the mark is one of those that are counted
unmarked-positive : (number : ℕ) (marks : List ℕ) (u : ℕ) → u < length marks → (get_or marks u 0 ≡ number → ⊥) → 0 < unmarked number marks
unmarked-positive number marks u h differ = let change = unmarked-set number marks u h differ in omega arith

-- the mark of an address, where its unit is within memory
pub is_marked-within : (marks : List ℕ) (number a : ℕ) → a / 32 < length marks → is_marked marks number a ≡ eqb (get_or marks (a / 32) 0) number
is_marked-within marks number a h = rw (lt-ltb _ _ h) refl

pub is_marked-outside : (marks : List ℕ) (number a : ℕ) → length marks ≤ a / 32 → is_marked marks number a ≡ false
is_marked-outside marks number a h = rw (le-ltb _ _ h) refl

pub not_marked : (marks : List ℕ) (number a : ℕ) → a / 32 < length marks → is_marked marks number a ≡ false → get_or marks (a / 32) 0 ≡ number → ⊥
not_marked marks number a h none = eqb-false _ _ (sym (is_marked-within marks number a h) ∙ none)

pub is_marked-fresh : (marks : List ℕ) (number a : ℕ) → IsFresh marks number → is_marked marks number a ≡ false
is_marked-fresh marks number a fresh = elim (cases_lt (a / 32) (length marks)) [
  | inl h ↦ is_marked-within marks number a h ∙ ne_eqb _ _ (fresh (a / 32) h)
  | inr h ↦ is_marked-outside marks number a h
]

-- two addresses in one unit are one
pub one_unit : (a b : ℕ) → a % 32 ≡ 0 → b % 32 ≡ 0 → a / 32 ≡ b / 32 → a ≡ b
one_unit a b ha hb e = omega arith

pub or-false : (x : Bool) → (x || false) ≡ x
or-false true = refl
or-false false = refl

or-true : (x : Bool) → (x || true) ≡ true
or-true true = refl
or-true false = refl

-- the new mark
is_marked-set_same : (marks : List ℕ) (number a : ℕ) → a / 32 < length marks → is_marked (set marks (a / 32) number) number a ≡ true
is_marked-set_same marks number a h =
    let long : a / 32 < length (set marks (a / 32) number) = omega (arith, length-set marks (a / 32) number) in
    is_marked-within (set marks (a / 32) number) number a long ∙ eq-eqb _ _ (get_or-set_same marks (a / 32) number 0 h)

-- the other marks
is_marked-set_other : (marks : List ℕ) (u value number b : ℕ) → (b / 32 ≡ u → ⊥) → is_marked (set marks u value) number b ≡ is_marked marks number b
is_marked-set_other marks u value number b differ =
    ap (λ (n : ℕ). ltb (b / 32) n && eqb (get_or (set marks u value) (b / 32) 0) number) (length-set marks u value)
    ∙ ap (λ (m : ℕ). ltb (b / 32) (length marks) && eqb m number) (get_or-set_other marks u (b / 32) value 0 differ)

-- a mark more
is_marked-set : (marks : List ℕ) (number a b : ℕ) → a % 32 ≡ 0 → b % 32 ≡ 0 → a / 32 < length marks
    → is_marked (set marks (a / 32) number) number b ≡ (is_marked marks number b || eqb a b)
is_marked-set marks number a b ha hb h = elim (cases_eq a b) [
  | inl e ↦
      let same : is_marked (set marks (a / 32) number) number b ≡ true = subst (λ (x : ℕ). is_marked (set marks (a / 32) number) number x ≡ true) e (is_marked-set_same marks number a h) in
      same ∙ sym (ap (λ (x : Bool). is_marked marks number b || x) (eq-eqb a b e) ∙ or-true (is_marked marks number b))
  | inr differ ↦
      is_marked-set_other marks (a / 32) number number b (λ e. differ (one_unit a b ha hb (sym e)))
      ∙ sym (ap (λ (x : Bool). is_marked marks number b || x) (ne_eqb a b differ) ∙ or-false (is_marked marks number b))
]

-- each unit has the mark or the one that it had before
pub either_mark : (marks before : List ℕ) (i number : ℕ) → i < length marks
    → ((u : ℕ) → (get_or marks u 0 ≡ number) ⊎ (get_or marks u 0 ≡ get_or before u 0))
    → (u : ℕ) → (get_or (set marks i number) u 0 ≡ number) ⊎ (get_or (set marks i number) u 0 ≡ get_or before u 0)
either_mark marks before i number h marks_are u = elim (cases_eq u i) [
  | inl e ↦ inl (subst (λ (j : ℕ). get_or (set marks i number) j 0 ≡ number) (sym e) (get_or-set_same marks i number 0 h))
  | inr differ ↦
      let other = get_or-set_other marks i u number 0 differ in
      elim (marks_are u) [
        | inl e ↦ inl (other ∙ e)
        | inr e ↦ inr (other ∙ e)
      ]
]

-- ---- how far a list is

module _ {A : Type 0} (l : Linked A) (first : A) where
  -- The first k structures of the list are shown and marked, and the list is at the link after them.
  pub record Progress (number : ℕ) (marks : List ℕ) (k : ℕ) (link : A) (shown : List ℕ) : Type 0 where
    pub at : link_at l first k ≡ link
    pub text : flat_map l.text (items l.next first k) ≡ shown
    pub none : (j : ℕ) → j < k → is_some (ending_at l first j) ≡ false
    pub marked : (a : ℕ) → a % 32 ≡ 0 → is_marked marks number a ≡ is_in a (passed l first k)
    pub room : k + unmarked number marks ≡ l.most

  -- nothing is shown yet
  pub progress-none : (number : ℕ) (marks : List ℕ) → IsFresh marks number → length marks ≡ l.most → Progress number marks 0 first []
  progress-none number marks fresh whole = record {
    at = refl;
    text = refl;
    none = λ j h. absurd (omega arith);
    marked = λ a h. is_marked-fresh marks number a fresh;
    room = omega (arith, unmarked-fresh number marks fresh);
  }

  -- why the list ends at its link, by the marks
  pub ending_here : (number : ℕ) (marks : List ℕ) (k : ℕ) (link : A) (shown : List ℕ) → Progress number marks k link shown → l.address link % 32 ≡ 0
      → ending_at l first k ≡ l.ending (ltb 0 k) (is_marked marks number (l.address link)) link
  unfolding ending_at
  ending_here number marks k link shown p whole =
      ap (λ (x : A). l.ending (ltb 0 k) (is_in (l.address x) (passed l first k)) x) p.at
      ∙ ap (λ (here : Bool). l.ending (ltb 0 k) here link) (sym (p.marked (l.address link) whole))

  -- one structure more is shown
  pub progress-more : (number : ℕ) (marks : List ℕ) (k : ℕ) (link : A) (shown : List ℕ) → Progress number marks k link shown → l.address link % 32 ≡ 0
      → l.address link / 32 < length marks → is_marked marks number (l.address link) ≡ false
      → l.ending (ltb 0 k) (is_marked marks number (l.address link)) link ≡ None
      → Progress number (set marks (l.address link / 32) number) (suc k) (l.next link) (shown ++ l.text link)
  progress-more number marks k link shown p whole inside fresh goes =
      let a = l.address link in
      let open_unit = not_marked marks number a inside fresh in
      let not_ended : is_some (ending_at l first k) ≡ false = ap is_some (ending_here number marks k link shown p whole ∙ goes) in
      record {
        at = ap l.next p.at;
        text = flat_map-append l.text (items l.next first k) (link_at l first k ∷ [])
            ∙ ap (λ (t : List ℕ). t ++ (l.text (link_at l first k) ++ [])) p.text
            ∙ ap (λ (x : A). shown ++ (l.text x ++ [])) p.at ∙ ap (λ (t : List ℕ). shown ++ t) (append-nil (l.text link));
        none = λ j h. elim (cases_eq j k) [
          | inl e ↦ subst (λ (i : ℕ). is_some (ending_at l first i) ≡ false) (sym e) not_ended
          | inr differ ↦ p.none j (omega arith)
        ];
        marked = λ b hb.
            let more : passed l first (suc k) ≡ passed l first k ++ a ∷ [] =
            map_push l.address (items l.next first k) (link_at l first k) ∙ ap (λ (x : A). passed l first k ++ l.address x ∷ []) p.at in
            let either : is_in b (passed l first k ++ a ∷ []) ≡ (is_in b (passed l first k) || eqb a b) =
            list_any-append (λ x. eqb x b) (passed l first k) (a ∷ []) ∙ ap (λ (x : Bool). is_in b (passed l first k) || x) (or-false (eqb a b)) in
            is_marked-set marks number a b whole hb inside
            ∙ ap (λ (x : Bool). x || eqb a b) (p.marked b hb) ∙ sym (ap (is_in b) more ∙ either);
        room = omega (arith, p.room, unmarked-set number marks (a / 32) inside open_unit);
      }

  -- the list ends here: how many structures it has, and its whole text
  pub ends_here : (number : ℕ) (marks : List ℕ) (k : ℕ) (link : A) (shown : List ℕ) (e : Ending) → Progress number marks k link shown → l.address link % 32 ≡ 0
      → l.ending (ltb 0 k) (is_marked marks number (l.address link)) link ≡ Some e
      → (count l first ≡ k) × (list_text l first ≡ shown ++ ending_line l.indent e)
  unfolding count list_text
  ends_here number marks k link shown e p whole ends =
      let here = ending_here number marks k link shown p whole ∙ ends in
      let last : is_some (ending_at l first k) ≡ true = ap is_some here in
      let counted : count l first ≡ k = first_below-at (λ j. is_some (ending_at l first j)) l.most k p.none (omega (arith, p.room)) last in (
        counted,
        ap (λ (n : ℕ). flat_map l.text (items l.next first n) ++ ending_lines l.indent (ending_at l first n)) counted
            ∙ ap (λ (t : List ℕ). t ++ ending_lines l.indent (ending_at l first k)) p.text
            ∙ ap (λ (o : Option Ending). shown ++ ending_lines l.indent o) here,
      )

  -- the list goes on: what is shown and the structure here begin its text
  pub goes_on : (number : ℕ) (marks : List ℕ) (k : ℕ) (link : A) (shown : List ℕ) → Progress number marks k link shown → l.address link % 32 ≡ 0
      → l.address link / 32 < length marks → is_marked marks number (l.address link) ≡ false
      → l.ending (ltb 0 k) (is_marked marks number (l.address link)) link ≡ None
      → (rest : List ℕ) × (shown ++ (l.text link ++ rest) ≡ list_text l first)
  unfolding count list_text
  goes_on number marks k link shown p whole inside fresh goes =
      let a = l.address link in
      let open_unit = not_marked marks number a inside fresh in
      let not_ended : is_some (ending_at l first k) ≡ false = ap is_some (ending_here number marks k link shown p whole ∙ goes) in
      let room : k < l.most = omega (arith, p.room, unmarked-positive number marks (a / 32) inside open_unit) in
      let none_yet : (i : ℕ) → i ≤ k → is_some (ending_at l first i) ≡ false = λ i h. elim (cases_eq i k) [
        | inl e ↦ subst (λ (j : ℕ). is_some (ending_at l first j) ≡ false) (sym e) not_ended
        | inr differ ↦ p.none i (omega arith)
      ] in
      let longer : k < count l first = first_below-above (λ j. is_some (ending_at l first j)) l.most k none_yet room in
      let parts = items-front l.next first k (count l first) longer in
      let last = ending_lines l.indent (ending_at l first (count l first)) in
      let rest = flat_map l.text parts.0 in
      let front : flat_map l.text (items l.next first (count l first)) ≡ shown ++ (l.text link ++ rest) =
      ap (flat_map l.text) parts.1 ∙ flat_map-append l.text (items l.next first k) (link_at l first k ∷ parts.0)
      ∙ ap (λ (t : List ℕ). t ++ (l.text (link_at l first k) ++ rest)) p.text ∙ ap (λ (x : A). shown ++ (l.text x ++ rest)) p.at in
      let whole_text : flat_map l.text (items l.next first (count l first)) ++ last ≡ shown ++ (l.text link ++ (rest ++ last)) =
      ap (λ (t : List ℕ). t ++ last) front ∙ append_assoc shown (l.text link ++ rest) last ∙ ap (λ (t : List ℕ). shown ++ t) (append_assoc (l.text link) rest last) in
      (rest ++ last, sym whole_text)

-- What is shown of a list has passed through a page.
pub record Stage {A : Type 0} (l : Linked A) (first : A) (number : ℕ) (marks : List ℕ) (link : A) (k : ℕ) (start now : Option (List ℕ)) (held holds : List ℕ) : Type 0 where
  pub shown : List ℕ
  pub progress : Progress l first number marks k link shown
  pub passes : Passes start now held holds shown

module _ {A : Type 0} (l : Linked A) (first : A) (number : ℕ) (marks : List ℕ) where
  -- why the list ends at a link, by the marks
  abbrev pub ending_by_marks : ℕ → A → Option Ending
  ending_by_marks k link = l.ending (ltb 0 k) (is_marked marks number (l.address link)) link

  pub stage-none : (start : Option (List ℕ)) (held : List ℕ) → IsFresh marks number → length marks ≡ l.most → Stage l first number marks first 0 start start held held
  stage-none start held fresh whole = record {
    shown = [];
    progress = progress-none l first number marks fresh whole;
    passes = passes_none start held;
  }

  pub stage-more : (link : A) (k : ℕ) (start now next : Option (List ℕ)) (held holds holds' : List ℕ) → Stage l first number marks link k start now held holds
      → l.address link % 32 ≡ 0 → l.address link / 32 < length marks → is_marked marks number (l.address link) ≡ false → ending_by_marks k link ≡ None
      → Passes now next holds holds' (l.text link)
      → Stage l first number (set marks (l.address link / 32) number) (l.next link) (suc k) start next held holds'
  stage-more link k start now next held holds holds' s whole inside fresh goes p = record {
    shown = s.shown ++ l.text link;
    progress = progress-more l first number marks k link s.shown s.progress whole inside fresh goes;
    passes = passes_join start now next held holds holds' s.shown (l.text link) s.passes p;
  }

  pub stage-ends : (link : A) (k : ℕ) (start now next : Option (List ℕ)) (held holds holds' : List ℕ) (e : Ending) → Stage l first number marks link k start now held holds
      → l.address link % 32 ≡ 0 → ending_by_marks k link ≡ Some e
      → Passes now next holds holds' (ending_line l.indent e)
      → Passes start next held holds' (list_text l first)
  stage-ends link k start now next held holds holds' e s whole ends p =
      let text = ends_here l first number marks k link s.shown e s.progress whole ends in
      passes_all start now next held holds holds' s.shown (ending_line l.indent e) (list_text l first) s.passes p (sym text.1)

  pub stage-ends_err : (link : A) (k : ℕ) (start now next : Option (List ℕ)) (held holds : List ℕ) (e : Ending) → Stage l first number marks link k start now held holds
      → l.address link % 32 ≡ 0 → ending_by_marks k link ≡ Some e
      → AppendsPrefix now next (holds ++ ending_line l.indent e)
      → AppendsPrefix start next (held ++ list_text l first)
  stage-ends_err link k start now next held holds e s whole ends h =
      let text = ends_here l first number marks k link s.shown e s.progress whole ends in
      let last = ending_line l.indent e in
      prefix_within start now next held holds s.shown last [] (list_text l first) s.passes h (ap (λ (t : List ℕ). s.shown ++ t) (append-nil last) ∙ sym text.1)

  pub stage-goes_err : (link : A) (k : ℕ) (start now next : Option (List ℕ)) (held holds : List ℕ) → Stage l first number marks link k start now held holds
      → l.address link % 32 ≡ 0 → l.address link / 32 < length marks → is_marked marks number (l.address link) ≡ false → ending_by_marks k link ≡ None
      → AppendsPrefix now next (holds ++ l.text link)
      → AppendsPrefix start next (held ++ list_text l first)
  stage-goes_err link k start now next held holds s whole inside fresh goes h =
      let rest = goes_on l first number marks k link s.shown s.progress whole inside fresh goes in
      prefix_within start now next held holds s.shown (l.text link) rest.0 (list_text l first) s.passes h rest.1

  -- the last line was put, or not
  pub put_ending_ok : {T E : Type 0} (r : Result T E) (link : A) (k : ℕ) (start now next : Option (List ℕ)) (held holds holds' piece : List ℕ) (e : Ending)
      → Stage l first number marks link k start now held holds → l.address link % 32 ≡ 0 → ending_by_marks k link ≡ Some e → piece ≡ ending_line l.indent e
      → OnOk r (Passes now next holds holds' piece)
      → OnOk r (Passes start next held holds' (list_text l first))
  put_ending_ok r link k start now next held holds holds' piece e s whole ends same h =
      on_ok_weaker r (λ p. stage-ends link k start now next held holds holds' e s whole ends (passes_same now next holds holds' piece (ending_line l.indent e) same p)) h

  pub put_ending_err : {T E : Type 0} (r : Result T E) (link : A) (k : ℕ) (start now next : Option (List ℕ)) (held holds piece : List ℕ) (e : Ending)
      → Stage l first number marks link k start now held holds → l.address link % 32 ≡ 0 → ending_by_marks k link ≡ Some e → piece ≡ ending_line l.indent e
      → OnErr r (AppendsPrefix now next (holds ++ piece))
      → OnErr r (AppendsPrefix start next (held ++ list_text l first))
  put_ending_err r link k start now next held holds piece e s whole ends same h =
      on_err_weaker r (λ p. stage-ends_err link k start now next held holds e s whole ends (prefix_same now next holds piece (ending_line l.indent e) same p)) h
