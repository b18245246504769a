-- The words before a queue head, found by the classes.
use Rattle.std.proofs.Common.{◌≡◌, ℕ, zero, suc, ◌+◌, ◌*◌, ◌%◌, ◌^◌, ◌<◌, ◌≤◌, Bool, true, false, List, [], ◌∷◌, ◌++◌, map, nat_eq, inl, inr, if◌then◌else◌, refl, ap, sym, ◌∙◌, subst, arith}
use Rattle.std.specs.Prelude.{◌||◌, ◌&&◌, filter}
use Rattle.std.specs.List.{AllByRecursion, list_any, flat_map}
use Rattle.std.proofs.lemmas.Bool.{eq-eqb, eqb-true, ne_eqb, and_parts, and_from, or_cases, false≢true}
use Rattle.std.proofs.lemmas.List.{map-append, append_assoc, append-nil}
use Rattle.std.proofs.lemmas.Grind.{flat_map-append}
use Rattle.std.proofs.lemmas.Nat.{pow_pos}
use Rattle.drv_chains.specs.declared.members.Descriptor.{Descriptor}
use Rattle.drv_chains.specs.declared.members.QueueHead.{QueueHead}
use Rattle.drv_chains.specs.declared.members.Member.{Member}
use Rattle.drv_chains.specs.declared.members.Member.TheVariants.{Once, Each}
use Rattle.drv_chains.specs.declared.members.Predecessor.{Predecessor}
use Rattle.drv_chains.specs.declared.members.Predecessor.TheVariants.{Element, After}
use Rattle.drv_chains.specs.Order.{frames}
use Rattle.drv_chains.specs.Chains.{Schedule, of_lists, frame_period, at_place, descriptors_in, chain, has_name, is_the, stands_in, word_after, before_the, predecessor, predecessors, word_met, first_frame}
use Rattle.drv_chains.specs.Classes.{periods_of, members, classes_from, last_of, words_below, class_words}
use Rattle.drv_chains.proofs.Orders.{both_parts}
use Rattle.drv_chains.proofs.Words.{word_after_both, holds_after, of_kept, all_kept, after_all}
use Rattle.drv_chains.proofs.Beside.{without, among, each_map, none_named, left_false}
use Rattle.drv_chains.proofs.ByClass.{chain_of_classes}
use Rattle.drv_chains.proofs.Tree.{under, class_frames, both_below, at_least, leave_phase}

-- the word where it is met at its first frame
abbrev pub met : (ℕ → Predecessor) → ℕ → List Predecessor
met w f = if nat_eq (first_frame (w f)) f then w f ∷ [] else []

same_met : (w v : ℕ → Predecessor) (fs : List ℕ) → AllByRecursion (λ f. w f ≡ v f) fs → flat_map (met w) fs ≡ flat_map (met v) fs
same_met w v [] k = refl
same_met w v (f ∷ fs) k = ap (λ x. (if nat_eq (first_frame x) f then x ∷ [] else []) ++ flat_map (met w) fs) k.0 ∙ ap (λ x. met v f ++ x) (same_met w v fs k.1)

apart : (p f n : ℕ) → suc p ≤ f → n ≡ p → n ≡ f → ⊥
apart p f n h e k = omega (arith, h, e, k)

-- one word is met once, at its first frame
no_meeting : (v : Predecessor) (p : ℕ) (fs : List ℕ) → first_frame v ≡ p → AllByRecursion (λ f. suc p ≤ f) fs → flat_map (met (λ f. v)) fs ≡ []
no_meeting v p [] e k = refl
no_meeting v p (f ∷ fs) e k = ap (λ b. (if b then v ∷ [] else []) ++ flat_map (met (λ f. v)) fs) (ne_eqb (first_frame v) f (λ s. apart p f (first_frame v) k.0 e s)) ∙ no_meeting v p fs e k.1

above : (p m : ℕ) → 0 < m → (f : ℕ) → p + m ≤ f → suc p ≤ f
above p m h f k = omega (arith, h, k)

over : (P Q : ℕ → Type 0) → ((f : ℕ) → P f → Q f) → (fs : List ℕ) → AllByRecursion P fs → AllByRecursion Q fs
over P Q h [] k = tt
over P Q h (f ∷ fs) k = (h f k.0, over P Q h fs k.1)

one_meeting : (v : Predecessor) (left level p : ℕ) → first_frame v ≡ p → flat_map (met (λ f. v)) (under left level p) ≡ v ∷ []
unfolding under
one_meeting v zero level p e = ap (λ b. (if b then v ∷ [] else []) ++ []) (eq-eqb (first_frame v) p e)
one_meeting v (suc left) level p e =
    flat_map-append (met (λ f. v)) (under left (suc level) p) (under left (suc level) (p + 2 ^ level))
    ∙ ap (λ x. x ++ flat_map (met (λ f. v)) (under left (suc level) (p + 2 ^ level))) (one_meeting v left (suc level) p e)
    ∙ ap (λ x. (v ∷ []) ++ x) (no_meeting v p (under left (suc level) (p + 2 ^ level)) e (over (λ f. p + 2 ^ level ≤ f) (λ f. suc p ≤ f) (above p (2 ^ level) (pow_pos level)) (under left (suc level) (p + 2 ^ level)) (at_least left (suc level) (p + 2 ^ level))))

-- all members of a class have its phase
in_place : (qs : List QueueHead) (p : ℕ) (periods : List ℕ) → AllByRecursion (λ m. first_frame (After m) ≡ p) (map Each (flat_map (λ period. filter (at_place period p) qs) periods))
in_place qs p [] = tt
in_place qs p (period ∷ rest) =
    subst (λ (x : List Member). AllByRecursion (λ m. first_frame (After m) ≡ p) x) (sym (map-append Each (filter (at_place period p) qs) (flat_map (λ period. filter (at_place period p) qs) rest)))
    (both_parts (λ m. first_frame (After m) ≡ p) (map Each (filter (at_place period p) qs)) (map Each (flat_map (λ period. filter (at_place period p) qs) rest))
    (of_kept (λ m. first_frame (After m) ≡ p) Each (at_place period p) (λ q h. eqb-true q.phase p (and_parts (nat_eq q.period period) (nat_eq q.phase p) h).1) qs)
    (in_place qs p rest))

-- what stands behind some members of one phase p: the last of them, met once, or the words before them
behind_these : (w v : ℕ → Predecessor) (ms : List Member) (others : List Predecessor) (left level p : ℕ) → AllByRecursion (λ m. first_frame (After m) ≡ p) ms → AllByRecursion (λ f. w f ≡ word_after (v f) ms) (under left level p)
    → flat_map (met v) (under left level p) ≡ others → flat_map (met w) (under left level p) ≡ last_of ms others
unfolding word_after
behind_these w v [] others left level p a k h = same_met w v (under left level p) k ∙ h
behind_these w v (m ∷ ms) others left level p a k h =
    same_met w (λ f. word_after (After m) ms) (under left level p) k
    ∙ one_meeting (word_after (After m) ms) left level p (holds_after (λ x. first_frame x ≡ p) (After m) ms a.0 (after_all (λ x. first_frame x ≡ p) ms a.1))

-- the classes above a level in the chain of frame f
unfoldable pub above_in : Schedule → ℕ → ℕ → ℕ → List Member
above_in s zero level f = []
above_in s (suc left) level f = above_in s left (suc level) f ++ map Each (members s (suc level) (f % 2 ^ suc level))

abbrev pub start : Schedule → ℕ → Predecessor
start s f = word_after (Element f) (map Once (descriptors_in s f))

abbrev pub word_above : Schedule → ℕ → ℕ → ℕ → Predecessor
word_above s left level f = word_after (start s f) (above_in s left level f)

own_frame : (s : Schedule) (f : ℕ) → first_frame (start s f) ≡ f
own_frame s f = holds_after (λ x. first_frame x ≡ f) (Element f) (map Once (descriptors_in s f)) refl (after_all (λ x. first_frame x ≡ f) (map Once (descriptors_in s f)) (of_kept (λ m. first_frame (After m) ≡ f) Once (λ d. nat_eq d.frame f) (λ d h. eqb-true d.frame f h) s.descriptors))

one_class_more : (s : Schedule) (left level p f : ℕ) → f % 2 ^ suc level ≡ p → word_above s (suc left) level f ≡ word_after (word_above s left (suc level) f) (map Each (members s (suc level) p))
unfolding above_in
one_class_more s left level p f e = word_after_both (start s f) (above_in s left (suc level) f) (map Each (members s (suc level) (f % 2 ^ suc level))) ∙ ap (λ x. word_after (word_above s left (suc level) f) (map Each (members s (suc level) x))) e

half_of : (s : Schedule) (left level p : ℕ) → p < 2 ^ suc level → flat_map (met (word_above s left (suc level))) (under left (suc level) p) ≡ words_below s left (suc level) p
    → flat_map (met (word_above s (suc left) level)) (under left (suc level) p) ≡ last_of (map Each (members s (suc level) p)) (words_below s left (suc level) p)
half_of s left level p h e =
    behind_these (word_above s (suc left) level) (word_above s left (suc level)) (map Each (members s (suc level) p)) (words_below s left (suc level) p) left (suc level) p
    (in_place s.queues p (periods_of (suc level)))
    (over (λ f. f % 2 ^ suc level ≡ p) (λ f. word_above s (suc left) level f ≡ word_after (word_above s left (suc level) f) (map Each (members s (suc level) p))) (λ f k. one_class_more s left level p f k) (under left (suc level) p) (leave_phase left (suc level) p h))
    e

-- the words that lead below the classes above
pub words_are : (s : Schedule) (left level phase : ℕ) → phase < 2 ^ level → flat_map (met (word_above s left level)) (under left level phase) ≡ words_below s left level phase
unfolding under words_below above_in word_after
words_are s zero level phase h = ap (λ b. (if b then start s phase ∷ [] else []) ++ []) (eq-eqb (first_frame (start s phase)) phase (own_frame s phase))
words_are s (suc left) level phase h =
    let both = both_below phase level h in
    let high = phase + 2 ^ level in
    flat_map-append (met (word_above s (suc left) level)) (under left (suc level) phase) (under left (suc level) high)
    ∙ ap (λ x. x ++ flat_map (met (word_above s (suc left) level)) (under left (suc level) high)) (half_of s left level phase both.0 (words_are s left (suc level) phase both.0))
    ∙ ap (λ x. last_of (map Each (members s (suc level) phase)) (words_below s left (suc level) phase) ++ x) (half_of s left level high both.1 (words_are s left (suc level) high both.1))

-- ---- the chain around a class

unfoldable pub lower_in : Schedule → ℕ → ℕ → List Member
lower_in s zero f = []
lower_in s (suc level) f = map Each (classes_from s level f)

lowest_phase : (f : ℕ) → f % 2 ^ 0 ≡ 0
lowest_phase f = omega arith

class_then_lower : (s : Schedule) (level f : ℕ) → map Each (classes_from s level f) ≡ map Each (members s level (f % 2 ^ level)) ++ lower_in s level f
unfolding classes_from lower_in
class_then_lower s zero f = sym (append-nil (map Each (members s 0 0))) ∙ ap (λ x. map Each (members s 0 x) ++ []) (sym (lowest_phase f))
class_then_lower s (suc level) f = map-append Each (members s (suc level) (f % 2 ^ suc level)) (classes_from s level f)

above_then : (s : Schedule) (left level f : ℕ) → map Each (classes_from s (left + level) f) ≡ above_in s left level f ++ map Each (classes_from s level f)
unfolding above_in classes_from
above_then s zero level f = let e : 0 + level ≡ level = omega arith in ap (λ x. map Each (classes_from s x f)) e
above_then s (suc left) level f =
    let e : suc left + level ≡ left + suc level = omega arith in
    ap (λ x. map Each (classes_from s x f)) e
    ∙ above_then s left (suc level) f
    ∙ ap (λ x. above_in s left (suc level) f ++ x) (map-append Each (members s (suc level) (f % 2 ^ suc level)) (classes_from s level f))
    ∙ sym (append_assoc (above_in s left (suc level) f) (map Each (members s (suc level) (f % 2 ^ suc level))) (map Each (classes_from s level f)))

pub around : (s : Schedule) (left level f p : ℕ) → left + level ≡ 10 → f % 2 ^ level ≡ p → chain s f ≡ (map Once (descriptors_in s f) ++ above_in s left level f) ++ (map Each (members s level p) ++ lower_in s level f)
around s left level f p e h =
    let d = map Once (descriptors_in s f) in
    sym (chain_of_classes s f)
    ∙ ap (λ x. d ++ map Each (classes_from s x f)) (sym e)
    ∙ ap (λ x. d ++ x) (above_then s left level f)
    ∙ sym (append_assoc d (above_in s left level f) (map Each (classes_from s level f)))
    ∙ ap (λ x. (d ++ above_in s left level f) ++ x) (class_then_lower s level f)
    ∙ ap (λ x. (d ++ above_in s left level f) ++ (map Each (members s level x) ++ lower_in s level f)) h

-- before q, where nothing ahead is q's and q is in the part that follows
pub before_far : (m : Member) (a b : List Member) → AllByRecursion (λ x. is_the m x ≡ false) a → before_the m (a ++ b) ≡ a ++ before_the m b
unfolding before_the
before_far m [] b k = refl
before_far m (x ∷ a) b k = ap (λ t. if t then [] else x ∷ before_the m (a ++ b)) k.0 ∙ ap (λ z. x ∷ z) (before_far m a b k.1)

near_or : (m x : Member) (b c : List Member) (t : Bool) → (t ≡ false → before_the m (b ++ c) ≡ before_the m b) → (if t then [] else x ∷ before_the m (b ++ c)) ≡ (if t then [] else x ∷ before_the m b)
near_or m x b c true h = refl
near_or m x b c false h = ap (λ z. x ∷ z) (h refl)

rest_true : (a b : Bool) → (a || b) ≡ true → a ≡ false → b ≡ true
rest_true true b h e = absurd (false≢true (sym e))
rest_true false b h e = h

pub before_near : (m : Member) (b c : List Member) → list_any (λ x. is_the m x) b ≡ true → before_the m (b ++ c) ≡ before_the m b
unfolding before_the
before_near m [] c h = absurd (false≢true h)
before_near m (x ∷ b) c h = near_or m x b c (is_the m x) (λ e. before_near m b c (rest_true (is_the m x) (list_any (λ y. is_the m y) b) h e))

left_is : (a b : Bool) → a ≡ true → (a || b) ≡ true
left_is true b h = refl
left_is false b h = absurd (false≢true h)

right_is : (a b : Bool) → b ≡ true → (a || b) ≡ true
right_is true b h = refl
right_is false b h = h

-- a queue head is in its class, and in none above
any_in : (m : Member) (a b : List Member) → list_any (λ x. is_the m x) a ≡ true → list_any (λ x. is_the m x) (a ++ b) ≡ true
any_in m [] b h = absurd (false≢true h)
any_in m (x ∷ a) b h = elim (or_cases (is_the m x) (list_any (λ y. is_the m y) a) h) [
  | inl e ↦ left_is (is_the m x) (list_any (λ y. is_the m y) (a ++ b)) e
  | inr e ↦ right_is (is_the m x) (list_any (λ y. is_the m y) (a ++ b)) (any_in m a b e)
]

any_behind : (m : Member) (a b : List Member) → list_any (λ x. is_the m x) b ≡ true → list_any (λ x. is_the m x) (a ++ b) ≡ true
any_behind m [] b h = h
any_behind m (x ∷ a) b h = right_is (is_the m x) (list_any (λ y. is_the m y) (a ++ b)) (any_behind m a b h)

in_part : (xs ys : List QueueHead) (q : QueueHead) (period : ℕ) → nat_eq q.period period ≡ true → list_any (λ x. is_the (Each q) x) (map Each (filter (at_place period q.phase) (xs ++ q ∷ ys))) ≡ true
in_part xs ys q period e =
    let here : at_place period q.phase q ≡ true = and_from (nat_eq q.period period) (nat_eq q.phase q.phase) e (eq-eqb q.phase q.phase refl) in
    let parts = ap (λ x. map Each x) (among (at_place period q.phase) xs ys q here) ∙ map-append Each (filter (at_place period q.phase) xs) (q ∷ filter (at_place period q.phase) ys) in
    subst (λ (x : List Member). list_any (λ y. is_the (Each q) y) x ≡ true) (sym parts)
    (any_behind (Each q) (map Each (filter (at_place period q.phase) xs)) (map Each (q ∷ filter (at_place period q.phase) ys)) (left_is (nat_eq q.id q.id) (list_any (λ y. is_the (Each q) y) (map Each (filter (at_place period q.phase) ys))) (eq-eqb q.id q.id refl)))

in_class : (xs ys : List QueueHead) (q : QueueHead) (ps : List ℕ) → list_any (λ p. nat_eq q.period p) ps ≡ true → list_any (λ x. is_the (Each q) x) (map Each (flat_map (λ period. filter (at_place period q.phase) (xs ++ q ∷ ys)) ps)) ≡ true
in_class xs ys q [] h = absurd (false≢true h)
in_class xs ys q (p ∷ ps) h =
    let qs = xs ++ q ∷ ys in
    let first = filter (at_place p q.phase) qs in
    let rest = flat_map (λ period. filter (at_place period q.phase) qs) ps in
    subst (λ (x : List Member). list_any (λ y. is_the (Each q) y) x ≡ true) (sym (map-append Each first rest)) (elim (or_cases (nat_eq q.period p) (list_any (λ x. nat_eq q.period x) ps) h) [
      | inl e ↦ any_in (Each q) (map Each first) (map Each rest) (in_part xs ys q p e)
      | inr e ↦ any_behind (Each q) (map Each first) (map Each rest) (in_class xs ys q ps e)
    ])

-- the periods of a level are below those of the levels above
level_period : (level n : ℕ) → list_any (λ p. nat_eq n p) (periods_of level) ≡ true → n ≤ 8 * 2 ^ level
level_period zero n h = elim (or_cases (nat_eq n 8) (nat_eq n 4 || (nat_eq n 2 || (nat_eq n 1 || false))) h) [
  | inl e ↦ omega (arith, eqb-true n 8 e)
  | inr r ↦ elim (or_cases (nat_eq n 4) (nat_eq n 2 || (nat_eq n 1 || false)) r) [
    | inl e ↦ omega (arith, eqb-true n 4 e)
    | inr t ↦ elim (or_cases (nat_eq n 2) (nat_eq n 1 || false) t) [
      | inl e ↦ omega (arith, eqb-true n 2 e)
      | inr u ↦ elim (or_cases (nat_eq n 1) false u) [
        | inl e ↦ omega (arith, eqb-true n 1 e)
        | inr e ↦ absurd (false≢true e)
      ]
    ]
  ]
]
level_period (suc level) n h = elim (or_cases (nat_eq n (8 * 2 ^ suc level)) false h) [
  | inl e ↦ omega (arith, eqb-true n (8 * 2 ^ suc level) e)
  | inr e ↦ absurd (false≢true e)
]

level_frames : (level n : ℕ) → list_any (λ p. nat_eq n p) (periods_of level) ≡ true → frame_period n ≡ 2 ^ level
level_frames zero n h = let k = level_period zero n h in omega (arith, k)
level_frames (suc level) n h = elim (or_cases (nat_eq n (8 * 2 ^ suc level)) false h) [
  | inl e ↦ let p = pow_pos (suc level) in omega (arith, eqb-true n (8 * 2 ^ suc level) e, p)
  | inr e ↦ absurd (false≢true e)
]

longer_period : (n level : ℕ) → n ≤ 8 * 2 ^ level → (n ≡ 8 * 2 ^ suc level → ⊥) × (n ≤ 8 * 2 ^ suc level)
longer_period n level h = let p = pow_pos level in ((λ e. omega (arith, h, e, p)), omega (arith, h))

named_class : (xs ys : List QueueHead) (q : QueueHead) (level p : ℕ) → q.period ≤ 8 * 2 ^ level → AllByRecursion (λ x. nat_eq x.id q.id ≡ false) (xs ++ ys) → AllByRecursion (λ m. is_the (Each q) m ≡ false) (map Each (flat_map (λ period. filter (at_place period p) (xs ++ q ∷ ys)) (8 * 2 ^ suc level ∷ [])))
named_class xs ys q level p h k =
    let period = 8 * 2 ^ suc level in
    let test = at_place period p in
    let off : test q ≡ false = ap (λ b. b && nat_eq q.phase p) (ne_eqb q.period period (longer_period q.period level h).0) in
    let same : filter test (xs ++ q ∷ ys) ++ [] ≡ filter test (xs ++ ys) = append-nil (filter test (xs ++ q ∷ ys)) ∙ without test xs ys q off in
    subst (λ (x : List QueueHead). AllByRecursion (λ m. is_the (Each q) m ≡ false) (map Each x)) (sym same) (each_map (λ m. is_the (Each q) m ≡ false) Each (filter test (xs ++ ys)) (all_kept (λ x. nat_eq x.id q.id ≡ false) test (xs ++ ys) k))

named_above : (ds : List Descriptor) (xs ys : List QueueHead) (q : QueueHead) (left level f : ℕ) → q.period ≤ 8 * 2 ^ level → AllByRecursion (λ x. nat_eq x.id q.id ≡ false) (xs ++ ys) → AllByRecursion (λ m. is_the (Each q) m ≡ false) (above_in (of_lists ds (xs ++ q ∷ ys)) left level f)
unfolding above_in
named_above ds xs ys q zero level f h k = tt
named_above ds xs ys q (suc left) level f h k = let s = of_lists ds (xs ++ q ∷ ys) in
    both_parts (λ m. is_the (Each q) m ≡ false) (above_in s left (suc level) f) (map Each (members s (suc level) (f % 2 ^ suc level)))
    (named_above ds xs ys q left (suc level) f (longer_period q.period level h).1 k) (named_class xs ys q level (f % 2 ^ suc level) h k)

-- ---- the words of a queue head

word_in : (ds : List Descriptor) (xs ys : List QueueHead) (q : QueueHead) (left level f : ℕ) → left + level ≡ 10 → list_any (λ p. nat_eq q.period p) (periods_of level) ≡ true → has_name (of_lists ds (xs ++ ys)) q.id ≡ false → f % 2 ^ level ≡ q.phase
    → predecessor (of_lists ds (xs ++ q ∷ ys)) (Each q) f ≡ word_after (word_above (of_lists ds (xs ++ q ∷ ys)) left level f) (before_the (Each q) (map Each (members (of_lists ds (xs ++ q ∷ ys)) level q.phase)))
word_in ds xs ys q left level f e here named h =
    let s = of_lists ds (xs ++ q ∷ ys) in
    let d = map Once (descriptors_in s f) in
    let own = map Each (members s level q.phase) in
    let k = left_false (list_any (λ x. nat_eq x.id q.id) ds) (list_any (λ x. nat_eq x.id q.id) (xs ++ ys)) named in
    let none : AllByRecursion (λ m. is_the (Each q) m ≡ false) (d ++ above_in s left level f) = both_parts (λ m. is_the (Each q) m ≡ false) d (above_in s left level f)
    (each_map (λ m. is_the (Each q) m ≡ false) Once (filter (λ x. nat_eq x.frame f) ds) (all_kept (λ x. nat_eq x.id q.id ≡ false) (λ x. nat_eq x.frame f) ds (none_named (λ x. nat_eq x.id q.id) ds k.0)))
    (named_above ds xs ys q left level f (level_period level q.period here) (none_named (λ x. nat_eq x.id q.id) (xs ++ ys) k.1)) in
    ap (λ x. word_after (Element f) (before_the (Each q) x)) (around s left level f q.phase e h)
    ∙ ap (λ x. word_after (Element f) x) (before_far (Each q) (d ++ above_in s left level f) (own ++ lower_in s level f) none)
    ∙ ap (λ x. word_after (Element f) ((d ++ above_in s left level f) ++ x)) (before_near (Each q) own (lower_in s level f) (in_class xs ys q (periods_of level) here))
    ∙ word_after_both (Element f) (d ++ above_in s left level f) (before_the (Each q) own)
    ∙ ap (λ x. word_after x (before_the (Each q) own)) (word_after_both (Element f) d (above_in s left level f))

cut_or : (P : Member → Type 0) (x : Member) (ms : List Member) (b : Bool) → P x → AllByRecursion P ms → AllByRecursion P (if b then [] else x ∷ ms)
cut_or P x ms true h k = tt
cut_or P x ms false h k = (h, k)

before_all : (P : Member → Type 0) (m : Member) (ms : List Member) → AllByRecursion P ms → AllByRecursion P (before_the m ms)
unfolding before_the
before_all P m [] k = tt
before_all P m (x ∷ ms) k = cut_or P x (before_the m ms) (is_the m x) k.0 (before_all P m ms k.1)

pub found : (ds : List Descriptor) (xs ys : List QueueHead) (q : QueueHead) (left level : ℕ) → left + level ≡ 10 → list_any (λ p. nat_eq q.period p) (periods_of level) ≡ true → q.phase < 2 ^ level → has_name (of_lists ds (xs ++ ys)) q.id ≡ false
    → class_words (of_lists ds (xs ++ q ∷ ys)) left level q ≡ predecessors (of_lists ds (xs ++ q ∷ ys)) (Each q) (frames 10)
unfolding predecessors
found ds xs ys q left level e here l named =
    let s = of_lists ds (xs ++ q ∷ ys) in
    let own = map Each (members s level q.phase) in
    let t : filter (λ f. stands_in f (Each q)) (frames 10) ≡ under left level q.phase =
    ap (λ n. filter (λ f. nat_eq q.phase (f % n)) (frames 10)) (level_frames level q.period here)
    ∙ ap (λ n. filter (λ f. nat_eq q.phase (f % 2 ^ level)) (frames n)) (sym e)
    ∙ class_frames level left q.phase l in
    sym (ap (λ fs. flat_map (word_met s (Each q)) fs) t
    ∙ behind_these (λ f. predecessor s (Each q) f) (word_above s left level) (before_the (Each q) own) (words_below s left level q.phase) left level q.phase
    (before_all (λ m. first_frame (After m) ≡ q.phase) (Each q) own (in_place s.queues q.phase (periods_of level)))
    (over (λ f. f % 2 ^ level ≡ q.phase) (λ f. predecessor s (Each q) f ≡ word_after (word_above s left level f) (before_the (Each q) own)) (λ f h. word_in ds xs ys q left level f e here named h) (under left level q.phase) (leave_phase left level q.phase l))
    (words_are s left level q.phase l))
