-- Every list ends at one of its endings: it has no more structures than memory has units.
use Rattle.std.proofs.Common.{◌≡◌, ℕ, zero, suc, ◌+◌, ◌*◌, ◌/◌, ◌%◌, ◌≤◌, ◌<◌, Bool, true, false, cond, eqb, ltb, List, [], ◌∷◌, ◌++◌, length, replicate, set, Option, Some, None, inl, inr, refl, sym, ap, ◌∙◌, arith}
use Rattle.std.specs.Prelude.{is_some}
use Rattle.std.proofs.lemmas.Bool.{cond_both, cases_Bool, cases_eq, cases_lt, ltb-false}
use Rattle.std.proofs.lemmas.List.{length-replicate, length-set}
use Rattle.link_words.specs.declared.kinds.Link.{Link}
use Rattle.link_words.specs.declared.kinds.Link.TheVariants as links
use Rattle.link_words.specs.declared.kinds.QtdLink.{QtdLink}
use Rattle.link_words.specs.declared.kinds.QtdLink.TheVariants as queue_links
use Rattle.link_words.specs.Layout.{bits, is_set}
use Rattle.link_words.specs.Links.{link_read, qtd_link_read, IsAligned, IsQtdAligned, address_of}
use Rattle.image_show.specs.declared.ending.Ending.{Ending}
use Rattle.image_show.specs.Base.{lowered, lowered_link, lowered_qtd}
use Rattle.image_show.specs.Linked.{Linked, count, ending_at, first_below, first_ending, first_from, is_in, link_at, when}
use Rattle.image_show.specs.Marks.{is_marked}
use Rattle.image_show.specs.Shown.{chain, chain_ending, chain_endings, is_outside, queue, queue_address, queue_ending, queue_endings, units, word_at}
use Rattle.image_show.proofs.Listing.{Progress, ending_here, progress-more, progress-none}
use Rattle.image_show.proofs.Marking.{zeros}

-- ---- the first number of which a test holds

first_from-before : (test : ℕ → Bool) (k n j : ℕ) → k ≤ j → j < first_from test k n → test j ≡ false
first_from-before test k zero j low high = absurd (omega arith)
first_from-before test k (suc n) j low high = elim (cases_Bool (test k)) [
  | inl e ↦ let same : first_from test k (suc n) ≡ k = rw e refl in absurd (omega arith)
  | inr e ↦ elim (cases_eq k j) [
    | inl here ↦ ap test (sym here) ∙ e
    | inr differ ↦ let next : first_from test k (suc n) ≡ first_from test (suc k) n = rw e refl in first_from-before test (suc k) n j (omega arith) (omega arith)
  ]
]

first_from-holds : (test : ℕ → Bool) (k n : ℕ) → first_from test k n < k + n → test (first_from test k n) ≡ true
first_from-holds test k zero high = absurd (omega arith)
first_from-holds test k (suc n) high = elim (cases_Bool (test k)) [
  | inl e ↦ let same : first_from test k (suc n) ≡ k = rw e refl in ap test same ∙ e
  | inr e ↦ let next : first_from test k (suc n) ≡ first_from test (suc k) n = rw e refl in ap test next ∙ first_from-holds test (suc k) n (omega arith)
]

first_from-le : (test : ℕ → Bool) (k n : ℕ) → first_from test k n ≤ k + n
first_from-le test k zero = omega arith
first_from-le test k (suc n) = elim (cases_Bool (test k)) [
  | inl e ↦ let same : first_from test k (suc n) ≡ k = rw e refl in omega arith
  | inr e ↦ let next : first_from test k (suc n) ≡ first_from test (suc k) n = rw e refl in omega (arith, first_from-le test (suc k) n)
]

none_from : (o : Option Ending) → is_some o ≡ false → o ≡ None
none_from None h = refl
none_from (Some e) h = cc

-- ---- lists of one kind

-- A list goes on only at a structure in a unit of memory that isn't in it yet, and its links are aligned.
pub record Bounded {A : Type 0} (l : Linked A) : Type 0 where
  pub inside : (begun here : Bool) (link : A) → l.address link % 32 ≡ 0 → l.ending begun here link ≡ None → (l.address link / 32 < l.most) × (here ≡ false)
  pub aligned : (link : A) → l.address (l.next link) % 32 ≡ 0

module _ {A : Type 0} (l : Linked A) (first : A) (b : Bounded l) (start : l.address first % 32 ≡ 0) where
  links_aligned : (k : ℕ) → l.address (link_at l first k) % 32 ≡ 0
  links_aligned zero = start
  links_aligned (suc k) = b.aligned (link_at l first k)

  -- marks with which the first k structures can be shown
  record Reached (k : ℕ) : Type 0 where
    marks : List ℕ
    shown : List ℕ
    whole : length marks ≡ l.most
    progress : Progress l first 1 marks k (link_at l first k) shown

  reached : (k : ℕ) → ((j : ℕ) → j < k → is_some (ending_at l first j) ≡ false) → Reached k
  reached zero none = record {
    marks = replicate l.most 0;
    shown = [];
    whole = length-replicate {A = ℕ} l.most 0;
    progress = progress-none l first 1 (replicate l.most 0) (λ u h e. let z = zeros l.most u in absurd (omega arith)) (length-replicate {A = ℕ} l.most 0);
  }
  reached (suc k) none =
      let r = reached k (λ j h. none j (omega arith)) in
      let link = link_at l first k in
      let goes = sym (ending_here l first 1 r.marks k link r.shown r.progress (links_aligned k)) ∙ none_from _ (none k (omega arith)) in
      let inside = b.inside (ltb 0 k) (is_marked r.marks 1 (l.address link)) link (links_aligned k) goes in
      let unit : l.address link / 32 < length r.marks = omega (arith, inside.0, r.whole) in
      record {
        marks = set r.marks (l.address link / 32) 1;
        shown = r.shown ++ l.text link;
        whole = length-set r.marks (l.address link / 32) 1 ∙ r.whole;
        progress = progress-more l first 1 r.marks k link r.shown r.progress (links_aligned k) unit inside.1 goes;
      }

  -- the list ends at its link after those that are shown
  pub list_ends : is_some (ending_at l first (count l first)) ≡ true
  unfolding count first_below
  list_ends =
      let test : ℕ → Bool = λ k. is_some (ending_at l first k) in
      let n = first_from test 0 l.most in
      elim (cases_lt n l.most) [
        | inl less ↦ first_from-holds test 0 l.most (omega arith)
        | inr full ↦ elim (cases_Bool (test n)) [
          | inl ends ↦ ends
          | inr goes ↦
              let bound = first_from-le test 0 l.most in
              let none : (j : ℕ) → j < suc n → is_some (ending_at l first j) ≡ false = λ j h. elim (cases_eq j n) [
                | inl e ↦ ap test e ∙ goes
                | inr differ ↦ first_from-before test 0 l.most j (omega arith) (omega arith)
              ] in
              let r = reached (suc n) none in
              let room = r.progress.room in
              absurd (omega arith)
        ]
      ]

-- ---- queues, chains and the ring

abbrev AreNone : List (Option Ending) → Type 0
AreNone [] = Unit {0}
AreNone (o ∷ os) = (o ≡ None) × AreNone os

some_none : (e : Ending) → Some e ≡ None → ⊥
some_none e h = cc

all_none : (os : List (Option Ending)) → first_ending os ≡ None → AreNone os
all_none [] h = tt
all_none (None ∷ os) h = (refl, all_none os h)
all_none (Some e ∷ os) h = absurd (some_none e h)

when_none : (holds : Bool) (e : Ending) → when holds e ≡ None → holds ≡ false
when_none true e h = absurd (some_none e h)
when_none false e h = refl

queue_goes : (base : ℕ) (words : List ℕ) (here : Bool) (link : QtdLink) → queue_address link % 32 ≡ 0 → queue_ending base words here link ≡ None
    → (queue_address link / 32 < units words) × (here ≡ false)
queue_goes base words here queue_links.End a h = absurd (some_none _ h)
queue_goes base words here (queue_links.To at) a h =
    let none = all_none (queue_endings base words here (queue_links.To at)) h in
    let outside : is_outside words at 8 ≡ false = when_none _ _ none.1.0 in
    let inside : at + 32 ≤ 4 * length words = ltb-false _ _ outside in
    (omega arith, when_none _ _ none.1.1.0)

multiple : (n : ℕ) → n * 32 % 32 ≡ 0
multiple n = omega arith

queue_link_aligned : (w : ℕ) → queue_address (qtd_link_read w) % 32 ≡ 0
unfolding qtd_link_read
queue_link_aligned w =
    cond_both _ queue_links.End (queue_links.To (w / 32 * 32)) (λ (l : QtdLink). queue_address l % 32 ≡ 0) (λ e. refl) (λ e. multiple (w / 32))

lowered_aligned : (base a : ℕ) → base % 32 ≡ 0 → a % 32 ≡ 0 → lowered base a % 32 ≡ 0
lowered_aligned base a b h = omega arith

lowered_qtd_aligned : (base : ℕ) (link : QtdLink) → base % 32 ≡ 0 → queue_address link % 32 ≡ 0
    → queue_address (lowered_qtd base link) % 32 ≡ 0
lowered_qtd_aligned base queue_links.End b h = refl
lowered_qtd_aligned base (queue_links.To a) b h = lowered_aligned base a b h

lowered_link_aligned : (base : ℕ) (link : Link) → base % 32 ≡ 0 → address_of link % 32 ≡ 0 → address_of (lowered_link base link) % 32 ≡ 0
lowered_link_aligned base links.End b h = refl
lowered_link_aligned base (links.Itd a) b h = lowered_aligned base a b h
lowered_link_aligned base (links.Qh a) b h = lowered_aligned base a b h
lowered_link_aligned base (links.Sitd a) b h = lowered_aligned base a b h
lowered_link_aligned base (links.Fstn a) b h = lowered_aligned base a b h

queue_bounded : (base : ℕ) (words : List ℕ) → base % 32 ≡ 0 → Bounded (queue base words)
queue_bounded base words b = record {
  inside = λ begun here link a h. queue_goes base words here link a h;
  aligned = λ link. lowered_qtd_aligned base (qtd_link_read (word_at words (queue_address link))) b (queue_link_aligned (word_at words (queue_address link)));
}

first_in_queue : (first : QtdLink) → IsQtdAligned first → queue_address first % 32 ≡ 0
first_in_queue queue_links.End a = refl
first_in_queue (queue_links.To at) a = a

pub queue_ends : (base : ℕ) (words : List ℕ) (first : QtdLink) → base % 32 ≡ 0 → IsQtdAligned first → is_some (ending_at (queue base words) first (count (queue base words) first)) ≡ true
queue_ends base words first b a = list_ends (queue base words) first (queue_bounded base words b) (first_in_queue first a)

-- a structure of some words that isn't outside is in a unit of memory
in_unit : (words : List ℕ) (at n : ℕ) → length words % 8 ≡ 0 → 7 ≤ n → at % 32 ≡ 0 → is_outside words at n ≡ false → at / 32 < units words
in_unit words at n units some a outside =
    let inside : at + 4 * n ≤ 4 * length words = ltb-false _ _ outside in
    omega arith

chain_goes : (base : ℕ) (words seen : List ℕ) (home : Option ℕ) (begun here earlier : Bool) (link : Link) → length words % 8 ≡ 0 → address_of link % 32 ≡ 0 → chain_ending base words home begun here earlier link ≡ None
    → (address_of link / 32 < units words) × (here ≡ false)
chain_goes base words seen home begun here earlier links.End u a h = absurd (some_none _ h)
chain_goes base words seen home begun here earlier (links.Itd at) u a h =
    let none = all_none (chain_endings base words home begun here earlier (links.Itd at)) h in
    (in_unit words at 16 u (omega arith) a (when_none _ _ none.1.1.0), when_none _ _ none.1.1.1.0)
chain_goes base words seen home begun here earlier (links.Qh at) u a h =
    let none = all_none (chain_endings base words home begun here earlier (links.Qh at)) h in
    (in_unit words at 12 u (omega arith) a (when_none _ _ none.1.1.0), when_none _ _ none.1.1.1.0)
chain_goes base words seen home begun here earlier (links.Sitd at) u a h =
    let none = all_none (chain_endings base words home begun here earlier (links.Sitd at)) h in
    (in_unit words at 7 u (omega arith) a (when_none _ _ none.1.1.0), when_none _ _ none.1.1.1.0)
chain_goes base words seen home begun here earlier (links.Fstn at) u a h =
    let none = all_none (chain_endings base words home begun here earlier (links.Fstn at)) h in
    absurd (some_none _ none.1.1.1.1.1.0)

-- a link's address, whatever its type
any_type : (t i q s : Bool) (a : ℕ) → a % 32 ≡ 0
    → address_of (cond t links.End (cond i (links.Itd a) (cond q (links.Qh a) (cond s (links.Sitd a) (links.Fstn a))))) % 32 ≡ 0
any_type true i q s a h = refl
any_type false true q s a h = h
any_type false false true s a h = h
any_type false false false true a h = h
any_type false false false false a h = h

link_aligned : (w : ℕ) → address_of (link_read w) % 32 ≡ 0
unfolding link_read
link_aligned w = any_type (is_set 0 w) (eqb (bits 2 1 w) 0) (eqb (bits 2 1 w) 1) (eqb (bits 2 1 w) 2) (w / 32 * 32) (multiple (w / 32))

chain_bounded : (base : ℕ) (words seen : List ℕ) (home : Option ℕ) → base % 32 ≡ 0 → length words % 8 ≡ 0 → Bounded (chain base words home seen)
chain_bounded base words seen home b u = record {
  inside = λ begun here link a h. chain_goes base words seen home begun here (is_in (address_of link) seen) link u a h;
  aligned = λ link. lowered_link_aligned base (link_read (word_at words (address_of link))) b (link_aligned (word_at words (address_of link)));
}

first_in_chain : (first : Link) → IsAligned first → address_of first % 32 ≡ 0
first_in_chain links.End a = refl
first_in_chain _ a = a

pub chain_ends : (base : ℕ) (words seen : List ℕ) (home : Option ℕ) (first : Link) → base % 32 ≡ 0 → length words % 8 ≡ 0 → IsAligned first
    → is_some (ending_at (chain base words home seen) first (count (chain base words home seen) first)) ≡ true
chain_ends base words seen home first b u a = list_ends (chain base words home seen) first (chain_bounded base words seen home b u) (first_in_chain first a)
