-- Links and the members that one comes to by following them.
use Rattle.std.proofs.Common.{◌≡◌, ◌≤◌, Bool, true, false, List, [], ◌∷◌, ◌++◌, length, map, Option, Some, None, is_some, if◌then◌else◌, refl, ap, sym, ◌∙◌, subst, arith}
use Rattle.std.specs.List.{AllByRecursion}
use Rattle.std.proofs.lemmas.Bool.{false≢true}
use Rattle.std.proofs.lemmas.Grind.{common_steps}
use Rattle.drv_chains.specs.declared.members.Member.{Member}
use Rattle.drv_chains.specs.declared.members.Predecessor.{Predecessor}
use Rattle.drv_chains.specs.declared.members.Predecessor.TheVariants.{After}
use Rattle.drv_chains.specs.Chains.{word_after}
use Rattle.drv_chains.specs.Stores.{IsChain, is_among, stored}

abbrev pub Links : Type 0
Links = Predecessor → Option Member

-- what one comes to is one list
none_some : (o : Option Member) (m : Member) → o ≡ None → o ≡ Some m → ⊥
none_some None m a b = false≢true (ap is_some b)
none_some (Some x) m a b = false≢true (sym (ap is_some a))

some_same : (o : Option Member) (m n : Member) → o ≡ Some m → o ≡ Some n → m ≡ n
some_same None m n a b = absurd (false≢true (ap is_some a))
some_same (Some x) m n a b = cc

same_chain : (links : Links) (word : Predecessor) (xs ys : List Member) → IsChain links word xs → IsChain links word ys → xs ≡ ys
unfolding IsChain
same_chain links word [] [] a b = refl
same_chain links word [] (y ∷ ys) a b = absurd (none_some (links word) y a b.0)
same_chain links word (x ∷ xs) [] a b = absurd (none_some (links word) x b a.0)
same_chain links word (x ∷ xs) (y ∷ ys) a b =
    let e : x ≡ y = some_same (links word) x y a.0 b.0 in
    let r : xs ≡ ys = same_chain links (After x) xs ys a.1 (subst (λ (z : Member). IsChain links (After z) ys) (sym e) b.1) in
    ap (λ z. z ∷ xs) e ∙ ap (λ zs. y ∷ zs) r

-- the chain behind some of the members
pub rest_of : (links : Links) (word : Predecessor) (a b : List Member) → IsChain links word (a ++ b) → IsChain links (word_after word a) b
unfolding IsChain word_after
rest_of links word [] b h = h
rest_of links word (m ∷ a) b h = rest_of links (After m) a b h.1

-- the same members behind a word that leads to the same, over links that are the same behind it
pub led : (links now : Links) (v u : Predecessor) (b : List Member) → IsChain links v b → now u ≡ links v → AllByRecursion (λ w. now w ≡ links w) (map After b) → IsChain now u b
unfolding IsChain
led links now v u [] h e k = e ∙ h
led links now v u (m ∷ b) h e k = (e ∙ h.0, led links now (After m) (After m) b h.1 k.0 k.1)

pub not_true : (b : Bool) → (b ≡ true → ⊥) → b ≡ false
not_true true h = absurd (h refl)
not_true false h = refl

too_long : (m : Member) (b c : List Member) → length (m ∷ b) ≤ length c → c ≡ b → ⊥
too_long m b c l e = let k : length c ≡ length b = ap length e in omega (arith, l, k)

shorter : (m : Member) (b c : List Member) → length (m ∷ b) ≤ length c → length b ≤ length c
shorter m b c l = omega (arith, l)

-- no word behind p in its chain is p
pub apart_behind : (links : Links) (test : Predecessor → Bool) (p v : Predecessor) (b c : List Member) → IsChain links p c → IsChain links v b → length b ≤ length c → AllByRecursion (λ w. test w ≡ true → w ≡ p) (map After b) → AllByRecursion (λ w. test w ≡ false) (map After b)
unfolding IsChain
apart_behind links test p v [] c hc hb l k = tt
apart_behind links test p v (m ∷ b) c hc hb l k = (
  not_true (test (After m)) (λ t. too_long m b c l (same_chain links p c b hc (subst (λ (w : Predecessor). IsChain links w b) (k.0 t) hb.1))),
  apart_behind links test p (After m) b c hc hb.1 (shorter m b c l) k.1,
)

pub all_append : {X : Type 0} (P : X → Type 0) (t : Member → X) (a b : List Member) → AllByRecursion P (map t (a ++ b)) → AllByRecursion P (map t b)
all_append P t [] b h = h
all_append P t (m ∷ a) b h = all_append P t a b h.1

not_longer : (m : Member) (a b : List Member) → length ((m ∷ a) ++ b) ≡ length b → ⊥
not_longer m a b k = grind (arith, common_steps, k)

longer_list : (m : Member) (a b : List Member) → (m ∷ a) ++ b ≡ b → ⊥
longer_list m a b e = let k : length ((m ∷ a) ++ b) ≡ length b = ap length e in not_longer m a b k

-- the word before a member isn't one that stands behind p again
before_p : (links : Links) (word p : Predecessor) (m : Member) (a b : List Member) → IsChain links word ((m ∷ a) ++ b) → p ≡ word_after word (m ∷ a) → word ≡ p → ⊥
before_p links word p m a b h e w =
    longer_list m a b (same_chain links p ((m ∷ a) ++ b) b (subst (λ (x : Predecessor). IsChain links x ((m ∷ a) ++ b)) w h) (subst (λ (x : Predecessor). IsChain links x b) (sym e) (rest_of links word (m ∷ a) b h)))

off : (links : Links) (words : List Predecessor) (to : Option Member) (w : Predecessor) → is_among words w ≡ false → stored links words to w ≡ links w
off links words to w e = ap (λ t. if t then to else links w) e

pub all_off : (links : Links) (words : List Predecessor) (to : Option Member) (b : List Member) → AllByRecursion (λ w. is_among words w ≡ false) (map After b) → AllByRecursion (λ w. stored links words to w ≡ links w) (map After b)
all_off links words to [] k = tt
all_off links words to (m ∷ b) k = (off links words to (After m) k.0, all_off links words to b k.1)

on : (links : Links) (words : List Predecessor) (to : Option Member) (w : Predecessor) → is_among words w ≡ true → stored links words to w ≡ to
on links words to w e = ap (λ t. if t then to else links w) e

-- a chain none of whose words is stored
pub untouched : (links : Links) (words : List Predecessor) (to : Option Member) (word : Predecessor) (ms : List Member) → IsChain links word ms → is_among words word ≡ false → AllByRecursion (λ w. is_among words w ≡ false) (map After ms) → IsChain (stored links words to) word ms
untouched links words to word ms h e k = led links (stored links words to) word word ms h (off links words to word e) (all_off links words to ms k)

same_length : (b : List Member) → length b ≤ length b
same_length b = omega arith

-- the word that leads to e's place is stored: e stands there
pub linked_in : (links : Links) (words : List Predecessor) (e : Member) (p : Predecessor) (b a : List Member) (word : Predecessor) → IsChain links word (a ++ b) → p ≡ word_after word a → links (After e) ≡ links p → is_among words p ≡ true → is_among words (After e) ≡ false
    → (is_among words word ≡ true → word ≡ p) → AllByRecursion (λ w. is_among words w ≡ true → w ≡ p) (map After (a ++ b)) → IsChain (stored links words (Some e)) word (a ++ e ∷ b)
unfolding IsChain word_after
linked_in links words e p b [] word h q s i o n k =
    let now = stored links words (Some e) in
    let hp : IsChain links p b = subst (λ (x : Predecessor). IsChain links x b) (sym q) h in (
      subst (λ (x : Predecessor). now x ≡ Some e) q (on links words (Some e) p i),
      led links now p (After e) b hp (off links words (Some e) (After e) o ∙ s) (all_off links words (Some e) b (apart_behind links (λ w. is_among words w) p p b b hp hp (same_length b) k)),
    )
linked_in links words e p b (m ∷ a) word h q s i o n k = (
  off links words (Some e) word (not_true (is_among words word) (λ t. before_p links word p m a b h q (n t))) ∙ h.0,
  linked_in links words e p b a (After m) h.1 q s i o k.0 k.1,
)

-- the word that leads to e is stored with e's link: e doesn't stand there any more
pub linked_out : (links : Links) (words : List Predecessor) (to : Option Member) (e : Member) (p : Predecessor) (b a : List Member) (word : Predecessor) → IsChain links word (a ++ e ∷ b) → p ≡ word_after word a → to ≡ links (After e) → is_among words p ≡ true
    → (is_among words word ≡ true → word ≡ p) → AllByRecursion (λ w. is_among words w ≡ true → w ≡ p) (map After (a ++ e ∷ b)) → IsChain (stored links words to) word (a ++ b)
unfolding IsChain word_after
linked_out links words to e p b [] word h q s i n k =
    let now = stored links words to in
    let hp : IsChain links p (e ∷ b) = subst (λ (x : Predecessor). IsChain links x (e ∷ b)) (sym q) h in
    let apart = apart_behind links (λ w. is_among words w) p p (e ∷ b) (e ∷ b) hp hp (same_length (e ∷ b)) k in
    led links now (After e) word b h.1 (subst (λ (x : Predecessor). now x ≡ links (After e)) q (on links words to p i ∙ s)) (all_off links words to b apart.1)
linked_out links words to e p b (m ∷ a) word h q s i n k = (
  off links words to word (not_true (is_among words word) (λ t. before_p links word p m a (e ∷ b) h q (n t))) ∙ h.0,
  linked_out links words to e p b a (After m) h.1 q s i k.0 k.1,
)
