-- The link that a word is: which member has this name.
use Rattle.std.proofs.Common.{◌≡◌, ℕ, ◌+◌, ◌*◌, ◌/◌, ◌<◌, ◌≤◌, Bool, true, false, List, [], ◌∷◌, ◌++◌, cond, nat_eq, ◌⊎◌, inl, inr, Some, None, Option, if◌then◌else◌, refl, ap, sym, ◌∙◌, arith}
use Rattle.std.specs.Prelude.{◌||◌, is_some}
use Rattle.std.specs.List.{AllByRecursion, list_any, find}
use Rattle.std.proofs.lemmas.Bool.{false≢true, eqb-true, eq-eqb, ne_eqb}
use Rattle.law_common.proofs.Lists.{each_none}
use Rattle.law_frame_words.proofs.Common.{word_itself}
use Rattle.drv_chains.specs.declared.members.Descriptor.{Descriptor}
use Rattle.drv_chains.specs.declared.members.QueueHead.{QueueHead}
use Rattle.drv_chains.specs.declared.members.Member.{Member}
use Rattle.drv_chains.specs.declared.members.Member.TheVariants.{Once, Each}
use Rattle.drv_chains.specs.declared.members.Predecessor.{Predecessor}
use Rattle.drv_chains.specs.declared.members.Predecessor.TheVariants.{Element, After}
use Rattle.drv_chains.specs.Chains.{Schedule, id_of}
use Rattle.drv_chains.specs.Stores.{IsChain, is_word, is_among, stored}
use Rattle.drv_chains.proofs.Following.{one_word}
use Rattle.drv_members.specs.Ranks.{is_named, is_called}
use Rattle.drv_members.specs.Members.{IsKept, is_linked}
use Rattle.drv_members.proofs.Keeping.{queue_at, descriptor_at, queue_alone}
use Rattle.drv_periodic.specs.Periodic.{link_to, address_of}
use Rattle.claims_driver.specs.FrameWords.{Leads, is_at, set_all}
use Rattle.law_frame_words.specs.frame_words.InWords.{IsSpread}

abbrev stranger : ℕ → Member
stranger n = Each (record { id = n; period = 0; phase = 0 })

abbrev pub pick : ℕ → Option Descriptor → Option QueueHead → Member
pick n (Some d) q = Once d
pick n None (Some q) = Each q
pick n None None = stranger n

abbrev pub member_of : Schedule → ℕ → Member
member_of s n = pick n (find (is_called n) s.descriptors) (find (is_named n) s.queues)

abbrev pub decoded : Schedule → ℕ → Option Member
decoded s n = if nat_eq n 1 then None else Some (member_of s n)

abbrev pub links_by : ℕ → Schedule → (ℕ → ℕ) → Predecessor → Option Member
links_by list s word p = decoded s (word (address_of list p))

-- what is found passes
Found : {X : Type 0} → (X → Bool) → Option X → Type 0
Found p None = Unit {0}
Found p (Some x) = p x ≡ true

found_or_not : {X : Type 0} (p : X → Bool) (x : X) (o : Option X) (b : Bool) → p x ≡ b → Found p o → Found p (cond b (Some x) o)
unfolding Found
found_or_not p x o true e h = e
found_or_not p x o false e h = h

found_passes : {X : Type 0} (p : X → Bool) (xs : List X) → Found p (find p xs)
unfolding Found
found_passes p [] = tt
found_passes p (x ∷ xs) = found_or_not p x (find p xs) (p x) refl (found_passes p xs)

picked : (n : ℕ) (a : Option Descriptor) (b : Option QueueHead) → Found (is_called n) a → Found (is_named n) b → id_of (pick n a b) ≡ n
unfolding Found
picked n (Some d) b h k = eqb-true d.id n h
picked n None (Some q) h k = eqb-true q.id n k
picked n None None h k = refl

pub name_is : (s : Schedule) (n : ℕ) → id_of (member_of s n) ≡ n
name_is s n = picked n (find (is_called n) s.descriptors) (find (is_named n) s.queues) (found_passes (is_called n) s.descriptors) (found_passes (is_named n) s.queues)

find_one : {X : Type 0} (p : X → Bool) (x : X) (front back : List X) → AllByRecursion (λ y. p y ≡ false) front → p x ≡ true → find p (front ++ x ∷ back) ≡ Some x
find_one p x [] back h k = ap (λ b. cond b (Some x) (find p back)) k
find_one p x (y ∷ front) back h k = ap (λ b. cond b (Some y) (find p (front ++ x ∷ back))) h.0 ∙ find_one p x front back h.1 k

pub member_is : (s : Schedule) (m : Member) → IsKept s → is_linked s m ≡ true → member_of s (id_of m) ≡ m
member_is s (Once d) k h =
    let at = descriptor_at s d k h in
    ap (λ o. pick d.id o (find (is_named d.id) s.queues)) (ap (λ ds. find (is_called d.id) ds) at.is ∙ find_one (is_called d.id) d at.front at.back at.before (eq-eqb d.id d.id refl))
member_is s (Each q) k h =
    let at = queue_at s q k h in
    ap (λ o. pick q.id o (find (is_named q.id) s.queues)) (each_none (is_called q.id) s.descriptors (queue_alone s q k at))
    ∙ ap (λ o. pick q.id None o) (ap (λ qs. find (is_named q.id) qs) at.is ∙ find_one (is_named q.id) q at.front at.back at.before (eq-eqb q.id q.id refl))

abbrev pub IsIn : Schedule → Member → Type 0
IsIn s m = is_linked s m ≡ true

abbrev pub IsInOr : Schedule → Option Member → Type 0
IsInOr s None = Unit {0}
IsInOr s (Some m) = IsIn s m

pub decoded_link : (list : ℕ) (s : Schedule) (o : Option Member) → IsKept s → IsSpread list s → IsInOr s o → decoded s (link_to o) ≡ o
decoded_link list s None k sp h = refl
decoded_link list s (Some m) k sp h = ap (λ b. if b then None else Some (member_of s (id_of m))) (ne_eqb (id_of m) 1 (sp.named m h)) ∙ ap Some (member_is s m k h)

-- from words to links and back
pub linked_by : (list : ℕ) (s : Schedule) (word : ℕ → ℕ) (p : Predecessor) (ms : List Member) → IsKept s → IsSpread list s → AllByRecursion (IsIn s) ms → Leads list word p ms → IsChain (links_by list s word) p ms
unfolding Leads IsChain
linked_by list s word p [] k sp h l = ap (λ n. decoded s n) l
linked_by list s word p (m ∷ ms) k sp h l = (ap (λ n. decoded s n) l.0 ∙ decoded_link list s (Some m) k sp h.0, linked_by list s word (After m) ms k sp h.1 l.1)

is_end : (s : Schedule) (n : ℕ) (b : Bool) → nat_eq n 1 ≡ b → (if b then None else Some (member_of s n)) ≡ None → n ≡ 1
is_end s n true e h = eqb-true n 1 e
is_end s n false e h = absurd (false≢true (sym (ap is_some h)))

abbrev or_else : Option Member → Member → Member
or_else None m = m
or_else (Some x) m = x

same_some : (a b : Member) → Some a ≡ Some b → a ≡ b
same_some a b h = ap (λ o. or_else o a) h

is_one : (s : Schedule) (n : ℕ) (m : Member) (b : Bool) → nat_eq n 1 ≡ b → (if b then None else Some (member_of s n)) ≡ Some m → n ≡ id_of m
is_one s n m true e h = absurd (false≢true (ap is_some h))
is_one s n m false e h = sym (name_is s n) ∙ ap id_of (same_some (member_of s n) m h)

pub leads_by : (list : ℕ) (s : Schedule) (word : ℕ → ℕ) (p : Predecessor) (ms : List Member) → IsChain (links_by list s word) p ms → Leads list word p ms
unfolding Leads IsChain
leads_by list s word p [] h = is_end s (word (address_of list p)) (nat_eq (word (address_of list p)) 1) refl h
leads_by list s word p (m ∷ ms) h = (is_one s (word (address_of list p)) m (nat_eq (word (address_of list p)) 1) refl h.0, leads_by list s word (After m) ms h.1)

-- words of the schedule
abbrev pub IsWordOf : Schedule → Predecessor → Type 0
IsWordOf s (Element f) = f < 1024
IsWordOf s (After m) = IsIn s m

two_elements : (list f g : ℕ) → 32 * list + 4 * f ≡ 32 * list + 4 * g → f ≡ g
two_elements list f g h = omega (arith, h)

element_apart : (list f b : ℕ) → f < 1024 → (b < list) ⊎ (list + 128 ≤ b) → 32 * list + 4 * f ≡ b * 32 → ⊥
element_apart list f b l h e = elim h [
  | inl x ↦ omega (arith, l, x, e)
  | inr x ↦ omega (arith, l, x, e)
]

two_blocks : (a b : ℕ) → a * 32 ≡ b * 32 → a ≡ b
two_blocks a b h = omega (arith, h)

one_address : (list : ℕ) (s : Schedule) (p q : Predecessor) → IsSpread list s → IsWordOf s p → IsWordOf s q → address_of list p ≡ address_of list q → p ≡ q
one_address list s (Element f) (Element g) sp h k e = ap Element (two_elements list f g e)
one_address list s (Element f) (After m) sp h k e = absurd (element_apart list f (id_of m / 32) h (sp.apart m k) e)
one_address list s (After m) (Element g) sp h k e = absurd (element_apart list g (id_of m / 32) k (sp.apart m h) (sym e))
one_address list s (After m) (After n) sp h k e = ap After (sp.once m n h k (two_blocks (id_of m / 32) (id_of n / 32) e))

same_test : (list : ℕ) (s : Schedule) (p q : Predecessor) (b c : Bool) → IsSpread list s → IsWordOf s p → IsWordOf s q → is_at list (address_of list q) p ≡ b → is_word p q ≡ c → b ≡ c
same_test list s p q true true sp h k e f = refl
same_test list s p q false false sp h k e f = refl
same_test list s p q true false sp h k e f =
    let same = one_address list s p q sp h k (eqb-true (address_of list p) (address_of list q) e) in
    absurd (false≢true (sym f ∙ ap (λ x. is_word p x) (sym same) ∙ word_itself p))
same_test list s p q false true sp h k e f = absurd (false≢true (sym e ∙ eq-eqb (address_of list p) (address_of list q) (ap (λ x. address_of list x) (one_word p q f))))

pub same_among : (list : ℕ) (s : Schedule) (ps : List Predecessor) (q : Predecessor) → IsSpread list s → AllByRecursion (IsWordOf s) ps → IsWordOf s q → list_any (is_at list (address_of list q)) ps ≡ is_among ps q
same_among list s [] q sp h k = refl
same_among list s (p ∷ ps) q sp h k =
    ap (λ b. b || list_any (is_at list (address_of list q)) ps) (same_test list s p q (is_at list (address_of list q) p) (is_word p q) sp h.0 k refl refl) ∙ ap (λ b. is_word p q || b) (same_among list s ps q sp h.1 k)

-- a value stored into words is a link stored
value_or_not : (list : ℕ) (s : Schedule) (o : Option Member) (n : ℕ) (b : Bool) → IsKept s → IsSpread list s → IsInOr s o → decoded s (if b then link_to o else n) ≡ (if b then o else decoded s n)
value_or_not list s o n true k sp h = decoded_link list s o k sp h
value_or_not list s o n false k sp h = refl

pub same_links : (list : ℕ) (s : Schedule) (word : ℕ → ℕ) (ps : List Predecessor) (o : Option Member) (q : Predecessor) → IsKept s → IsSpread list s → IsInOr s o → AllByRecursion (IsWordOf s) ps → IsWordOf s q
    → links_by list s (set_all list ps (link_to o) word) q ≡ stored (links_by list s word) ps o q
same_links list s word ps o q k sp h a i =
    value_or_not list s o (word (address_of list q)) (list_any (is_at list (address_of list q)) ps) k sp h
    ∙ ap (λ b. if b then o else decoded s (word (address_of list q))) (same_among list s ps q sp a i)
