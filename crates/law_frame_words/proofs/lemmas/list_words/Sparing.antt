-- Words that stand for a list stand for it wherever its own words are left.
use Rattle.std.proofs.Common.{◌≡◌, ◌≢◌, ℕ, Bool, true, false, List, [], ◌∷◌, nat_eq, Option, Some, None, if◌then◌else◌, inl, inr, ap, refl, subst, ◌∙◌}
use Rattle.std.specs.List.{AllByRecursion, list_any}
use Rattle.std.proofs.lemmas.Bool.{or_cases, eqb-true}
use Rattle.drv_chains.specs.declared.members.Member.{Member}
use Rattle.drv_chains.specs.declared.members.Predecessor.{Predecessor}
use Rattle.drv_chains.specs.declared.members.Predecessor.TheVariants.{Element, After}
use Rattle.drv_chains.specs.Chains.{Schedule, chain}
use Rattle.drv_chains.proofs.Linking.{weaken}
use Rattle.drv_chains.proofs.Following.{first_ones}
use Rattle.drv_members.specs.Members.{IsKept, without_member, is_linked}
use Rattle.drv_members.proofs.Keeping.{keeps_without}
use Rattle.drv_periodic.specs.declared.work.Work.{Work}
use Rattle.drv_periodic.specs.Periodic.{Periodic, address_of, words_of, value_of}
use Rattle.claims_driver.specs.FrameWords.{Leads, is_at, set_all, old_of, made_of, AllLead, Begun, StandsBy, HasMember, IsInOrder, StandFor}
use Rattle.law_frame_words.specs.frame_words.InWords.{with_value}
use Rattle.law_frame_words.proofs.lemmas.frame_words.Decoded.{IsIn, IsWordOf}
use Rattle.law_frame_words.proofs.lemmas.frame_words.InChains.{chain_in, fewer_in, words_in}
use Rattle.law_frame_words.specs.list_words.Spared.{IsItsWord, LeavesList}

-- ---- the same words

abbrev LeavesWords : ℕ → Schedule → (ℕ → ℕ) → (ℕ → ℕ) → Type 0
LeavesWords list s word now = (w : Predecessor) → IsWordOf s w → now (address_of list w) ≡ word (address_of list w)

lead_on : (list : ℕ) (s : Schedule) (word now : ℕ → ℕ) (p : Predecessor) (ms : List Member) → LeavesWords list s word now → IsWordOf s p → AllByRecursion (IsIn s) ms → Leads list word p ms → Leads list now p ms
unfolding Leads
lead_on list s word now p [] leaves is all l = leaves p is ∙ l
lead_on list s word now p (m ∷ ms) leaves is all l = (leaves p is ∙ l.0, lead_on list s word now (After m) ms leaves all.0 all.1 l.1)

all_on : (list : ℕ) (s o : Schedule) (word now : ℕ → ℕ) → LeavesWords list s word now → ((f : ℕ) → AllByRecursion (IsIn s) (chain o f)) → AllLead list word o → AllLead list now o
all_on list s o word now leaves inside stood f below = lead_on list s word now (Element f) (chain o f) leaves below (inside f) (stood f below)

old_by : (s : Schedule) (m : Member) (removes : Bool) (f : ℕ) → IsKept s → AllByRecursion (IsIn s) (chain (if removes then s else without_member s m) f)
old_by s m true f kept = chain_in s f kept
old_by s m false f kept = weaken (IsIn (without_member s m)) (IsIn s) (λ x h. fewer_in s m x h) (chain (without_member s m) f) (chain_in (without_member s m) f (keeps_without s m kept))

old_in : (s : Schedule) (w : Work) (f : ℕ) → IsKept s → AllByRecursion (IsIn s) (chain (old_of s w) f)
old_in s w f kept = old_by s w.member w.removes f kept

-- ---- before what is under way

abbrev earlier : ℕ → List Predecessor → (ℕ → ℕ) → (ℕ → ℕ) → ℕ → ℕ
earlier list ps before now at = if list_any (is_at list at) ps then before at else now at

-- a word that was stored for it, and any other
stored_same : (list : ℕ) (s : Schedule) (word now : ℕ → ℕ) (ps : List Predecessor) (at : ℕ) → LeavesWords list s word now → AllByRecursion (IsWordOf s) ps → list_any (is_at list at) ps ≡ true → now at ≡ word at
stored_same list s word now [] at leaves all any = absurd cc
stored_same list s word now (p ∷ ps) at leaves all any = elim (or_cases (is_at list at p) (list_any (is_at list at) ps) any) [
  | inl here ↦ (let e : address_of list p ≡ at = eqb-true (address_of list p) at here in subst (λ (n : ℕ). now n ≡ word n) e (leaves p all.0))
  | inr later ↦ stored_same list s word now ps at leaves all.1 later
]

earlier_by : (list : ℕ) (ps : List Predecessor) (before now : ℕ → ℕ) (v at : ℕ) (b : Bool) → (b ≡ false → now at ≡ before at) → (if b then before at else now at) ≡ before at
earlier_by list ps before now v at true same = refl
earlier_by list ps before now v at false same = same refl

none_stored : (list : ℕ) (ps : List Predecessor) (v : ℕ) (before : ℕ → ℕ) (at : ℕ) → list_any (is_at list at) ps ≡ false → set_all list ps v before at ≡ before at
none_stored list ps v before at none = ap (λ (b : Bool). if b then v else before at) none

all_stored : (list : ℕ) (ps : List Predecessor) (v : ℕ) (before : ℕ → ℕ) (at : ℕ) → list_any (is_at list at) ps ≡ true → set_all list ps v before at ≡ v
all_stored list ps v before at any = ap (λ (b : Bool). if b then v else before at) any

earlier_leaves : (list : ℕ) (s : Schedule) (ps : List Predecessor) (v : ℕ) (before word now : ℕ → ℕ) → LeavesWords list s word now → ((at : ℕ) → word at ≡ set_all list ps v before at) → LeavesWords list s before (earlier list ps before now)
earlier_leaves list s ps v before word now leaves since w is =
    earlier_by list ps before now v (address_of list w) (list_any (is_at list (address_of list w)) ps)
    (λ none. leaves w is ∙ since (address_of list w) ∙ none_stored list ps v before (address_of list w) none)

since_by : (list : ℕ) (s : Schedule) (ps : List Predecessor) (v : ℕ) (before word now : ℕ → ℕ) (at : ℕ) (b : Bool) → LeavesWords list s word now → AllByRecursion (IsWordOf s) ps → word at ≡ set_all list ps v before at → list_any (is_at list at) ps ≡ b
    → now at ≡ (if b then v else (if b then before at else now at))
since_by list s ps v before word now at true leaves all since is = stored_same list s word now ps at leaves all is ∙ since ∙ all_stored list ps v before at is
since_by list s ps v before word now at false leaves all since is = refl

begun_on : (list : ℕ) (s : Schedule) (w : Work) (word now : ℕ → ℕ) → IsKept s → is_linked s w.member ≡ true → LeavesWords list s word now → Begun list s w word → Begun list s w now
begun_on list s w word now kept linked leaves k =
    let ps : List Predecessor = made_of s w in
    let all : AllByRecursion (IsWordOf s) ps = first_ones (IsWordOf s) w.made (words_of s w) (words_in s w.member kept) in
    let spared : LeavesWords list s k.before (earlier list ps k.before now) = earlier_leaves list s ps (value_of s w) k.before word now leaves k.since in
    record {
      before = earlier list ps k.before now;
      stood = all_on list s (old_of s w) k.before (earlier list ps k.before now) spared (λ f. old_in s w f kept) k.stood;
      own = spared (After w.member) linked ∙ k.own;
      since = λ at. since_by list s ps (value_of s w) k.before word now at (list_any (is_at list at) ps) leaves all (k.since at) refl;
    }

-- ---- the list

by_work : (list : ℕ) (s : Schedule) (o : Option Work) (word now : ℕ → ℕ) → IsKept s → HasMember s o → LeavesWords list s word now → StandsBy list s o word → StandsBy list s o now
by_work list s None word now kept member leaves stands = all_on list s s word now leaves (λ f. chain_in s f kept) stands
by_work list s (Some w) word now kept member leaves stands = begun_on list s w word now kept member.1 leaves stands

its_word : (p : Periodic) (w : Predecessor) → IsWordOf p.members.schedule w → IsItsWord p w
its_word p (Element f) is = is
its_word p (After m) is = is

pub what_leaves_its_words_leaves_the_list : (p : Periodic) (word now : ℕ → ℕ) → IsInOrder p → LeavesList p word now → StandFor p word
    → StandFor p now
what_leaves_its_words_leaves_the_list p word now order leaves stands = by_work p.list p.members.schedule p.work word now order.kept order.member (λ w is. leaves w (its_word p w is)) stands

-- ---- a store elsewhere

value_by : (word : ℕ → ℕ) (at v a : ℕ) (b : Bool) → nat_eq a at ≡ b → a ≢ at → (if b then v else word a) ≡ word a
value_by word at v a true is differs = absurd (differs (eqb-true a at is))
value_by word at v a false is differs = refl

pub a_store_elsewhere_leaves_them : (p : Periodic) (word : ℕ → ℕ) (at v : ℕ) → ((w : Predecessor) → IsItsWord p w → address_of p.list w ≢ at) → LeavesList p word (with_value word at v)
a_store_elsewhere_leaves_them p word at v apart w is =
    value_by word at v (address_of p.list w) (nat_eq (address_of p.list w) at) refl (apart w is)
