-- One store keeps the words standing for the list.
use Rattle.std.proofs.Common.{◌≡◌, ℕ, zero, suc, ◌+◌, ◌<◌, Bool, true, false, List, [], ◌∷◌, ◌++◌, length, take, nat_eq, Some, None, Option, if◌then◌else◌, refl, ap, sym, ◌∙◌, subst, arith}
use Rattle.std.specs.Prelude.{◌||◌, option_map, option_and_then, is_some}
use Rattle.std.specs.List.{list_any, slice_get}
use Rattle.std.proofs.lemmas.Bool.{false≢true, eqb-true, eq-eqb, ltb-false}
use Rattle.std.proofs.lemmas.List.{take_all}
use Rattle.law_common.proofs.Booleans.{or_false, or_joined}
use Rattle.law_common.proofs.Numbers.{same_test}
use Rattle.drv_chains.proofs.Links.{not_true}
use Rattle.drv_chains.specs.declared.members.Member.{Member}
use Rattle.drv_chains.specs.declared.members.Predecessor.{Predecessor}
use Rattle.drv_chains.specs.declared.members.Predecessor.TheVariants.{Element, After}
use Rattle.drv_chains.specs.Chains.{Schedule, chain, id_of, successor}
use Rattle.drv_chains.specs.Stores.{is_made}
use Rattle.drv_members.specs.Members.{Members, IsKept, IsMember, is_linked, without_member, with_schedule, frame_of}
use Rattle.drv_periodic.specs.declared.work.Work.{Work}
use Rattle.drv_periodic.specs.declared.work.Store.{Store}
use Rattle.drv_periodic.specs.Periodic.{Periodic, link_to, address_of, words_of, value_of, store_at, store_of, next_store, is_more, members_after, after_work, after_store}
use Rattle.claims_driver.specs.FrameWords.{Leads, is_at, set_all, old_of, made_of, AllLead, Begun, StandsBy, StandFor, HasMember}
use Rattle.law_frame_words.specs.frame_words.InWords.{IsSpread, new_of, shown, with_value}
use Rattle.law_frame_words.proofs.lemmas.frame_words.Half.{all_words, linked_half, unlinked_half, all_done}

-- the same words lead to the same
pub leads_same : (list : ℕ) (word now : ℕ → ℕ) (p : Predecessor) (ms : List Member) → ((at : ℕ) → now at ≡ word at) → Leads list word p ms → Leads list now p ms
unfolding Leads
leads_same list word now p [] e h = e (address_of list p) ∙ h
leads_same list word now p (m ∷ ms) e h = (e (address_of list p) ∙ h.0, leads_same list word now (After m) ms e h.1)

-- each frame while something is under way
half_by : (list : ℕ) (s : Schedule) (m : Member) (b : Bool) (n f : ℕ) (before : ℕ → ℕ) → IsKept s → IsSpread list s → IsMember m → is_linked s m ≡ true → f < 1024
    → AllLead list before (if b then s else without_member s m) → before (address_of list (After m)) ≡ link_to (successor s m (frame_of m))
    → Leads list (set_all list (take n (all_words s m)) (if b then link_to (successor s m (frame_of m)) else id_of m) before) (Element f)
    (if is_made s m (take n (all_words s m)) f then chain (if b then without_member s m else s) f else chain (if b then s else without_member s m) f)
half_by list s m true n f before k sp i h l stood own = unlinked_half list s m before n f k sp i h l stood own
half_by list s m false n f before k sp i h l stood own = linked_half list s m before n f k sp i h l stood own

pub frames_while_under_way : (list : ℕ) (s : Schedule) (w : Work) (word : ℕ → ℕ) (f : ℕ) → IsKept s → IsSpread list s → IsMember w.member → is_linked s w.member ≡ true → Begun list s w word → f < 1024 → Leads list word (Element f) (shown s w f)
frames_while_under_way list s w word f k sp i h b l =
    leads_same list (set_all list (made_of s w) (value_of s w) b.before) word (Element f) (shown s w f) b.since
    (half_by list s w.member w.removes w.made f b.before k sp i h l b.stood b.own)

-- the stored words, one more
abbrev first_or : {X : Type 0} → Option X → X → X
first_or None x = x
first_or (Some y) x = y

take_next : {X : Type 0} (n : ℕ) (xs : List X) (x : X) → slice_get xs n ≡ Some x → take (suc n) xs ≡ take n xs ++ x ∷ []
take_next zero [] x e = absurd (false≢true (ap is_some e))
take_next zero (y ∷ xs) x e = ap (λ o. first_or o x ∷ []) e
take_next (suc n) [] x e = absurd (false≢true (ap is_some e))
take_next (suc n) (y ∷ xs) x e = ap (λ zs. y ∷ zs) (take_next n xs x e)

any_last : {X : Type 0} (p : X → Bool) (xs : List X) (x : X) → list_any p (xs ++ x ∷ []) ≡ (list_any p xs || p x)
any_last p [] x = or_false (p x)
any_last p (y ∷ xs) x = ap (λ b. p y || b) (any_last p xs x) ∙ or_joined (p y) (list_any p xs) (p x)

turned_by : (a b : ℕ) (c : Bool) → nat_eq a b ≡ c → nat_eq b a ≡ c
turned_by a b true e = eq-eqb b a (sym (eqb-true a b e))
turned_by a b false e = not_true (nat_eq b a) (λ t. false≢true (sym e ∙ eq-eqb a b (sym (eqb-true b a t))))

joined : (a c : Bool) (v n : ℕ) → (if c then v else (if a then v else n)) ≡ (if a || c then v else n)
joined true true v n = refl
joined true false v n = refl
joined false c v n = refl

more_set : (list : ℕ) (ps : List Predecessor) (x : Predecessor) (v : ℕ) (before word : ℕ → ℕ) → ((at : ℕ) → word at ≡ set_all list ps v before at) → (at : ℕ) → with_value word (address_of list x) v at ≡ set_all list (ps ++ x ∷ []) v before at
more_set list ps x v before word since at =
    ap (λ n. if nat_eq at (address_of list x) then v else n) (since at) ∙ ap (λ c. if c then v else (if list_any (is_at list at) ps then v else before at)) (same_test at (address_of list x))
    ∙ joined (list_any (is_at list at) ps) (nat_eq (address_of list x) at) v (before at) ∙ ap (λ b. if b then v else before at) (sym (any_last (is_at list at) ps x))

-- the store that comes next
record IsNext (list : ℕ) (s : Schedule) (w : Work) (st : Store) : Type 0 where
  word : Predecessor
  there : slice_get (words_of s w) w.made ≡ Some word
  at : st.at ≡ address_of list word
  value : st.value ≡ value_of s w

abbrev store_or : Option Store → Store → Store
store_or None x = x
store_or (Some y) x = y

some_same : (a b : Store) → Some a ≡ Some b → b ≡ a
some_same a b e = sym (ap (λ o. store_or o a) e)

next_by : (list : ℕ) (s : Schedule) (w : Work) (st : Store) (o : Option Predecessor) → slice_get (words_of s w) w.made ≡ o → option_map (λ word. store_at list word (value_of s w)) o ≡ Some st → IsNext list s w st
next_by list s w st None e h = absurd (false≢true (ap is_some h))
next_by list s w st (Some x) e h =
    let same = some_same (store_at list x (value_of s w)) st h in
    record { word = x; there = e; at = ap (λ y. y.at) same; value = ap (λ y. y.value) same }

is_next : (list : ℕ) (s : Schedule) (w : Work) (st : Store) → store_of list s w ≡ Some st → IsNext list s w st
is_next list s w st h = next_by list s w st (slice_get (words_of s w) w.made) refl h

plus_one : (n : ℕ) → suc n ≡ n + 1
plus_one n = omega arith

stored_now : (list : ℕ) (s : Schedule) (w : Work) (st : Store) (word : ℕ → ℕ) → (b : Begun list s w word) → IsNext list s w st → (at : ℕ) → with_value word st.at st.value at ≡ set_all list (take (w.made + 1) (words_of s w)) (value_of s w) b.before at
stored_now list s w st word b n at =
    ap (λ a. with_value word a st.value at) n.at ∙ ap (λ v. with_value word (address_of list n.word) v at) n.value
    ∙ more_set list (made_of s w) n.word (value_of s w) b.before word b.since at
    ∙ ap (λ ps. set_all list ps (value_of s w) b.before at) (sym (take_next w.made (words_of s w) n.word n.there) ∙ ap (λ k. take k (words_of s w)) (plus_one w.made))

-- after the last store
final_by : (list : ℕ) (s : Schedule) (m : Member) (b : Bool) (f : ℕ) (word : ℕ → ℕ) → IsKept s → IsMember m → is_linked s m ≡ true → f < 1024
    → Leads list word (Element f) (if is_made s m (all_words s m) f then chain (if b then without_member s m else s) f else chain (if b then s else without_member s m) f)
    → Leads list word (Element f) (chain (if b then without_member s m else s) f)
final_by list s m true f word k i h l c = subst (λ ms. Leads list word (Element f) ms) (all_done s m f k i h l).1 c
final_by list s m false f word k i h l c = subst (λ ms. Leads list word (Element f) ms) (all_done s m f k i h l).0 c

schedule_after : (m : Members) (w : Work) (b : Bool) → (if b then without_member m.schedule w.member else m.schedule) ≡ (if b then with_schedule m (without_member m.schedule w.member) else m).schedule
schedule_after m w true = refl
schedule_after m w false = refl

at_last : (list : ℕ) (m : Members) (w : Work) (st : Store) (word : ℕ → ℕ) → IsKept m.schedule → IsSpread list m.schedule → IsMember w.member → is_linked m.schedule w.member ≡ true → Begun list m.schedule w word → IsNext list m.schedule w st
    → is_more m.schedule w ≡ false → AllLead list (with_value word st.at st.value) (members_after m w).schedule
at_last list m w st word k sp i h b n e f l =
    let s = m.schedule in
    let long = ltb-false (w.made + 1) (length (words_of s w)) e in
    let all : take (w.made + 1) (words_of s w) ≡ words_of s w = take_all (w.made + 1) (words_of s w) long in
    let half = half_by list s w.member w.removes (w.made + 1) f b.before k sp i h l b.stood b.own in
    let now = leads_same list (set_all list (take (w.made + 1) (words_of s w)) (value_of s w) b.before) (with_value word st.at st.value) (Element f)
    (if is_made s w.member (take (w.made + 1) (words_of s w)) f then chain (new_of s w) f else chain (old_of s w) f) (stored_now list s w st word b n) half in
    subst (λ (x : Schedule). Leads list (with_value word st.at st.value) (Element f) (chain x f)) (schedule_after m w w.removes)
    (final_by list s w.member w.removes f (with_value word st.at st.value) k i h l
    (subst (λ ps. Leads list (with_value word st.at st.value) (Element f) (if is_made s w.member ps f then chain (new_of s w) f else chain (old_of s w) f)) all now))

-- a store
by_more : (list : ℕ) (m : Members) (w : Work) (st : Store) (word : ℕ → ℕ) (c : Bool) → is_more m.schedule w ≡ c → IsKept m.schedule → IsSpread list m.schedule → IsMember w.member → is_linked m.schedule w.member ≡ true → Begun list m.schedule w word
    → IsNext list m.schedule w st
    → StandFor (if c then record { list = list; members = m; work = Some (record w { made = w.made + 1 }) } else record { list = list; members = members_after m w; work = None }) (with_value word st.at st.value)
by_more list m w st word true e k sp i h b n = record { before = b.before; stood = b.stood; own = b.own; since = stored_now list m.schedule w st word b n }
by_more list m w st word false e k sp i h b n = at_last list m w st word k sp i h b n e

by_work : (list : ℕ) (m : Members) (o : Option Work) (st : Store) (word : ℕ → ℕ) → IsKept m.schedule → IsSpread list m.schedule → HasMember m.schedule o → StandsBy list m.schedule o word
    → option_and_then (λ w. store_of list m.schedule w) o ≡ Some st → StandFor (after_work (record { list = list; members = m; work = o }) o) (with_value word st.at st.value)
by_work list m None st word k sp h b e = absurd (false≢true (ap is_some e))
by_work list m (Some w) st word k sp h b e = by_more list m w st word (is_more m.schedule w) refl k sp h.0 h.1 b (is_next list m.schedule w st e)

pub one_store : (p : Periodic) (st : Store) (word : ℕ → ℕ) → IsKept p.members.schedule → IsSpread p.list p.members.schedule → HasMember p.members.schedule p.work → StandFor p word → next_store p ≡ Some st
    → StandFor (after_store p) (with_value word st.at st.value)
one_store p st word k sp h b e = by_work p.list p.members p.work st word k sp h b e
