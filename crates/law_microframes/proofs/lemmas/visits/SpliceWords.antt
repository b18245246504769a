-- The next store of a frame list: where its word leads before it, and where the link of its member does.
use Rattle.std.proofs.Common.{◌≡◌, ℕ, zero, ◌<◌, Bool, true, false, List, [], ◌∷◌, ◌++◌, map, take, cond, nat_eq, inl, inr, Some, if◌then◌else◌, ⊎_elim, ap, refl, sym, subst, ◌∙◌}
use Rattle.std.specs.Prelude.{◌&&◌, filter, slice_get}
use Rattle.std.specs.List.{AllByRecursion, list_any, flat_map}
use Rattle.std.proofs.lemmas.Bool.{false≢true, eqb-true, and_parts, cases_Bool}
use Rattle.std.proofs.lemmas.List.{map-append, append_assoc}
use Rattle.std.proofs.lemmas.List.Elements.{filter-append}
use Rattle.law_common.proofs.Lists.{nth_all}
use Rattle.law_frame_words.proofs.Common.{frames_below}
use Rattle.drv_chains.specs.declared.members.Descriptor.{Descriptor}
use Rattle.drv_chains.specs.declared.members.QueueHead.{QueueHead}
use Rattle.drv_chains.specs.declared.members.Member.{Member}
use Rattle.drv_chains.specs.declared.members.Member.TheVariants.{Once, Each}
use Rattle.drv_chains.specs.declared.members.Predecessor.{Predecessor}
use Rattle.drv_chains.specs.declared.members.Predecessor.TheVariants.{Element, After}
use Rattle.drv_chains.specs.Order.{frames}
use Rattle.drv_chains.specs.Chains.{Schedule, of_lists, has_name, is_the, is_period, stands_in, has_word, id_of, queues_in, periods, first_frame, word_after, before_the, behind_the, first_of, chain, predecessor, predecessors, word_met, successor}
use Rattle.drv_chains.specs.Stores.{is_word, is_among, is_made}
use Rattle.drv_chains.proofs.Orders.{both_parts}
use Rattle.drv_chains.proofs.Words.{holds_after, after_all, all_kept, of_kept}
use Rattle.drv_chains.proofs.Beside.{once_in, among, none_named, left_false, front_of, each_map, ahead, behind, old_chain, new_chain, before_it, behind_it, word_is, next_is}
use Rattle.drv_chains.proofs.Following.{follows, first_ones}
use Rattle.drv_members.specs.Ranks.{is_named, is_called}
use Rattle.drv_members.specs.Members.{IsKept, IsMember, is_linked, without_member, frame_of}
use Rattle.drv_members.proofs.Splits.{IsAt}
use Rattle.drv_members.proofs.Keeping.{queue_at, queue_named, descriptor_at, descriptor_named}
use Rattle.drv_periodic.specs.declared.work.Work.{Work}
use Rattle.drv_periodic.specs.Periodic.{link_to, address_of, words_of, value_of}
use Rattle.claims_driver.specs.FrameWords.{Leads, is_at, old_of, made_of, Begun}
use Rattle.law_frame_words.specs.frame_words.InWords.{IsSpread, new_of}
use Rattle.law_frame_words.proofs.lemmas.frame_words.Decoded.{IsWordOf, same_among}
use Rattle.law_frame_words.proofs.lemmas.frame_words.InChains.{words_in}
use Rattle.law_frame_words.proofs.lemmas.frame_words.Stored.{queue_out, descriptor_out, queue_put, descriptor_put}
use Rattle.law_frame_words.proofs.lemmas.frame_words.Steps.{frames_while_under_way}
use Rattle.law_frame_list.proofs.lemmas.list_closed.Chained.{same_successor, other_words, none_among}
use Rattle.law_microframes.specs.visits.Splices.{passed, IsSplice, NextStoreSplices}

-- ---- a member among those of a chain

record IsAround (s : Schedule) (m : Member) (f : ℕ) : Type 0 where
  front : List Member
  back : List Member
  with_it : chain s f ≡ front ++ m ∷ back
  without : chain (without_member s m) f ≡ front ++ back
  word : predecessor s m f ≡ word_after (Element f) front
  next : successor s m f ≡ first_of back

queue_around : (s : Schedule) (q : QueueHead) (f : ℕ) → IsKept s → IsMember (Each q) → is_linked s (Each q) ≡ true → stands_in f (Each q) ≡ true → IsAround s (Each q) f
queue_around s q f kept is on stands =
    let at : IsAt (is_named q.id) q s.queues = queue_at s q kept on in
    let named = queue_named s q kept at in
    let period : is_period q.period ≡ true = (and_parts (is_period q.period) _ is).0 in
    record {
      front = ahead s.descriptors at.front at.back q f;
      back = behind at.front at.back q f;
      with_it = ap (λ (x : Schedule). chain x f) (queue_put s q at) ∙ new_chain s.descriptors at.front at.back q f period stands;
      without = ap (λ (x : Schedule). chain x f) (queue_out s q at) ∙ old_chain s.descriptors at.front at.back q f;
      word = ap (λ (x : Schedule). predecessor x (Each q) f) (queue_put s q at) ∙ word_is s.descriptors at.front at.back q f named period stands;
      next = ap (λ (x : Schedule). successor x (Each q) f) (queue_put s q at) ∙ next_is s.descriptors at.front at.back q f named period stands;
    }

abbrev pub queues_of : List QueueHead → ℕ → List Member
queues_of qs f = map Each (flat_map (queues_in (of_lists [] qs) f) periods)

abbrev pub rest_in : List Descriptor → List QueueHead → ℕ → List Member
rest_in ys qs f = once_in ys f ++ queues_of qs f

pub with_chain : (xs ys : List Descriptor) (d : Descriptor) (qs : List QueueHead) (f : ℕ) → nat_eq d.frame f ≡ true → chain (of_lists (xs ++ d ∷ ys) qs) f ≡ once_in xs f ++ Once d ∷ rest_in ys qs f
with_chain xs ys d qs f e =
    ap (λ (x : List Descriptor). map Once x ++ queues_of qs f) (among (λ x. nat_eq x.frame f) xs ys d e)
    ∙ ap (λ (x : List Member). x ++ queues_of qs f) (map-append Once (filter (λ x. nat_eq x.frame f) xs) (d ∷ filter (λ x. nat_eq x.frame f) ys))
    ∙ append_assoc (once_in xs f) (Once d ∷ once_in ys f) (queues_of qs f)

without_chain : (xs ys : List Descriptor) (qs : List QueueHead) (f : ℕ) → chain (of_lists (xs ++ ys) qs) f ≡ once_in xs f ++ rest_in ys qs f
without_chain xs ys qs f =
    ap (λ (x : List Descriptor). map Once x ++ queues_of qs f) (filter-append (λ x. nat_eq x.frame f) xs ys)
    ∙ ap (λ (x : List Member). x ++ queues_of qs f) (map-append Once (filter (λ x. nat_eq x.frame f) xs) (filter (λ x. nat_eq x.frame f) ys))
    ∙ append_assoc (once_in xs f) (once_in ys f) (queues_of qs f)

nothing_newer : (xs ys : List Descriptor) (d : Descriptor) (qs : List QueueHead) (f : ℕ) → has_name (of_lists (xs ++ ys) qs) d.id ≡ false → AllByRecursion (λ m. is_the (Once d) m ≡ false) (once_in xs f)
nothing_newer xs ys d qs f h =
    let k = left_false (list_any (λ x. nat_eq x.id d.id) (xs ++ ys)) (list_any (λ q. nat_eq q.id d.id) qs) h in
    each_map (λ m. is_the (Once d) m ≡ false) Once (filter (λ x. nat_eq x.frame f) xs)
    (all_kept (λ x. nat_eq x.id d.id ≡ false) (λ x. nat_eq x.frame f) xs (front_of (λ x. nat_eq x.id d.id ≡ false) xs ys (none_named (λ x. nat_eq x.id d.id) (xs ++ ys) k.0)))

descriptor_around : (s : Schedule) (d : Descriptor) (f : ℕ) → IsKept s → is_linked s (Once d) ≡ true → stands_in f (Once d) ≡ true → IsAround s (Once d) f
descriptor_around s d f kept on stands =
    let at : IsAt (is_called d.id) d s.descriptors = descriptor_at s d kept on in
    let named = descriptor_named s d kept at in
    let newer = nothing_newer at.front at.back d s.queues f named in
    let all : chain s f ≡ once_in at.front f ++ Once d ∷ rest_in at.back s.queues f
    = ap (λ (x : Schedule). chain x f) (descriptor_put s d at) ∙ with_chain at.front at.back d s.queues f stands in
    record {
      front = once_in at.front f;
      back = rest_in at.back s.queues f;
      with_it = all;
      without = ap (λ (x : Schedule). chain x f) (descriptor_out s d at) ∙ without_chain at.front at.back s.queues f;
      word = ap (λ (ms : List Member). word_after (Element f) (before_the (Once d) ms)) all
          ∙ ap (λ (ms : List Member). word_after (Element f) ms) (before_it (Once d) (once_in at.front f) (rest_in at.back s.queues f) newer);
      next = ap (λ (ms : List Member). first_of (behind_the (Once d) ms)) all
          ∙ ap (λ (ms : List Member). first_of ms) (behind_it (Once d) (once_in at.front f) (rest_in at.back s.queues f) newer);
    }

around : (s : Schedule) (m : Member) (f : ℕ) → IsKept s → IsMember m → is_linked s m ≡ true → stands_in f m ≡ true → IsAround s m f
around s (Once d) f kept is on stands = descriptor_around s d f kept on stands
around s (Each q) f kept is on stands = queue_around s q f kept is on stands

-- ---- where the word after some of them leads

leads_behind : (list : ℕ) (word : ℕ → ℕ) (p : Predecessor) (a b : List Member) → Leads list word p (a ++ b) → word (address_of list (word_after p a)) ≡ link_to (first_of b)
unfolding Leads word_after
leads_behind list word p [] [] led = led
leads_behind list word p [] (m ∷ ms) led = led.0
leads_behind list word p (m ∷ a) b led = leads_behind list word (After m) a b led.1

-- ---- each word that is stored comes right before the member in a frame

pub record IsBefore (s : Schedule) (m : Member) (p : Predecessor) : Type 0 where
  pub frame : ℕ
  pub below : frame < 1024
  pub stands : stands_in frame m ≡ true
  pub is : p ≡ predecessor s m frame

met_or_not : (s : Schedule) (m : Member) (f : ℕ) (b : Bool) → f < 1024 → stands_in f m ≡ true → AllByRecursion (IsBefore s m) (if b then predecessor s m f ∷ [] else [])
met_or_not s m f true below stands = (record { frame = f; below = below; stands = stands; is = refl }, tt)
met_or_not s m f false below stands = tt

stands_or_not : (s : Schedule) (m : Member) (f : ℕ) (fs : List ℕ) (b : Bool) → f < 1024 → stands_in f m ≡ b → AllByRecursion (IsBefore s m) (flat_map (word_met s m) fs)
    → AllByRecursion (IsBefore s m) (flat_map (word_met s m) (cond b (f ∷ fs) fs))
stands_or_not s m f fs true below stands all =
    both_parts (IsBefore s m) (word_met s m f) (flat_map (word_met s m) fs) (met_or_not s m f (nat_eq (first_frame (predecessor s m f)) f) below stands) all
stands_or_not s m f fs false below stands all = all

pub all_before : (s : Schedule) (m : Member) (fs : List ℕ) → AllByRecursion (λ f. f < 1024) fs → AllByRecursion (IsBefore s m) (predecessors s m fs)
unfolding predecessors
all_before s m [] below = tt
all_before s m (f ∷ fs) below = stands_or_not s m f (filter (λ g. stands_in g m) fs) (stands_in f m) below.0 refl (all_before s m fs below.1)

-- ---- the member stands in each frame that has the word

elsewhere : (xs : List Descriptor) (g f : ℕ) → nat_eq g f ≡ false → has_word f (word_after (Element g) (once_in xs g)) ≡ false
elsewhere xs g f e =
    holds_after (λ w. has_word f w ≡ false) (Element g) (once_in xs g) e
    (after_all (λ w. has_word f w ≡ false) (once_in xs g) (of_kept (λ m. has_word f (After m) ≡ false) Once (λ x. nat_eq x.frame g) (λ x h. ap (λ (n : ℕ). nat_eq n f) (eqb-true x.frame g h) ∙ e) xs))

descriptor_serves : (s : Schedule) (d : Descriptor) (f g : ℕ) (b : Bool) → IsKept s → is_linked s (Once d) ≡ true → nat_eq d.frame g ≡ true → nat_eq d.frame f ≡ b → has_word f (predecessor s (Once d) g) ≡ true → b ≡ true
unfolding descriptor_around
descriptor_serves s d f g true kept on stands is has = refl
descriptor_serves s d f g false kept on stands is has =
    let at : IsAt (is_called d.id) d s.descriptors = descriptor_at s d kept on in
    let a = descriptor_around s d g kept on stands in
    let other : nat_eq g f ≡ false = ap (λ (n : ℕ). nat_eq n f) (sym (eqb-true d.frame g stands)) ∙ is in
    absurd (false≢true (sym (elsewhere at.front g f other) ∙ sym (ap (has_word f) a.word) ∙ has))

pub serves_by : (s : Schedule) (m : Member) (f g : ℕ) → IsKept s → IsMember m → is_linked s m ≡ true → stands_in g m ≡ true
    → has_word f (predecessor s m g) ≡ true → stands_in f m ≡ true
serves_by s (Once d) f g kept is on stands has = descriptor_serves s d f g (nat_eq d.frame f) kept on stands refl has
serves_by s (Each q) f g kept is on stands has =
    let at : IsAt (is_named q.id) q s.queues = queue_at s q kept on in
    let named = queue_named s q kept at in
    let period : is_period q.period ≡ true = (and_parts (is_period q.period) _ is).0 in
    (follows s.descriptors at.front at.back q f g named period stands (ap (λ (x : Schedule). has_word f (predecessor x (Each q) g)) (sym (queue_put s q at)) ∙ has)).0

-- ---- where its word leads before the store

chosen : (a b : Bool) (v n : ℕ) → a ≡ true → (if a then v else n) ≡ v
chosen a b v n is = ap (λ (c : Bool). if c then v else n) is

module _ (list : ℕ) (s : Schedule) (w : Work) (word : ℕ → ℕ) (kept : IsKept s) (spread : IsSpread list s) (is : IsMember w.member) (on : is_linked s w.member ≡ true) (k : Begun list s w word) where
  all_words_in : AllByRecursion (IsWordOf s) (made_of s w)
  all_words_in = first_ones (IsWordOf s) w.made (words_of s w) (words_in s w.member kept)

  own_kept : word (address_of list (After w.member)) ≡ k.before (address_of list (After w.member))
  own_kept =
      let at : ℕ = address_of list (After w.member) in
      let none : list_any (is_at list at) (made_of s w) ≡ false
      = same_among list s (made_of s w) (After w.member) spread all_words_in on
      ∙ none_among (made_of s w) (After w.member) (first_ones (λ v. is_word v (After w.member) ≡ false) w.made (words_of s w) (other_words s w.member)) in
      k.since at ∙ ap (λ (b : Bool). if b then value_of s w else k.before at) none

  -- a word that was stored leads there already
  made_leads : (p : Predecessor) → IsWordOf s p → is_among (made_of s w) p ≡ true → word (address_of list p) ≡ value_of s w
  made_leads p its made =
      k.since (address_of list p)
      ∙ ap (λ (b : Bool). if b then value_of s w else k.before (address_of list p)) (same_among list s (made_of s w) p spread all_words_in its ∙ made)

  module _ (f : ℕ) (below : f < 1024) (stands : stands_in f w.member ≡ true) where
    a : IsAround s w.member f
    a = around s w.member f kept is on stands

    old_leads : (b : Bool) → w.removes ≡ b → Leads list word (Element f) (chain (if b then s else without_member s w.member) f)
        → word (address_of list (predecessor s w.member f)) ≡ (if b then id_of w.member else link_to (successor s w.member (frame_of w.member)))
    old_leads true removes led =
        ap (λ (p : Predecessor). word (address_of list p)) a.word
        ∙ leads_behind list word (Element f) a.front (w.member ∷ a.back) (subst (λ (ms : List Member). Leads list word (Element f) ms) a.with_it led)
    old_leads false removes led =
        ap (λ (p : Predecessor). word (address_of list p)) a.word
        ∙ leads_behind list word (Element f) a.front a.back (subst (λ (ms : List Member). Leads list word (Element f) ms) a.without led)
        ∙ ap link_to (sym a.next) ∙ ap link_to (sym (same_successor s w.member f kept is (on, stands)))

    unmade_leads : is_among (made_of s w) (predecessor s w.member f) ≡ false → word (address_of list (predecessor s w.member f)) ≡ passed s w
    unmade_leads unmade =
        let off : is_made s w.member (made_of s w) f ≡ false
        = ap (λ (b : Bool). b && is_among (made_of s w) (predecessor s w.member f)) stands ∙ unmade in
        old_leads w.removes refl
        (subst (λ (b : Bool). Leads list word (Element f) (if b then chain (new_of s w) f else chain (old_of s w) f)) off (frames_while_under_way list s w word f kept spread is on k below))

  is_splice_at : (p : Predecessor) → slice_get (words_of s w) w.made ≡ Some p → IsSplice list s w word p
  is_splice_at p here =
      let its : IsWordOf s p = nth_all (IsWordOf s) (words_of s w) w.made p (words_in s w.member kept) here in
      let b : IsBefore s w.member p = nth_all (IsBefore s w.member) (words_of s w) w.made p (all_before s w.member (frames 10) frames_below) here in
      let unmade : is_among (made_of s w) p ≡ false → word (address_of list p) ≡ passed s w
      = λ off. ap (λ (v : Predecessor). word (address_of list v)) b.is
      ∙ unmade_leads b.frame b.below b.stands (ap (is_among (made_of s w)) (sym b.is) ∙ off) in
      record {
        other = nth_all (λ v. is_word v (After w.member) ≡ false) (words_of s w) w.made p (other_words s w.member) here;
        leads = ⊎_elim (λ (made : is_among (made_of s w) p ≡ true). inl (made_leads p its made)) (λ (off : is_among (made_of s w) p ≡ false). inr (unmade off))
            (cases_Bool (is_among (made_of s w) p));
        first = λ zero. unmade (ap (λ (n : ℕ). is_among (take n (words_of s w)) p) zero);
        own = own_kept ∙ k.own;
        serves = λ f has. serves_by s w.member f b.frame kept is on b.stands (ap (has_word f) (sym b.is) ∙ has);
      }

pub next_store_splices : NextStoreSplices
next_store_splices list s w word p kept spread is on k here = is_splice_at list s w word kept spread is on k p here
