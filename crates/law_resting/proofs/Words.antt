-- A member of the frame list has a word that leads to it, and so what is under way has a next store.
use Rattle.std.proofs.Common.{◌≡◌, ◌≢◌, ℕ, zero, suc, ◌^◌, ◌<◌, true, false, nat_eq, List, [], ◌∷◌, length, slice_get, Option, Some, None, ⊎_elim, ap, sym, subst, ◌∙◌, refl, arith}
use Rattle.std.specs.Prelude.{is_none, nat_lt, option_map, option_and_then}
use Rattle.std.proofs.lemmas.Bool.{false≢true, and_parts, eq-eqb}
use Rattle.drv_chains.specs.declared.members.Descriptor.{Descriptor}
use Rattle.drv_chains.specs.declared.members.Member.TheVariants.{Once, Each}
use Rattle.drv_chains.specs.declared.members.Predecessor.{Predecessor}
use Rattle.drv_chains.specs.declared.members.QueueHead.{QueueHead}
use Rattle.drv_chains.specs.Chains.{Schedule, of_lists, is_period, is_active, frame_period, predecessor, predecessors}
use Rattle.drv_chains.specs.Order.{frames}
use Rattle.drv_chains.specs.Stores.{is_among, is_made}
use Rattle.drv_chains.proofs.Descriptors.{all_made_once}
use Rattle.drv_chains.proofs.Linking.{all_made}
use Rattle.drv_members.specs.Members.{IsKept}
use Rattle.drv_members.proofs.Keeping.{queue_at, queue_named, descriptor_at, descriptor_named}
use Rattle.drv_members.proofs.Ranges.{phase_most, own_frame}
use Rattle.drv_periodic.specs.declared.work.Store.{Store}
use Rattle.drv_periodic.specs.declared.work.Work.{Work}
use Rattle.drv_periodic.specs.Periodic.{words_of, value_of, store_at, store_of}
use Rattle.claims_driver.specs.FrameWords.{HasMember}
use Rattle.law_resting.specs.Storing.{IsLeft, LinkedHasWords, WorkHasStore}

some_of : (ps : List Predecessor) (w : Predecessor) → is_among ps w ≡ true → 0 < length ps
some_of [] w is = absurd (false≢true is)
some_of (p ∷ ps) w is = omega arith

pub linked_has_words : LinkedHasWords
linked_has_words s (Once k) kept small on =
    let at = descriptor_at s k kept on in
    let low : k.frame < 2 ^ 10 = omega (arith, small) in
    let made : is_made s (Once k) (predecessors s (Once k) (frames 10)) k.frame ≡ true =
    subst (λ (ds : List Descriptor). is_made (of_lists ds s.queues) (Once k)
    (predecessors (of_lists ds s.queues) (Once k) (frames 10)) k.frame ≡ true)
    (sym at.is)
    (all_made_once at.front at.back k s.queues 10 k.frame (descriptor_named s k kept at) low (eq-eqb k.frame k.frame refl)) in
    some_of (predecessors s (Once k) (frames 10)) (predecessor s (Once k) k.frame)
    (and_parts (nat_eq k.frame k.frame) (is_among (predecessors s (Once k) (frames 10)) (predecessor s (Once k) k.frame)) made).1
linked_has_words s (Each q) kept valid on =
    let at = queue_at s q kept on in
    let most = phase_most q valid in
    let low : q.phase < 2 ^ 10 = omega (arith, most) in
    let period : is_period q.period ≡ true = (and_parts (is_period q.period) (nat_lt q.phase (frame_period q.period)) valid).0 in
    let made : is_made s (Each q) (predecessors s (Each q) (frames 10)) q.phase ≡ true =
    subst (λ (qs : List QueueHead). is_made (of_lists s.descriptors qs) (Each q)
    (predecessors (of_lists s.descriptors qs) (Each q) (frames 10)) q.phase ≡ true)
    (sym at.is)
    (all_made s.descriptors at.front at.back q 10 q.phase (queue_named s q kept at) period low (own_frame q valid)) in
    some_of (predecessors s (Each q) (frames 10)) (predecessor s (Each q) q.phase)
    (and_parts (is_active q.phase q) (is_among (predecessors s (Each q) (frames 10)) (predecessor s (Each q) q.phase)) made).1

-- ---- the next store

none_within : (ps : List Predecessor) (n : ℕ) → n < length ps → slice_get ps n ≡ None → ⊥
none_within [] n low is = omega (arith, low)
none_within (p ∷ ps) zero low is = cc
none_within (p ∷ ps) (suc n) low is = none_within ps n (omega (arith, low)) is

mapped_none : (f : Predecessor → Store) (o : Option Predecessor) → option_map f o ≡ None → o ≡ None
mapped_none f None is = refl
mapped_none f (Some p) is = absurd (cc)

left_over : (s : Schedule) (w : Work) → IsKept s → HasMember s (Some w) → IsLeft s w → w.made < length (words_of s w)
left_over s w kept has left =
    ⊎_elim
    (λ (fresh : w.made ≡ 0).
    let words = linked_has_words s w.member kept has.0 has.1 in omega (arith, fresh, words))
    (λ (more : w.made < length (words_of s w)). more) left

pub work_has_store : WorkHasStore
work_has_store p order working on none = at p.work refl
  where
    at : (o : Option Work) → p.work ≡ o → ⊥
    at None is = false≢true (sym on ∙ ap is_none is)
    at (Some w) is =
        none_within (words_of p.members.schedule w) w.made
        (left_over p.members.schedule w order.kept (subst (HasMember p.members.schedule) is order.member) (working w is))
        (mapped_none (λ word. store_at p.list word (value_of p.members.schedule w)) (slice_get (words_of p.members.schedule w) w.made)
        (sym (ap (λ (v : Option Work). option_and_then (λ (x : Work). store_of p.list p.members.schedule x) v) is) ∙ none))
