-- The links of its frame lead to an isochronous descriptor to which a word leads, and which isn't being unlinked; and it is met there as
-- what its note says (EHCI 1.0, 3.1, 3.3.1 and 4.6): one store links it, one unlinks it.
use Rattle.std.proofs.Common.{◌≡◌, ◌≢◌, ℕ, ◌+◌, ◌^◌, ◌<◌, ◌≤◌, not, ◌||◌, Bool, true, false, if◌then◌else◌, List, length}
use Rattle.std.proofs.Common.{Option, Some, ap, refl, sym, subst, ◌∙◌, ⊎_elim, arith, nat_lt}
use Rattle.std.proofs.lemmas.Bool.{true≢false, eq-eqb, ltb-true, ltb-false}
use Rattle.std.proofs.lemmas.List.{take_all}
use Rattle.drv_chains.specs.declared.members.Descriptor.{Descriptor}
use Rattle.drv_chains.specs.declared.members.Member.{Member}
use Rattle.drv_chains.specs.declared.members.Member.TheVariants.{Once}
use Rattle.drv_chains.specs.declared.members.Predecessor.{Predecessor}
use Rattle.drv_chains.specs.Order.{frames}
use Rattle.drv_chains.specs.Chains.{Schedule, predecessors}
use Rattle.drv_chains.specs.Stores.{is_made}
use Rattle.drv_chains.proofs.Descriptors.{all_made_once}
use Rattle.drv_members.specs.Members.{IsKept, is_linked, without_member}
use Rattle.drv_members.proofs.Keeping.{descriptor_at, descriptor_named}
use Rattle.drv_periodic.specs.declared.work.Work.{Work}
use Rattle.drv_periodic.specs.Periodic.{words_of}
use Rattle.drv_table.specs.DriverContent.{DriverContent}
use Rattle.claims_base.specs.Controller.{opening_base}
use Rattle.claims_driver.specs.FrameWords.{made_of}
use Rattle.claims_driver.specs.Unlinked.{is_led, led_by, led}
use Rattle.claims_world.specs.Visits.{IsInChain, begins}
use Rattle.law_driver.proofs.lemmas.listed_members.OneWord.{one_word}
use Rattle.law_frame_words.proofs.lemmas.frame_words.Stored.{descriptor_put}
use Rattle.law_frames.specs.Met.{Kind}
use Rattle.law_descriptors.proofs.Common.{gone}
use Rattle.law_descriptors.specs.Meeting.{kind_of, or_recent, met}
use Rattle.law_descriptors.specs.RowLaws.{HasFrames}
use Rattle.law_descriptors.proofs.Finding.{member_kind}
use Rattle.law_descriptors.proofs.Leading.{led_linked, led_spread}
use Rattle.bus_world.specs.World.{World, controller_parts}
use Rattle.law_world.specs.memory.Mixed.{Standing, IsMixedAt}
use Rattle.law_world.proofs.lemmas.memory.lemmas.framed_memory.Now.{now_has_frames}
use Rattle.law_microframes.proofs.lemmas.due.Linked.{IsShownIn, in_chain_shown}

-- ---- its one store

module _ (s : Schedule) (k : Descriptor) (kept : IsKept s) (small : k.frame < 1024) (on : is_linked s (Once k) ≡ true) where
  all_made : is_made s (Once k) (predecessors s (Once k) (frames 10)) k.frame ≡ true
  all_made =
      let at = descriptor_at s k kept on in
      let low : k.frame < 2 ^ 10 = omega (arith, small) in
      subst (λ (x : Schedule). is_made x (Once k) (predecessors x (Once k) (frames 10)) k.frame ≡ true) (sym (descriptor_put s k at))
      (all_made_once at.front at.back k s.queues 10 k.frame (descriptor_named s k kept at) low (eq-eqb k.frame k.frame refl))

  few : length (predecessors s (Once k) (frames 10)) ≤ 1
  few = ltb-false (0 + 1) (length (predecessors s (Once k) (frames 10))) (one_word s k true)

  once_made : (v : Work) → v.member ≡ Once k → 1 ≤ v.made → is_made s v.member (made_of s v) k.frame ≡ true
  once_made v same some =
      let enough = few in
      let short : length (words_of s v) ≤ v.made =
      subst (λ (m : Member). length (predecessors s m (frames 10)) ≤ v.made) (sym same) (omega (arith, enough, some)) in
      ap (λ (ws : List Predecessor). is_made s v.member ws k.frame) (take_all v.made (words_of s v) short)
      ∙ ap (λ (m : Member). is_made s m (predecessors s m (frames 10)) k.frame) same ∙ all_made

-- ---- it is shown

module _ (d : DriverContent) (k : Descriptor) (kept : IsKept d.periodic.list.members.schedule) (small : k.frame < 1024)
    (on : is_linked (led d) (Once k) ≡ true)
    (stays : (v : Work) → d.periodic.list.work ≡ Some v → v.removes ≡ true → v.member ≢ Once k) where
  abbrev s : Schedule
  s = d.periodic.list.members.schedule

  linked : is_linked s (Once k) ≡ true
  linked = led_linked s d.periodic.list.work (Once k) on

  -- the first store of what links it is made, since a word leads to it
  one_made : (v : Work) → d.periodic.list.work ≡ Some v → v.member ≡ Once k → v.removes ≡ false → (b : Bool) → nat_lt 0 v.made ≡ b
      → 1 ≤ v.made
  one_made v is same adds true some = ltb-true 0 v.made some
  one_made v is same adds false none =
      let off : is_led v ≡ false = ap (λ (b : Bool). b || nat_lt 0 v.made) adds ∙ none in
      absurd (true≢false (sym on ∙ ap (λ (o : Option Work). is_linked (led_by s o) (Once k)) is
      ∙ ap (λ (b : Bool). is_linked (if b then s else without_member s v.member) (Once k)) off
      ∙ ap (λ (m : Member). is_linked (without_member s m) (Once k)) same ∙ gone s (Once k)))

  shown_by : (v : Work) → d.periodic.list.work ≡ Some v → v.member ≡ Once k → (b : Bool) → v.removes ≡ b
      → is_made s v.member (made_of s v) k.frame ≡ not b
  shown_by v is same true removes = absurd (stays v is removes same)
  shown_by v is same false adds = once_made s k kept small linked v same (one_made v is same adds (nat_lt 0 v.made) refl)

  pub descriptor_shown : IsShownIn d k.frame (Once k)
  descriptor_shown v is same = shown_by v is same v.removes refl

-- ---- in a world

module _ (s : Standing) (w : World) (m : IsMixedAt s w) (k : Descriptor) (on : is_linked (led w.driver) (Once k) ≡ true) where
  frames_are : HasFrames w.memory w.driver
  frames_are = now_has_frames opening_base s.member s.recent s.descs s.parts s.hand s.frame (controller_parts w) w.driver m.now

  pub descriptor_in_chain : k.frame < 1024 → ((v : Work) → w.driver.periodic.list.work ≡ Some v → v.removes ≡ true → v.member ≢ Once k)
      → IsInChain w k.frame (begins (Once k))
  descriptor_in_chain small stays =
      in_chain_shown s w k.frame (Once k) m small
      (led_linked w.driver.periodic.list.members.schedule w.driver.periodic.list.work (Once k) on)
      (eq-eqb k.frame k.frame refl)
      (descriptor_shown w.driver k frames_are.list.order.kept small on stays)

-- it is met as what it is
pub led_met : (s : Standing) (w : World) (x : Member) → IsMixedAt s w → is_linked (led w.driver) x ≡ true
    → met w.driver s.recent (begins x) ≡ Some (kind_of w.driver.periodic x)
led_met s w x m on =
    let frames : HasFrames w.memory w.driver = now_has_frames opening_base s.member s.recent s.descs s.parts s.hand s.frame
    (controller_parts w) w.driver m.now in
    ap (λ (o : Option Kind). or_recent o (s.recent (begins x)))
    (member_kind w.driver.periodic w.driver.periodic.list.list (led w.driver) x
    (led_spread w.driver.periodic.list.list w.driver.periodic.list.members.schedule w.driver.periodic.list.work frames.spread) on)
