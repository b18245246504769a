-- Where the elements of the frame list and its members lead.
use Rattle.std.proofs.Common.{◌≡◌, ℕ, ◌*◌, ◌/◌, ◌<◌, Bool, true, false, Option, Some, None, if◌then◌else◌, ap, sym, subst, ◌∙◌, arith}
use Rattle.law_common.proofs.Numbers.{same_block}
use Rattle.word_mem.specs.Memory.{Mem, word_at}
use Rattle.link_words.specs.declared.kinds.Link.TheVariants as links
use Rattle.link_words.specs.Links.{link_read}
use Rattle.drv_chains.specs.declared.members.Member.{Member}
use Rattle.drv_chains.specs.declared.members.Member.TheVariants.{Once, Each}
use Rattle.drv_chains.specs.declared.members.Predecessor.TheVariants.{Element, After}
use Rattle.drv_chains.specs.Chains.{Schedule, id_of}
use Rattle.drv_members.specs.Members.{is_linked, frame_of}
use Rattle.drv_periodic.specs.Periodic.{address_of, link_to}
use Rattle.drv_periodic_table.specs.Periodic.{note_at}
use Rattle.drv_table.specs.DriverContent.{DriverContent}
use Rattle.claims_driver.specs.Unlinked.{led}
use Rattle.claims_world.specs.Links.{EndsOrLeads, ends, leads}
use Rattle.law_frames.specs.Met.{Kind, AQueue, AnItd, ASitd, LeadsTo}
use Rattle.law_frame_list.specs.list_closed.Closed.{IsNext, LeadsInto, structure}
use Rattle.law_frame_list.proofs.lemmas.list_closed.Closing.{elements_lead_to_members, members_lead_to_members, members_stand_in_their_first_frame}
use Rattle.law_frame_list.proofs.lemmas.list_closed.Structures.{links_tell_structures}
use Rattle.law_descriptors.specs.Meeting.{standing, kind_of}
use Rattle.law_descriptors.specs.RowLaws.{HasFrames}
use Rattle.law_descriptors.proofs.Finding.{begins_at, member_kind, IsMemberAt, member_at}
use Rattle.law_descriptors.proofs.Leading.{led_linked, led_spread, elements_lead_to_standing, members_lead_to_standing}

turned : (a : ℕ) → 32 * (a / 32) ≡ a / 32 * 32
turned a = omega arith

module _ (m : Mem) (d : DriverContent) (frames : HasFrames m d) where
  abbrev s : Schedule
  s = d.periodic.list.members.schedule

  -- a member of the list that stands is one to which a store has led
  found : (x : Member) (kind : Kind) (v : ℕ) → is_linked s x ≡ true → standing d (begins_at x) ≡ Some kind → v ≡ id_of x → EndsOrLeads d v
  found x kind v on stands is =
      let at : IsMemberAt (led d) (begins_at x) = member_at d.periodic (led d) (begins_at x) kind stands in
      let same : x ≡ at.member
      = frames.spread.once x at.member on (led_linked s d.periodic.list.work at.member at.linked)
      (same_block (id_of x) (id_of at.member) (sym at.begins)) in
      leads at.member at.linked (is ∙ ap id_of same)

  split_stands : (n : ℕ) (split : Bool) → LeadsTo (standing d) (if split then links.Sitd n else links.Itd n)
      → (kind : Kind) × (standing d n ≡ Some kind)
  split_stands n true stands = (ASitd, stands)
  split_stands n false stands = (AnItd, stands)

  led_by_next : (f v : ℕ) (o : Option Member) → IsNext s f o → v ≡ link_to o → LeadsTo (standing d) (structure d.periodic o)
      → EndsOrLeads d v
  led_by_next f v None next is stands = ends is
  led_by_next f v (Some (Each x)) next is stands = found (Each x) AQueue v next.0 stands is
  led_by_next f v (Some (Once x)) next is stands =
      let k = split_stands (begins_at (Once x)) (note_at d.periodic.notes (x.id / 32)).split stands in
      found (Once x) k.0 v next.0 k.1 is

  led_next : (f v : ℕ) → LeadsInto s f v → LeadsTo (standing d) (link_read v) → EndsOrLeads d v
  led_next f v into stands =
      led_by_next f v into.next into.stands into.word (subst (LeadsTo (standing d)) (links_tell_structures d frames.listed f v into) stands)

  pub element_ends : (f : ℕ) → f < 1024 → EndsOrLeads d (word_at m (address_of d.periodic.list.list (Element f)))
  element_ends f below =
      led_next f (word_at m (address_of d.periodic.list.list (Element f))) (elements_lead_to_members m d frames.list frames.spread f below)
      (elements_lead_to_standing m d f frames below)

  pub member_ends : (x : Member) → is_linked (led d) x ≡ true → EndsOrLeads d (word_at m (address_of d.periodic.list.list (After x)))
  member_ends x on =
      let linked : is_linked s x ≡ true = led_linked s d.periodic.list.work x on in
      let first = members_stand_in_their_first_frame m d frames.list x linked in
      let v : ℕ = word_at m (address_of d.periodic.list.list (After x)) in
      let kind : standing d (begins_at x) ≡ Some (kind_of d.periodic x)
      = member_kind d.periodic d.periodic.list.list (led d) x (led_spread d.periodic.list.list s d.periodic.list.work frames.spread) on in
      led_next (frame_of x) v (members_lead_to_members m d frames.list frames.spread (frame_of x) x first.0 first.1)
      (subst (λ (a : ℕ). LeadsTo (standing d) (link_read (word_at m a))) (turned (id_of x))
      (members_lead_to_standing m d (begins_at x) (kind_of d.periodic x) frames kind))
