-- Where a microframe begins, the link of its element of the frame list leads to one that stands in its frame (EHCI 1.0, 3.1, 3.3.1, 4.4 and 4.6).
use Rattle.std.proofs.Common.{◌≡◌, ℕ, ◌*◌, ◌/◌, ◌<◌, Bool, true, false, if◌then◌else◌, Option, Some, None, ap, refl, sym, subst, ◌∙◌}
use Rattle.std.proofs.lemmas.Option.{same_Some}
use Rattle.law_common.proofs.Numbers.{same_block}
use Rattle.word_mem.specs.Memory.{Mem, word_at}
use Rattle.link_words.specs.declared.kinds.Link.TheVariants as links
use Rattle.link_words.specs.Links.{link_read}
use Rattle.drv_chains.specs.declared.members.Member.{Member}
use Rattle.drv_chains.specs.declared.members.Member.TheVariants.{Once, Each}
use Rattle.drv_chains.specs.declared.members.Predecessor.TheVariants.{Element}
use Rattle.drv_chains.specs.Chains.{id_of, stands_in}
use Rattle.drv_members.specs.Members.{is_linked}
use Rattle.drv_periodic.specs.Periodic.{address_of}
use Rattle.drv_periodic_table.specs.Periodic.{PeriodicContent, note_at}
use Rattle.drv_table.specs.DriverContent.{DriverContent}
use Rattle.law_frame_list.specs.list_closed.Closed.{IsNext, LeadsInto, structure}
use Rattle.law_frame_list.proofs.lemmas.list_closed.Closing.{elements_lead_to_members}
use Rattle.law_frame_list.proofs.lemmas.list_closed.Structures.{links_tell_structures}
use Rattle.law_frames.specs.Met.{Kind}
use Rattle.law_descriptors.specs.Meeting.{standing}
use Rattle.claims_driver.specs.Unlinked.{led}
use Rattle.law_descriptors.specs.RowLaws.{HasFrames}
use Rattle.law_descriptors.proofs.Leading.{elements_lead_to_standing, led_linked}
use Rattle.law_descriptors.proofs.Finding.{IsMemberAt, member_at}
use Rattle.law_microframes.specs.visits.Ranks.{name_of}
use Rattle.claims_world.specs.Visits.{begins}
use Rattle.law_microframes.proofs.lemmas.visits.VisitLinks.{lead_met}

-- the word leads to one to which a word may lead, and it stands in the frame
pub record LeadsToOne (d : DriverContent) (f k : ℕ) : Type 0 where
  pub kind : Kind
  pub standing_is : standing d k ≡ Some kind
  pub member : Member
  pub linked : is_linked (led d) member ≡ true
  pub at : begins member ≡ k
  pub stands : stands_in f member ≡ true

split_name : (b : Bool) (a : ℕ) → name_of (if b then links.Sitd a else links.Itd a) ≡ Some a
split_name true a = refl
split_name false a = refl

pub structure_name : (q : PeriodicContent) (x : Member) → name_of (structure q (Some x)) ≡ Some (begins x)
structure_name q (Each x) = refl
structure_name q (Once k) = split_name (note_at q.notes (k.id / 32)).split (32 * (k.id / 32))

module _ (m : Mem) (d : DriverContent) (frames : HasFrames m d) where
  -- the one member of the driver's that begins there is one to which a word may lead
  one_there : (f k : ℕ) (kind : Kind) (x : Member) → standing d k ≡ Some kind → is_linked d.periodic.list.members.schedule x ≡ true → stands_in f x ≡ true → begins x ≡ k → LeadsToOne d f k
  one_there f k kind x standing_is linked stands at =
      let y : IsMemberAt (led d) k = member_at d.periodic (led d) k kind standing_is in
      let same : y.member ≡ x
      = frames.spread.once y.member x (led_linked d.periodic.list.members.schedule d.periodic.list.work y.member y.linked) linked
      (same_block (id_of y.member) (id_of x) (y.begins ∙ sym at)) in
      record {
        kind = kind;
        standing_is = standing_is;
        member = y.member;
        linked = y.linked;
        at = y.begins;
        stands = subst (λ (z : Member). stands_in f z ≡ true) (sym same) stands;
      }

  by_next : (f k : ℕ) (kind : Kind) (o : Option Member) → standing d k ≡ Some kind → IsNext d.periodic.list.members.schedule f o → name_of (structure d.periodic o) ≡ Some k → LeadsToOne d f k
  by_next f k kind None standing_is next is = absurd (cc)
  by_next f k kind (Some x) standing_is next is =
      one_there f k kind x standing_is next.0 next.1 (same_Some (begins x) k (sym (structure_name d.periodic x) ∙ is))

  pub element_stands : (f k : ℕ) → f < 1024 → name_of (link_read (word_at m (address_of d.periodic.list.list (Element f)))) ≡ Some k → LeadsToOne d f k
  element_stands f k below is =
      let word : ℕ = word_at m (address_of d.periodic.list.list (Element f)) in
      let leads : LeadsInto d.periodic.list.members.schedule f word = elements_lead_to_members m d frames.list frames.spread f below in
      let there = lead_met (standing d) (link_read word) k (elements_lead_to_standing m d f frames below) is in
      by_next f k there.0 leads.next there.1 leads.stands (ap name_of (sym (links_tell_structures d frames.listed f word leads)) ∙ is)
