-- Where the words stand for a frame list, its links lead to the members to which a word may lead.
use Rattle.std.proofs.Common.{◌≡◌, ℕ, zero, suc, ◌*◌, ◌/◌, ◌<◌, Bool, true, false, take, Option, Some, None, if◌then◌else◌, ap, refl, sym, subst, ◌∙◌, arith}
use Rattle.std.specs.Prelude.{nat_lt}
use Rattle.std.proofs.lemmas.Bool.{true≢false, lt-ltb}
use Rattle.law_common.proofs.Booleans.{or_both}
use Rattle.word_mem.specs.Memory.{Mem, word_at}
use Rattle.link_words.specs.declared.kinds.Link.TheVariants as links
use Rattle.link_words.specs.Links.{link_read}
use Rattle.drv_chains.specs.declared.members.Member.{Member}
use Rattle.drv_chains.specs.declared.members.Member.TheVariants.{Once, Each}
use Rattle.drv_chains.specs.declared.members.Predecessor.TheVariants.{Element, After}
use Rattle.drv_chains.specs.Chains.{Schedule, id_of, chain}
use Rattle.drv_members.specs.Members.{IsKept, is_linked, without_member, with_schedule, frame_of}
use Rattle.drv_members.proofs.Keeping.{keeps_without}
use Rattle.drv_periodic.specs.declared.work.Work.{Work}
use Rattle.drv_periodic.specs.Periodic.{address_of, words_of, value_of}
use Rattle.drv_periodic_table.specs.Periodic.{PeriodicContent, note_at}
use Rattle.drv_table.specs.DriverContent.{DriverContent}
use Rattle.law_frame_words.specs.frame_words.InWords.{IsSpread}
use Rattle.claims_driver.specs.FrameWords.{old_of, set_all, AllLead, Begun, StandsBy, HasMember, ListStands}
use Rattle.law_frame_words.proofs.lemmas.frame_words.InChains.{fewer_in}
use Rattle.law_frame_words.proofs.lemmas.frame_words.Steps.{leads_same}
use Rattle.law_frame_list.specs.list_closed.Closed.{IsNext, LeadsInto, structure}
use Rattle.law_frame_list.proofs.lemmas.list_closed.Closing.{elements_lead_to_members, members_lead_to_members, members_stand_in_their_first_frame}
use Rattle.law_frame_list.proofs.lemmas.list_closed.Structures.{links_tell_structures}
use Rattle.law_frames.specs.Met.{Kind, LeadsTo}
use Rattle.claims_driver.specs.Unlinked.{is_led, led_by}
use Rattle.law_descriptors.specs.Meeting.{kind_of_descriptor, kind_at, standing}
use Rattle.law_descriptors.specs.RowLaws.{HasFrames}
use Rattle.law_descriptors.proofs.Finding.{begins_at, member_kind, IsMemberAt, member_at}

-- ---- the list without one that is being linked and has no store

abbrev work_by : Option Work → Option Work
work_by None = None
work_by (Some w) = if is_led w then Some w else None

record StandsLed (list : ℕ) (s : Schedule) (o : Option Work) (word : ℕ → ℕ) : Type 0 where
  kept : IsKept s
  member : HasMember s o
  stands : StandsBy list s o word

pub none_made : (n : ℕ) → nat_lt 0 n ≡ false → n ≡ 0
none_made zero is = refl
none_made (suc n) is = absurd (true≢false (sym (lt-ltb 0 (suc n) (omega arith)) ∙ is))

-- no store was made: the words are those before
unled : (list : ℕ) (s : Schedule) (w : Work) (word : ℕ → ℕ) → is_led w ≡ false → Begun list s w word → AllLead list word (without_member s w.member)
unled list s w word is k f below =
    let parts = or_both w.removes (nat_lt 0 w.made) is in
    let none : w.made ≡ 0 = none_made w.made parts.1 in
    let old : old_of s w ≡ without_member s w.member = ap (λ (b : Bool). if b then s else without_member s w.member) parts.0 in
    let same : (at : ℕ) → word at ≡ k.before at = λ at. k.since at ∙ ap (λ (n : ℕ). set_all list (take n (words_of s w)) (value_of s w) k.before at) none in
    leads_same list k.before word (Element f) (chain (without_member s w.member) f) same
    (subst (λ (t : Schedule). AllLead list k.before t) old k.stood f below)

led_some : (list : ℕ) (s : Schedule) (w : Work) (word : ℕ → ℕ) (b : Bool) → is_led w ≡ b → IsKept s → HasMember s (Some w) → Begun list s w word
    → StandsLed list (if b then s else without_member s w.member) (if b then Some w else None) word
led_some list s w word true is kept member stands = record { kept = kept; member = member; stands = stands }
led_some list s w word false is kept member stands = record { kept = keeps_without s w.member kept; member = tt; stands = unled list s w word is stands }

led_stands : (list : ℕ) (s : Schedule) (o : Option Work) (word : ℕ → ℕ) → IsKept s → HasMember s o → StandsBy list s o word → StandsLed list (led_by s o) (work_by o) word
led_stands list s None word kept member stands = record { kept = kept; member = member; stands = stands }
led_stands list s (Some w) word kept member stands = led_some list s w word (is_led w) refl kept member stands

-- its members are members
fewer_by : (s : Schedule) (m x : Member) (b : Bool) → is_linked (if b then s else without_member s m) x ≡ true → is_linked s x ≡ true
fewer_by s m x true on = on
fewer_by s m x false on = fewer_in s m x on

pub led_linked : (s : Schedule) (o : Option Work) (x : Member) → is_linked (led_by s o) x ≡ true → is_linked s x ≡ true
led_linked s None x on = on
led_linked s (Some w) x on = fewer_by s w.member x (is_led w) on

pub led_spread : (list : ℕ) (s : Schedule) (o : Option Work) → IsSpread list s → IsSpread list (led_by s o)
led_spread list s o spread = record {
  named = λ m on. spread.named m (led_linked s o m on);
  apart = λ m on. spread.apart m (led_linked s o m on);
  once = λ m n one two. spread.once m n (led_linked s o m one) (led_linked s o n two);
}

-- ---- a driver with that list

abbrev with_led : DriverContent → DriverContent
with_led d = record d {
  periodic = record d.periodic {
    list = record {
      list = d.periodic.list.list;
      members = with_schedule d.periodic.list.members (led_by d.periodic.list.members.schedule d.periodic.list.work);
      work = work_by d.periodic.list.work;
    };
  };
}

led_list : (m : Mem) (d : DriverContent) → ListStands m d → ListStands m (with_led d)
led_list m d stands =
    let s = led_stands d.periodic.list.list d.periodic.list.members.schedule d.periodic.list.work (word_at m) stands.order.kept stands.order.member stands.words in
    record { order = record { kept = s.kept; member = s.member }; words = s.stands }

-- ---- a link that leads to one of them

by_split : (q : PeriodicContent) (met : ℕ → Option Kind) (n : ℕ) (split : Bool) → met n ≡ Some (kind_of_descriptor split) → LeadsTo met (if split then links.Sitd n else links.Itd n)
by_split q met n true is = is
by_split q met n false is = is

leads_to_structure : (q : PeriodicContent) (list f : ℕ) (s : Schedule) (o : Option Member) → IsSpread list s → IsNext s f o → LeadsTo (kind_at q s) (structure q o)
leads_to_structure q list f s None spread next = tt
leads_to_structure q list f s (Some (Each x)) spread next = member_kind q list s (Each x) spread next.0
leads_to_structure q list f s (Some (Once k)) spread next =
    by_split q (kind_at q s) (32 * (k.id / 32)) (note_at q.notes (k.id / 32)).split (member_kind q list s (Once k) spread next.0)

next_linked : (s : Schedule) (o : Option Work) (f : ℕ) (next : Option Member) → IsNext (led_by s o) f next → IsNext s f next
next_linked s o f None next = tt
next_linked s o f (Some m) next = (led_linked s o m next.0, next.1)

word_leads : (m : Mem) (d : DriverContent) (f n : ℕ) → HasFrames m d → LeadsInto (led_by d.periodic.list.members.schedule d.periodic.list.work) f n → LeadsTo (standing d) (link_read n)
word_leads m d f n frames leads =
    let s : Schedule = d.periodic.list.members.schedule in
    let o : Option Work = d.periodic.list.work in
    let wide : LeadsInto s f n = record { next = leads.next; stands = next_linked s o f leads.next leads.stands; word = leads.word } in
    subst (LeadsTo (standing d)) (sym (links_tell_structures d frames.listed f n wide))
    (leads_to_structure d.periodic d.periodic.list.list f (led_by s o) leads.next (led_spread d.periodic.list.list s o frames.spread) leads.stands)

-- ---- the words

pub elements_lead_to_standing : (m : Mem) (d : DriverContent) (f : ℕ) → HasFrames m d → f < 1024 → LeadsTo (standing d) (link_read (word_at m (address_of d.periodic.list.list (Element f))))
elements_lead_to_standing m d f frames below =
    word_leads m d f (word_at m (address_of d.periodic.list.list (Element f))) frames
    (elements_lead_to_members m (with_led d) (led_list m d frames.list) (led_spread d.periodic.list.list d.periodic.list.members.schedule d.periodic.list.work frames.spread) f below)

first_word_at : (m : Member) (n : ℕ) → begins_at m ≡ n → address_of 0 (After m) ≡ n
first_word_at m n is = turned (id_of m / 32) n is
  where
    turned : (b n : ℕ) → 32 * b ≡ n → b * 32 ≡ n
    turned b n is = omega (arith, is)

pub members_lead_to_standing : (m : Mem) (d : DriverContent) (n : ℕ) (kind : Kind) → HasFrames m d → standing d n ≡ Some kind → LeadsTo (standing d) (link_read (word_at m n))
members_lead_to_standing m d n kind frames is =
    let s : Schedule = led_by d.periodic.list.members.schedule d.periodic.list.work in
    let at : IsMemberAt s n = member_at d.periodic s n kind is in
    let stands : ListStands m (with_led d) = led_list m d frames.list in
    let first = members_stand_in_their_first_frame m (with_led d) stands at.member at.linked in
    subst (λ (a : ℕ). LeadsTo (standing d) (link_read (word_at m a))) (first_word_at at.member n at.begins)
    (word_leads m d (frame_of at.member) (word_at m (address_of d.periodic.list.list (After at.member))) frames
    (members_lead_to_members m (with_led d) stands (led_spread d.periodic.list.list d.periodic.list.members.schedule d.periodic.list.work frames.spread) (frame_of at.member) at.member first.0 first.1))
