-- Those that are met once a store of the frame list was made.
use Rattle.std.proofs.Common.{◌≡◌, ℕ, ◌+◌, ◌/◌, ◌⊎◌, Bool, true, false, inl, inr, Option, Some, None, if◌then◌else◌, ⊎_elim, ap, refl, sym, subst, ◌∙◌, arith}
use Rattle.std.specs.Prelude.{List, nat_lt}
use Rattle.std.proofs.lemmas.Bool.{lt-ltb}
use Rattle.std.proofs.lemmas.Option.{same_Some}
use Rattle.law_common.proofs.Booleans.{right_or}
use Rattle.law_descriptors.proofs.Common.{further}
use Rattle.drv_chains.specs.declared.members.Member.{Member}
use Rattle.drv_chains.specs.declared.members.Member.TheVariants.{Once, Each}
use Rattle.drv_chains.specs.Chains.{Schedule, is_the}
use Rattle.drv_members.specs.Members.{is_linked, without_member, with_schedule}
use Rattle.law_frame_words.specs.frame_words.InWords.{IsSpread}
use Rattle.law_frame_list.proofs.lemmas.list_closed.Chained.{still_linked}
use Rattle.drv_periodic.specs.declared.work.Work.{Work}
use Rattle.drv_periodic.specs.Periodic.{Periodic, is_more, members_after, after_work, after_store}
use Rattle.drv_periodic_table.specs.declared.content.DescriptorNote.{DescriptorNote}
use Rattle.drv_periodic_table.specs.Periodic.{PeriodicContent, note_at}
use Rattle.drv_table.specs.DriverContent.{DriverContent}
use Rattle.law_frames.specs.Met.{Kind}
use Rattle.law_controller.specs.frame_stores.Stores.{IsMetFurther}
use Rattle.claims_driver.specs.Unlinked.{is_led, led_in, led}
use Rattle.law_descriptors.specs.Meeting.{kind_of_descriptor, kind_of, standing, or_recent, met}
use Rattle.law_descriptors.specs.Growing.{IsLeftOut, AreApartFrom, KeepsMembers}
use Rattle.law_descriptors.proofs.Finding.{begins_at, member_kind, IsMemberAt, member_at}
use Rattle.law_descriptors.proofs.Leading.{led_linked, led_spread}

-- ---- one more store

one_more : (w : Work) → is_led (record w { made = w.made + 1 }) ≡ true
one_more w = right_or w.removes (nat_lt 0 (w.made + 1)) (lt-ltb 0 (w.made + 1) (omega arith))

left_by : (p : Periodic) (w : Work) (m : Member) (r b : Bool) → w.removes ≡ r → is_more p.members.schedule w ≡ false → is_the w.member m ≡ b → is_linked p.members.schedule m ≡ true
    → (is_linked (if r then with_schedule p.members (without_member p.members.schedule w.member) else p.members).schedule m ≡ true) ⊎ IsLeftOut p w m
left_by p w m false b removes last is on = inl on
left_by p w m true true removes last is on = inr (record { removes = removes; last = last; is = is })
left_by p w m true false removes last is on = inl (still_linked p.members.schedule w.member m is on)

after_by : (p : Periodic) (w : Work) (m : Member) (b : Bool) → is_more p.members.schedule w ≡ b → is_linked p.members.schedule m ≡ true
    → (is_linked (led_in (if b then record p { work = Some (record w { made = w.made + 1 }) } else record { list = p.list; members = members_after p.members w; work = None })) m ≡ true) ⊎ IsLeftOut p w m
after_by p w m true more on =
    inl (ap (λ (b : Bool). is_linked (if b then p.members.schedule else without_member p.members.schedule w.member) m) (one_more w) ∙ on)
after_by p w m false more on = left_by p w m w.removes (is_the w.member m) refl more refl on

pub stores_keep_members : (p : Periodic) (w : Work) (m : Member) → p.work ≡ Some w → is_linked (led_in p) m ≡ true → (is_linked (led_in (after_store p)) m ≡ true) ⊎ IsLeftOut p w m
stores_keep_members p w m is on =
    subst (λ (o : Option Work). (is_linked (led_in (after_work p o)) m ≡ true) ⊎ IsLeftOut p w m) (sym is)
    (after_by p w m (is_more p.members.schedule w) refl (led_linked p.members.schedule p.work m on))

-- ---- all that were met

pub same_kind : (q r : PeriodicContent) (m : Member) → r.notes ≡ q.notes → kind_of r m ≡ kind_of q m
same_kind q r (Each x) same = refl
same_kind q r (Once k) same = ap (λ (notes : List DescriptorNote). kind_of_descriptor (note_at notes (k.id / 32)).split) same

recent_met : (o later : Option Kind) (kind : Kind) → o ≡ None → later ≡ Some kind → or_recent o later ≡ Some kind
recent_met o later kind none is = ap (λ x. or_recent x later) none ∙ is

further_by : (d new : DriverContent) (recent later : ℕ → Option Kind) → IsSpread d.periodic.list.list d.periodic.list.members.schedule → IsSpread new.periodic.list.list new.periodic.list.members.schedule → new.periodic.notes ≡ d.periodic.notes → KeepsMembers d new later → IsMetFurther recent later → AreApartFrom new later
    → (n : ℕ) (kind : Kind) (o : Option Kind) → standing d n ≡ o → or_recent o (recent n) ≡ Some kind → met new later n ≡ Some kind
further_by d new recent later spread now notes keeps more apart n kind None stands on =
    recent_met (standing new n) (later n) kind (apart n kind (more n kind on)) (more n kind on)
further_by d new recent later spread now notes keeps more apart n kind (Some here) stands on =
    let s : Schedule = led d in
    let at : IsMemberAt s n = member_at d.periodic s n here stands in
    let m : Member = at.member in
    let there : standing d (begins_at m) ≡ Some (kind_of d.periodic m) = member_kind d.periodic d.periodic.list.list s m (led_spread d.periodic.list.list d.periodic.list.members.schedule d.periodic.list.work spread) at.linked in
    let is : kind_of d.periodic m ≡ kind = same_Some (kind_of d.periodic m) kind (sym there ∙ ap (standing d) at.begins ∙ stands ∙ on) in
    subst (λ (i : ℕ). met new later i ≡ Some kind) at.begins
    (⊎_elim (λ (linked : is_linked (led new) m ≡ true).
    further (standing new (begins_at m)) (later (begins_at m)) kind
    (member_kind new.periodic new.periodic.list.list (led new) m (led_spread new.periodic.list.list new.periodic.list.members.schedule new.periodic.list.work now) linked
    ∙ ap (λ (k : Kind). Some k) (same_kind d.periodic new.periodic m notes ∙ is)))
    (λ (recently : later (begins_at m) ≡ Some (kind_of d.periodic m)).
    recent_met (standing new (begins_at m)) (later (begins_at m)) kind (apart (begins_at m) (kind_of d.periodic m) recently) (recently ∙ ap (λ (k : Kind). Some k) is))
    (keeps m at.linked))

pub members_stay_met : (d new : DriverContent) (recent later : ℕ → Option Kind) → IsSpread d.periodic.list.list d.periodic.list.members.schedule → IsSpread new.periodic.list.list new.periodic.list.members.schedule → new.periodic.notes ≡ d.periodic.notes → KeepsMembers d new later → IsMetFurther recent later → AreApartFrom new later → IsMetFurther (met d recent) (met new later)
members_stay_met d new recent later spread now notes keeps more apart n kind on = further_by d new recent later spread now notes keeps more apart n kind (standing d n) refl on
