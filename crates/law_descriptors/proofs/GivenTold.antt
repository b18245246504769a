-- Memory, the ring and the frames once the runs of some descriptors were given back, of which the walk of the frames meets none.
use Rattle.std.proofs.Common.{◌≡◌, ℕ, Bool, true, false, List, Option, Some, None, if◌then◌else◌, ap, refl, sym, subst, ◌∙◌}
use Rattle.std.specs.Prelude.{is_some}
use Rattle.std.proofs.lemmas.Bool.{true≢false}
use Rattle.std.proofs.lemmas.Option.{same_Some}
use Rattle.law_common.proofs.Options.{number_is_none}
use Rattle.word_mem.specs.Memory.{Mem}
use Rattle.word_mem.specs.Runs.{Run, HasBlock}
use Rattle.word_mem.proofs.Holders.{has_block_from}
use Rattle.mem_runs.specs.Book.{Holding, holding, slot_of, Stands}
use Rattle.mem_runs.specs.declared.slots.Slot.{Slot}
use Rattle.mem_runs.specs.declared.slots.Slot.TheVariants.{Lends}
use Rattle.drv_table.specs.DriverContent.{DriverContent}
use Rattle.drv_table.specs.Releases.{free_runs}
use Rattle.claims_driver.specs.Owners.{Owner, SlotHas, Views, views_of, IsOneOf}
use Rattle.hc_core.specs.Controller.{Content}
use Rattle.law_structures.specs.lent_structures.Structures.{Structure, QueueHead, Table, Isochronous, SplitIsochronous, Structures, StructureSets, Has, Tells}
use Rattle.law_structures.specs.lent_structures.Sound.{IsMember}
use Rattle.law_ring.specs.Hand.{Hand}
use Rattle.claims_base.specs.Controller.{Base}
use Rattle.law_driver_ring.specs.Extents.{AreInRuns}
use Rattle.law_driver_ring.proofs.Freeing.{HaveNone, all_told}
use Rattle.law_frames.specs.Met.{Kind}
use Rattle.law_frames.specs.FrameHand.{FrameHand}
use Rattle.law_controller.specs.frame_control.Both.{RunsBoth}
use Rattle.law_controller.proofs.lemmas.frame_stores.Beside.{unmet_parts_leave_both}
use Rattle.law_descriptors.specs.Described.{HasDescriptor}
use Rattle.law_descriptors.specs.Both.{owns, both}
use Rattle.law_descriptors.specs.PartLaws.{IsDescribing}
use Rattle.law_descriptors.specs.Given.{without_owners}
use Rattle.law_descriptors.proofs.Standing.{both_on, both_off, IsAtOwner, on_owner}
use Rattle.law_descriptors.proofs.Owned.{descriptor_owner, IsIn, one_owner, IsOfQueues, queue_lies, IsOfDescriptors, descriptor_lies}
use Rattle.law_descriptors.proofs.Telling.{queue_found, descriptor_found, piece_owner}
use Rattle.law_descriptors.proofs.GivenViews.{without_on, without_off, without_found, DescriptorsGo}

-- ---- what stands where a descriptor does

abbrev is_described : Structure → Bool
is_described (Isochronous v) = true
is_described (SplitIsochronous v) = true
is_described _ = false

described_there : (split : Bool) (part : Structures) (n : ℕ) (s : Structure) → HasDescriptor split part n → part n ≡ Some s → is_described s ≡ true
described_there true part n s has here = ap is_described (same_Some s (SplitIsochronous has.sitd) (sym here ∙ has.here))
described_there false part n s has here = ap is_described (same_Some s (Isochronous has.itd) (sym here ∙ has.here))

kind_is_none : (kind : Kind) → Some kind ≡ None → ⊥
kind_is_none kind e = cc

-- a run of a descriptor that goes, or of its buffer
pub record IsGoneRun (v : Views) (owner : ℕ → Owner) (gone : ℕ → Bool) (c : ℕ) : Type 0 where
  pub number : ℕ
  pub goes : gone number ≡ true
  pub owned : descriptor_owner v.transfer (owner c) ≡ Some number

module _ (d : DriverContent) (m : Mem) (descs parts : StructureSets) (k : IsDescribing d descs parts) (lies : AreInRuns (views_of d) parts) (stands : Stands (holding d.book m)) (w : Views) (gone goes : ℕ → Bool) (go : DescriptorsGo (views_of d) w k.owners.owner gone goes) where
  abbrev v : Views
  v = views_of d

  abbrev h : Holding
  h = holding d.book m

  abbrev owner : ℕ → Owner
  owner = k.owners.owner

  abbrev fewer : StructureSets
  fewer = without_owners descs goes

  abbrev now : StructureSets
  now = both fewer parts

  abbrev slots : (c : ℕ) → v.slot c ≡ slot_of d.book.slots c
  slots c = refl

  -- ---- memory

  found_before : (n a : ℕ) (s : Structure) → now n a ≡ Some s → both descs parts n a ≡ Some s
  found_before n a s here = by (owns fewer n) refl
    where
      by : (b : Bool) → owns fewer n ≡ b → both descs parts n a ≡ Some s
      by true on = descriptor_found d descs parts k n a s (without_found descs goes n a s (ap (λ (part : Structures). part a) (sym (both_on fewer parts n on)) ∙ here)).was
      by false off = queue_found d descs parts k n a s (ap (λ (part : Structures). part a) (sym (both_off fewer parts n off)) ∙ here)

  fewer_told : Tells m (both descs parts) → Tells m now
  fewer_told told = record {
    shape = told.shape;
    each = λ n a s here. told.each n a s (found_before n a s here);
    alone = λ n a i c s t b one other has also. told.alone n a i c s t b (found_before n a s one) (found_before i c t other) has also;
  }

  in_run : (c i : ℕ) (r : Run) → slot_of d.book.slots c ≡ Lends r → HasBlock r i → IsIn v owner (owner c) i
  in_run c i r is inside = record { at = c; owned = refl; has = subst (λ (s : Slot). SlotHas s i) (sym is) (has_block_from r i inside.from inside.below) }

  none_of_descriptors : (n a i : ℕ) (s : Structure) (c : ℕ) → IsGoneRun v owner gone c → IsIn v owner (owner c) i → fewer n a ≡ Some s → Has a s i → ⊥
  none_of_descriptors n a i s c g inside here has =
      let f = without_found descs goes n a s here in
      let q : IsOfDescriptors h v owner slots stands k.owners.owned.each n a i = descriptor_lies h v owner slots stands k.owners.owned.each descs k.described n a s i f.was has in
      let whose : q.whose ≡ owner c = one_owner h v owner slots stands k.owners.owned.each q.whose (owner c) i q.inside inside in
      let number : q.number ≡ g.number =
      same_Some q.number g.number (sym (piece_owner d m descs parts k lies stands q.number q.transfer a q.whose q.lent q.piece) ∙ ap (descriptor_owner v.transfer) whose ∙ g.owned) in
      true≢false (sym (ap goes q.name ∙ go.named q.number q.transfer q.lent.here (ap gone number ∙ g.goes)) ∙ f.stays)

  none_of_queues : (n a i : ℕ) (s : Structure) (c : ℕ) → IsGoneRun v owner gone c → IsIn v owner (owner c) i → parts n a ≡ Some s → Has a s i → ⊥
  none_of_queues n a i s c g inside here has =
      let q : IsOfQueues h v owner slots stands k.owners.owned.each i = queue_lies h v owner slots stands k.owners.owned.each parts lies k.driven n a s i here has in
      let whose : q.whose ≡ owner c = one_owner h v owner slots stands k.owners.owned.each q.whose (owner c) i q.inside inside in
      number_is_none g.number (sym g.owned ∙ ap (descriptor_owner v.transfer) (sym whose) ∙ q.none)

  none_there : (blocks : List ℕ) → ((c : ℕ) → IsOneOf c blocks → IsGoneRun v owner gone c) → HaveNone h now blocks
  none_there blocks each c r among is n a s i here has inside = by (owns fewer n) refl
    where
      by : (b : Bool) → owns fewer n ≡ b → ⊥
      by true on = none_of_descriptors n a i s c (each c among) (in_run c i r is inside) (ap (λ (part : Structures). part a) (sym (both_on fewer parts n on)) ∙ here) has
      by false off = none_of_queues n a i s c (each c among) (in_run c i r is inside) (ap (λ (part : Structures). part a) (sym (both_off fewer parts n off)) ∙ here) has

  pub freed_told : (blocks : List ℕ) → ((c : ℕ) → IsOneOf c blocks → IsGoneRun v owner gone c) → Tells m (both descs parts) → Tells (free_runs h blocks).memory now
  freed_told blocks each told = (all_told h now blocks (none_there blocks each) (record { stands = stands; told = fewer_told told })).told

  -- ---- what is met, the ring and the frame list stay

  beside : (n : ℕ) → goes n ≡ false → now n ≡ both descs parts n
  beside n off = ap (λ (part : Structures). if is_some (part n) then part else parts n) (without_off descs goes n off)

  unowned : (n : ℕ) → goes n ≡ true → owns descs n ≡ false → now n ≡ both descs parts n
  unowned n on none = both_off fewer parts n (ap (λ (part : Structures). is_some (part n)) (without_on descs goes n on)) ∙ sym (both_off descs parts n none)

  others_stay : (n : ℕ) (s : Structure) → both descs parts n n ≡ Some s → is_described s ≡ false → now n ≡ both descs parts n
  others_stay n s here other = by (goes n) (owns descs n) refl refl
    where
      by : (a b : Bool) → goes n ≡ a → owns descs n ≡ b → now n ≡ both descs parts n
      by false b off is = beside n off
      by true false on none = unowned n on none
      by true true on is =
          let at : IsAtOwner v n = on_owner v descs n k.described is in
          let there : descs n n ≡ Some s = ap (λ (part : Structures). part n) (sym (both_on descs parts n is)) ∙ here in
          let has = k.described.descriptors at.number at.transfer at.lent in
          absurd (true≢false (sym (described_there (v.descriptor at.transfer.first).split (descs n) n s
          (subst (λ (i : ℕ). HasDescriptor (v.descriptor at.transfer.first).split (descs i) i) (sym at.name) has) there) ∙ other))

  pub runs_without : (base : Base) (member : ℕ → Bool) (met : ℕ → Option Kind) (hand : Hand) (frame : FrameHand) (c : Content) (after : Mem)
      → RunsBoth base member met (both descs parts) hand frame c → Tells after now → ((n : ℕ) → goes n ≡ true → met n ≡ None)
      → RunsBoth base member met now hand frame (record c { memory = after })
  runs_without base member met hand frame c after runs tells unmet =
      unmet_parts_leave_both base member met (both descs parts) now hand frame c after runs tells
      (λ n on. let q : IsMember member n (both descs parts n) = runs.ring.members n on in others_stay n (QueueHead q.queue) q.here refl)
      (λ n kind on. beside n (met_stays n kind on (goes n) refl))
      (ap (λ (part : Structures). part base.periodic_list_base) (others_stay base.periodic_list_base (Table runs.list.words) runs.list.here refl))
    where
      met_stays : (n : ℕ) (kind : Kind) → met n ≡ Some kind → (b : Bool) → goes n ≡ b → goes n ≡ false
      met_stays n kind on true is = absurd (kind_is_none kind (sym on ∙ unmet n is))
      met_stays n kind on false is = is
