-- The structures of a driver's queues change beside both walks: the ring goes on with them, and each that is met stands as it was, and is sound.
use Rattle.std.proofs.Common.{◌≡◌, ℕ, Bool, true, false, Option, Some, option_map, ap, refl, sym, subst, ◌∙◌}
use Rattle.std.proofs.lemmas.Bool.{true≢false}
use Rattle.word_mem.specs.Memory.{Mem}
use Rattle.mem_runs.specs.Book.{holding, Stands}
use Rattle.async_walk.specs.Rows.{place}
use Rattle.drv_table.specs.DriverContent.{DriverContent}
use Rattle.claims_driver.specs.Owners.{Views, views_of, SlotHas}
use Rattle.hc_core.specs.Controller.{Content, frame_place, walk_place}
use Rattle.law_structures.specs.lent_structures.Structures.{Table, Structures, StructureSets, Tells}
use Rattle.law_structures.specs.lent_structures.Changes.{Leaves}
use Rattle.law_structures.proofs.lemmas.lent_structures.Telling.{rest_is_told}
use Rattle.law_ring.specs.Hand.{Hand, Empty}
use Rattle.claims_base.specs.Controller.{Base}
use Rattle.law_ring.specs.Ring.{IsRing}
use Rattle.law_driver_ring.specs.Inventory.{Sort, OfIsochronous, OfSplitIsochronous, sort_of, sorts_of, IsDriverOwned, the_list, the_head, a_queue, a_dummy, a_piece, a_buffer, IsDriven}
use Rattle.law_driver_ring.specs.Extents.{AreInRuns}
use Rattle.law_driver_ring.proofs.Extending.{extents_stay}
use Rattle.law_driver_ring.proofs.Viewing.{SameViews}
use Rattle.law_frames.specs.Met.{Kind, AQueue, AnItd, ASitd, IsMetQueue, IsMetAs}
use Rattle.law_frames.specs.FrameHand.{FrameHand}
use Rattle.law_controller.specs.frame_control.Both.{AreMet, RunsBoth}
use Rattle.law_controller.specs.frame_stores.Stores.{KeepsMet}
use Rattle.law_controller.proofs.lemmas.frame_stores.Framing.{other_parts_leave_frame}
use Rattle.law_descriptors.proofs.lemmas.frame_keeps.Keeping.{parts_itself}
use Rattle.law_descriptors.proofs.lemmas.frame_keeps.Following.{extents_kept}
use Rattle.mem_runs.specs.declared.slots.Slot.{Slot}
use Rattle.law_descriptors.specs.Described.{AreHeld}
use Rattle.law_descriptors.specs.Both.{owns, both}
use Rattle.law_descriptors.specs.PartLaws.{IsDescribing}
use Rattle.law_descriptors.specs.Told.{with_memory}
use Rattle.law_descriptors.proofs.Standing.{both_on, both_off}
use Rattle.law_descriptors.proofs.Telling.{both_are_told, descriptor_found}
use Rattle.law_descriptors.proofs.Rings.{other_off, ring_is_of_both}

-- what is told alike reaches as far
pub alike_extents : (v w : Views) (parts : StructureSets) → SameViews v w → AreInRuns v parts → AreInRuns w parts
alike_extents v w parts same lies =
    extents_stay v w parts parts
    (record { slots = λ c k has. subst (λ (s : Slot). SlotHas s k) (sym (same.slot c)) has; endpoints = same.endpoint; transfers = same.transfer; notes = same.note })
    (extents_kept parts parts (parts_itself parts parts refl)) lies

-- what was Lent stays so, with its words: so descriptors stand where they stood
pub still_held : (d : DriverContent) (m after : Mem) (descs parts : StructureSets) → IsDescribing d descs parts → Leaves m after → Tells m (both descs parts) → AreHeld after descs
still_held d m after descs parts k leaves tells n a s here = (rest_is_told m after (both descs parts) leaves tells).each n a s (descriptor_found d descs parts k n a s here)

-- each queue head that is met stands as it was, and is sound
abbrev pub StaysSound : (ℕ → Option Kind) → StructureSets → StructureSets → Type 0
StaysSound met parts now = (n : ℕ) → met n ≡ Some AQueue → IsMetQueue met n (parts n) → IsMetQueue met n (now n) × (now n n ≡ parts n n)

-- the queues have no isochronous descriptors
abbrev of_descriptor : Sort → Bool
of_descriptor OfIsochronous = true
of_descriptor OfSplitIsochronous = true
of_descriptor _ = false

no_descriptor : (v : Views) (n a : ℕ) (k : Sort) → IsDriverOwned v n a k → of_descriptor k ≡ false
no_descriptor v _ _ _ the_list = refl
no_descriptor v _ _ _ the_head = refl
no_descriptor v _ _ _ (a_queue e x is lent) = refl
no_descriptor v _ _ _ (a_dummy e x is lent) = refl
no_descriptor v _ _ _ (a_piece t b y x is piece lent) = refl
no_descriptor v _ _ _ (a_buffer t b c cs y x is piece first lent) = refl

is_queue : (v : Views) (met : ℕ → Option Kind) (parts now : StructureSets) (n : ℕ) (kind : Kind) → IsDriven v (sorts_of parts) → StaysSound met parts now → met n ≡ Some kind → IsMetAs met n (parts n) kind
    → IsMetAs met n (now n) kind × (now n n ≡ parts n n)
is_queue v met parts now n AQueue driven sound on m = sound n on m
is_queue v met parts now n AnItd driven sound on m = absurd (true≢false (no_descriptor v n n OfIsochronous (driven.only n n OfIsochronous (ap (option_map sort_of) m.here))))
is_queue v met parts now n ASitd driven sound on m = absurd (true≢false (no_descriptor v n n OfSplitIsochronous (driven.only n n OfSplitIsochronous (ap (option_map sort_of) m.here))))

module _ (base : Base) (member : ℕ → Bool) (met : ℕ → Option Kind) (descs parts now : StructureSets) (hand later : Hand) (empties : hand ≡ Empty → later ≡ Empty) (frame : FrameHand) (c : Content) (d f : DriverContent) (after : Mem) (old : IsDescribing d descs parts) (new : IsDescribing f descs now) (lies : AreInRuns (views_of f) now) (stands : Stands (holding f.book after)) (held : AreHeld after descs) (runs : RunsBoth base member met (both descs parts) hand frame c) (ring : IsRing base member now later (place c.control.walk c.registers after)) (sound : StaysSound met parts now) (list : now base.periodic_list_base base.periodic_list_base ≡ parts base.periodic_list_base base.periodic_list_base) where
  tells : Tells after (both descs now)
  tells = both_are_told f after descs now new lies stands ring.tells held

  list_off : owns descs base.periodic_list_base ≡ false
  list_off = other_off (views_of d) descs parts base.periodic_list_base (Table runs.list.words) old.described refl runs.list.here

  list_here : both descs now base.periodic_list_base base.periodic_list_base ≡ Some (Table runs.list.words)
  list_here =
      ap (λ (part : Structures). part base.periodic_list_base) (both_off descs now base.periodic_list_base list_off) ∙ list
      ∙ ap (λ (part : Structures). part base.periodic_list_base) (sym (both_off descs parts base.periodic_list_base list_off)) ∙ runs.list.here

  abbrev IsStill : ℕ → Kind → Type 0
  IsStill n kind = IsMetAs met n (both descs now n) kind × (both descs now n n ≡ both descs parts n n)

  still : (n : ℕ) (kind : Kind) → met n ≡ Some kind → IsStill n kind
  still n kind on = by (owns descs n) refl
    where
      by : (b : Bool) → owns descs n ≡ b → IsStill n kind
      by true own =
          let same : both descs now n ≡ both descs parts n = both_on descs now n own ∙ sym (both_on descs parts n own) in
          (subst (λ (part : Structures). IsMetAs met n part kind) (sym same) (runs.members n kind on), ap (λ (part : Structures). part n) same)
      by false off =
          let was : both descs parts n ≡ parts n = both_off descs parts n off in
          let is : both descs now n ≡ now n = both_off descs now n off in
          let k = is_queue (views_of d) met parts now n kind old.driven sound on (subst (λ (part : Structures). IsMetAs met n part kind) was (runs.members n kind on)) in
          (subst (λ (part : Structures). IsMetAs met n part kind) (sym is) k.0, ap (λ (part : Structures). part n) is ∙ k.1 ∙ ap (λ (part : Structures). part n) (sym was))

  members : AreMet met (both descs now)
  members n kind on = (still n kind on).0

  keeps : KeepsMet met (both descs parts) (both descs now)
  keeps n kind on = (still n kind on).1

  pub queues_move : RunsBoth base member met (both descs now) later frame (with_memory c after)
  queues_move = record {
    ring = ring_is_of_both f descs now base member later (walk_place (with_memory c after)) new tells ring;
    between = λ part. empties (runs.between part);
    list = record { words = runs.list.words; here = list_here; size = runs.list.size };
    elements = runs.elements;
    members = members;
    apart = runs.apart;
    walk = λ part. (other_parts_leave_frame met (both descs parts) (both descs now) frame (frame_place c) after (record { tells = runs.ring.tells; members = runs.members; walk = runs.walk part }) tells members keeps).walk;
    outside = runs.outside;
  }
