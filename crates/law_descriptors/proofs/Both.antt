-- A lend of descriptors leaves the ring and the frames.
use Rattle.std.proofs.Common.{◌≡◌, ℕ, Bool, true, false, Option, Some, ap, refl, sym, ◌∙◌}
use Rattle.std.specs.Prelude.{is_some}
use Rattle.usb_base.specs.declared.endpoints.EpDesc.{EpDesc}
use Rattle.mem_runs.specs.Book.{holding, Stands}
use Rattle.drv_table.specs.DriverContent.{DriverContent}
use Rattle.drv_table.specs.Parts.{Parts}
use Rattle.claims_driver.specs.Owners.{views_of}
use Rattle.claims_driver.specs.Leaving.{HasOwners}
use Rattle.hc_core.specs.Controller.{Content}
use Rattle.law_structures.specs.lent_structures.Structures.{Structure, QueueHead, Table, Isochronous, SplitIsochronous, Structures, StructureSets, Tells}
use Rattle.law_structures.proofs.lemmas.lent_structures.Telling.{rest_is_told}
use Rattle.law_structures.specs.lent_structures.Sound.{IsMember}
use Rattle.law_ring.specs.Hand.{Hand}
use Rattle.claims_base.specs.Controller.{Base}
use Rattle.law_frames.specs.Met.{Kind, AQueue, AnItd, ASitd, IsMetAs}
use Rattle.law_frames.specs.FrameHand.{FrameHand}
use Rattle.law_controller.specs.frame_control.Both.{RunsBoth}
use Rattle.law_controller.proofs.lemmas.frame_stores.Beside.{unmet_parts_leave_both}
use Rattle.law_descriptors.specs.Described.{AreHeld}
use Rattle.law_descriptors.specs.Both.{owns, both}
use Rattle.law_descriptors.specs.PartLaws.{IsDescribing}
use Rattle.law_descriptors.proofs.Standing.{both_on, both_off}
use Rattle.law_descriptors.proofs.Telling.{both_are_told, each_is_told, queue_off}
use Rattle.law_descriptors.specs.Lent.{after_lend, descs_after, IsLending}
use Rattle.law_descriptors.proofs.Lends.{lend_leaves}
use Rattle.law_descriptors.proofs.Told.{descs_stay, lend_describes}
use Rattle.law_descriptors.specs.Told.{IsToldBy, as_parts}
use Rattle.law_descriptors.specs.CommandLaws.{LendRunsBoth}
use Rattle.law_descriptors.proofs.Lending.{lend_told}

-- what is met stands at its own address
record IsThere (n : ℕ) (part : Structures) : Type 0 where
  structure : Structure
  here : part n ≡ Some structure

met_there : (met : ℕ → Option Kind) (n : ℕ) (part : Structures) (kind : Kind) → IsMetAs met n part kind → IsThere n part
met_there met n part AQueue k = record { structure = QueueHead k.part_is.queue; here = k.part_is.here }
met_there met n part AnItd k = record { structure = Isochronous k.itd; here = k.here }
met_there met n part ASitd k = record { structure = SplitIsochronous k.sitd; here = k.here }

module _ (base : Base) (member : ℕ → Bool) (met : ℕ → Option Kind) (descs parts : StructureSets) (hand : Hand) (frame : FrameHand) (c : Content) (d : DriverContent) (t : ℕ) (x : EpDesc) (k : IsLending (as_parts c d) t x) (told : IsToldBy (views_of d) descs parts) (owners : HasOwners (after_lend (as_parts c d)).driver) (stands : Stands (holding (after_lend (as_parts c d)).driver.book (after_lend (as_parts c d)).memory)) (runs : RunsBoth base member met (both descs parts) hand frame c) where
  abbrev p : Parts
  p = as_parts c d

  abbrev new : StructureSets
  new = descs_after p t x descs

  before : IsDescribing d descs parts
  before = record { owners = k.owners; driven = told.driven; described = told.described }

  stood : AreHeld c.memory descs
  stood = (each_is_told d c.memory descs parts before runs.ring.tells).1

  now_told : IsToldBy (views_of (after_lend p).driver) new parts
  now_told = lend_told p t x descs parts k stood told

  after : IsDescribing (after_lend p).driver new parts
  after = record { owners = owners; driven = now_told.driven; described = now_told.described }

  tells : Tells (after_lend p).memory (both new parts)
  tells =
      both_are_told (after_lend p).driver (after_lend p).memory new parts after now_told.extents stands
      (rest_is_told c.memory (after_lend p).memory parts (lend_leaves p t x k)
      (each_is_told d c.memory descs parts before runs.ring.tells).0)
      (lend_describes p t x descs k told.described stood).1

  -- an owner of the queues stays
  queue_same : (n a : ℕ) (s : Structure) → owns descs n ≡ false → both descs parts n a ≡ Some s → both new parts n ≡ both descs parts n
  queue_same n a s off here =
      let there : parts n a ≡ Some s = ap (λ (part : Structures). part a) (sym (both_off descs parts n off)) ∙ here in
      both_off new parts n (queue_off (after_lend p).driver new parts after n a s there) ∙ sym (both_off descs parts n off)

  -- one that is there stays
  there_same : (n : ℕ) (s : Structure) → both descs parts n n ≡ Some s → both new parts n ≡ both descs parts n
  there_same n s here = by (owns descs n) refl
    where
      by : (b : Bool) → owns descs n ≡ b → both new parts n ≡ both descs parts n
      by true on =
          let same : new n ≡ descs n = descs_stay p t x k descs told.described stood n on in
          both_on new parts n (ap (λ (part : Structures). is_some (part n)) same ∙ on) ∙ same ∙ sym (both_on descs parts n on)
      by false off = queue_same n n s off here

  pub runs_on : RunsBoth base member met (both new parts) hand frame (record c { memory = (after_lend p).memory })
  runs_on =
      unmet_parts_leave_both base member met (both descs parts) (both new parts) hand frame c (after_lend p).memory runs tells
      (λ n on. let m : IsMember member n (both descs parts n) = runs.ring.members n on in there_same n (QueueHead m.queue) m.here)
      (λ n kind on. let at : IsThere n (both descs parts n) = met_there met n (both descs parts n) kind (runs.members n kind on) in there_same n at.structure at.here)
      (ap (λ (part : Structures). part base.periodic_list_base) (there_same base.periodic_list_base (Table runs.list.words) runs.list.here))

pub lend_runs_both : LendRunsBoth
lend_runs_both base member met descs parts hand frame c d t x k told owners stands runs = runs_on base member met descs parts hand frame c d t x k told owners stands runs
