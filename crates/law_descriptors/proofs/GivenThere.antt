-- What memory has for the worked driver: the frame list, the head of the ring, and its iTD.
use Rattle.std.proofs.Common.{◌≡◌, ℕ, suc, ◌*◌, ◌<◌, true, false, Some, ⊎_elim, ap, refl, sym, subst, ◌∙◌, arith}
use Rattle.std.proofs.lemmas.Bool.{true≢false}
use Rattle.law_descriptors.proofs.Common.{none_else}
use Rattle.itd_sitd.specs.Itd.{slot_of}
use Rattle.hc_iso.specs.WriteBack.{itd_pages, slot_place}
use Rattle.claims_driver.specs.Owners.{TransferRuns, runs_of_transfer, Views, views_of}
use Rattle.law_structures.specs.lent_structures.Structures.{Structure, Isochronous}
use Rattle.law_structures.proofs.lemmas.lent_structures.Names.{put_found}
use Rattle.law_driver_ring.specs.Inventory.{Sort, sorts_of, IsDriverOwned, the_list, the_head, a_queue, a_dummy, a_piece, a_buffer, IsDriven}
use Rattle.law_driver_ring.specs.PartOpened.{no_parts, opening_parts}
use Rattle.law_driver_ring.proofs.PartOpening.{opening_drives}
use Rattle.law_frames.specs.Met.{IsBuffered}
use Rattle.law_descriptors.specs.Described.{IsDescriptorLent, HasItd, HasDescriptor, HasItsBuffer, IsOfDescriptor, a_descriptor, AreDescribed}
use Rattle.law_descriptors.specs.Told.{IsToldBy}
use Rattle.law_descriptors.specs.GivenWorked.{room, itd, transfer, new, driver, descs}
use Rattle.law_descriptors.proofs.Opening.{new_told}
use Rattle.law_descriptors.proofs.GivenSampled.{bare, only_runs}

abbrev v : Views
v = views_of driver

its_lent : IsDescriptorLent v 0 (runs_of_transfer transfer)
its_lent = record { here = refl; held = refl; isochronous = refl; lent = tt }

slots_there : (u : ℕ) → u < 8 → (slot_of u itd).active ≡ true → 0 < (slot_of u itd).length → IsBuffered (descs 4160) (itd_pages itd) (slot_place (slot_of u itd)) (slot_of u itd).length
slots_there (suc (suc (suc (suc (suc (suc (suc (suc u)))))))) below on some = absurd (omega (arith, below))
slots_there _ below on some = absurd (true≢false (sym on))

only_this : (n a : ℕ) (s : Structure) → descs n a ≡ Some s → IsOfDescriptor v n a
only_this n a s found =
    ⊎_elim (λ (is : (n ≡ 4160) × (a ≡ 4160) × (s ≡ Isochronous itd)).
    subst (λ (i : ℕ). IsOfDescriptor v i a) (sym is.0) (subst (IsOfDescriptor v 4160) (sym is.1) (a_descriptor 0 (runs_of_transfer transfer) its_lent)))
    (λ (there : no_parts n a ≡ Some s). absurd (none_else s there)) (put_found no_parts 4160 4160 (Isochronous itd) n a s found)

its_itd : HasItd (descs 4160) 4160
its_itd = record { itd = itd; here = refl; slots = slots_there }

described : AreDescribed v descs
described = record {
  descriptors = λ t y is. subst (λ (z : TransferRuns). HasDescriptor (v.descriptor z.first).split (descs (32 * z.first)) (32 * z.first)) (only_runs t y is.here).1 its_itd;
  buffers = λ t y is. subst (λ (z : TransferRuns). HasItsBuffer v.slot (descs (32 * z.first)) (v.descriptor z.first).buffer) (only_runs t y is.here).1 tt;
  only = only_this;
}

-- ---- the queues

no_queue : (t : ℕ) (y : TransferRuns) → v.transfer t ≡ Some y → y.isochronous ≡ false → ⊥
no_queue t y there queued = true≢false (ap (λ (z : TransferRuns). z.isochronous) (only_runs t y there).1 ∙ queued)

was_driven : IsDriven (views_of new) (sorts_of opening_parts)
was_driven = (opening_drives 2048 room (omega arith) (omega arith) refl).driven

still_owned : (n a : ℕ) (s : Sort) → IsDriverOwned (views_of new) n a s → IsDriverOwned v n a s
still_owned _ _ _ the_list = the_list
still_owned _ _ _ the_head = the_head
still_owned _ _ _ (a_queue e x is lent) = absurd (let h = is.here in cc)
still_owned _ _ _ (a_dummy e x is lent) = absurd (let h = is.here in cc)
still_owned _ _ _ (a_piece t b y x is piece lent) = absurd (let h = is.here in cc)
still_owned _ _ _ (a_buffer t b c cs y x is piece first lent) = absurd (let h = is.here in cc)

pub told_now : IsToldBy v descs opening_parts
told_now = record {
  driven = record {
    list = was_driven.list;
    head = was_driven.head;
    queue = λ e x is lent. absurd (true≢false (sym (bare e x is.here) ∙ is.queued));
    dummy = λ e x is lent. absurd (true≢false (sym (bare e x is.here) ∙ is.queued));
    pieces = λ t y x is. absurd (no_queue t y is.here is.qtds);
    only = λ n a s there. still_owned n a s (was_driven.only n a s there);
  };
  extents = record {
    list = (new_told room).extents.list;
    buffers = λ t b c cs y x pages k bs is piece first here j has. absurd (no_queue t y is.here is.qtds);
  };
  described = described;
}
