-- The worked iTD is described.
use Rattle.std.proofs.Common.{◌≡◌, ℕ, zero, suc, ◌*◌, ◌<◌, Bool, true, false, ◌==◌, [], ◌∷◌, Some, None, if◌then◌else◌, refl, sym, subst, ⊎_elim, inl, arith}
use Rattle.std.proofs.lemmas.Bool.{true≢false}
use Rattle.std.proofs.lemmas.Option.{same_Some}
use Rattle.itd_sitd.specs.Itd.{slot_of}
use Rattle.hc_iso.specs.WriteBack.{itd_pages, slot_place}
use Rattle.claims_driver.specs.Owners.{TransferRuns, SlotHas}
use Rattle.law_structures.specs.lent_structures.Structures.{Structure, Buffer, Isochronous, Has, put}
use Rattle.law_structures.proofs.lemmas.lent_structures.Names.{put_found}
use Rattle.law_driver_ring.specs.Extents.{InRuns}
use Rattle.law_frames.specs.Met.{IsBuffered}
use Rattle.law_frames.specs.PartSamples.{itd, bytes, pages, nothing}
use Rattle.law_descriptors.specs.Described.{IsDescriptorLent, HasItd, HasBufferIn, IsOfDescriptor, a_descriptor, a_buffer, AreDescribed}
use Rattle.law_descriptors.specs.PartWorked.{transfer, view, descs}

slots_there : (u : ℕ) → u < 8 → (slot_of u itd).active ≡ true → 0 < (slot_of u itd).length → IsBuffered (descs 64) (itd_pages itd) (slot_place (slot_of u itd)) (slot_of u itd).length
slots_there (suc (suc zero)) below on some = record { start = 192; bytes = bytes; here = refl; after = omega arith; within = omega arith }
slots_there (suc (suc (suc (suc (suc (suc (suc (suc u)))))))) below on some = absurd (omega (arith, below))
slots_there _ below on some = absurd (true≢false (sym on))

in_run : (j : ℕ) → Has 192 (Buffer pages 192 bytes) j → InRuns view.slot (6 ∷ []) j
in_run j (zero, below, is) = record { at = 6; among = inl refl; has = subst (SlotHas (view.slot 6)) (sym is) refl }
in_run j (suc zero, below, is) = record { at = 6; among = inl refl; has = subst (SlotHas (view.slot 6)) (sym is) refl }
in_run j (suc (suc i), below, is) = absurd (omega (arith, below))

-- there is no other transfer
at_number : (b : Bool) (y : TransferRuns) → (if b then Some transfer else None) ≡ Some y → transfer ≡ y
at_number true y here = same_Some transfer y here
at_number false y here = absurd (cc)

the_one : (t : ℕ) (y : TransferRuns) → IsDescriptorLent view t y → transfer ≡ y
the_one t y is = at_number (t == 0) y is.here

the_lent : IsDescriptorLent view 0 transfer
the_lent = record { here = refl; held = refl; isochronous = refl; lent = tt }

none_else : (n a : ℕ) (s : Structure) → nothing n a ≡ Some s → ⊥
none_else n a s there = cc

named : (n a m b : ℕ) → (n ≡ m) → (a ≡ b) → IsOfDescriptor view m b → IsOfDescriptor view n a
named n a m b owner name is = subst (λ (i : ℕ). IsOfDescriptor view i a) (sym owner) (subst (IsOfDescriptor view m) (sym name) is)

only_these : (n a : ℕ) (s : Structure) → descs n a ≡ Some s → IsOfDescriptor view n a
only_these n a s found =
    ⊎_elim (λ (is : (n ≡ 64) × (a ≡ 192) × (s ≡ Buffer pages 192 bytes)). named n a 64 192 is.0 is.1 (a_buffer 0 6 [] transfer the_lent refl))
    (λ (first : put nothing 64 64 (Isochronous itd) n a ≡ Some s).
    ⊎_elim (λ (is : (n ≡ 64) × (a ≡ 64) × (s ≡ Isochronous itd)). named n a 64 64 is.0 is.1 (a_descriptor 0 transfer the_lent)) (λ (there : nothing n a ≡ Some s). absurd (none_else n a s there))
    (put_found nothing 64 64 (Isochronous itd) n a s first))
    (put_found (put nothing 64 64 (Isochronous itd)) 64 192 (Buffer pages 192 bytes) n a s found)

pub described : AreDescribed view descs
described = record {
  descriptors = λ t y is. subst (λ (z : TransferRuns). HasItd (descs (32 * z.first)) (32 * z.first)) (the_one t y is) (record { itd = itd; here = refl; slots = slots_there });
  buffers = λ t y is. subst (λ (z : TransferRuns). HasBufferIn view.slot (descs (32 * z.first)) 6 []) (the_one t y is) (record { pages = pages; start = 192; bytes = bytes; here = refl; runs = in_run });
  only = only_these;
}
