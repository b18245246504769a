-- A driver whose descriptors stand beside its queues is told, and what is kept of structures keeps each descriptor.
use Rattle.std.proofs.Common.{◌≡◌, ℕ, ◌*◌, Bool, true, false, Some, ap, refl, sym, subst, ◌∙◌}
use Rattle.law_ring.proofs.Common.{none_some}
use Rattle.drv_table.specs.DriverContent.{DriverContent}
use Rattle.claims_driver.specs.Owners.{TransferRuns, views_of}
use Rattle.law_structures.specs.lent_structures.Structures.{Structure, Structures, StructureSets}
use Rattle.law_descriptors.specs.Described.{IsDescriptorLent, HasDescriptor}
use Rattle.law_descriptors.specs.Both.{owns, both}
use Rattle.law_descriptors.specs.PartLaws.{IsDescribing}
use Rattle.law_descriptors.proofs.Standing.{both_on, both_off, stands_some}
use Rattle.law_descriptors.proofs.Telling.{descriptors_apart}
use Rattle.law_descriptors.specs.frame_keeps.Kept.{HasItdAfter, HasSitdAfter, KeepsPart}
use Rattle.law_descriptors.proofs.lemmas.frame_keeps.Following.{sorts_kept, extents_kept, slots_still, bytes_still}
use Rattle.law_descriptors.specs.list_beside.Links.{IsDescriptor, an_itd, a_sitd}
use Rattle.law_descriptors.specs.list_beside.Laws.{DescribedIsTold, DescribedAreKept}

has_descriptor : (split : Bool) (part : Structures) (n : ℕ) → HasDescriptor split part n → IsDescriptor (part n)
has_descriptor true part n k = a_sitd k.sitd k.here
has_descriptor false part n k = an_itd k.itd k.here

queues_within : (d : DriverContent) (descs parts : StructureSets) (b : Bool) (n a : ℕ) (s : Structure) → IsDescribing d descs parts → owns descs n ≡ b → parts n a ≡ Some s → both descs parts n a ≡ Some s
queues_within d descs parts true n a s k on here = absurd (none_some (parts n a) s (descriptors_apart d descs parts k n a on) here)
queues_within d descs parts false n a s k off here = ap (λ (part : Structures). part a) (both_off descs parts n off) ∙ here

descriptor_told : (d : DriverContent) (descs parts : StructureSets) (t : ℕ) (y : TransferRuns) → IsDescribing d descs parts → IsDescriptorLent (views_of d) t y → IsDescriptor (both descs parts (32 * y.first) (32 * y.first))
descriptor_told d descs parts t y k is =
    let n : ℕ = 32 * y.first in
    let split : Bool = ((views_of d).descriptor y.first).split in
    let has : HasDescriptor split (descs n) n = k.described.descriptors t y is in
    subst (λ (part : Structures). IsDescriptor (part n)) (sym (both_on descs parts n (stands_some split (descs n) n has))) (has_descriptor split (descs n) n has)

pub described_is_told : DescribedIsTold
described_is_told base parts descs m d place k list start = record {
  place = place;
  driven = k.driven;
  within = λ n a s here. queues_within d descs parts (owns descs n) n a s k refl here;
  descriptors = λ t y here sort held lent. descriptor_told d descs parts t y k (record { here = here; held = held; isochronous = sort; lent = lent });
  list = list;
  start = start;
}

-- ---- what is kept

descriptor_kept : (split : Bool) (part now : Structures) (n : ℕ) → KeepsPart part now → HasDescriptor split part n → HasDescriptor split now n
descriptor_kept true part now n keeps k =
    let f : HasSitdAfter now n k.sitd = keeps.sitd n k.sitd k.here in
    record { sitd = f.sitd; here = f.here; bytes = bytes_still part now k.sitd f.sitd keeps f.after k.bytes }
descriptor_kept false part now n keeps k =
    let f : HasItdAfter now n k.itd = keeps.itd n k.itd k.here in
    record { itd = f.itd; here = f.here; slots = slots_still part now k.itd f.itd keeps f.after k.slots }

pub described_are_kept : DescribedAreKept
described_are_kept parts now keeps = record {
  sorts = sorts_kept parts now keeps;
  extents = extents_kept parts now keeps;
  descriptors = λ split n k. descriptor_kept split (parts n) (now n) n (keeps n) k;
}
