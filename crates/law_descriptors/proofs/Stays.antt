-- What became of both is what became of each; and descriptors that are told alike are described as before.
use Rattle.std.proofs.Common.{◌≡◌, ℕ, ◌*◌, ◌<◌, Bool, true, false, List, [], ◌∷◌, length, Option, Some, None, if◌then◌else◌, option_map, ap, refl, sym, subst, ◌∙◌}
use Rattle.std.specs.Prelude.{is_some}
use Rattle.std.proofs.lemmas.Bool.{true≢false}
use Rattle.law_descriptors.proofs.Common.{buffer_follows}
use Rattle.claims_driver.specs.Owners.{TransferRuns, DescriptorRuns, Views}
use Rattle.law_structures.specs.lent_structures.Structures.{Structure, Buffer, Table, Structures, StructureSets}
use Rattle.law_driver_ring.specs.Inventory.{sort_of, sorts_of}
use Rattle.law_structures.specs.lent_structures.Alters.{HasBytes}
use Rattle.law_driver_ring.specs.Extents.{HasWords, KeepExtents}
use Rattle.law_descriptors.specs.Described.{IsDescriptorLent, HasDescriptor, HasItsBuffer, IsOfDescriptor, a_descriptor, a_buffer, AreDescribed}
use Rattle.law_descriptors.specs.Both.{owns, both, descs_now, parts_now, Keeps}
use Rattle.law_descriptors.specs.PartLaws.{DescribedStay, DescribedFollow}
use Rattle.law_descriptors.proofs.Standing.{both_on, both_off, stands_some}
use Rattle.law_descriptors.proofs.Events.{buffer_still}

-- ---- what became of both

some_by_sort : (o p : Option Structure) → option_map sort_of o ≡ option_map sort_of p → is_some p ≡ true → is_some o ≡ true
some_by_sort (Some s) p same some = refl
some_by_sort None (Some t) same some = absurd (cc)
some_by_sort None None same some = some

module _ (v : Views) (descs parts now : StructureSets) (k : AreDescribed v descs) (keeps : Keeps (both descs parts) now) where
  abbrev new_descs : StructureSets
  new_descs = descs_now descs now

  abbrev new_parts : StructureSets
  new_parts = parts_now descs parts now

  descs_on : (n : ℕ) → owns descs n ≡ true → new_descs n ≡ now n
  descs_on n on = ap (λ (b : Bool). if b then now n else descs n) on

  descs_off : (n : ℕ) → owns descs n ≡ false → new_descs n ≡ descs n
  descs_off n off = ap (λ (b : Bool). if b then now n else descs n) off

  parts_on : (n : ℕ) → owns descs n ≡ true → new_parts n ≡ parts n
  parts_on n on = ap (λ (b : Bool). if b then parts n else now n) on

  parts_off : (n : ℕ) → owns descs n ≡ false → new_parts n ≡ now n
  parts_off n off = ap (λ (b : Bool). if b then parts n else now n) off

  owns_still : (n : ℕ) → owns descs n ≡ true → owns new_descs n ≡ true
  owns_still n on =
      ap (λ (part : Structures). is_some (part n)) (descs_on n on)
      ∙ some_by_sort (now n n) (both descs parts n n) (keeps.sorts n n) (ap (λ (part : Structures). is_some (part n)) (both_on descs parts n on) ∙ on)

  same_at : (n : ℕ) (b : Bool) → owns descs n ≡ b → now n ≡ both new_descs new_parts n
  same_at n true on = sym (both_on new_descs new_parts n (owns_still n on) ∙ descs_on n on)
  same_at n false off = sym (both_off new_descs new_parts n (ap (λ (part : Structures). is_some (part n)) (descs_off n off) ∙ off) ∙ parts_off n off)

  same : now ≡ both new_descs new_parts
  same = λ i n. same_at n (owns descs n) refl i

  -- ---- the descriptors

  on_lent : (t : ℕ) (y : TransferRuns) → IsDescriptorLent v t y → owns descs (32 * y.first) ≡ true
  on_lent t y is = stands_some (v.descriptor y.first).split (descs (32 * y.first)) (32 * y.first) (k.descriptors t y is)

  descriptor_now : (n : ℕ) (split : Bool) → owns descs n ≡ true → HasDescriptor split (descs n) n → HasDescriptor split (new_descs n) n
  descriptor_now n split on has =
      subst (λ (part : Structures). HasDescriptor split part n) (sym (descs_on n on)) (keeps.descriptors split n (subst (λ (part : Structures). HasDescriptor split part n) (sym (both_on descs parts n on)) has))

  buffer_now : (n : ℕ) (cs : List ℕ) → owns descs n ≡ true → HasItsBuffer v.slot (descs n) cs → HasItsBuffer v.slot (new_descs n) cs
  buffer_now n [] on has = tt
  buffer_now n (c ∷ cs) on has =
      let there = buffer_still (both descs parts) now n (32 * c) has.pages has.start has.bytes keeps.sorts keeps.extents (ap (λ (part : Structures). part (32 * c)) (both_on descs parts n on) ∙ has.here) in
      record {
        pages = has.pages;
        start = has.start;
        bytes = there.bytes;
        here = ap (λ (part : Structures). part (32 * c)) (descs_on n on) ∙ there.here;
        runs = λ j in_now. has.runs j (in_now.0, subst (λ (x : ℕ). in_now.0 < x) there.size in_now.1, in_now.2);
      }

  only_now : (n a : ℕ) (s : Structure) (b : Bool) → owns descs n ≡ b → new_descs n a ≡ Some s → IsOfDescriptor v n a
  only_now n a s false off here = k.only n a s (ap (λ (part : Structures). part a) (sym (descs_off n off)) ∙ here)
  only_now n a s true on here = by_case (descs n a) refl
    where
      was_some : is_some (descs n a) ≡ true
      was_some =
          ap (λ (part : Structures). is_some (part a)) (sym (both_on descs parts n on))
          ∙ some_by_sort (both descs parts n a) (now n a) (sym (keeps.sorts n a)) (ap (λ (part : Structures). is_some (part a)) (sym (descs_on n on)) ∙ ap is_some here)

      by_case : (o : Option Structure) → descs n a ≡ o → IsOfDescriptor v n a
      by_case (Some t) is = k.only n a t is
      by_case None is = absurd (true≢false (sym was_some ∙ ap is_some is))

  described_now : AreDescribed v new_descs
  described_now = record {
    descriptors = λ t y is. descriptor_now (32 * y.first) (v.descriptor y.first).split (on_lent t y is) (k.descriptors t y is);
    buffers = λ t y is. buffer_now (32 * y.first) (v.descriptor y.first).buffer (on_lent t y is) (k.buffers t y is);
    only = λ n a s here. only_now n a s (owns descs n) refl here;
  }

  -- ---- the queues

  sorts_at : (n a : ℕ) (b : Bool) → owns descs n ≡ b → sorts_of new_parts n a ≡ sorts_of parts n a
  sorts_at n a true on = ap (λ (part : Structures). option_map sort_of (part a)) (parts_on n on)
  sorts_at n a false off = ap (λ (part : Structures). option_map sort_of (part a)) (parts_off n off) ∙ keeps.sorts n a ∙ ap (λ (part : Structures). option_map sort_of (part a)) (both_off descs parts n off)

  part_here : (n a : ℕ) (s : Structure) → owns descs n ≡ false → both descs parts n a ≡ Some s → parts n a ≡ Some s
  part_here n a s off here = ap (λ (part : Structures). part a) (sym (both_off descs parts n off)) ∙ here

  buffers_at : (n a : ℕ) (pages : List ℕ) (i : ℕ) (bs : List ℕ) (b : Bool) → owns descs n ≡ b → new_parts n a ≡ Some (Buffer pages i bs) → HasBytes (parts n) a pages i (length bs)
  buffers_at n a pages i bs true on here = record { bytes = bs; here = ap (λ (part : Structures). part a) (sym (parts_on n on)) ∙ here; size = refl }
  buffers_at n a pages i bs false off here =
      let was = keeps.extents.buffers n a pages i bs (ap (λ (part : Structures). part a) (sym (parts_off n off)) ∙ here) in
      record { bytes = was.bytes; here = part_here n a (Buffer pages i was.bytes) off was.here; size = was.size }

  tables_at : (n a : ℕ) (ws : List ℕ) (b : Bool) → owns descs n ≡ b → new_parts n a ≡ Some (Table ws) → HasWords (parts n) a (length ws)
  tables_at n a ws true on here = record { words = ws; here = ap (λ (part : Structures). part a) (sym (parts_on n on)) ∙ here; size = refl }
  tables_at n a ws false off here =
      let was = keeps.extents.tables n a ws (ap (λ (part : Structures). part a) (sym (parts_off n off)) ∙ here) in
      record { words = was.words; here = part_here n a (Table was.words) off was.here; size = was.size }

  extents_now : KeepExtents parts new_parts
  extents_now = record {
    buffers = λ n a pages i bs here. buffers_at n a pages i bs (owns descs n) refl here;
    tables = λ n a ws here. tables_at n a ws (owns descs n) refl here;
  }

pub described_stay : DescribedStay
described_stay v descs parts now k keeps = record {
  same = same v descs parts now k keeps;
  described = described_now v descs parts now k keeps;
  sorts = λ n a. sorts_at v descs parts now k keeps n a (owns descs n) refl;
  extents = extents_now v descs parts now k keeps;
}

-- ---- what is told alike

pub described_follow : DescribedFollow
described_follow v w descs same k = record {
  descriptors = λ t y is.
      let was = same.were t y is in
      subst (λ (r : DescriptorRuns). HasDescriptor r.split (descs (32 * y.first)) (32 * y.first)) (sym (same.notes t y was)) (k.descriptors t y was);
  buffers = λ t y is.
      let was = same.were t y is in
      subst (λ (r : DescriptorRuns). HasItsBuffer w.slot (descs (32 * y.first)) r.buffer) (sym (same.notes t y was)) (buffer_follows v.slot w.slot (descs (32 * y.first)) (v.descriptor y.first).buffer same.slots (k.buffers t y was));
  only = λ n a s here. goes_on n a (k.only n a s here);
}
  where
    goes_on : (n a : ℕ) → IsOfDescriptor v n a → IsOfDescriptor w n a
    goes_on _ _ (a_descriptor t y is) = a_descriptor t y (same.stay t y is)
    goes_on _ _ (a_buffer t c cs y is first) = a_buffer t c cs y (same.stay t y is) (ap (λ (r : DescriptorRuns). r.buffer) (same.notes t y is) ∙ first)
