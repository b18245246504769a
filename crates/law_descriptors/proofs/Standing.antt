-- What stands at a name of both: a descriptor's, where one stands at its owner, and a queue's where none does.
use Rattle.std.proofs.Common.{◌≡◌, ℕ, ◌*◌, Bool, true, false, Option, Some, None, if◌then◌else◌, ap, refl, sym, ◌∙◌}
use Rattle.std.specs.Prelude.{is_some}
use Rattle.std.proofs.lemmas.Bool.{true≢false}
use Rattle.claims_driver.specs.Owners.{TransferRuns, Views}
use Rattle.law_structures.specs.lent_structures.Structures.{Structure, Structures, StructureSets}
use Rattle.law_descriptors.specs.Described.{IsDescriptorLent, HasDescriptor, IsOfDescriptor, a_descriptor, a_buffer, AreDescribed}
use Rattle.law_descriptors.specs.Both.{owns, both}

-- ---- an owner

pub both_on : (descs parts : StructureSets) (n : ℕ) → owns descs n ≡ true → both descs parts n ≡ descs n
both_on descs parts n on = ap (λ (b : Bool). if b then descs n else parts n) on

pub both_off : (descs parts : StructureSets) (n : ℕ) → owns descs n ≡ false → both descs parts n ≡ parts n
both_off descs parts n off = ap (λ (b : Bool). if b then descs n else parts n) off

pub stands_some : (split : Bool) (part : Structures) (n : ℕ) → HasDescriptor split part n → is_some (part n) ≡ true
stands_some true part n k = ap is_some k.here
stands_some false part n k = ap is_some k.here

lent_on : (v : Views) (descs : StructureSets) → AreDescribed v descs → (n a : ℕ) → IsOfDescriptor v n a → owns descs n ≡ true
lent_on v descs k _ _ (a_descriptor t y is) = stands_some (v.descriptor y.first).split (descs (32 * y.first)) (32 * y.first) (k.descriptors t y is)
lent_on v descs k _ _ (a_buffer t c cs y is first) = stands_some (v.descriptor y.first).split (descs (32 * y.first)) (32 * y.first) (k.descriptors t y is)

-- what is there has a descriptor at its owner
pub found_on : (v : Views) (descs : StructureSets) (n a : ℕ) (s : Structure) → AreDescribed v descs → descs n a ≡ Some s → owns descs n ≡ true
found_on v descs n a s k here = lent_on v descs k n a (k.only n a s here)

pub nothing_off : (v : Views) (descs : StructureSets) (n a : ℕ) → AreDescribed v descs → owns descs n ≡ false → descs n a ≡ None
nothing_off v descs n a k off = by_case (descs n a) refl
  where
    by_case : (o : Option Structure) → descs n a ≡ o → descs n a ≡ None
    by_case None is = is
    by_case (Some s) is = absurd (true≢false (sym (found_on v descs n a s k is) ∙ off))

-- ---- whose it is

-- the transfer whose descriptor stands at n
pub record IsAtOwner (v : Views) (n : ℕ) : Type 0 where
  pub number : ℕ
  pub transfer : TransferRuns
  pub lent : IsDescriptorLent v number transfer
  pub name : n ≡ 32 * transfer.first

owner_of : (v : Views) (n a : ℕ) → IsOfDescriptor v n a → IsAtOwner v n
owner_of v _ _ (a_descriptor t y is) = record { number = t; transfer = y; lent = is; name = refl }
owner_of v _ _ (a_buffer t c cs y is first) = record { number = t; transfer = y; lent = is; name = refl }

pub on_owner : (v : Views) (descs : StructureSets) (n : ℕ) → AreDescribed v descs → owns descs n ≡ true → IsAtOwner v n
on_owner v descs n k on = by_case (descs n n) refl
  where
    by_case : (o : Option Structure) → descs n n ≡ o → IsAtOwner v n
    by_case None is = absurd (true≢false (sym on ∙ ap is_some is))
    by_case (Some s) is = owner_of v n n (k.only n n s is)
