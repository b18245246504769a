-- The structures of queues beside those of isochronous descriptors, at an event.
use Rattle.std.proofs.Common.{◌≡◌, ℕ, Bool, true, false, if◌then◌else◌, ap, refl, sym, subst}
use Rattle.law_structures.specs.lent_structures.Structures.{Structures, StructureSets}
use Rattle.law_descriptors.specs.Both.{owns, both, parts_now}

module _ (descs parts now : StructureSets) where
  -- what holds of parts that stay holds of a descriptor's
  by_owner : (P : Structures → Structures → Type 0) (n : ℕ) (b : Bool) → owns descs n ≡ b → (b ≡ true → P (parts n) (parts n)) → (b ≡ false → both descs parts n ≡ parts n → P (parts n) (now n)) → P (parts n) (parts_now descs parts now n)
  by_owner P n true is stays goes = subst (P (parts n)) (sym (ap (λ (c : Bool). if c then parts n else now n) is)) (stays refl)
  by_owner P n false is stays goes =
      subst (P (parts n)) (sym (ap (λ (c : Bool). if c then parts n else now n) is)) (goes refl (ap (λ (c : Bool). if c then descs n else parts n) is))

  -- .. so it is enough that it holds of what was changed
  pub beside : (P : Structures → Structures → Type 0) (n : ℕ) → P (parts n) (parts n) → (both descs parts n ≡ parts n → P (both descs parts n) (now n)) → P (parts n) (parts_now descs parts now n)
  beside P n stays goes = by_owner P n (owns descs n) refl (λ on. stays) (λ off same. subst (λ (part : Structures). P part (now n)) same (goes same))
