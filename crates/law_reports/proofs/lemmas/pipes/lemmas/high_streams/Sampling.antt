-- Bytes that differ, and a script that is of no class.
use Rattle.std.proofs.Common.{◌≡◌, ℕ, List, [], ◌∷◌}
use Rattle.usb_base.specs.declared.packets.EpKind.TheVariants as kinds
use Rattle.law_driver.specs.AsynchronousScripts.{AsynchronousOnly}
use Rattle.law_opened.specs.Samples.{beside_split}

pub other_byte : (xs : List ℕ) → 1 ∷ 3 ∷ xs ≡ 1 ∷ 2 ∷ [] → ⊥
other_byte xs is = cc

pub some_none : (xs : List ℕ) → 7 ∷ xs ≡ [] → ⊥
some_none xs is = cc

pub eight_seven : (xs : List ℕ) → 8 ∷ xs ≡ 7 ∷ [] → ⊥
eight_seven xs is = cc

interrupt_bulk : kinds.Interrupt ≡ kinds.Bulk → ⊥
interrupt_bulk is = cc

pub not_asynchronous : AsynchronousOnly beside_split → ⊥
not_asynchronous k = interrupt_bulk k.0.kind
