-- The driver of the worked rows holds its put.
use Rattle.std.proofs.Common.{◌≡◌, ℕ, zero, suc, [], ◌∷◌, slice_get, Some, ap, refl, ◌∙◌, sym}
use Rattle.std.proofs.lemmas.Option.{same_Some}
use Rattle.drv_table.specs.declared.content.Transfer.{Transfer}
use Rattle.drv_table.specs.Harvests.{buffer_bytes}
use Rattle.law_world.specs.streams.put_laws.Held.{held_bytes}
use Rattle.law_world.specs.streams.put_laws.ByteSamples.{small, notes, five}
use Rattle.law_world.specs.streams.put_laws.HeldPuts.{HoldsPuts, with_put}
use Rattle.law_world.specs.streams.put_laws.HeldSamples.{put, sending}

holds_five : held_bytes small notes 0 1 ≡ five
unfolding held_bytes buffer_bytes
holds_five = refl

none_behind : (t : ℕ) (y : Transfer) → slice_get (put ∷ []) (suc t) ≡ Some y → ⊥
none_behind t y here = cc

its_bytes : (t : ℕ) (y : Transfer) → slice_get (put ∷ []) t ≡ Some y → held_bytes small notes y.first y.qtds ≡ with_put (λ t. []) 0 five t
its_bytes zero y here = ap (λ (z : Transfer). held_bytes small notes z.first z.qtds) (sym (same_Some put y here)) ∙ holds_five
its_bytes (suc t) y here = absurd (none_behind t y here)

pub sending_holds : HoldsPuts sending small (with_put (λ t. []) 0 five)
sending_holds = record { each = λ t y here sort held. its_bytes t y here }
