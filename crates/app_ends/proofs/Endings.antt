-- How a program that read its input ends, by how its answer ends.
use Rattle.std.proofs.Common.{◌≡◌, ◌≢◌, ℕ, List, Option, None, Some, IfSome, refl, arith}
use Rattle.app_ends.specs.Input.{input_limit, rest_of}
use Rattle.app_ends.specs.Ends.{IsLeft, IsFault}
use Rattle.app_ends.specs.declared.status.Status.{Status}
use Rattle.app_ends.specs.declared.status.Status.TheVariants.{Words, ReadFault, Memory}

left_of : (status : Status) (xs : List ℕ) (after : Option (List ℕ)) → status ≢ Words → status ≢ ReadFault → after ≡ Some (rest_of xs) → IsLeft status xs after
unfolding rest_of
left_of Memory xs after h k e = (input_limit, omega arith, e)
left_of Words xs after h k e = absurd (h refl)
left_of ReadFault xs after h k e = absurd (k refl)
left_of _ xs after h k e = e

-- the source was read to the end of the input, whatever is known of it
pub left_by : (status : Status) (before after : Option (List ℕ)) → status ≢ Words → status ≢ ReadFault → IfSome before (λ xs. after ≡ Some (rest_of xs)) → IfSome before (λ xs. IsLeft status xs after)
left_by status None after h k e = tt
left_by status (Some xs) after h k e = left_of status xs after h k e

-- no read failed
pub fault_by : (status : Status) (before after : ℕ) → status ≢ ReadFault → after ≡ before → IsFault status before after
fault_by ReadFault before after h e = absurd (h refl)
fault_by _ before after h e = e
