-- The answer for the choice that the words make is that of the program.
use Rattle.std.proofs.Common.{◌≡◌, ◌≢◌, ℕ, List, Option, Some, None, IfSome, refl, subst, ◌∙◌}
use Rattle.app_ends.specs.Input.{input_of}
use Rattle.app_trace.specs.declared.choice.Choice.{Choice}
use Rattle.app_trace_cli.specs.Output.{IsAnswer, IsProgram}
use Rattle.app_ends.specs.declared.status.Status.{Status}
use Rattle.app_ends.specs.declared.status.Status.TheVariants.{Words}

pub program_of : (choice : Choice) (status : Status) (items : List ℕ) (old new : Option (List ℕ)) → status ≢ Words → IsAnswer choice status items old new → IsProgram status items old new
program_of choice Words items old new other answer = absurd (other refl)
program_of choice _ items old new other answer = (choice, answer)

-- `view` is the slice of the bytes that were read
pub program_of_source : (left : Option (List ℕ)) (view items : List ℕ) (choice : Choice) (status : Status) (old new : Option (List ℕ)) → IfSome left (λ xs. items ≡ input_of xs) → view ≡ items → status ≢ Words
    → IsAnswer choice status view old new → IfSome left (λ xs. IsProgram status (input_of xs) old new)
program_of_source None view items choice status old new read whole other answer = tt
program_of_source (Some xs) view items choice status old new read whole other answer =
    program_of choice status (input_of xs) old new other (subst (λ v. IsAnswer choice status v old new) (whole ∙ read) answer)
