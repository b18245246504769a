-- The answer to the number of events that the words ask for is that of the program.
use Rattle.std.proofs.Common.{◌≡◌, ℕ, List, Option, Some, None, IfSome, sym, subst, ◌∙◌}
use Rattle.app_ends.specs.Input.{input_of}
use Rattle.app_ends.specs.declared.status.Status.{Status}
use Rattle.app_probe_cli.specs.Output.{IsAnswer, IsProgram}

-- `view` is the slice of the bytes that were read
pub program_of_source : (left : Option (List ℕ)) (view items : List ℕ) (n : ℕ) (status : Status) (asked : Option ℕ) (old new : Option (List ℕ)) → IfSome left (λ xs. items ≡ input_of xs) → view ≡ items → asked ≡ Some n → IsAnswer n status view old new → IfSome left (λ xs. IsProgram asked status (input_of xs) old new)
program_of_source None view items n status asked old new read whole same answer = tt
program_of_source (Some xs) view items n status asked old new read whole same answer =
    subst (λ (o : Option ℕ). IsProgram o status (input_of xs) old new) (sym same) (subst (λ (v : List ℕ). IsAnswer n status v old new) (whole ∙ read) answer)
