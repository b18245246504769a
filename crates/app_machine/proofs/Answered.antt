-- The answer of the form that the words have is that of the program.
use Rattle.std.proofs.Common.{◌≡◌, ◌≢◌, ℕ, List, Option, Some, None, IfSome, refl, subst, ◌∙◌}
use Rattle.app_ends.specs.Ends.{IsLeft}
use Rattle.app_ends.specs.Input.{input_of}
use Rattle.app_forms.specs.Form.{AreWordsOf}
use Rattle.bus_world.specs.RunsAtWork.{IsRunOfAtWork}
use Rattle.app_forms.specs.Output.{IsAnswer, IsLoad, IsLoadEnd, IsProgram, LeavesAs, Leaves}
use Rattle.app_forms.proofs.Words.{loads_once}
use Rattle.app_forms.specs.declared.form.Form.{Form}
use Rattle.app_forms.specs.declared.form.Form.TheVariants.{Load}
use Rattle.app_ends.specs.declared.status.Status.{Status}
use Rattle.app_ends.specs.declared.status.Status.TheVariants.{Words}

pub program_of : (words : List (List ℕ)) (form : Form) (status : Status) (items : List ℕ) (old new : Option (List ℕ))
    → AreWordsOf words form → status ≢ Words → IsAnswer IsRunOfAtWork form status items old new → IsProgram IsRunOfAtWork words status
    items old new
program_of words form Words items old new are other answer = absurd (other refl)
program_of words form _ items old new are other answer = (form, are, answer)

-- whatever the source had
pub program_of_any : (left : Option (List ℕ)) (words : List (List ℕ)) (form : Form) (status : Status) (old new : Option (List ℕ))
    → AreWordsOf words form → status ≢ Words
    → ((input : List ℕ) → IsAnswer IsRunOfAtWork form status input old new)
    → IfSome left (λ xs. IsProgram IsRunOfAtWork words status (input_of xs) old new)
program_of_any None words form status old new are other answer = tt
program_of_any (Some xs) words form status old new are other answer =
    program_of words form status (input_of xs) old new are other (answer (input_of xs))

pub program_of_source : (left : Option (List ℕ)) (words : List (List ℕ)) (form : Form) (status : Status) (old new : Option (List ℕ))
    → AreWordsOf words form → status ≢ Words
    → IfSome left (λ xs. IsAnswer IsRunOfAtWork form status (input_of xs) old new)
    → IfSome left (λ xs. IsProgram IsRunOfAtWork words status (input_of xs) old new)
program_of_source None words form status old new are other answer = tt
program_of_source (Some xs) words form status old new are other answer =
    program_of words form status (input_of xs) old new are other answer

-- `view` is the slice of the bytes that were read
pub answer_of_source : (left : Option (List ℕ)) (view items : List ℕ) (form : Form) (status : Status) (old new : Option (List ℕ))
    → IfSome left (λ xs. items ≡ input_of xs) → view ≡ items
    → IsAnswer IsRunOfAtWork form status view old new → IfSome left (λ xs. IsAnswer IsRunOfAtWork form status (input_of xs) old new)
answer_of_source None view items form status old new read whole answer = tt
answer_of_source (Some xs) view items form status old new read whole answer =
    subst (λ v. IsAnswer IsRunOfAtWork form status v old new) (whole ∙ read) answer

-- ---- what is left

pub leaves_of : (words : List (List ℕ)) (form : Form) (status : Status) (xs : List ℕ) (after : Option (List ℕ)) → AreWordsOf words form
    → status ≢ Words → LeavesAs form status xs after → Leaves words status xs after
leaves_of words form Words xs after are other left = absurd (other refl)
leaves_of words form _ xs after are other left = (form, are, left)

-- a form that reads
pub read_leaves : (form : Form) (status : Status) (xs : List ℕ) (after : Option (List ℕ)) → ((n : ℕ) → form ≢ Load n)
    → IsLeft status xs after → LeavesAs form status xs after
read_leaves (Load n) status xs after reads left = absurd (reads n refl)
read_leaves _ status xs after reads left = left

pub reading_leaves : (before after : Option (List ℕ)) (form : Form) (status : Status) → ((n : ℕ) → form ≢ Load n)
    → IfSome before (λ xs. IsLeft status xs after) → IfSome before (λ xs. LeavesAs form status xs after)
reading_leaves None after form status reads left = tt
reading_leaves (Some xs) after form status reads left = read_leaves form status xs after reads left

pub leaves_of_source : (before after : Option (List ℕ)) (words : List (List ℕ)) (form : Form) (status : Status) → AreWordsOf words form
    → status ≢ Words → IfSome before (λ xs. LeavesAs form status xs after)
    → IfSome before (λ xs. Leaves words status xs after)
leaves_of_source None after words form status are other left = tt
leaves_of_source (Some xs) after words form status are other left = leaves_of words form status xs after are other left

-- `load` leaves all
pub leaves_all : (before : Option (List ℕ)) (words : List (List ℕ)) (n : ℕ) (status : Status) → AreWordsOf words (Load n)
    → status ≢ Words → IfSome before (λ xs. Leaves words status xs before)
leaves_all None words n status are other = tt
leaves_all (Some xs) words n status are other = leaves_of words (Load n) status xs (Some xs) are other refl

-- ---- the form `load`

-- what it answers to every input is what the program answers to its words
pub load_of : (words : List (List ℕ)) (m : ℕ) (status : Status) (old new : Option (List ℕ)) → AreWordsOf words (Load m) → IsLoadEnd status
    → ((input : List ℕ) → IsAnswer IsRunOfAtWork (Load m) status input old new) → IsLoad IsRunOfAtWork words status old new
load_of words m status old new are end answer =
    λ n input other. (
      end,
      subst (λ k. IsAnswer IsRunOfAtWork (Load k) status input old new) (loads_once words m n are other)
          (answer input),
    )
