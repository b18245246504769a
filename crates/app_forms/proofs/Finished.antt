-- Where its words have a form, its input is sound and nothing fails, the program ends with Ok, or for want of memory.
use Rattle.std.proofs.Common.{◌≡◌, ℕ, true, false, List, Option, Some, None, IfSome, refl, sym, subst, ◌∙◌, inl, inr}
use Rattle.std.proofs.lemmas.Bool.{false≢true}
use Rattle.usb_base.specs.Outside.{Rose}
use Rattle.usb_base.proofs.Known.{rose_by_one}
use Rattle.script_types.specs.declared.scripts.Script.{Script}
use Rattle.bus_world.specs.AtWork.{StandingAtWork}
use Rattle.app_ends.specs.Ends.{IsFault, IsWriteFault}
use Rattle.app_ends.specs.Input.{input_of}
use Rattle.app_ends.specs.declared.status.Status.{Status}
use Rattle.app_ends.specs.declared.status.Status.TheVariants.{Ok, Words, Refused, ReadFault, WriteFault, Memory}
use Rattle.app_forms.specs.Finished.{IsSound, IsFinished, whole, lacks_memory, Faults, FinishesForm, Finishes}
use Rattle.app_forms.specs.Form.{AreWordsOf, AreNoForm}
use Rattle.app_forms.specs.Output.{Gives, WritesAll, IsAnswer, IsProgram, IsLoad}
use Rattle.app_forms.specs.declared.form.Form.{Form}
use Rattle.app_forms.specs.declared.form.Form.TheVariants.{Run, Image, Check, Dump, Load}
use Rattle.app_forms.proofs.Words.{forms_once}

none_some : {A : Type 0} (x : A) → ◌≡◌ {A = Option A} None (Some x) → ⊥
none_some x is = cc

module _ (runs : Script → StandingAtWork → Type 0) where
  -- what is sound isn't refused
  unrefused : (form : Form) (input bytes : List ℕ) → IsSound form input → Gives runs form input Refused bytes → ⊥
  unrefused Run input bytes sound r = none_some _ (sym sound ∙ r.first)
  unrefused Image input bytes sound r = none_some _ (sym sound ∙ r.first)
  unrefused Check input bytes sound r = false≢true (sym r.is ∙ sound)
  unrefused Dump input bytes sound r = none_some _ (sym sound ∙ r.refused)
  unrefused (Load n) input bytes sound r = r

  module _ (form : Form) (input : List ℕ) (faults : Faults) (old new : Option (List ℕ)) (sound : IsSound form input)
      (reads : Rose faults.read_before faults.read_after → ⊥) (writes : Rose faults.written_before faults.written_after → ⊥) where
    finished_as : (status : Status) → (status ≡ Words → ⊥) → IsFault status faults.read_before faults.read_after
        → IsWriteFault status faults.written_before faults.written_after → IsAnswer runs form status input old new
        → IsFinished runs form input old new status
    finished_as Ok other read write answer = whole answer
    finished_as Memory other read write answer = lacks_memory answer
    finished_as Words other read write answer = absurd (other refl)
    finished_as Refused other read write answer = absurd (unrefused form input answer.0 sound answer.1)
    finished_as ReadFault other read write answer =
        absurd (reads (subst (Rose faults.read_before) (sym read) (rose_by_one faults.read_before)))
    finished_as WriteFault other read write answer =
        absurd (writes (subst (Rose faults.written_before) (sym write) (rose_by_one faults.written_before)))

  module _ (words : List (List ℕ)) (faults : Faults) (old new : Option (List ℕ)) where
    -- the words have this form
    answer_of : (form : Form) (status : Status) (input : List ℕ) → AreWordsOf words form → (status ≡ Words → ⊥)
        → IsProgram runs words status input old new → IsAnswer runs form status input old new
    answer_of form Words input are other said = absurd (other refl)
    answer_of form Ok input are other said =
        subst (λ (f : Form). IsAnswer runs f Ok input old new) (forms_once words said.0 form said.1 are) said.2
    answer_of form Refused input are other said =
        subst (λ (f : Form). IsAnswer runs f Refused input old new) (forms_once words said.0 form said.1 are) said.2
    answer_of form ReadFault input are other said =
        subst (λ (f : Form). IsAnswer runs f ReadFault input old new) (forms_once words said.0 form said.1 are) said.2
    answer_of form WriteFault input are other said =
        subst (λ (f : Form). IsAnswer runs f WriteFault input old new) (forms_once words said.0 form said.1 are) said.2
    answer_of form Memory input are other said =
        subst (λ (f : Form). IsAnswer runs f Memory input old new) (forms_once words said.0 form said.1 are) said.2

    module _ (status : Status) (no_words : status ≡ Words → AreNoForm words) (read : IsFault status faults.read_before faults.read_after)
        (write : IsWriteFault status faults.written_before faults.written_after) where
      not_words : (form : Form) → AreWordsOf words form → status ≡ Words → ⊥
      not_words form are is = no_words is form are

      read_by : (left : Option (List ℕ)) → IfSome left (λ xs. IsProgram runs words status (input_of xs) old new)
          → IfSome left (λ xs. (form : Form) → AreWordsOf words form → FinishesForm runs form status faults (input_of xs) old new)
      read_by None said = tt
      read_by (Some xs) said = λ form are sound reads writes.
          finished_as form (input_of xs) faults old new sound reads writes status (not_words form are) read write
          (answer_of form status (input_of xs) are (not_words form are) said)

      pub finishes : (left : Option (List ℕ)) → IfSome left (λ xs. IsProgram runs words status (input_of xs) old new)
          → IsLoad runs words status old new → Finishes runs words status faults left old new
      finishes left said loads = record {
        read = read_by left said;
        drawn = λ n input are sound reads writes.
            finished_as (Load n) input faults old new sound reads writes status (not_words (Load n) are) read write (loads n input are).1;
      }
