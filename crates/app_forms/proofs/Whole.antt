-- What is said of the output with one relation of runs is so with another, where that follows of each script that a text spells.
use Rattle.std.proofs.Common.{ℕ, List, Option}
use Rattle.usb_base.specs.Outside.{AppendsPrefix}
use Rattle.script_types.specs.declared.scripts.Script.{Script}
use Rattle.script_text.specs.Faults.{Spells}
use Rattle.script_load.specs.Load.{load_text}
use Rattle.bus_world.specs.AtWork.{StandingAtWork}
use Rattle.app_ends.specs.declared.status.Status.{Status}
use Rattle.app_ends.specs.declared.status.Status.TheVariants.{Ok, Words, Refused, ReadFault, WriteFault, Memory}
use Rattle.app_forms.specs.Form.{AreWordsOf}
use Rattle.app_forms.specs.Output.{RunOf, ReportsRun, GivesImage, SummarizesLoad, Gives, IsAnswer, IsProgram, IsLoad}
use Rattle.app_forms.specs.declared.form.Form.{Form}
use Rattle.app_forms.specs.declared.form.Form.TheVariants.{Run, Image, Check, Dump, Load}

module _ (runs whole : Script → StandingAtWork → Type 0) (follows : (text : List ℕ) (s : Script) (w : StandingAtWork) → Spells text s
    → runs s w → whole s w) where
  run_follows : (input : List ℕ) (w : StandingAtWork) → RunOf runs input w → RunOf whole input w
  run_follows input w r = record { script = r.script; spelled = r.spelled; ran = follows input r.script w r.spelled r.ran }

  report_follows : (input bytes : List ℕ) → ReportsRun runs input bytes → ReportsRun whole input bytes
  report_follows input bytes r = record { world = r.world; ran = run_follows input r.world r.ran; told = r.told }

  image_follows : (input bytes : List ℕ) → GivesImage runs input bytes → GivesImage whole input bytes
  image_follows input bytes r = record { world = r.world; ran = run_follows input r.world r.ran; told = r.told }

  summary_follows : (n : ℕ) (bytes : List ℕ) → SummarizesLoad runs n bytes → SummarizesLoad whole n bytes
  summary_follows n bytes r = record { world = r.world; ran = run_follows (load_text n) r.world r.ran; told = r.told }

  pub gives_follows : (form : Form) (input : List ℕ) (status : Status) (bytes : List ℕ) → Gives runs form input status bytes
      → Gives whole form input status bytes
  gives_follows Run input Ok bytes given = report_follows input bytes given
  gives_follows Run input Refused bytes given = given
  gives_follows Run input Words bytes given = given
  gives_follows Run input ReadFault bytes given = given
  gives_follows Run input WriteFault bytes given = given
  gives_follows Run input Memory bytes given = given
  gives_follows Image input Ok bytes given = image_follows input bytes given
  gives_follows Image input Refused bytes given = given
  gives_follows Image input Words bytes given = given
  gives_follows Image input ReadFault bytes given = given
  gives_follows Image input WriteFault bytes given = given
  gives_follows Image input Memory bytes given = given
  gives_follows Check input Ok bytes given = given
  gives_follows Check input Refused bytes given = given
  gives_follows Check input Words bytes given = given
  gives_follows Check input ReadFault bytes given = given
  gives_follows Check input WriteFault bytes given = given
  gives_follows Check input Memory bytes given = given
  gives_follows Dump input Ok bytes given = given
  gives_follows Dump input Refused bytes given = given
  gives_follows Dump input Words bytes given = given
  gives_follows Dump input ReadFault bytes given = given
  gives_follows Dump input WriteFault bytes given = given
  gives_follows Dump input Memory bytes given = given
  gives_follows (Load n) input Ok bytes given = summary_follows n bytes given
  gives_follows (Load n) input Refused bytes given = given
  gives_follows (Load n) input Words bytes given = given
  gives_follows (Load n) input ReadFault bytes given = given
  gives_follows (Load n) input WriteFault bytes given = given
  gives_follows (Load n) input Memory bytes given = given

  -- where a front part of an output was written
  front_follows : (form : Form) (input : List ℕ) (written : List ℕ → Type 0)
      → (status : Status) × (bytes : List ℕ) × Gives runs form input status bytes × written bytes
      → (status : Status) × (bytes : List ℕ) × Gives whole form input status bytes × written bytes
  front_follows form input written answer = (answer.0, answer.1, gives_follows form input answer.0 answer.1 answer.2, answer.3)

  pub answer_follows : (form : Form) (status : Status) (input : List ℕ) (old new : Option (List ℕ))
      → IsAnswer runs form status input old new → IsAnswer whole form status input old new
  answer_follows form Ok input old new answer = (answer.0, gives_follows form input Ok answer.0 answer.1, answer.2)
  answer_follows form Refused input old new answer = (answer.0, gives_follows form input Refused answer.0 answer.1, answer.2)
  answer_follows form WriteFault input old new answer = front_follows form input (AppendsPrefix old new) answer
  answer_follows form _ input old new answer = answer

  formed_follows : (words : List (List ℕ)) (status : Status) (input : List ℕ) (old new : Option (List ℕ))
      → (form : Form) × AreWordsOf words form × IsAnswer runs form status input old new
      → (form : Form) × AreWordsOf words form × IsAnswer whole form status input old new
  formed_follows words status input old new said = (said.0, said.1, answer_follows said.0 status input old new said.2)

  pub program_follows : (words : List (List ℕ)) (status : Status) (input : List ℕ) (old new : Option (List ℕ))
      → IsProgram runs words status input old new → IsProgram whole words status input old new
  program_follows words Words input old new said = said
  program_follows words Ok input old new said = formed_follows words Ok input old new said
  program_follows words Refused input old new said = formed_follows words Refused input old new said
  program_follows words ReadFault input old new said = formed_follows words ReadFault input old new said
  program_follows words WriteFault input old new said = formed_follows words WriteFault input old new said
  program_follows words Memory input old new said = formed_follows words Memory input old new said

  pub load_follows : (words : List (List ℕ)) (status : Status) (old new : Option (List ℕ)) → IsLoad runs words status old new
      → IsLoad whole words status old new
  load_follows words status old new said = λ n input are.
      let answer = said n input are in (answer.0, answer_follows (Load n) status input old new answer.1)
