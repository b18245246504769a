-- What the program writes: for each form and input, how it ends and which bytes it writes.
-- What comes of a script is said with a relation `runs`: which worlds are those after the run of a script.
--     Gives runs form input status bytes        the whole output: an end with its bytes
--     IsAnswer runs form status input old new   how what is written follows from how the program ended
--     IsLoadEnd status                          how `load` can end
--     IsProgram runs words status ..            the same by the words
--     Leaves words status xs after              what is left of a source that had xs
use Rattle.std.specs.Prelude.{◌≡◌, ℕ, Bool, true, false, List, [], ◌∷◌, Option, None, Some, is_none, codes}
use Rattle.std.specs.Io.KnownBytes.{Appends, Keeps}
use Rattle.usb_base.specs.Outside.{AppendsPrefix}
use Rattle.report_text.specs.ReportText.{line_text}
use Rattle.script_types.specs.declared.scripts.Script.{Script}
use Rattle.script_forms.specs.declared.causes.TextWhy.{TextWhy}
use Rattle.script_text.specs.Faults.{Spells, first_fault, fault_line, check_text, is_image}
use Rattle.bus_world.specs.AtWork.{StandingAtWork}
use Rattle.bus_world.specs.Closing.{world_image}
use Rattle.bus_world.specs.ClosingAtWork.{text_at_work}
use Rattle.script_load.specs.Load.{load_text}
use Rattle.report_load.specs.Summary.{summary_of, summary_line}
use Rattle.image_codec.specs.Image.{image_bytes}
use Rattle.image_show.specs.ImageAt.{any_fault, any_image}
use Rattle.image_show.specs.Shown.{shown}
use Rattle.image_show.specs.Text.{refusal_line}
use Rattle.image_codec.specs.declared.image.Refusal.{Refusal}
use Rattle.app_forms.specs.Form.{AreWordsOf}
use Rattle.app_forms.specs.declared.form.Form.{Form}
use Rattle.app_forms.specs.declared.form.Form.TheVariants.{Run, Image, Check, Dump, Load}
use Rattle.app_ends.specs.Ends.{IsLeft}
use Rattle.app_ends.specs.declared.status.Status.{Status}
use Rattle.app_ends.specs.declared.status.Status.TheVariants.{Ok, Words, Refused, ReadFault, WriteFault, Memory}

-- ---- scripts

-- The input spells a script, and this is a world after its run.
pub record RunOf (runs : Script → StandingAtWork → Type 0) (input : List ℕ) (w : StandingAtWork) : Type 0 where
  pub script : Script
  pub spelled : Spells input script
  pub ran : runs script w

-- The bytes are the report of a world after the run of the script that the input spells.
pub record ReportsRun (runs : Script → StandingAtWork → Type 0) (input bytes : List ℕ) : Type 0 where
  pub world : StandingAtWork
  pub ran : RunOf runs input world
  pub told : bytes ≡ text_at_work world.fixed world.work

-- The bytes are the image of memory after that run.
pub record GivesImage (runs : Script → StandingAtWork → Type 0) (input bytes : List ℕ) : Type 0 where
  pub world : StandingAtWork
  pub ran : RunOf runs input world
  pub told : bytes ≡ image_bytes (world_image world.work.world)

-- The bytes are the line of what the report counts after the run of the load script of n.
pub record SummarizesLoad (runs : Script → StandingAtWork → Type 0) (n : ℕ) (bytes : List ℕ) : Type 0 where
  pub world : StandingAtWork
  pub ran : RunOf runs (load_text n) world
  pub told : bytes ≡ summary_line n (summary_of world.fixed world.work.world)

-- The input spells no script, and the line names its first fault.
pub record RefusesScript (input bytes : List ℕ) : Type 0 where
  pub number : ℕ
  pub why : TextWhy
  pub first : first_fault input ≡ Some (number, why)
  pub line : bytes ≡ fault_line number why

-- ---- images

-- The input is an image, and the bytes are the text that shows it.
pub record ShowsImage (input bytes : List ℕ) : Type 0 where
  pub sound : any_fault input ≡ None
  pub told : bytes ≡ shown (any_image input)

-- The input is no image, and the line names the first thing that is wrong with it.
pub record RefusesImage (input bytes : List ℕ) : Type 0 where
  pub refusal : Refusal
  pub refused : any_fault input ≡ Some refusal
  pub line : bytes ≡ refusal_line refusal

-- ---- what `check` says: of an image where the first four bytes are those of one, and else of a text

abbrev pub image_line : Option Refusal → List ℕ
image_line None = line_text (codes "image" ∷ codes "ok" ∷ [])
image_line (Some refusal) = refusal_line refusal

abbrev pub checked_as : Bool → List ℕ → List ℕ
checked_as true input = image_line (any_fault input)
checked_as false input = check_text input

abbrev pub is_sound_as : Bool → List ℕ → Bool
is_sound_as true input = is_none (any_fault input)
is_sound_as false input = is_none (first_fault input)

-- the input is a script or an image, or it isn't; the line says so, or names the first thing that is wrong with it
pub record Checks (input : List ℕ) (sound : Bool) (bytes : List ℕ) : Type 0 where
  pub is : is_sound_as (is_image input) input ≡ sound
  pub line : bytes ≡ checked_as (is_image input) input

-- ---- the program

-- the whole output of a form on an input: an end with its bytes; `load` has the same on every input
abbrev pub Gives : (Script → StandingAtWork → Type 0) → Form → List ℕ → Status → List ℕ → Type 0
Gives runs Run input Ok bytes = ReportsRun runs input bytes
Gives runs Run input Refused bytes = RefusesScript input bytes
Gives runs Image input Ok bytes = GivesImage runs input bytes
Gives runs Image input Refused bytes = RefusesScript input bytes
Gives runs Check input Ok bytes = Checks input true bytes
Gives runs Check input Refused bytes = Checks input false bytes
Gives runs Dump input Ok bytes = ShowsImage input bytes
Gives runs Dump input Refused bytes = RefusesImage input bytes
Gives runs (Load n) input Ok bytes = SummarizesLoad runs n bytes
Gives runs (Load n) input Refused bytes = ⊥
Gives runs form input Words bytes = ⊥
Gives runs form input ReadFault bytes = ⊥
Gives runs form input WriteFault bytes = ⊥
Gives runs form input Memory bytes = ⊥

-- all of an output was written
abbrev pub WritesAll : (Script → StandingAtWork → Type 0) → Form → List ℕ → Status → Option (List ℕ) → Option (List ℕ) → Type 0
WritesAll runs form input status old new = (bytes : List ℕ) × Gives runs form input status bytes × Appends old new bytes

-- How what is written follows from how the program ended: the whole output where it is done or refuses the input, a front
-- part of it where the sink failed, and nothing else.
abbrev pub IsAnswer : (Script → StandingAtWork → Type 0) → Form → Status → List ℕ → Option (List ℕ) → Option (List ℕ) → Type 0
IsAnswer runs form Ok input old new = WritesAll runs form input Ok old new
IsAnswer runs form Refused input old new = WritesAll runs form input Refused old new
IsAnswer runs form WriteFault input old new = (status : Status) ×
    (bytes : List ℕ) × Gives runs form input status bytes × AppendsPrefix old new bytes
IsAnswer runs form ReadFault input old new = Keeps old new
IsAnswer runs form Memory input old new = Keeps old new
IsAnswer runs form Words input old new = Keeps old new

-- The answer of the program to these words: that of the form that they have.
abbrev pub IsProgram : (Script → StandingAtWork → Type 0) → List (List ℕ) → Status → List ℕ → Option (List ℕ) → Option (List ℕ) → Type 0
IsProgram runs words Words input old new = Keeps old new
IsProgram runs words status input old new = (form : Form) × AreWordsOf words form × IsAnswer runs form status input old new

-- the text of each number is a script, and `load` reads nothing
abbrev pub IsLoadEnd : Status → Type 0
IsLoadEnd Ok = Unit {0}
IsLoadEnd WriteFault = Unit {0}
IsLoadEnd Memory = Unit {0}
IsLoadEnd Words = ⊥
IsLoadEnd Refused = ⊥
IsLoadEnd ReadFault = ⊥

-- The answer of the program to the words of `load`, whatever is known of what it could read.
abbrev pub IsLoad : (Script → StandingAtWork → Type 0) → List (List ℕ) → Status → Option (List ℕ) → Option (List ℕ) → Type 0
IsLoad runs words status old new =
    (n : ℕ) (input : List ℕ) → AreWordsOf words (Load n) → IsLoadEnd status × IsAnswer runs (Load n) status input old new

-- ---- what is left of a source that had xs

-- `load` reads nothing
abbrev pub LeavesAs : Form → Status → List ℕ → Option (List ℕ) → Type 0
LeavesAs (Load n) status xs after = after ≡ Some xs
LeavesAs form status xs after = IsLeft status xs after

abbrev pub Leaves : List (List ℕ) → Status → List ℕ → Option (List ℕ) → Type 0
Leaves words Words xs after = after ≡ Some xs
Leaves words status xs after = (form : Form) × AreWordsOf words form × LeavesAs form status xs after
