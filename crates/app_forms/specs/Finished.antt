-- When the program answers Ok: its words have a form, its input is one that the form reads, and neither source nor sink fails.
--     IsSound form input             the form reads this: a script, an image, or either; `load` reads nothing
--     IsFinished .. status ..        it ends with Ok and the whole output, or for want of memory, with nothing written
--     FinishesForm ..               so it does where the input is sound, and neither count of faults rose
--     Finishes ..                   of the form that the words have, where the source tells its bytes, and of `load` anyway
use Rattle.std.specs.Prelude.{◌≡◌, ℕ, true, List, Option, None, IfSome}
use Rattle.std.specs.Io.KnownBytes.{Keeps}
use Rattle.usb_base.specs.Outside.{Rose}
use Rattle.script_types.specs.declared.scripts.Script.{Script}
use Rattle.script_text.specs.Faults.{first_fault, is_image}
use Rattle.bus_world.specs.AtWork.{StandingAtWork}
use Rattle.image_show.specs.ImageAt.{any_fault}
use Rattle.app_ends.specs.Input.{input_of}
use Rattle.app_ends.specs.declared.status.Status.{Status}
use Rattle.app_ends.specs.declared.status.Status.TheVariants.{Ok, Memory}
use Rattle.app_forms.specs.Form.{AreWordsOf}
use Rattle.app_forms.specs.Output.{is_sound_as, WritesAll}
use Rattle.app_forms.specs.declared.form.Form.{Form}
use Rattle.app_forms.specs.declared.form.Form.TheVariants.{Run, Image, Check, Dump, Load}

abbrev pub IsSound : Form → List ℕ → Type 0
IsSound Run input = first_fault input ≡ None
IsSound Image input = first_fault input ≡ None
IsSound Check input = is_sound_as (is_image input) input ≡ true
IsSound Dump input = any_fault input ≡ None
IsSound (Load n) input = Unit {0}

pub data IsFinished (runs : Script → StandingAtWork → Type 0) (form : Form) (input : List ℕ) (old new : Option (List ℕ)) : Status
    → Type 0 where
  whole : WritesAll runs form input Ok old new → IsFinished runs form input old new Ok
  lacks_memory : Keeps old new → IsFinished runs form input old new Memory

-- the counts of faults of source and sink before and after the call
pub record Faults : Type 0 where
  pub read_before : ℕ
  pub read_after : ℕ
  pub written_before : ℕ
  pub written_after : ℕ

abbrev pub FinishesForm : (Script → StandingAtWork → Type 0) → Form → Status → Faults → List ℕ → Option (List ℕ) → Option (List ℕ) → Type 0
FinishesForm runs form status faults input old new =
    IsSound form input → (Rose faults.read_before faults.read_after → ⊥) → (Rose faults.written_before faults.written_after → ⊥)
    → IsFinished runs form input old new status

pub record Finishes (runs : Script → StandingAtWork → Type 0) (words : List (List ℕ)) (status : Status) (faults : Faults)
    (left : Option (List ℕ)) (old new : Option (List ℕ)) : Type 0 where
  pub read : IfSome left (λ xs. (form : Form) → AreWordsOf words form → FinishesForm runs form status faults (input_of xs) old new)
  pub drawn : (n : ℕ) (input : List ℕ) → AreWordsOf words (Load n) → FinishesForm runs (Load n) status faults input old new
