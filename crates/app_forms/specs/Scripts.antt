-- The scripts that the program may run on its words: the one that the input spells, and, for `load`, the one that the text drawn from its
-- number spells.
--     OfEachScript so words left        so it is of each, where left is what the source has left
--     OfEachPlainScript so words left   so it is of each that clears no halt
--     FirstIsPlain s                    one of version 1 is such a script
use Rattle.std.specs.Prelude.{◌≡◌, ℕ, List, Option, IfSome}
use Rattle.script_types.specs.declared.scripts.Script.{Script}
use Rattle.script_text.specs.Faults.{Spells}
use Rattle.script_load.specs.Load.{load_text}
use Rattle.bus_world.specs.Plain.{IsPlain}
use Rattle.app_ends.specs.Input.{input_of}
use Rattle.app_forms.specs.Form.{AreWordsOf}
use Rattle.app_forms.specs.declared.form.Form.TheVariants.{Load}

pub record OfEachScript (so : Script → Type 0) (words : List (List ℕ)) (left : Option (List ℕ)) : Type 0 where
  -- that of the input, where the source tells its bytes
  pub read : IfSome left (λ xs. (s : Script) → Spells (input_of xs) s → so s)
  -- that of the number
  pub drawn : (n : ℕ) → AreWordsOf words (Load n) → (s : Script) → Spells (load_text n) s → so s

abbrev pub OfEachPlainScript : (Script → Type 0) → List (List ℕ) → Option (List ℕ) → Type 0
OfEachPlainScript so words left = OfEachScript (λ s. IsPlain s → so s) words left

abbrev pub FirstIsPlain : Script → Type 0
FirstIsPlain s = s.version ≡ 1 → IsPlain s
