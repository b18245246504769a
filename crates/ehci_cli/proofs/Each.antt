-- What is so of each script that a text spells is so of each that the program may run.
use Rattle.std.proofs.Common.{ℕ, List, Option, Some, None}
use Rattle.std.specs.Prelude.{IfSome}
use Rattle.script_types.specs.declared.scripts.Script.{Script}
use Rattle.script_text.specs.Faults.{Spells}
use Rattle.script_load.specs.Load.{load_text}
use Rattle.app_ends.specs.Input.{input_of}
use Rattle.bus_world.specs.Plain.{IsPlain}
use Rattle.app_forms.specs.Scripts.{OfEachScript, OfEachPlainScript}

module _ (so : Script → Type 0) (texts_are : (text : List ℕ) (s : Script) → Spells text s → so s) where
  read : (left : Option (List ℕ)) → IfSome left (λ xs. (s : Script) → Spells (input_of xs) s → so s)
  read None = tt
  read (Some xs) = λ s spelled. texts_are (input_of xs) s spelled

  read_plain : (left : Option (List ℕ)) → IfSome left (λ xs. (s : Script) → Spells (input_of xs) s → IsPlain s → so s)
  read_plain None = tt
  read_plain (Some xs) = λ s spelled plain. texts_are (input_of xs) s spelled

  pub of_each : (words : List (List ℕ)) (left : Option (List ℕ)) → OfEachScript so words left
  of_each words left = record { read = read left; drawn = λ n is s spelled. texts_are (load_text n) s spelled }

  -- so of each that clears no halt
  pub of_each_plain : (words : List (List ℕ)) (left : Option (List ℕ)) → OfEachPlainScript so words left
  of_each_plain words left = record { read = read_plain left; drawn = λ n is s spelled plain. texts_are (load_text n) s spelled }
