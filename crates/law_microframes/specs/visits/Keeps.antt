-- What the run of a script keeps of the visits of both walks (EHCI 1.0, 4.4, 4.6 to 4.10, 4.10.3 and 4.12).
--     TextsKeepVisits    the law, of each script that a text spells
use Rattle.std.specs.Prelude.{ℕ, List}
use Rattle.script_types.specs.declared.scripts.Script.{Script}
use Rattle.script_text.specs.Faults.{Spells}
use Rattle.claims_world.specs.Visits.{KeepsVisits}

abbrev pub TextsKeepVisits : Type 0
TextsKeepVisits = (text : List ℕ) (s : Script) → Spells text s → KeepsVisits s
