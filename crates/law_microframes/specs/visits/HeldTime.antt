-- A microframe in which the bus may not be used has no time: nothing is asked in it (EHCI 1.0, 4.4, 4.6 and 4.10.3; USB 2.0, 5.11.3).
--     TextsKeepHeldTime        the law, of each script that a text spells
use Rattle.std.specs.Prelude.{ℕ, List}
use Rattle.script_types.specs.declared.scripts.Script.{Script}
use Rattle.script_text.specs.Faults.{Spells}
use Rattle.claims_world.specs.Visits.{KeepsHeldTime}

abbrev pub TextsKeepHeldTime : Type 0
TextsKeepHeldTime = (text : List ℕ) (s : Script) → Spells text s → KeepsHeldTime s
