-- The streams of bulk endpoints below hubs are right at each moment of each script (EHCI 1.0, 4.6 to 4.12; USB 2.0, 5.8, 8.5, 8.6 and
-- 11.17).
--     TextsKeepBelowStreams     so it is of each script that a text spells, and after its run
--     TextsKeepStreams          .. with those of the endpoints at high speed
use Rattle.std.specs.Prelude.{ℕ, List}
use Rattle.script_types.specs.declared.scripts.Script.{Script}
use Rattle.script_text.specs.Faults.{Spells}
use Rattle.claims_world.specs.BelowStreams.{KeepsBelowStreams, KeepsStreams}

abbrev pub TextsKeepBelowStreams : Type 0
TextsKeepBelowStreams = (text : List ℕ) (s : Script) → Spells text s → KeepsBelowStreams s

abbrev pub TextsKeepStreams : Type 0
TextsKeepStreams = (text : List ℕ) (s : Script) → Spells text s → KeepsStreams s
