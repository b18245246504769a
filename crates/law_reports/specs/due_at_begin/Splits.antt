-- The laws of the split transactions of interrupt endpoints that are due as their microframe begins.
--     TextsMakeSplits     of each script that a text spells: each start-split and each complete-split that was due as the microframe began
--                         is made in it
--     TextsTakeResults    .. in which the host hears what the translator had for it then, and takes a result
--     TextsKeepSplitFrames   and each start-split that was due has its complete-splits in the frame until one is answered
use Rattle.std.specs.Prelude.{ℕ, List}
use Rattle.script_types.specs.declared.scripts.Script.{Script}
use Rattle.script_text.specs.Faults.{Spells}
use Rattle.claims_world.specs.SplitFrames.{KeepsSplitFrames}
use Rattle.claims_world.specs.SplitsAtBegin.{KeepsSplits}
use Rattle.law_microframes.specs.translators.Results.{KeepsAnswers}

abbrev pub TextsMakeSplits : Type 0
TextsMakeSplits = (text : List ℕ) (s : Script) → Spells text s → KeepsSplits s

abbrev pub TextsTakeResults : Type 0
TextsTakeResults = (text : List ℕ) (s : Script) → Spells text s → KeepsAnswers s

abbrev pub TextsKeepSplitFrames : Type 0
TextsKeepSplitFrames = (text : List ℕ) (s : Script) → Spells text s → KeepsSplitFrames s
