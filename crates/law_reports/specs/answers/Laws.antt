-- The laws: of each script that a host can carry out, and of each text that spells one.
use Rattle.std.specs.Prelude.{ℕ, List}
use Rattle.script_types.specs.declared.scripts.Script.{Script}
use Rattle.script_fits.specs.Fits.{IsFit}
use Rattle.script_text.specs.Faults.{Spells}
use Rattle.claims_world.specs.Heard.{HearsThroughout}
use Rattle.claims_world.specs.Pending.{PendingIsCounted}
use Rattle.claims_world.specs.Refused.{CommandsHaveCauses}
use Rattle.claims_world.specs.Rests.{RestsThroughout}
use Rattle.claims_world.specs.Told.{LinesHaveReasons}

abbrev pub OfFitScripts : (Script → Type 0) → Type 0
OfFitScripts so = (s : Script) → IsFit s → so s

abbrev pub OfTexts : (Script → Type 0) → Type 0
OfTexts so = (text : List ℕ) (s : Script) → Spells text s → so s

abbrev pub TextsHaveCauses : Type 0
TextsHaveCauses = OfTexts CommandsHaveCauses

abbrev pub TextsAreHeard : Type 0
TextsAreHeard = OfTexts HearsThroughout

abbrev pub TextsRestWhenDone : Type 0
TextsRestWhenDone = OfTexts RestsThroughout

abbrev pub TextsTellForReasons : Type 0
TextsTellForReasons = OfTexts LinesHaveReasons

abbrev pub TextsCountPending : Type 0
TextsCountPending = OfTexts PendingIsCounted
