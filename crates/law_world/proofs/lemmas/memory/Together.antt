-- At each moment of a script's run its world is mixed, whatever endpoints it opens: so its memory is kept.
use Rattle.std.proofs.Common.{ℕ, List, [], ◌∷◌}
use Rattle.std.specs.List.{AllByRecursion}
use Rattle.law_world.proofs.Common.{line_fits}
use Rattle.script_types.specs.declared.scripts.Line.{Line}
use Rattle.script_fits.proofs.Texts.{spelled_fits}
use Rattle.law_scripts.proofs.lemmas.script_bytes.Texts.{a_text_spells_bytes}
use Rattle.law_world.specs.memory.Scripts.{FitsLine, FittingLine}
use Rattle.law_world.specs.memory.InPlace.{TextsKeepAllInPlace}
use Rattle.law_world.specs.memory.PlacedLaws.{MixedLine, MixedIsAtWork, ScriptsStayMixed, TextsKeepMemory}
use Rattle.law_world.proofs.lemmas.memory.Texts.{texts_fit}
use Rattle.law_world.proofs.lemmas.memory.FittingTexts.{texts_open_fitting}
use Rattle.law_world.proofs.lemmas.memory.Opening.{new_world_is_mixed}
use Rattle.law_world.proofs.lemmas.memory.Controller.{controller_keeps_mixed}
use Rattle.law_world.proofs.lemmas.memory.Driving.{driver_keeps_mixed}
use Rattle.law_world.proofs.lemmas.memory.CommandKeeping.{command_keeps_mixed}
use Rattle.law_world.proofs.lemmas.memory.AtWork.{mixed_has_all_in_place, mixed_works, keeps_while_mixed}
use Rattle.law_world.proofs.lemmas.memory.Moments.{StaysMixed, stay_mixed}
use Rattle.script_types.specs.declared.scripts.Script.{Script}
use Rattle.script_text.specs.Faults.{Spells}
use Rattle.bus_world.specs.Budgets.{moment}
use Rattle.law_world.specs.memory.Mixed.{IsMixedWorld}

stays : StaysMixed
stays = record { opening = new_world_is_mixed; controller = controller_keeps_mixed; driver = driver_keeps_mixed; command = command_keeps_mixed }

pub scripts_stay_mixed : ScriptsStayMixed
scripts_stay_mixed = stay_mixed stays

pub mixed_is_at_work : MixedIsAtWork
mixed_is_at_work = mixed_works controller_keeps_mixed

-- ---- what a text opens

pub lines_fit : (xs : List (ℕ × Line)) → AllByRecursion (λ x. FitsLine x.1) xs → AllByRecursion (λ x. FittingLine x.1) xs → AllByRecursion (λ x. MixedLine x.1) xs
lines_fit [] numbers kinds = tt
lines_fit (x ∷ xs) numbers kinds = (line_fits x.1 numbers.0 kinds.0, lines_fit xs numbers.1 kinds.1)

pub texts_stay_mixed : (text : List ℕ) (s : Script) → Spells text s → (k : ℕ) → IsMixedWorld (moment s k).world
texts_stay_mixed text s spelled =
    scripts_stay_mixed s (spelled_fits text s spelled) (a_text_spells_bytes text s spelled) (lines_fit s.lines (texts_fit text s spelled) (texts_open_fitting text s spelled))

pub texts_keep_memory : TextsKeepMemory
texts_keep_memory text s spelled = keeps_while_mixed controller_keeps_mixed s (texts_stay_mixed text s spelled)

pub texts_keep_all_in_place : TextsKeepAllInPlace
texts_keep_all_in_place text s spelled k = mixed_has_all_in_place (moment s k).world (texts_stay_mixed text s spelled k)
