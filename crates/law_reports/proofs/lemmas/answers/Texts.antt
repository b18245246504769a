-- .. of each text that spells a script.
use Rattle.script_fits.proofs.Texts.{spelled_fits}
use Rattle.law_world.proofs.lemmas.memory.Together.{texts_stay_mixed}
use Rattle.law_reports.specs.answers.Laws.{TextsHaveCauses, TextsAreHeard, TextsRestWhenDone, TextsTellForReasons, TextsCountPending}
use Rattle.law_reports.proofs.lemmas.answers.Moments.{script_has_causes, script_hears, script_rests, script_tells}
use Rattle.law_reports.proofs.lemmas.answers.AddingUp.{script_counts}

pub texts_have_causes : TextsHaveCauses
texts_have_causes text s spelled = script_has_causes s (spelled_fits text s spelled)

pub texts_are_heard : TextsAreHeard
texts_are_heard text s spelled = script_hears s (spelled_fits text s spelled)

pub texts_rest_when_done : TextsRestWhenDone
texts_rest_when_done text s spelled = script_rests s (spelled_fits text s spelled) (texts_stay_mixed text s spelled)

pub texts_tell_for_reasons : TextsTellForReasons
texts_tell_for_reasons text s spelled = script_tells s (spelled_fits text s spelled)

pub texts_count_pending : TextsCountPending
texts_count_pending text s spelled = script_counts s (spelled_fits text s spelled)
