use Rattle.law_reports.proofs.lemmas.due_at_begin.SitdSampled.{cancelled_isnt_kept}
use Rattle.law_reports.proofs.due_at_begin.sitds_worked.a_cancelled_speaker_is_excused.Goals as goal

pub returns : goal.returns
returns c = cancelled_isnt_kept
