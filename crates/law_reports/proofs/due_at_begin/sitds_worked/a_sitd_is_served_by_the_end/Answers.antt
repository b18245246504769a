use Rattle.law_microframes.proofs.lemmas.due.lemmas.sitds.Sampled.{speaker_is_over}
use Rattle.law_reports.proofs.lemmas.due_at_begin.SitdSampled.{none_is_served_yet, speaker_is_free, speaker_is_kept, speaker_had_its_part}
use Rattle.law_reports.proofs.due_at_begin.sitds_worked.a_sitd_is_served_by_the_end.Goals as goal

pub returns-clause-not_yet : goal.returns-clause-not_yet
returns-clause-not_yet c = none_is_served_yet

pub returns-clause-over : goal.returns-clause-over
returns-clause-over c = speaker_is_over

pub returns-clause-free : goal.returns-clause-free
returns-clause-free c = speaker_is_free

pub returns-clause-kept : goal.returns-clause-kept
returns-clause-kept c = speaker_is_kept

pub returns-clause-served : goal.returns-clause-served
returns-clause-served c = speaker_had_its_part
