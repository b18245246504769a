use Rattle.law_microframes.proofs.lemmas.due.lemmas.sitds.Sampled.{speaker_is_over, speaker_is_served}
use Rattle.law_microframes.proofs.due.sitds_worked.a_speaker_is_served.Goals as goal

pub returns-clause-over : goal.returns-clause-over
returns-clause-over c = speaker_is_over

pub returns-clause-served : goal.returns-clause-served
returns-clause-served c = speaker_is_served
