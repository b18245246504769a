use Rattle.law_microframes.proofs.lemmas.due.lemmas.sitds.Sampled.{speaker_comes, speaker_waits}
use Rattle.law_microframes.proofs.due.sitds_worked.a_speaker_comes.Goals as goal

pub returns-clause-came : goal.returns-clause-came
returns-clause-came c = speaker_comes.0

pub returns-clause-made : goal.returns-clause-made
returns-clause-made c = speaker_comes.1

pub returns-clause-not_yet : goal.returns-clause-not_yet
returns-clause-not_yet c = speaker_waits
