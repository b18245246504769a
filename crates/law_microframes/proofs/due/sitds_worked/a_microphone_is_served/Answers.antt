use Rattle.law_microframes.proofs.lemmas.due.lemmas.sitds.Sampled.{microphone_comes, microphone_waits, microphone_is_over, microphone_is_served}
use Rattle.law_microframes.proofs.due.sitds_worked.a_microphone_is_served.Goals as goal

pub returns-clause-came : goal.returns-clause-came
returns-clause-came c = microphone_comes.0

pub returns-clause-made : goal.returns-clause-made
returns-clause-made c = microphone_comes.1

pub returns-clause-not_yet : goal.returns-clause-not_yet
returns-clause-not_yet c = microphone_waits

pub returns-clause-over : goal.returns-clause-over
returns-clause-over c = microphone_is_over

pub returns-clause-served : goal.returns-clause-served
returns-clause-served c = microphone_is_served
