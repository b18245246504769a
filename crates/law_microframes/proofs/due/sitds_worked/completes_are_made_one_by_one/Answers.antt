use Rattle.law_microframes.proofs.lemmas.due.lemmas.sitds.Sampled.{completes_come, completes_are_served, last_bytes_end}
use Rattle.law_microframes.proofs.lemmas.due.lemmas.sitds.Sampled.{unmarked_isnt_served, ended_isnt_served}
use Rattle.law_microframes.proofs.due.sitds_worked.completes_are_made_one_by_one.Goals as goal

pub returns-clause-started : goal.returns-clause-started
returns-clause-started c = completes_come.0

pub returns-clause-once : goal.returns-clause-once
returns-clause-once c = completes_come.1

pub returns-clause-first : goal.returns-clause-first
returns-clause-first c = completes_come.2

pub returns-clause-second : goal.returns-clause-second
returns-clause-second c = completes_come.3

pub returns-clause-one : goal.returns-clause-one
returns-clause-one c = completes_are_served.0

pub returns-clause-two : goal.returns-clause-two
returns-clause-two c = completes_are_served.1

pub returns-clause-three : goal.returns-clause-three
returns-clause-three c = completes_are_served.2

pub returns-clause-going : goal.returns-clause-going
returns-clause-going c = last_bytes_end.0

pub returns-clause-left : goal.returns-clause-left
returns-clause-left c = last_bytes_end.1

pub returns-clause-ended : goal.returns-clause-ended
returns-clause-ended c = last_bytes_end.2

pub returns-clause-none_left : goal.returns-clause-none_left
returns-clause-none_left c = last_bytes_end.3

pub returns-clause-unmarked : goal.returns-clause-unmarked
returns-clause-unmarked c = unmarked_isnt_served

pub returns-clause-more : goal.returns-clause-more
returns-clause-more c = ended_isnt_served
