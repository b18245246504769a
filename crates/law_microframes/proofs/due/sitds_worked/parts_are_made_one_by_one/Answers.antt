use Rattle.law_microframes.proofs.lemmas.due.lemmas.sitds.Sampled.{parts_come, parts_are_served, last_part_ends, part_is_missed, unsent_isnt_served}
use Rattle.law_microframes.proofs.due.sitds_worked.parts_are_made_one_by_one.Goals as goal

pub returns-clause-first : goal.returns-clause-first
returns-clause-first c = parts_come.0

pub returns-clause-second : goal.returns-clause-second
returns-clause-second c = parts_come.1

pub returns-clause-third : goal.returns-clause-third
returns-clause-third c = parts_come.2

pub returns-clause-one : goal.returns-clause-one
returns-clause-one c = parts_are_served.0

pub returns-clause-two : goal.returns-clause-two
returns-clause-two c = parts_are_served.1

pub returns-clause-three : goal.returns-clause-three
returns-clause-three c = parts_are_served.2

pub returns-clause-going : goal.returns-clause-going
returns-clause-going c = last_part_ends.0

pub returns-clause-ended : goal.returns-clause-ended
returns-clause-ended c = last_part_ends.1

pub returns-clause-none_left : goal.returns-clause-none_left
returns-clause-none_left c = last_part_ends.2

pub returns-clause-missed : goal.returns-clause-missed
returns-clause-missed c = part_is_missed

pub returns-clause-unsent : goal.returns-clause-unsent
returns-clause-unsent c = unsent_isnt_served
