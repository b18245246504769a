use Rattle.law_microframes.proofs.lemmas.worked_visits.Sampled.{a_begin, a_second}
use Rattle.law_microframes.proofs.worked_visits.rows.a_microframe_has_its_begin.Goals as goal

pub returns-clause-before : goal.returns-clause-before
returns-clause-before c = a_begin.0

pub returns-clause-first : goal.returns-clause-first
returns-clause-first c = a_begin.1

pub returns-clause-index : goal.returns-clause-index
returns-clause-index c = a_begin.2

pub returns-clause-goes_on : goal.returns-clause-goes_on
returns-clause-goes_on c = a_begin.3

pub returns-clause-over : goal.returns-clause-over
returns-clause-over c = a_second.0

pub returns-clause-second : goal.returns-clause-second
returns-clause-second c = a_second.1

pub returns-clause-second_part : goal.returns-clause-second_part
returns-clause-second_part c = a_second.2

pub returns-clause-second_goes_on : goal.returns-clause-second_goes_on
returns-clause-second_goes_on c = a_second.3
