use Rattle.law_reports.proofs.lemmas.requests.lemmas.told_requests.Lines.{none_is_told, line_is_told, other_line_is_told}
use Rattle.law_reports.proofs.requests.told_requests.laws.a_line_tells_of_the_first_that_is_left.Goals as goal

pub returns-clause-none : goal.returns-clause-none
returns-clause-none c = none_is_told

pub returns-clause-one : goal.returns-clause-one
returns-clause-one c = line_is_told

pub returns-clause-other : goal.returns-clause-other
returns-clause-other c = other_line_is_told
