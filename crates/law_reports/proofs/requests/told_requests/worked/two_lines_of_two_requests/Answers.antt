use Rattle.law_reports.proofs.lemmas.requests.lemmas.told_requests.Sampled.{none_yet, one_line, both_lines, grown, never_acted}
use Rattle.law_reports.proofs.requests.told_requests.worked.two_lines_of_two_requests.Goals as goal

pub returns-clause-none : goal.returns-clause-none
returns-clause-none c = none_yet

pub returns-clause-one : goal.returns-clause-one
returns-clause-one c = one_line

pub returns-clause-both : goal.returns-clause-both
returns-clause-both c = both_lines

pub returns-clause-grown : goal.returns-clause-grown
returns-clause-grown c = grown

pub returns-clause-never_acted : goal.returns-clause-never_acted
returns-clause-never_acted c = never_acted
