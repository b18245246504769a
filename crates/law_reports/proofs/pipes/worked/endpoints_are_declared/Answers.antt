use Rattle.law_reports.proofs.lemmas.pipes.Sampled.{both_declared, one_undeclared}
use Rattle.law_reports.proofs.pipes.worked.endpoints_are_declared.Goals as goal

pub returns-clause-both : goal.returns-clause-both
returns-clause-both c = both_declared

pub returns-clause-left_out : goal.returns-clause-left_out
returns-clause-left_out c = one_undeclared
