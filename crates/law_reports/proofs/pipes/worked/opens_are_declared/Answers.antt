use Rattle.law_reports.proofs.lemmas.pipes.Sampled.{script_declares, none_declares}
use Rattle.law_reports.proofs.pipes.worked.opens_are_declared.Goals as goal

pub returns-clause-script : goal.returns-clause-script
returns-clause-script c = script_declares

pub returns-clause-alone : goal.returns-clause-alone
returns-clause-alone c = none_declares
