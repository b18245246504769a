use Rattle.law_reports.proofs.lemmas.quiet.Worlds.{driver_leaves_errors}
use Rattle.law_reports.proofs.quiet.driver_leaves_errors.Goals as goal

pub returns : goal.returns
returns c = driver_leaves_errors
