use Rattle.law_reports.proofs.lemmas.requests.lemmas.world_requests.Turning.{the_controller_leaves_the_windows}
use Rattle.law_reports.proofs.requests.world_requests.the_controller_leaves_the_windows.Goals as goal

pub returns : goal.returns
returns c = the_controller_leaves_the_windows
