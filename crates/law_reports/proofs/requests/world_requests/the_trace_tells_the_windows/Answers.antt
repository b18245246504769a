use Rattle.law_reports.proofs.lemmas.requests.lemmas.world_requests.Following.{recorder_follows}
use Rattle.law_reports.proofs.lemmas.requests.lemmas.world_requests.Telling.{found_stays}
use Rattle.law_reports.proofs.requests.world_requests.the_trace_tells_the_windows.Goals as goal

pub returns : goal.returns
returns c = record { windows = recorder_follows; found = found_stays }
