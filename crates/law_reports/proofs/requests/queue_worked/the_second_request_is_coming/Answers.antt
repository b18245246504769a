use Rattle.law_reports.proofs.lemmas.requests.SampledComing.{second_coming}
use Rattle.law_reports.proofs.requests.queue_worked.the_second_request_is_coming.Goals as goal

pub returns : goal.returns
returns c = second_coming
