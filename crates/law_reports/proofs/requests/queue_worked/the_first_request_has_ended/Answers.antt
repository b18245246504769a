use Rattle.law_devices.proofs.lemmas.request_stores.Waiting.{has_ended}
use Rattle.law_reports.proofs.lemmas.requests.SampledHalts.{first_of_both_ended}
use Rattle.law_reports.proofs.requests.queue_worked.the_first_request_has_ended.Goals as goal

pub returns : goal.returns
returns c = record { several = first_of_both_ended; only = has_ended }
