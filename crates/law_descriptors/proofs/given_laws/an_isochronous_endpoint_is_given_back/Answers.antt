use Rattle.law_descriptors.proofs.GivenWaiting.{waiting_told, waiting_runs_both}
use Rattle.law_descriptors.proofs.given_laws.an_isochronous_endpoint_is_given_back.Goals as goal

pub returns : goal.returns
returns c = record { told = waiting_told; both = waiting_runs_both }
