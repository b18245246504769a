use Rattle.law_reports.proofs.lemmas.requests.lemmas.driver_requests.Sampling.{are_of_driver, under_way, both_sent, have_qtds}
use Rattle.law_reports.proofs.lemmas.requests.lemmas.driver_requests.SamplingOwners.{has_owners, is_driven, sample_told}
use Rattle.law_reports.proofs.requests.driver_requests.worked.two_requests_are_laid_out.Goals as goal

pub returns : goal.returns
returns c = record { requests = are_of_driver; under_way = under_way; sent = both_sent; qtds = have_qtds; owners = has_owners; driven = is_driven; told = sample_told }
