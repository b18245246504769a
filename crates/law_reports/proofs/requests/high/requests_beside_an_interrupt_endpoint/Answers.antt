use Rattle.std.proofs.Common.{refl}
use Rattle.law_reports.proofs.lemmas.requests.HighGiven.{sample_suits, slow_unsuited}
use Rattle.law_reports.proofs.requests.high.requests_beside_an_interrupt_endpoint.Goals as goal

pub returns : goal.returns
returns c = record {
  suits = sample_suits;
  asked = refl;
  unasked = refl;
  slow = slow_unsuited;
}
