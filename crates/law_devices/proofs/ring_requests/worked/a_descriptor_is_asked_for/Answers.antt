use Rattle.law_devices.proofs.lemmas.ring_requests.Asking.{request_laid, its_is_high}
use Rattle.law_devices.proofs.ring_requests.worked.a_descriptor_is_asked_for.Goals as goal

pub returns : goal.returns
returns c = record { laid = request_laid; high = its_is_high }
