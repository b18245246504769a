use Rattle.law_devices.proofs.lemmas.ring_requests.Asking.{both_laid, both_sent}
use Rattle.law_devices.proofs.ring_requests.worked.another_stands_behind_it.Goals as goal

pub returns : goal.returns
returns c = record { laid = both_laid; sent = both_sent }
