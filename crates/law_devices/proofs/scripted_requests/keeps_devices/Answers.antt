use Rattle.law_devices.proofs.lemmas.scripted_requests.Beginning.{keeps_devices}
use Rattle.law_devices.proofs.scripted_requests.keeps_devices.Goals as goal

pub returns : goal.returns
returns c = keeps_devices
