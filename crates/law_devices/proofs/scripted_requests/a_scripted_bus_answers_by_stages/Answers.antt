use Rattle.law_devices.proofs.lemmas.scripted_requests.Asking.{a_scripted_bus_answers_by_stages}
use Rattle.law_devices.proofs.scripted_requests.a_scripted_bus_answers_by_stages.Goals as goal

pub returns : goal.returns
returns c = a_scripted_bus_answers_by_stages
