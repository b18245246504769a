use Rattle.law_devices.proofs.lemmas.declared_controls.Accepted.{accepted_are_requests}
use Rattle.law_devices.proofs.lemmas.declared_controls.Controls.{texts_ask_requests}
use Rattle.law_devices.proofs.declared_controls.laws.requests_are_whole.Goals as goal

pub returns : goal.returns
returns c = record { text = texts_ask_requests; accepted = accepted_are_requests }
