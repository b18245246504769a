use Rattle.law_devices.proofs.lemmas.declared_controls.Alone.{zero_is_no_stream, control_is_no_stream}
use Rattle.law_devices.proofs.declared_controls.laws.a_control_endpoint_is_no_stream.Goals as goal

pub returns : goal.returns
returns c = record { zero = zero_is_no_stream; control = control_is_no_stream }
