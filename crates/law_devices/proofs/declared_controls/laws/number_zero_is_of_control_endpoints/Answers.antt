use Rattle.law_devices.proofs.lemmas.declared_controls.Alone.{transaction_leaves_zero, microframe_leaves_zero}
use Rattle.law_devices.proofs.lemmas.declared_controls.Controls.{texts_leave_zero_alone}
use Rattle.law_devices.proofs.declared_controls.laws.number_zero_is_of_control_endpoints.Goals as goal

pub returns : goal.returns
returns c = record { opening = texts_leave_zero_alone; transaction = transaction_leaves_zero; microframe = microframe_leaves_zero }
