use Rattle.law_device.proofs.Receivers.{out_refuses, out_pinged}
use Rattle.law_device.proofs.out_refuses.Goals as goal

pub returns-clause-data : goal.returns-clause-data
returns-clause-data c = λ packets. out_refuses

pub returns-clause-ping : goal.returns-clause-ping
returns-clause-ping c = λ packets. out_pinged
