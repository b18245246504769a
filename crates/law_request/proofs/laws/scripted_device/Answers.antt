use Rattle.std.proofs.Common.{refl}
use Rattle.law_request.proofs.Scripts.{same_answer, same_left, same_acked}
use Rattle.law_request.proofs.laws.scripted_device.Goals as goal

pub returns : goal.returns
returns c = record { answer = same_answer; left = same_left; acknowledged = same_acked; sent = λ addr num max s name r. refl }
