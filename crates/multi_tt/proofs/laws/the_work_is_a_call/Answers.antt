use Rattle.multi_tt.proofs.Hearing.{all_heard}
use Rattle.multi_tt.proofs.laws.the_work_is_a_call.Goals as goal

pub returns : goal.returns
returns g c = all_heard g.W.Wire.transacts
