use Rattle.multi_tt.proofs.Apart.{ports_apart}
use Rattle.multi_tt.proofs.laws.ports_are_apart.Goals as goal

pub returns : goal.returns
returns c = ports_apart
