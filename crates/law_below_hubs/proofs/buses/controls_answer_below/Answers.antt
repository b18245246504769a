use Rattle.law_below_hubs.proofs.Raising.{controls_answer_below}
use Rattle.law_below_hubs.proofs.buses.controls_answer_below.Goals as goal

pub returns : goal.returns
returns c = controls_answer_below
