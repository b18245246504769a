use Rattle.std.proofs.Common.{refl}
use Rattle.bandwidth.specs.Placements.{first_in}
use Rattle.law_microframes.proofs.worked_visits.splits.a_keyboard_has_its_costs.Goals as goal

pub returns-clause-start : goal.returns-clause-start
unfolding first_in
returns-clause-start c = refl

pub returns-clause-complete : goal.returns-clause-complete
unfolding first_in
returns-clause-complete c = refl

pub returns-clause-none : goal.returns-clause-none
unfolding first_in
returns-clause-none c = refl
