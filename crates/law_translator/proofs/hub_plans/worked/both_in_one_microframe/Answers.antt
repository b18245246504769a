use Rattle.std.proofs.Common.{refl}
use Rattle.bandwidth.specs.Placements.{first_in}
use Rattle.law_translator.proofs.hub_plans.worked.both_in_one_microframe.Goals as goal

pub returns : goal.returns
unfolding first_in
returns c = record { sum = refl }
