use Rattle.std.proofs.Common.{refl}
use Rattle.law_below_hubs.proofs.WorkedBelow.{start_is_taken, result_is_there, other_kind_breaks, names_the_hub}
use Rattle.law_below_hubs.proofs.worked.a_start_comes_true.Goals as goal

pub returns : goal.returns
returns c = record { taken = start_is_taken; there = result_is_there; names = names_the_hub; breaks = other_kind_breaks; sends = refl }
