use Rattle.law_below_hubs.proofs.WorkedPut.{start_is_taken, result_is_there, no_toggle_breaks}
use Rattle.law_below_hubs.proofs.worked.a_put_comes_true.Goals as goal

pub returns : goal.returns
returns c = record { taken = start_is_taken; there = result_is_there; breaks = no_toggle_breaks }
