use Rattle.law_below_hubs.proofs.RequestWindows.{walk_keeps_window}
use Rattle.law_below_hubs.proofs.requests.the_walk_keeps_a_window_below.Goals as goal

pub returns : goal.returns
returns c = walk_keeps_window
