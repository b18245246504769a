use Rattle.law_below_hubs.proofs.HostFinds.{unworked_is_untold}
use Rattle.law_below_hubs.proofs.hosts.an_unworked_entry_is_untold.Goals as goal

pub returns : goal.returns
returns c = unworked_is_untold
