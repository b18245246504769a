use Rattle.std.proofs.Common.{◌-◌}
use Rattle.drv_search.proofs.search.+first_found.Given as goal

abbrev pub decreases-first_found : goal.decreases-first_found
decreases-first_found g l = 10 - l.level
