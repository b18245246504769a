use Rattle.worked_claims.proofs.Breaking.{breaks_lent}
use Rattle.worked_claims.proofs.broken.lent_is_broken_by_a_dirty_block.Goals as goal

pub returns : goal.returns
returns c = breaks_lent
