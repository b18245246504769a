use Rattle.worked_claims.proofs.Breaking.{breaks_microframes}
use Rattle.worked_claims.proofs.broken.microframes_are_broken_where_none_is_ordered.Goals as goal

pub returns : goal.returns
returns c = breaks_microframes
