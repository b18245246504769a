use Rattle.bulk_only.proofs.Streams.{grown}
use Rattle.bulk_only.proofs.laws.replies_grow.Goals as goal

pub returns : goal.returns
returns c = grown
