use Rattle.bulk_only.proofs.Streams.{front_part}
use Rattle.bulk_only.proofs.laws.fronts_are_parts.Goals as goal

pub returns : goal.returns
returns c = front_part
