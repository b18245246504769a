use Rattle.bulk_only.proofs.Streams.{read_back}
use Rattle.bulk_only.proofs.laws.blocks_are_read_back.Goals as goal

pub returns : goal.returns
returns c = read_back
