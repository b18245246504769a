use Rattle.bulk_only.proofs.Streams.{parted}
use Rattle.bulk_only.proofs.laws.bytes_are_cut_anywhere.Goals as goal

pub returns : goal.returns
returns c = λ xs ys d h. (parted xs ys d h).same
