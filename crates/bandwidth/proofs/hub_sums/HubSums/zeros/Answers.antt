use Rattle.bandwidth.proofs.Books.{zero_tables}
use Rattle.bandwidth.proofs.hub_sums.HubSums.zeros.Goals as goal

pub returns : goal.returns
returns c = zero_tables _ c.in_ok-frames.ensures c.in_ok-bytes.ensures
