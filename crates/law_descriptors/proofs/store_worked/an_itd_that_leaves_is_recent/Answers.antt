use Rattle.law_descriptors.proofs.ListSamples.{itd_leaves, itd_gone, itd_recent, queue_stays}
use Rattle.law_descriptors.proofs.store_worked.an_itd_that_leaves_is_recent.Goals as goal
use Rattle.std.proofs.Common.{refl}

pub returns : goal.returns
returns c = record { before = refl; leaves = itd_leaves; after = itd_gone; recent = itd_recent; behind = queue_stays }
