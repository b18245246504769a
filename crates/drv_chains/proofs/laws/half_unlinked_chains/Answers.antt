use Rattle.drv_chains.proofs.Linking.{unlinking}
use Rattle.drv_chains.proofs.Descriptors.{unlinking_once}
use Rattle.drv_chains.proofs.laws.half_unlinked_chains.Goals as goal

pub returns : goal.returns
returns c = record { queue_head = unlinking; descriptor = unlinking_once }
