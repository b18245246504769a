use Rattle.drv_chains.proofs.Linking.{linking}
use Rattle.drv_chains.proofs.Descriptors.{linking_once}
use Rattle.drv_chains.proofs.laws.half_linked_chains.Goals as goal

pub returns : goal.returns
returns c = record { queue_head = linking; descriptor = linking_once }
