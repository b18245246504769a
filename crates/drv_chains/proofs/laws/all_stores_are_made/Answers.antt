use Rattle.drv_chains.proofs.Linking.{all_made}
use Rattle.drv_chains.proofs.Descriptors.{all_made_once}
use Rattle.drv_chains.proofs.laws.all_stores_are_made.Goals as goal

pub returns : goal.returns
returns c = record { queue_head = all_made; descriptor = all_made_once }
