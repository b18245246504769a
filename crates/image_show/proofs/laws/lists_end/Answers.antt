use Rattle.image_show.proofs.Ends.{chain_ends, queue_ends}
use Rattle.image_show.proofs.laws.lists_end.Goals as goal

pub returns : goal.returns
returns c = record { queues = queue_ends; chains = λ base words seen home first b u a. chain_ends base words seen home first b u a }
