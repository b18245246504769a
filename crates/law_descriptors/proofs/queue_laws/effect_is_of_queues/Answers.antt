use Rattle.law_descriptors.proofs.QueueQueues.{effect_is_of_queues}
use Rattle.law_descriptors.proofs.queue_laws.effect_is_of_queues.Goals as goal

pub returns : goal.returns
returns g c = effect_is_of_queues g.W.Wire.transacts
