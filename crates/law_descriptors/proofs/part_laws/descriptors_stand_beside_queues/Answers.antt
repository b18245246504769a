use Rattle.law_descriptors.proofs.Telling.{queues_apart, descriptors_apart}
use Rattle.law_descriptors.proofs.part_laws.descriptors_stand_beside_queues.Goals as goal

pub returns : goal.returns
returns c = record { queues = queues_apart; descriptors = descriptors_apart }
