use Rattle.law_descriptors.proofs.Rings.{ring_is_of_queues, ring_is_of_both, list_is_of_queues}
use Rattle.law_descriptors.proofs.part_laws.the_ring_is_of_the_queues.Goals as goal

pub returns : goal.returns
returns c = record { queues = ring_is_of_queues; both = ring_is_of_both; list = list_is_of_queues }
