use Rattle.law_world.proofs.lemmas.steps.lemmas.unlinked_streams.Streams.{unlink_spares_heads, unlink_spares_elements, unlink_spares_hand, unlink_leaves_fronts}
use Rattle.law_world.proofs.lemmas.steps.lemmas.unlinked_streams.Queues.{unlink_leaves_queues}
use Rattle.law_world.proofs.steps.unlinked_streams.laws.it_spares_all_queues.Goals as goal

pub returns : goal.returns
returns c = record { heads = unlink_spares_heads; elements = unlink_spares_elements; hand = unlink_spares_hand; fronts = unlink_leaves_fronts; queues = unlink_leaves_queues }
