use Rattle.law_world.proofs.lemmas.memory.lemmas.framed_memory.QueueAccepting.{cancel_keeps_now, unchain_keeps_now}
use Rattle.law_world.proofs.memory.framed_memory.queue_rows.accepted_cancels_are_framed_now.Goals as goal

pub returns : goal.returns
returns c = record { ring = cancel_keeps_now; frames = unchain_keeps_now }
