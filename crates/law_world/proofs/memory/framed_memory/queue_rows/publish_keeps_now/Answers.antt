use Rattle.law_world.proofs.lemmas.memory.lemmas.framed_memory.Publishing.{publish_keeps_now}
use Rattle.law_world.proofs.memory.framed_memory.queue_rows.publish_keeps_now.Goals as goal

pub returns : goal.returns
returns c = publish_keeps_now
