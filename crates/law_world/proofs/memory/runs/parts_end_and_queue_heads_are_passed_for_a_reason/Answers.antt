use Rattle.law_world.proofs.lemmas.memory.Reasons.{mixed_has_reasons, texts_keep_reasons}
use Rattle.law_world.proofs.memory.runs.parts_end_and_queue_heads_are_passed_for_a_reason.Goals as goal

pub returns : goal.returns
returns c = record { world = mixed_has_reasons; texts = texts_keep_reasons }
