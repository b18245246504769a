use Rattle.law_frames.proofs.Queues.{an_altered_queue_part_is_sound}
use Rattle.law_frames.proofs.part_laws.an_altered_queue_part_is_sound.Goals as goal

pub returns : goal.returns
returns c = an_altered_queue_part_is_sound
