use Rattle.law_translated.proofs.WorkedPipes.{two_frames, lost_start, lost_acknowledgement, lost_answer}
use Rattle.law_translated.proofs.worked.pipeline_losses.Goals as goal

pub returns : goal.returns
returns c = record { plain = two_frames; start = lost_start; acknowledgement = lost_acknowledgement; answer = lost_answer }
