use Rattle.law_translated.proofs.Sending.{pipe_kept, pipe_agrees}
use Rattle.law_translated.proofs.pipes.out_pipes_agree.Goals as goal

pub returns : goal.returns
returns c = record { keeps = pipe_kept; agrees = pipe_agrees }
