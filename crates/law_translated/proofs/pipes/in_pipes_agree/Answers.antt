use Rattle.law_translated.proofs.Receiving.{pipe_kept, pipe_agrees}
use Rattle.law_translated.proofs.pipes.in_pipes_agree.Goals as goal

pub returns : goal.returns
returns c = record { keeps = λ packets. pipe_kept packets; agrees = λ packets. pipe_agrees packets }
