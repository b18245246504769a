use Rattle.law_translated.proofs.WorkedPipes.{repeated_start, told_again, taken_over, cleared_before, plain_repeat}
use Rattle.law_translated.proofs.worked.buffer_losses.Goals as goal

pub returns : goal.returns
returns c = record { start = repeated_start; answer = told_again; taken = taken_over; cleared = cleared_before; none = plain_repeat }
