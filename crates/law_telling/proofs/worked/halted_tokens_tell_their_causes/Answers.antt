use Rattle.law_telling.proofs.Lengths.{error_is_told_as_error, stall_is_told_as_stall}
use Rattle.law_telling.proofs.worked.halted_tokens_tell_their_causes.Goals as goal

pub returns : goal.returns
returns c = record { error = error_is_told_as_error; stall = stall_is_told_as_stall }
