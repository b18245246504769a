use Rattle.law_telling.proofs.Lengths.{error_as_stall_is_wrong, stall_as_error_is_wrong, error_as_done_is_wrong}
use Rattle.law_telling.proofs.worked.reasons_are_broken_by_the_other_cause.Goals as goal

pub returns : goal.returns
returns c = record { stall = error_as_stall_is_wrong; error = stall_as_error_is_wrong; done = error_as_done_is_wrong }
