use Rattle.law_frames.proofs.ItdStepSampled.{babble, failed, none_kept, none_counted, none_noted, still_copied}
use Rattle.law_frames.proofs.itd_step_worked.a_packet_that_is_too_long.Goals as goal

pub returns : goal.returns
returns c = record { babble = babble; ended = failed; kept = none_kept; counted = none_counted; copied = still_copied; length = none_noted }
