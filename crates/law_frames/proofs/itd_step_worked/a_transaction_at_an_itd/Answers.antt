use Rattle.law_frames.proofs.ItdStepSampled.{frame_at, bytes_heard, leads_on, transacts, two_kept}
use Rattle.law_frames.proofs.itd_step_worked.a_transaction_at_an_itd.Goals as goal

pub returns : goal.returns
returns c = record { frame = frame_at; heard = bytes_heard; leads = leads_on; step = transacts; bytes = two_kept }
