use Rattle.law_frames.proofs.QueueStepSampled.{before_it, after_it, transacts_it, writes_it, heard_it, leads_it}
use Rattle.law_frames.proofs.queue_step_worked.a_queue_head_is_worked.Goals as goal

pub returns : goal.returns
returns c = record { before = before_it; transacts = transacts_it; heard = heard_it; leads = leads_it; after = after_it; writes = writes_it }
