use Rattle.law_frames.proofs.SplitSampled.{before_it, transacts_it, leads_it, after_it}
use Rattle.law_frames.proofs.split_worked.a_start_split_is_walked.Goals as goal

pub returns : goal.returns
returns c = record { before = before_it; transacts = transacts_it; leads = leads_it; after = after_it }
