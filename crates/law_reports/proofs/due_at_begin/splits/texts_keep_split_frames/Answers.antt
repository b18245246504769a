use Rattle.law_reports.proofs.lemmas.due_at_begin.SplitsDone.{texts_keep_split_frames}
use Rattle.law_reports.proofs.due_at_begin.splits.texts_keep_split_frames.Goals as goal

pub returns : goal.returns
returns c = texts_keep_split_frames
