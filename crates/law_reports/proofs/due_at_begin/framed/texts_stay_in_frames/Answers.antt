use Rattle.law_reports.proofs.lemmas.due_at_begin.Framed.{texts_stay_in_frames}
use Rattle.law_reports.proofs.due_at_begin.framed.texts_stay_in_frames.Goals as goal

pub returns : goal.returns
returns c = texts_stay_in_frames
