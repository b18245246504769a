use Rattle.law_reports.proofs.lemmas.due_at_begin.SplitFrameSampled.{split_is_done, split_isnt_done}
use Rattle.law_reports.proofs.due_at_begin.split_frames_worked.a_split_is_done.Goals as goal

pub returns-clause-done : goal.returns-clause-done
returns-clause-done c = split_is_done

pub returns-clause-not_yet : goal.returns-clause-not_yet
returns-clause-not_yet c = split_isnt_done
