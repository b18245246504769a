use Rattle.law_reports.proofs.lemmas.due_at_begin.SplitFrameSampled.{split_is_taken, other_isnt_taken}
use Rattle.law_reports.proofs.due_at_begin.split_frames_worked.a_split_is_taken.Goals as goal

pub returns-clause-taken : goal.returns-clause-taken
returns-clause-taken c = split_is_taken

pub returns-clause-other : goal.returns-clause-other
returns-clause-other c = other_isnt_taken
