use Rattle.law_reports.proofs.lemmas.due_at_begin.SplitFrameSampled.{start_comes, none_has_come}
use Rattle.law_reports.proofs.due_at_begin.split_frames_worked.a_start_split_comes.Goals as goal

pub returns-clause-come : goal.returns-clause-come
returns-clause-come c = start_comes

pub returns-clause-not_yet : goal.returns-clause-not_yet
returns-clause-not_yet c = none_has_come
