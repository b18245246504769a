use Rattle.law_reports.proofs.lemmas.due_at_begin.ResultSampled.{result_isnt_taken}
use Rattle.law_reports.proofs.lemmas.due_at_begin.SplitFrameSampled.{entry_is_told, answer_is_heard, nyet_is_heard}
use Rattle.law_reports.proofs.due_at_begin.split_frames_worked.a_device_is_heard.Goals as goal

pub returns-clause-not_yet : goal.returns-clause-not_yet
returns-clause-not_yet c = result_isnt_taken

pub returns-clause-told : goal.returns-clause-told
returns-clause-told c = entry_is_told

pub returns-clause-answer : goal.returns-clause-answer
returns-clause-answer c = answer_is_heard

pub returns-clause-nyet : goal.returns-clause-nyet
returns-clause-nyet c = nyet_is_heard
