use Rattle.law_reports.proofs.lemmas.due_at_begin.Moments.{texts_do_what_is_due_at_begin}
use Rattle.law_reports.proofs.due_at_begin.due.texts_do_what_is_due_at_begin.Goals as goal

pub returns : goal.returns
returns c = texts_do_what_is_due_at_begin
