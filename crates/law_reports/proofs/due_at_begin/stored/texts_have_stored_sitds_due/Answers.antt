use Rattle.law_reports.proofs.lemmas.due_at_begin.SlotStored.{texts_have_stored_sitds_due}
use Rattle.law_reports.proofs.due_at_begin.stored.texts_have_stored_sitds_due.Goals as goal

pub returns : goal.returns
returns c = texts_have_stored_sitds_due
