use Rattle.law_reports.proofs.lemmas.due_at_begin.SitdMoments.{texts_serve_sitds_at_begin}
use Rattle.law_reports.proofs.due_at_begin.sitds.texts_serve_sitds_at_begin.Goals as goal

pub returns : goal.returns
returns c = texts_serve_sitds_at_begin
