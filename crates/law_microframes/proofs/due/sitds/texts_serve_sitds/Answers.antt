use Rattle.law_microframes.proofs.lemmas.due.lemmas.sitds.Moments.{texts_serve_sitds}
use Rattle.law_microframes.proofs.due.sitds.texts_serve_sitds.Goals as goal

pub returns : goal.returns
returns c = texts_serve_sitds
