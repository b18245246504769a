use Rattle.law_microframes.proofs.lemmas.time.SitdMoments.{scripts_keep_sitds}
use Rattle.law_microframes.proofs.time.sitds.scripts_keep_sitds.Goals as goal

pub returns : goal.returns
returns c = scripts_keep_sitds
