use Rattle.law_microframes.proofs.lemmas.time.SitdWorlds.{controller_keeps_sitds}
use Rattle.law_microframes.proofs.time.sitds.controller_keeps_sitds.Goals as goal

pub returns : goal.returns
returns c = controller_keeps_sitds
