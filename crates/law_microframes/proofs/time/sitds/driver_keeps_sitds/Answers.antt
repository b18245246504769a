use Rattle.law_microframes.proofs.lemmas.time.SitdDriven.{driver_keeps_sitds}
use Rattle.law_microframes.proofs.time.sitds.driver_keeps_sitds.Goals as goal

pub returns : goal.returns
returns c = driver_keeps_sitds
