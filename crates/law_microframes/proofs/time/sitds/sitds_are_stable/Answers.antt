use Rattle.law_microframes.proofs.lemmas.time.SitdStable.{sitds_are_stable}
use Rattle.law_microframes.proofs.time.sitds.sitds_are_stable.Goals as goal

pub returns : goal.returns
returns c = sitds_are_stable
