use Rattle.law_microframes.proofs.lemmas.time.SitdCharged.{sitds_are_priced}
use Rattle.law_microframes.proofs.time.splits.sitds_are_priced.Goals as goal

pub returns : goal.returns
returns c = sitds_are_priced
