use Rattle.law_microframes.proofs.lemmas.translators.SitdFollowing.{sitds_follow}
use Rattle.law_microframes.proofs.translators.texts.sitds_follow.Goals as goal

pub returns : goal.returns
returns c = sitds_follow
