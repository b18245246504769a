use Rattle.law_world.proofs.lemmas.streams.lemmas.left_reports.Gone.{release_is_told}
use Rattle.law_world.proofs.streams.left_reports.laws.endpoint_release_is_told.Goals as goal

pub returns : goal.returns
returns c = release_is_told
