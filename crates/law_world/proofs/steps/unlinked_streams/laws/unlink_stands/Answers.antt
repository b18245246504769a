use Rattle.law_world.proofs.lemmas.steps.lemmas.unlinked_streams.Standing.{unlink_stands}
use Rattle.law_world.proofs.steps.unlinked_streams.laws.unlink_stands.Goals as goal

pub returns : goal.returns
returns c = unlink_stands
