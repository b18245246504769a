use Rattle.law_world.proofs.lemmas.steps.Beginning.{opening_is_untaken}
use Rattle.law_world.proofs.steps.row_laws.opening_is_untaken.Goals as goal

pub returns : goal.returns
returns c = opening_is_untaken
