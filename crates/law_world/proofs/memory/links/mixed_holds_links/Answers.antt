use Rattle.law_world.proofs.lemmas.memory.LinksHeld.{mixed_holds_links}
use Rattle.law_world.proofs.memory.links.mixed_holds_links.Goals as goal

pub returns : goal.returns
returns c = mixed_holds_links
