use Rattle.law_world.proofs.lemmas.memory.LinksHeld.{texts_keep_links}
use Rattle.law_world.proofs.memory.links.texts_keep_links.Goals as goal

pub returns : goal.returns
returns c = texts_keep_links
