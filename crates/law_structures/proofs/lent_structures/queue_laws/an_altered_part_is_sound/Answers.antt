use Rattle.law_structures.proofs.lemmas.lent_structures.Members.{an_altered_part_is_sound}
use Rattle.law_structures.proofs.lent_structures.queue_laws.an_altered_part_is_sound.Goals as goal

pub returns : goal.returns
returns c = an_altered_part_is_sound
