use Rattle.law_world.proofs.lemmas.memory.Together.{texts_keep_all_in_place}
use Rattle.law_world.proofs.memory.runs.each_text_keeps_all_in_place.Goals as goal

pub returns : goal.returns
returns c = texts_keep_all_in_place
