use Rattle.law_microframes.proofs.lemmas.translators.Rooms.{texts_have_room}
use Rattle.law_microframes.proofs.translators.texts.pipelines_have_room.Goals as goal

pub returns : goal.returns
returns c = texts_have_room
