use Rattle.law_microframes.proofs.lemmas.time.SlotTexts.{texts_fit_slots}
use Rattle.law_microframes.proofs.time.sitds.texts_fit_slots.Goals as goal

pub returns : goal.returns
returns c = texts_fit_slots
