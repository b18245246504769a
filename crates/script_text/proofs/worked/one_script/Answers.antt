use Rattle.script_text.proofs.Laws.{spells_once}
use Rattle.script_text.proofs.worked.one_script.Goals as goal

pub returns : goal.returns
returns c = λ text s t h k. spells_once text s t h k
