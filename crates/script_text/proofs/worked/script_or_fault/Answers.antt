use Rattle.script_text.proofs.Laws.{either}
use Rattle.script_text.proofs.worked.script_or_fault.Goals as goal

pub returns : goal.returns
returns c = λ text. either text
