use Rattle.script_text.proofs.Laws.{too_long}
use Rattle.script_text.proofs.worked.too_long.Goals as goal

pub returns : goal.returns
returns c = λ text h. too_long text h
