use Rattle.law_telling.proofs.Lines.{drivers_tell_for_reasons}
use Rattle.law_telling.proofs.drivers_tell_for_reasons.Goals as goal

pub returns : goal.returns
returns c = drivers_tell_for_reasons
