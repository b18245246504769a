use Rattle.law_translated.proofs.TranslatorCalls.{work_by_key}
use Rattle.law_translated.proofs.slots.work_by_key.Goals as goal

pub returns : goal.returns
returns g c = work_by_key g.W.Wire.transacts
