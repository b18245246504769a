use Rattle.law_translated.proofs.TranslatorCalls.{asked_by_key}
use Rattle.law_translated.proofs.slots.asked_by_key.Goals as goal

pub returns : goal.returns
returns c = asked_by_key
