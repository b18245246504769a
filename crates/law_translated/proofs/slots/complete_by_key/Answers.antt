use Rattle.law_translated.proofs.TranslatorCalls.{complete_by_key}
use Rattle.law_translated.proofs.slots.complete_by_key.Goals as goal

pub returns : goal.returns
returns c = complete_by_key
