use Rattle.law_translated.proofs.TranslatorCalls.{start_by_key}
use Rattle.law_translated.proofs.slots.start_by_key.Goals as goal

pub returns : goal.returns
returns c = start_by_key
