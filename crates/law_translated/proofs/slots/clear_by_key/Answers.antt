use Rattle.law_translated.proofs.TranslatorCalls.{clear_by_key, reset_by_key}
use Rattle.law_translated.proofs.slots.clear_by_key.Goals as goal

pub returns : goal.returns
returns c = record { clears = clear_by_key; resets = reset_by_key }
