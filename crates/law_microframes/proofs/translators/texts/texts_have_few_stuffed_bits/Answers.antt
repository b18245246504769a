use Rattle.law_microframes.proofs.lemmas.translators.StuffTexts.{texts_have_few_stuffed_bits}
use Rattle.law_microframes.proofs.translators.texts.texts_have_few_stuffed_bits.Goals as goal

pub returns : goal.returns
returns c = texts_have_few_stuffed_bits
