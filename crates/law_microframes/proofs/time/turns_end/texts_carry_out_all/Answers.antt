use Rattle.law_microframes.proofs.lemmas.time.TurnTexts.{texts_carry_out_all}
use Rattle.law_microframes.proofs.time.turns_end.texts_carry_out_all.Goals as goal

pub returns : goal.returns
returns c = texts_carry_out_all
