use Rattle.law_translator.proofs.Stays.{answers_stay}
use Rattle.law_translator.proofs.laws.answers_stay.Goals as goal

pub returns : goal.returns
returns c = answers_stay
