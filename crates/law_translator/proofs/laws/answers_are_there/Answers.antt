use Rattle.law_translator.proofs.Answered.{answers_are_there}
use Rattle.law_translator.proofs.laws.answers_are_there.Goals as goal

pub returns : goal.returns
returns c = answers_are_there
