use Rattle.law_translator.proofs.Answered.{stuffed_answers_are_there}
use Rattle.law_translator.proofs.laws.stuffed_answers_are_there.Goals as goal

pub returns : goal.returns
returns c = stuffed_answers_are_there
