use Rattle.law_reports.proofs.lemmas.requests.HighGiven.{texts_suit}
use Rattle.law_reports.proofs.requests.high.texts_suit.Goals as goal

pub returns : goal.returns
returns c = texts_suit
