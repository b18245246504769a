use Rattle.law_reports.proofs.lemmas.requests.HighMoments.{texts_have_high_asks}
use Rattle.law_reports.proofs.requests.high.texts_have_high_asks.Goals as goal

pub returns : goal.returns
returns c = texts_have_high_asks
