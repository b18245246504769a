use Rattle.law_reports.proofs.lemmas.lines.ToldStores.{store_tells}
use Rattle.law_reports.proofs.lines.telling_steps.store_tells.Goals as goal

pub returns : goal.returns
returns c = store_tells
