use Rattle.law_reports.proofs.lemmas.lines.ToldHarvests.{harvest_tells}
use Rattle.law_reports.proofs.lines.telling_steps.harvest_tells.Goals as goal

pub returns : goal.returns
returns c = harvest_tells
