use Rattle.law_reports.proofs.lemmas.answers.Adding.{commands_add_what_they_ask}
use Rattle.law_reports.proofs.answers.commands_add_what_they_ask.Goals as goal

pub returns : goal.returns
returns c = commands_add_what_they_ask
