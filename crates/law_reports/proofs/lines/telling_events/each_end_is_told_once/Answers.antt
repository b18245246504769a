use Rattle.law_reports.proofs.lemmas.lines.Ended.{scripts_end_once, texts_end_once}
use Rattle.law_reports.proofs.lines.telling_events.each_end_is_told_once.Goals as goal

pub returns-clause-scripts : goal.returns-clause-scripts
returns-clause-scripts c = scripts_end_once

pub returns-clause-texts : goal.returns-clause-texts
returns-clause-texts c = texts_end_once
