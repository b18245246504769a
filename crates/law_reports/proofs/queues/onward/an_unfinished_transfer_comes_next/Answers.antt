use Rattle.law_reports.proofs.lemmas.queues.Coming.{onward_comes_to_work, scripts_come_to_work, texts_come_to_work}
use Rattle.law_reports.proofs.queues.onward.an_unfinished_transfer_comes_next.Goals as goal

pub returns-clause-worlds : goal.returns-clause-worlds
returns-clause-worlds c = onward_comes_to_work

pub returns-clause-scripts : goal.returns-clause-scripts
returns-clause-scripts c = scripts_come_to_work

pub returns-clause-texts : goal.returns-clause-texts
returns-clause-texts c = texts_come_to_work
