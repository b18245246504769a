use Rattle.law_reports.proofs.lemmas.pipes.lemmas.puts.Moments.{new_world_is_sent, scripts_are_sent, texts_are_sent}
use Rattle.law_reports.proofs.pipes.sent_events.each_moment_sends_whole.Goals as goal

pub returns-clause-opening : goal.returns-clause-opening
returns-clause-opening c = new_world_is_sent

pub returns-clause-scripts : goal.returns-clause-scripts
returns-clause-scripts c = scripts_are_sent

pub returns-clause-texts : goal.returns-clause-texts
returns-clause-texts c = texts_are_sent
