use Rattle.law_reports.proofs.lemmas.pipes.lemmas.high_streams.Older.{high_says_as_much, high_keeps_all}
use Rattle.law_reports.proofs.pipes.reports.high_streams_are_all_of_an_asynchronous_script.Goals as goal

pub returns-clause-each : goal.returns-clause-each
returns-clause-each c = high_says_as_much

pub returns-clause-whole : goal.returns-clause-whole
returns-clause-whole c = high_keeps_all
