use Rattle.law_reports.proofs.lemmas.pipes.lemmas.high_streams.Reporting.{high_reports_are_right, high_reports_are_taken, high_reports_are_sent, high_reports_end_right}
use Rattle.law_reports.proofs.pipes.reports.a_report_tells_the_streams.Goals as goal

pub returns-clause-ins : goal.returns-clause-ins
returns-clause-ins c = high_reports_are_right

pub returns-clause-taken : goal.returns-clause-taken
returns-clause-taken c = high_reports_are_taken

pub returns-clause-sent : goal.returns-clause-sent
returns-clause-sent c = high_reports_are_sent

pub returns-clause-end : goal.returns-clause-end
returns-clause-end c = high_reports_end_right
