use Rattle.law_queues.proofs.lemmas.fed_lends.Reporting.{lend_leaves_reports, lend_ends_queue}
use Rattle.law_queues.proofs.fed_lends.lend_laws.a_lend_leaves_reports.Goals as goal

pub returns : goal.returns
returns c = record { reports = lend_leaves_reports; ends = lend_ends_queue }
