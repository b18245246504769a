use Rattle.law_queues.proofs.lemmas.open_laws.Lending.{lend_pipes, lend_reports}
use Rattle.law_queues.proofs.open_laws.lend_laws.a_lend_leaves_the_streams.Goals as goal

pub returns : goal.returns
returns g c = record { pipes = lend_pipes; reports = lend_reports }
