use Rattle.law_queues.proofs.lemmas.publish_laws.Storing.{store_keeps_pipes, store_reports}
use Rattle.law_queues.proofs.publish_laws.store_laws.a_store_leaves_the_streams.Goals as goal

pub returns : goal.returns
returns g c = record { pipes = store_keeps_pipes; reports = store_reports }
