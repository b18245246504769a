use Rattle.law_queues.proofs.lemmas.open_laws.Streams.{open_pipes, open_reports}
use Rattle.law_queues.proofs.open_laws.store_laws.an_open_begins_a_stream.Goals as goal

pub returns : goal.returns
returns g c = record { pipes = open_pipes; reports = open_reports }
