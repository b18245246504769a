use Rattle.law_ring.proofs.PipeAgreeing.{accepted_bytes_begin_each_stream}
use Rattle.law_ring.proofs.pipe_laws.accepted_bytes_begin_each_stream.Goals as goal

pub returns : goal.returns
returns g c = accepted_bytes_begin_each_stream
