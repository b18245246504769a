use Rattle.law_device.proofs.Receivers.{taken_bytes_begin_the_stream}
use Rattle.law_device.proofs.taken_bytes_begin_the_stream.Goals as goal

pub returns : goal.returns
returns c = taken_bytes_begin_the_stream
