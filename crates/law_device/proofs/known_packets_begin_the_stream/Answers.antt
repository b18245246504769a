use Rattle.law_device.proofs.Senders.{known_packets_begin_the_stream}
use Rattle.law_device.proofs.known_packets_begin_the_stream.Goals as goal

pub returns : goal.returns
returns c = known_packets_begin_the_stream
