use Rattle.std.proofs.Common.{refl}
use Rattle.bus_capture.specs.Capture.{word, block_header, time_words, size_words, packet_header, padding, packet_tail}
use Rattle.bus_capture.proofs.worked.blocks.Goals as goal

pub returns-clause-header : goal.returns-clause-header
unfolding word block_header time_words size_words packet_header
returns-clause-header c = refl

pub returns-clause-tail : goal.returns-clause-tail
unfolding word padding packet_tail
returns-clause-tail c = refl

pub returns-clause-whole : goal.returns-clause-whole
unfolding word padding packet_tail
returns-clause-whole c = refl
