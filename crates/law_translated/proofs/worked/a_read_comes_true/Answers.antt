use Rattle.law_translated.proofs.WorkedRequests.{read_comes_true, short_packet_breaks}
use Rattle.law_translated.proofs.worked.a_read_comes_true.Goals as goal

pub returns : goal.returns
returns c = record { right = read_comes_true; breaks = short_packet_breaks }
