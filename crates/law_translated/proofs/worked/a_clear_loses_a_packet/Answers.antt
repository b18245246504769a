use Rattle.law_translated.proofs.WorkedPipes.{clear_breaks}
use Rattle.law_translated.proofs.worked.a_clear_loses_a_packet.Goals as goal

pub returns : goal.returns
returns c = clear_breaks
