use Rattle.law_translated.proofs.WorkedPipes.{late_result_breaks}
use Rattle.law_translated.proofs.worked.a_late_result_loses_a_packet.Goals as goal

pub returns : goal.returns
returns c = late_result_breaks
