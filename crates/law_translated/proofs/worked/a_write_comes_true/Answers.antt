use Rattle.law_translated.proofs.WorkedRequests.{write_comes_true, old_act_breaks}
use Rattle.law_translated.proofs.worked.a_write_comes_true.Goals as goal

pub returns : goal.returns
returns c = record { right = write_comes_true; breaks = old_act_breaks }
