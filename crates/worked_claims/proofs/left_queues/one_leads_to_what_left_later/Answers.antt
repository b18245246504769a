use Rattle.worked_claims.proofs.LeftQueues.{later_leads, earlier_breaks, itself_breaks}
use Rattle.worked_claims.proofs.left_queues.one_leads_to_what_left_later.Goals as goal

pub returns : goal.returns
returns c = record { holds = later_leads; order = earlier_breaks; itself = itself_breaks }
