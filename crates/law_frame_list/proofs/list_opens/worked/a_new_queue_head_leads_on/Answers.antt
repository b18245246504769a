use Rattle.std.proofs.Common.{refl}
use Rattle.drv_chains.specs.Chains.{behind_the}
use Rattle.law_frame_list.proofs.list_opens.worked.a_new_queue_head_leads_on.Goals as goal

pub returns-clause-last : goal.returns-clause-last
unfolding behind_the
returns-clause-last c = refl

pub returns-clause-before : goal.returns-clause-before
unfolding behind_the
returns-clause-before c = refl
