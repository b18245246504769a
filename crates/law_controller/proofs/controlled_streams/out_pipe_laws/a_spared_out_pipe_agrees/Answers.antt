use Rattle.law_controller.proofs.lemmas.controlled_streams.Outs.{linked_is_unmoved, stale_is_unmoved, out_is_spared}
use Rattle.law_controller.proofs.controlled_streams.out_pipe_laws.a_spared_out_pipe_agrees.Goals as goal

pub returns-clause-linked : goal.returns-clause-linked
returns-clause-linked c = linked_is_unmoved

pub returns-clause-stale : goal.returns-clause-stale
returns-clause-stale c = stale_is_unmoved

pub returns-clause-spared : goal.returns-clause-spared
returns-clause-spared c = out_is_spared
