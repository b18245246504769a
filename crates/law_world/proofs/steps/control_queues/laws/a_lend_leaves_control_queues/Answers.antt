use Rattle.law_world.proofs.lemmas.steps.lemmas.control_queues.Lends.{lend_keeps_controls}
use Rattle.law_world.proofs.lemmas.steps.lemmas.control_queues.Stores.{store_keeps_controls}
use Rattle.law_world.proofs.steps.control_queues.laws.a_lend_leaves_control_queues.Goals as goal

pub returns : goal.returns
returns c = record { lend = lend_keeps_controls; store = store_keeps_controls }
