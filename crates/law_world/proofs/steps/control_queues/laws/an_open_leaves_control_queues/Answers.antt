use Rattle.law_world.proofs.lemmas.steps.lemmas.control_queues.OpenLends.{open_lend_keeps_controls}
use Rattle.law_world.proofs.lemmas.steps.lemmas.control_queues.Opens.{open_link_keeps_controls}
use Rattle.law_world.proofs.steps.control_queues.laws.an_open_leaves_control_queues.Goals as goal

pub returns : goal.returns
returns c = record { lend = open_lend_keeps_controls; link = open_link_keeps_controls }
