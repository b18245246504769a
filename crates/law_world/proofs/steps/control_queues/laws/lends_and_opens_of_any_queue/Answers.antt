use Rattle.law_world.proofs.lemmas.steps.lemmas.control_queues.Lends.{lend_keeps_queues}
use Rattle.law_world.proofs.lemmas.steps.lemmas.control_queues.OpenLends.{open_lend_is_whole}
use Rattle.law_world.proofs.lemmas.steps.lemmas.control_queues.Opens.{open_is_whole, link_keeps_controls}
use Rattle.law_world.proofs.steps.control_queues.laws.lends_and_opens_of_any_queue.Goals as goal

pub returns : goal.returns
returns c = record { lend = lend_keeps_queues; opened = open_lend_is_whole; finished = open_is_whole; link = link_keeps_controls }
