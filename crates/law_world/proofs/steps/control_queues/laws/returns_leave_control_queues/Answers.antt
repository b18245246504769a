use Rattle.law_world.proofs.lemmas.steps.lemmas.control_queues.Heads.{unlink_keeps_controls}
use Rattle.law_world.proofs.lemmas.steps.lemmas.control_queues.Returns.{release_keeps_controls, leaver_keeps_controls}
use Rattle.law_world.proofs.steps.control_queues.laws.returns_leave_control_queues.Goals as goal

pub returns : goal.returns
returns c = record { release = release_keeps_controls; unlink = unlink_keeps_controls; leaver = leaver_keeps_controls }
