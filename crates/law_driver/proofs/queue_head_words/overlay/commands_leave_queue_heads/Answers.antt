use Rattle.law_driver.proofs.lemmas.run_owners.Commands.{each_command_has_its_reason}
use Rattle.law_driver.proofs.lemmas.queue_head_words.Offering.{accepted_leaves}
use Rattle.law_driver.proofs.queue_head_words.overlay.commands_leave_queue_heads.Goals as goal

pub returns : goal.returns
returns c = λ d m cmd o is b i stands has there small. accepted_leaves d m o b i (each_command_has_its_reason d m cmd o is) stands has there
    small
