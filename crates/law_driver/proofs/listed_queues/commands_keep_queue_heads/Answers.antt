use Rattle.law_driver.proofs.lemmas.listed_queues.Commands.{accepted_queues}
use Rattle.law_driver.proofs.listed_queues.commands_keep_queue_heads.Goals as goal

pub returns : goal.returns
returns c = λ d m cmd stands has room listed o old is. accepted_queues d m cmd o stands has room listed old is
