use Rattle.law_driver.proofs.lemmas.run_owners.Commands.{each_command_has_its_reason}
use Rattle.law_driver.proofs.lemmas.queue_head_words.Accepted.{accepted_fixed}
use Rattle.law_driver.proofs.queue_head_words.commands_keep_the_fixed_words.Goals as goal

pub returns : goal.returns
returns c = λ d m cmd o is stands shape has old. accepted_fixed d m o (each_command_has_its_reason d m cmd o is) stands shape has old
