use Rattle.law_descriptors.proofs.Opening.{new_told}
use Rattle.law_descriptors.proofs.command_worked.a_new_driver.Goals as goal

pub returns : goal.returns
returns c = new_told
