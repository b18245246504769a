use Rattle.law_world.proofs.lemmas.steps.lemmas.controlled_walks.Controlling.{opening_bell}
use Rattle.law_world.proofs.lemmas.steps.lemmas.controlled_walks.Offering.{command_keeps_bell}
use Rattle.law_world.proofs.steps.controlled_walks.laws.the_bell_begins_quiet.Goals as goal

pub returns : goal.returns
returns c = record { new = opening_bell; command = command_keeps_bell }
