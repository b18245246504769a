use Rattle.law_world.proofs.lemmas.streams.lemmas.put_laws.Same.{alike_owes, met_owes, returned_owes}
use Rattle.law_world.proofs.lemmas.streams.lemmas.put_laws.Commands.{open_owes, asked_owes, command_owes}
use Rattle.law_world.proofs.streams.put_laws.owed_laws.what_is_owed_stays.Goals as goal

pub returns-clause-alike : goal.returns-clause-alike
returns-clause-alike c = alike_owes

pub returns-clause-met : goal.returns-clause-met
returns-clause-met c = met_owes

pub returns-clause-opened : goal.returns-clause-opened
returns-clause-opened c = open_owes

pub returns-clause-asked : goal.returns-clause-asked
returns-clause-asked c = asked_owes

pub returns-clause-command : goal.returns-clause-command
returns-clause-command c = command_owes

pub returns-clause-returned : goal.returns-clause-returned
returns-clause-returned c = returned_owes
