use Rattle.law_world.proofs.lemmas.streams.lemmas.put_laws.HeldAccepted.{open_holds_puts, get_holds_puts, put_holds_puts}
use Rattle.law_world.proofs.lemmas.streams.lemmas.put_laws.Commanding.{command_holds_puts}
use Rattle.law_world.proofs.streams.put_laws.held_laws.an_accepted_put_holds_its_bytes.Goals as goal

pub returns-clause-open : goal.returns-clause-open
returns-clause-open c = open_holds_puts

pub returns-clause-get : goal.returns-clause-get
returns-clause-get c = get_holds_puts

pub returns-clause-put : goal.returns-clause-put
returns-clause-put c = put_holds_puts

pub returns-clause-command : goal.returns-clause-command
returns-clause-command c = command_holds_puts
