use Rattle.law_world.proofs.lemmas.streams.lemmas.put_laws.TakenRows.{driver_taken, command_taken}
use Rattle.law_world.proofs.streams.put_laws.owed_laws.the_driver_leaves_what_was_taken.Goals as goal

pub returns : goal.returns
returns g c = record { row = driver_taken; command = command_taken }
