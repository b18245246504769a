use Rattle.law_microframes.proofs.lemmas.time.RoundsTogether.{driver_keeps_rounds, command_keeps_rounds}
use Rattle.law_microframes.proofs.time.driver_rounds.the_driver_keeps_the_round.Goals as goal

pub returns : goal.returns
returns c = record { driver = driver_keeps_rounds; commands = command_keeps_rounds }
