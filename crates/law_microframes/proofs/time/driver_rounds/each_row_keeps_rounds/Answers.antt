use Rattle.law_microframes.proofs.lemmas.time.DriverRounds.{each_row_keeps_rounds}
use Rattle.law_microframes.proofs.time.driver_rounds.each_row_keeps_rounds.Goals as goal

pub returns : goal.returns
returns c = each_row_keeps_rounds
