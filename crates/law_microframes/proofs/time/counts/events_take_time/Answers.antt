use Rattle.law_microframes.proofs.lemmas.time.CountTaken.{events_take_time}
use Rattle.law_microframes.proofs.time.counts.events_take_time.Goals as goal

pub returns : goal.returns
returns c = events_take_time
