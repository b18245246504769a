use Rattle.law_microframes.proofs.lemmas.time.TurnSampled.{its_events_ahead}
use Rattle.law_microframes.proofs.time.turn_samples.its_events_ahead.Goals as goal

pub returns : goal.returns
returns c = its_events_ahead
