use Rattle.law_world.proofs.lemmas.streams.lemmas.put_laws.TakenStopped.{spared_stay_stopped, alike_stay_stopped, harvest_stops}
use Rattle.law_world.proofs.streams.put_laws.owed_laws.an_ended_endpoint_is_halted.Goals as goal

pub returns : goal.returns
returns c = record { spared = spared_stay_stopped; alike = alike_stay_stopped; harvest = harvest_stops }
