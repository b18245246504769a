use Rattle.law_microframes.proofs.lemmas.time.ChargeEvents.{events_are_charged}
use Rattle.law_microframes.proofs.time.charges.events_are_charged.Goals as goal

pub returns : goal.returns
returns c = events_are_charged
