use Rattle.hub_class.proofs.Effects.{unknown_same}
use Rattle.hub_class.proofs.laws.unknown_requests_change_nothing.Goals as goal

pub returns : goal.returns
returns c = λ setup h e. unknown_same setup h e
