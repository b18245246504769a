use Rattle.hub_class.proofs.Effects.{nothing_acted, request_acted}
use Rattle.hub_class.proofs.laws.ports_change_by_requests.Goals as goal

pub returns : goal.returns
returns c = record {
  still = λ ask out h e. nothing_acted ask out h e;
  acts = λ ask out h setup e f. request_acted ask out setup h e f;
}
