use Rattle.hub_class.proofs.Effects.{split_ports, split_control}
use Rattle.hub_class.proofs.laws.splits_leave_the_ports.Goals as goal

pub returns : goal.returns
returns c = record {
  ports = λ ask out stuff h. split_ports ask.split ask out stuff h;
  control = λ ask out stuff h. split_control ask.split ask out stuff h;
}
