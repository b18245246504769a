use Rattle.hub_class.proofs.Acks.{acked_ports, work_ports}
use Rattle.hub_class.proofs.laws.acks_and_work_leave_the_ports.Goals as goal

pub returns : goal.returns
returns g c = record {
  acks = acked_ports;
  work = work_ports g.W.Wire.transacts;
}
