use Rattle.law_below_hubs.proofs.WorkedControl.{setup_comes_true, data_come_true, status_comes_true, host_hears, other_kind_breaks, no_hub_hears}
use Rattle.law_below_hubs.proofs.worked.a_read_comes_true.Goals as goal

pub returns : goal.returns
returns c = record {
  setup = setup_comes_true;
  moved = data_come_true;
  status = status_comes_true;
  hears = host_hears;
  breaks = other_kind_breaks;
  no_hub = no_hub_hears;
}
