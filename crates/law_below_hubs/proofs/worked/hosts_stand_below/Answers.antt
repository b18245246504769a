use Rattle.law_below_hubs.proofs.WorkedHosts.{opens, starts_so, result_comes, unsent_breaks, read_starts, no_stream_breaks}
use Rattle.law_below_hubs.proofs.worked.hosts_stand_below.Goals as goal

pub returns : goal.returns
returns c = record {
  opens = opens;
  starts = starts_so;
  result = result_comes;
  unsent = unsent_breaks;
  read = read_starts;
  no_stream = no_stream_breaks;
}
