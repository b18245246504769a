use Rattle.law_below_hubs.proofs.HostInBeside.{rested_is_timely, halted_is_timely}
use Rattle.law_below_hubs.proofs.hosts.a_host_that_rests_is_in_time.Goals as goal

pub returns : goal.returns
returns c = record { rests = rested_is_timely; halts = halted_is_timely }
