use Rattle.law_below_hubs.proofs.HostOpens.{out_opens, in_opens, head_opens_out, head_opens_in}
use Rattle.law_below_hubs.proofs.events.a_pipe_below_opens.Goals as goal

pub returns : goal.returns
returns c = record { outward = out_opens; inward = in_opens; outward_head = head_opens_out; inward_head = head_opens_in }
