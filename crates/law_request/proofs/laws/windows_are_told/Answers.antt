use Rattle.law_request.proofs.Told.{done_told, halt_told, cancel_told, acts_told, count_told}
use Rattle.law_request.proofs.laws.windows_are_told.Goals as goal

pub returns : goal.returns
returns c = record { done = done_told; halted = halt_told; cancelled = cancel_told; acts = acts_told; count = count_told }
