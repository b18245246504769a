use Rattle.law_pipe.specs.Pipe.{opening}
use Rattle.law_pipe.proofs.Agreement.{agrees_after_all, opening_agrees}
use Rattle.law_pipe.proofs.pipe_agrees.Goals as goal

pub returns : goal.returns
returns c = λ packets hearings. agrees_after_all packets opening hearings (opening_agrees packets)
