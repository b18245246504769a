use Rattle.law_pipe.specs.Pipe.{opening, after_all}
use Rattle.law_pipe.proofs.Agreement.{agrees_after_all, opening_agrees, accepted_begins}
use Rattle.law_pipe.proofs.accepted_bytes_begin_the_stream.Goals as goal

pub returns : goal.returns
returns c = λ packets hearings. accepted_begins packets (after_all packets opening hearings) (agrees_after_all packets opening hearings (opening_agrees packets))
