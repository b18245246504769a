use Rattle.std.proofs.lemmas.Bool.{false≢true}
use Rattle.law_reports.proofs.lemmas.pipes.lemmas.high_streams.Sampling.{other_byte, some_none, eight_seven}
use Rattle.law_reports.proofs.pipes.reports_worked.wrong_beside_a_keyboard.Goals as goal

pub returns-clause-byte : goal.returns-clause-byte
returns-clause-byte c = λ k. other_byte k.0.bytes.0 k.0.bytes.1

pub returns-clause-followed : goal.returns-clause-followed
returns-clause-followed c = λ k. false≢true k.0.once

pub returns-clause-nothing : goal.returns-clause-nothing
returns-clause-nothing c = λ k. some_none k.0.bytes.0 k.0.bytes.1

pub returns-clause-other : goal.returns-clause-other
returns-clause-other c = λ k. eight_seven k.0.0 k.0.1
