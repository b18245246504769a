use Rattle.std.proofs.Common.{refl}
use Rattle.std.proofs.lemmas.Bool.{false≢true}
use Rattle.law_reports.proofs.lines.worked.its_end_is_the_last_line.Goals as goal

pub returns-clause-last : goal.returns-clause-last
returns-clause-last c = record { once = refl; whole = refl }

pub returns-clause-followed : goal.returns-clause-followed
returns-clause-followed c = λ k. false≢true k.once

pub returns-clause-pending : goal.returns-clause-pending
returns-clause-pending c = λ k. false≢true k.whole
