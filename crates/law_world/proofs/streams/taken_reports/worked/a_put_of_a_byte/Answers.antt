use Rattle.std.proofs.Common.{[], ◌∷◌, refl}
use Rattle.std.proofs.lemmas.Bool.{false≢true}
use Rattle.law_world.proofs.lemmas.streams.lemmas.taken_reports.Sampling.{nine_eight, some_none}
use Rattle.law_world.proofs.streams.taken_reports.worked.a_put_of_a_byte.Goals as goal

pub returns-clause-taken : goal.returns-clause-taken
returns-clause-taken c = (record { bytes = ([], refl); once = refl; whole = refl }, tt)

pub returns-clause-more : goal.returns-clause-more
returns-clause-more c = (record { bytes = (8 ∷ [], refl); once = refl; whole = refl }, tt)

pub returns-clause-other : goal.returns-clause-other
returns-clause-other c = λ k. nine_eight k.0.bytes.0 k.0.bytes.1

pub returns-clause-unsaid : goal.returns-clause-unsaid
returns-clause-unsaid c = λ k. some_none 9 [] k.0.bytes

pub returns-clause-halted : goal.returns-clause-halted
returns-clause-halted c = (record { bytes = ([], refl); once = refl; whole = refl }, tt)

pub returns-clause-pending : goal.returns-clause-pending
returns-clause-pending c = λ k. false≢true k.0.whole

pub returns-clause-before : goal.returns-clause-before
returns-clause-before c = (record { bytes = refl; once = refl; whole = refl }, tt)
