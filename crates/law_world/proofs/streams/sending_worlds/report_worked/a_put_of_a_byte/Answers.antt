use Rattle.std.proofs.Common.{[], ◌∷◌, refl}
use Rattle.law_world.proofs.lemmas.streams.lemmas.sending_worlds.ReportSampling.{eight_nine, two_one, one_none}
use Rattle.law_world.proofs.streams.sending_worlds.report_worked.a_put_of_a_byte.Goals as goal

pub returns-clause-taken : goal.returns-clause-taken
returns-clause-taken c = (([], refl), tt)

pub returns-clause-nothing : goal.returns-clause-nothing
returns-clause-nothing c = ((9 ∷ [], refl), tt)

pub returns-clause-unsaid : goal.returns-clause-unsaid
returns-clause-unsaid c = (tt, tt)

pub returns-clause-other : goal.returns-clause-other
returns-clause-other c = λ k. eight_nine k.0.0 k.0.1

pub returns-clause-more : goal.returns-clause-more
returns-clause-more c = λ k. two_one 9 8 9 k.0.0 k.0.1

pub returns-clause-refused : goal.returns-clause-refused
returns-clause-refused c = λ k. one_none 9 k.0.0 k.0.1

pub returns-clause-right : goal.returns-clause-right
returns-clause-right c = (record { bytes = ([], refl); once = refl; whole = refl }, (record { bytes = (([], refl), ([], refl)); once = refl; whole = refl }, tt))
