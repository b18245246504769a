use Rattle.std.proofs.Common.{[], ◌∷◌, refl}
use Rattle.law_world.proofs.lemmas.streams.lemmas.right_reports.Sampling.{other_byte}
use Rattle.law_world.proofs.streams.right_reports.worked.a_cancel.Goals as goal

pub returns-clause-bulk : goal.returns-clause-bulk
returns-clause-bulk c = (record { kind = refl; speed = refl; way = tt }, (tt, (tt, tt)))

pub returns-clause-all : goal.returns-clause-all
returns-clause-all c = (record { bytes = ([], refl); once = refl; whole = refl }, tt)

pub returns-clause-none : goal.returns-clause-none
returns-clause-none c = (record { bytes = (1 ∷ 2 ∷ [], refl); once = refl; whole = refl }, tt)

pub returns-clause-wrong : goal.returns-clause-wrong
returns-clause-wrong c = λ k. other_byte k.0.bytes.0 k.0.bytes.1
