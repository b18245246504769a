use Rattle.std.proofs.Common.{[], ◌∷◌, refl}
use Rattle.law_world.proofs.lemmas.streams.lemmas.right_reports.Sampling.{out_in, other_byte}
use Rattle.law_world.proofs.streams.right_reports.worked.an_in_and_an_out.Goals as goal

pub returns-clause-bulk : goal.returns-clause-bulk
returns-clause-bulk c = (record { kind = refl; speed = refl; way = tt }, (record { kind = refl; speed = refl; way = tt }, (tt, (tt, tt))))

pub returns-clause-not_receiving : goal.returns-clause-not_receiving
returns-clause-not_receiving c = λ k. out_in k.1.0.way

pub returns-clause-opening : goal.returns-clause-opening
returns-clause-opening c = (record { bytes = (1 ∷ 2 ∷ [], refl); once = refl; whole = refl }, tt)

pub returns-clause-right : goal.returns-clause-right
returns-clause-right c = (record { bytes = ([], refl); once = refl; whole = refl }, tt)

pub returns-clause-out : goal.returns-clause-out
returns-clause-out c = λ k. k.1.0.bytes

pub returns-clause-wrong : goal.returns-clause-wrong
returns-clause-wrong c = λ k. other_byte k.0.bytes.0 k.0.bytes.1
