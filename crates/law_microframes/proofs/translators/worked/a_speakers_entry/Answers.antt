use Rattle.std.proofs.Common.{refl, ap}
use Rattle.std.proofs.lemmas.Bool.{true≢false}
use Rattle.law_microframes.proofs.translators.worked.a_speakers_entry.Goals as goal

pub returns-clause-lacks : goal.returns-clause-lacks
returns-clause-lacks c = (λ on. refl, tt)

pub returns-clause-over : goal.returns-clause-over
returns-clause-over c = λ all. true≢false (all.0 refl)

pub returns-clause-even : goal.returns-clause-even
returns-clause-even c = (λ on. refl, tt)

pub returns-clause-uneven : goal.returns-clause-uneven
returns-clause-uneven c = λ all. let e = ap (λ b. b.parts) (all.0 refl) in cc
