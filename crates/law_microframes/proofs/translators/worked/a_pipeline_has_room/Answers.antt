use Rattle.std.proofs.Common.{refl, arith}
use Rattle.law_microframes.proofs.translators.worked.a_pipeline_has_room.Goals as goal

pub returns-clause-room : goal.returns-clause-room
returns-clause-room c = record { few = omega arith; once = refl }

pub returns-clause-twice : goal.returns-clause-twice
returns-clause-twice c = λ r. let once = r.once in absurd cc
