use Rattle.std.proofs.Common.{[], ◌∷◌, refl}
use Rattle.law_world.proofs.streams.right_reports.worked.before_the_first_line.Goals as goal

pub returns-clause-bulk : goal.returns-clause-bulk
returns-clause-bulk c = (record { kind = refl; speed = refl; way = tt }, tt)

pub returns-clause-receives : goal.returns-clause-receives
returns-clause-receives c = (record { kind = refl; speed = refl; way = refl }, tt)

pub returns-clause-right : goal.returns-clause-right
returns-clause-right c = (record { bytes = (1 ∷ 2 ∷ [], refl); once = refl; whole = refl }, tt)
