use Rattle.std.proofs.Common.{refl, arith, ◌≤◌}
use Rattle.law_microframes.proofs.worked_visits.parts.slots_fit_packets.Goals as goal

pub returns-clause-fits : goal.returns-clause-fits
returns-clause-fits c = λ iso same. omega arith

pub returns-clause-longer : goal.returns-clause-longer
returns-clause-longer c = λ fits. absurd (let many : 401 ≤ 400 = fits refl refl in omega (arith, many))
