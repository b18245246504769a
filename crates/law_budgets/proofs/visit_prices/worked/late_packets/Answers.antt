use Rattle.std.proofs.Common.{refl}
use Rattle.mem_bytes.specs.Bytes.{places, all_reached}
use Rattle.hc_iso.specs.Itd.{after_in}
use Rattle.law_budgets.specs.visit_prices.Time.{late_in}
use Rattle.law_budgets.proofs.visit_prices.worked.late_packets.Goals as goal

pub returns-clause-none : goal.returns-clause-none
unfolding late_in after_in places all_reached
returns-clause-none c = refl

pub returns-clause-first : goal.returns-clause-first
unfolding late_in after_in places all_reached
returns-clause-first c = refl

pub returns-clause-third : goal.returns-clause-third
unfolding late_in after_in places all_reached
returns-clause-third c = refl
