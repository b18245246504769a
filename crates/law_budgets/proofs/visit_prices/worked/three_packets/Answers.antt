use Rattle.std.proofs.Common.{refl}
use Rattle.mem_bytes.specs.Bytes.{stored, places, all_reached, reached}
use Rattle.hc_iso.specs.Itd.{after_in}
use Rattle.hc_iso.specs.WriteBack.{itd_written, done_slot}
use Rattle.law_budgets.specs.visit_prices.Prices.{prices}
use Rattle.law_budgets.proofs.visit_prices.worked.three_packets.Goals as goal

pub returns-clause-all : goal.returns-clause-all
unfolding prices after_in itd_written done_slot stored places all_reached reached
returns-clause-all c = refl

pub returns-clause-one : goal.returns-clause-one
unfolding prices after_in itd_written done_slot stored places all_reached reached
returns-clause-one c = refl
