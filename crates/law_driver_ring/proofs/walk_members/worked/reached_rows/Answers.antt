use Rattle.std.proofs.Common.{false, get_or, refl}
use Rattle.drv_table.specs.Offers.{new_endpoint}
use Rattle.law_driver.specs.run_owners.Worked.{bulk, busy_endpoints, busy_driver}
use Rattle.claims_driver.specs.Walk.{IsReached, at_member}
use Rattle.law_driver_ring.proofs.walk_members.worked.reached_rows.Goals as goal

first_there : IsReached busy_driver false 130
first_there = at_member 0 (record { endpoint = get_or busy_endpoints 0 (new_endpoint bulk 130 133); here = refl; queue = refl }) refl

pub returns-clause-member : goal.returns-clause-member
returns-clause-member c = first_there

pub returns-clause-link : goal.returns-clause-link
returns-clause-link c = record { block = 130; is = refl; reached = first_there }
