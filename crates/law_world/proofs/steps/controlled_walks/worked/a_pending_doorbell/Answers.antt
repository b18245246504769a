use Rattle.std.proofs.Common.{true, [], get_or, refl}
use Rattle.drv_table.specs.Offers.{new_endpoint}
use Rattle.law_driver.specs.run_owners.Worked.{bulk}
use Rattle.claims_driver.specs.Ring.{first}
use Rattle.claims_driver.specs.Walk.{IsReached, at_rung}
use Rattle.law_world.specs.steps.controlled_walks.Worked.{ringing_endpoints, ringing_driver}
use Rattle.law_world.proofs.steps.controlled_walks.worked.a_pending_doorbell.Goals as goal

rung : IsReached ringing_driver true 150
rung = at_rung 2 (record { endpoint = get_or ringing_endpoints 2 (new_endpoint bulk 150 152); here = refl; queue = refl }) (first []) refl

pub returns-clause-rung : goal.returns-clause-rung
returns-clause-rung c = rung

pub returns-clause-walk : goal.returns-clause-walk
returns-clause-walk c = record { start = refl; cursor = record { block = 150; is = refl; reached = rung }; copy = λ h there. absurd (cc) }

pub returns-clause-ended : goal.returns-clause-ended
returns-clause-ended c = record { start = refl; cursor = record { block = 150; is = refl; reached = rung }; copy = λ h there. absurd (cc) }

pub returns-clause-bell : goal.returns-clause-bell
returns-clause-bell c = record { quiet = λ is. absurd (cc); answered = λ on. absurd (cc); heard = λ is. absurd (cc) }
