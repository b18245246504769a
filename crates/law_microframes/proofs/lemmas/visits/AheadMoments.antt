-- Along the run of a script the walk of the frames goes on to such descriptors alone as were active when the microframe began; and nothing was out of place then.
use Rattle.std.proofs.Common.{ℕ, zero}
use Rattle.hc_core.specs.declared.controller.ControllerRow.{ControllerRow}
use Rattle.hc_core.specs.declared.controller.ControllerRow.TheVariants as rows
use Rattle.bus_world.specs.World.{World, controller_row}
use Rattle.bus_world.specs.Opening.{opening_world}
use Rattle.bus_world.specs.Orders.{ticks}
use Rattle.law_microframes.specs.visits.OneDescriptor.{IsMixedOnce}
use Rattle.law_microframes.specs.visits.Visited.{VisitsGoOn}
use Rattle.claims_world.specs.Visits.{visited}
use Rattle.law_microframes.specs.visits.Began.{began_at, began_by, began, BeganIsMixed, ScriptsGoOnToOld}
use Rattle.law_microframes.proofs.lemmas.visits.OneDescriptorMoments.{each_moment_has_one_active}
use Rattle.law_world.proofs.lemmas.memory.Carrying.{carrying}
use Rattle.law_microframes.proofs.lemmas.visits.VisitsKept.{scripts_visit}
use Rattle.bus_world.specs.Budgets.{moment}

pub scripts_go_on_to_old : ScriptsGoOnToOld
scripts_go_on_to_old s fit bytes opens k e f n ahead active =
    let v : VisitsGoOn (began s k) (moment s k).world (visited s k) = (scripts_visit s fit bytes opens k).visits in
    v.goes.old e f n (v.goes.next n ahead.periodic ahead.next) active

-- ---- what is carried is the world as it began

at_row : (r : ControllerRow) (w start : World) → IsMixedOnce start → IsMixedOnce w → IsMixedOnce (began_at r w start)
at_row rows.Begin w start old now = now
at_row _ w start old now = old

pub began_is_mixed : BeganIsMixed
unfolding ticks
began_is_mixed s fit bytes opens k =
    let all : (j : ℕ) → IsMixedOnce (moment s j).world = each_moment_has_one_active s fit bytes opens in
    carrying began_by (λ w orders start. IsMixedOnce w) (λ w start. IsMixedOnce start) s (opening_world s)
    (record {
      controller = λ w orders start now old. at_row (controller_row w) w start old now;
      driver = λ w orders start now old. old;
      command = λ w n cmd rest start now old. old;
    })
    all (all zero) k
