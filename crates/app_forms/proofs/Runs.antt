-- What was run from the opening of a script ends in a world after its run.
use Rattle.std.proofs.Common.{◌≡◌, ap, subst, ◌∙◌}
use Rattle.script_types.specs.declared.scripts.Script.{Script}
use Rattle.bus_world.specs.Orders.{orders_of}
use Rattle.bus_world.specs.AtWork.{StandingAtWork}
use Rattle.bus_world.specs.RunsAtWork.{IsRunAtWork, IsRunOfAtWork, standing_at_work}

pub run_of : (s : Script) (w v : StandingAtWork) → w ≡ standing_at_work s → v.fixed ≡ w.fixed
    → IsRunAtWork w.fixed w.work (orders_of s.lines) v.work → IsRunOfAtWork s v
run_of s w v e fixed ran = record {
  fixed = fixed ∙ ap (λ (x : StandingAtWork). x.fixed) e;
  ran = subst (λ (x : StandingAtWork). IsRunAtWork x.fixed x.work (orders_of s.lines) v.work) e ran;
}
