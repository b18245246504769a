use Rattle.std.proofs.Common.{ℕ, List, subst, sym, ap, ◌∙◌}
use Rattle.drv_table.specs.Harvesting.{worker_from}
use Rattle.drv_endpoints.specs.Working.{Roster, IsWorkSet}
use Rattle.drv_endpoints.proofs.Workers.{next_is}
use Rattle.drv_endpoints.proofs.endpoints.Endpoints.next_from.Goals as goal

pub returns : goal.returns
returns c =
    next_is c.self.inside.all.items c.deref.result.now c.args.from c.first_bit.result
    (subst (λ (ws : List ℕ). IsWorkSet c.self.inside.all.items ws) (sym c.deref.ensures.value) c.self.invariant.0)
    c.first_bit.ensures.first c.first_bit.ensures.none
    ∙ ap (λ (r : Roster). worker_from r.items c.args.from) c.self.view_is
