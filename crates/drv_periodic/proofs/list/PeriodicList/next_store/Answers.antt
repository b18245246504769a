use Rattle.std.proofs.Common.{Some, ap, sym, ◌∙◌, subst}
use Rattle.std.specs.Prelude.{option_and_then}
use Rattle.drv_periodic.specs.Periodic.{next_store, store_of}
use Rattle.drv_periodic.specs.Tasks.{IsTask, AreTasks, works_of}
use Rattle.drv_periodic.proofs.Steps.{store_now}
use Rattle.drv_periodic.proofs.list.PeriodicList.next_store.Goals as goal

pub returns-in-Some-clause-store : goal.returns-in-Some-clause-store
returns-in-Some-clause-store c =
    let s = c.self.inside.members.schedule in
    let t = c.in-Some.task in
    let k : IsTask s t = subst (λ o. AreTasks s o) c.in-Some.is c.self.invariant in
    ap Some c.store_of.ensures.store ∙ store_now c.self.inside.list s t k ∙ ap (λ o. option_and_then (λ w. store_of c.self.inside.list s w) (works_of o)) (sym c.in-Some.is) ∙ ap next_store c.self.view_is
