use Rattle.std.proofs.Common.{sym, subst, arith}
use Rattle.drv_chains.specs.declared.members.Member.TheVariants.{Once, Each}
use Rattle.drv_chains.specs.Chains.{of_lists}
use Rattle.drv_members.specs.Members.{IsKept}
use Rattle.drv_members.proofs.Keeping.{keeps_without}
use Rattle.drv_members.proofs.members.FrameMembers.remove.Goals as goal

pub returns-in-Once-clause-kept : goal.returns-in-Once-clause-kept
returns-in-Once-clause-kept g c =
    let s = of_lists c.self.inside.descriptors.items c.self.inside.queues.items in
    subst (λ ds. IsKept (of_lists ds c.self.inside.queues.items)) (sym c.drop_descriptor.ensures.items) (keeps_without s (Once c.in-Once.descriptor) c.self.invariant.0)

pub returns-in-Each-clause-kept : goal.returns-in-Each-clause-kept
returns-in-Each-clause-kept g c =
    let s = of_lists c.self.inside.descriptors.items c.self.inside.queues.items in
    subst (λ qs. IsKept (of_lists c.self.inside.descriptors.items qs)) (sym c.drop_queue.ensures.items) (keeps_without s (Each c.in-Each.queue) c.self.invariant.0)

pub invariant_of-self : goal.invariant_of-self
invariant_of-self g c =
    let s = of_lists c.self.inside.descriptors.items c.self.inside.queues.items in
    let room = c.self.invariant.1.1 in
    let same = c.drop_descriptor.ensures.capacity in (
      subst (λ ds. IsKept (of_lists ds c.self.inside.queues.items)) (sym c.drop_descriptor.ensures.items) (keeps_without s (Once c.in-Once.descriptor) c.self.invariant.0),
      (c.self.invariant.1.0, omega (arith, room, same)),
    )

pub invariant_of-self-in-Each : goal.invariant_of-self-in-Each
invariant_of-self-in-Each g c =
    let s = of_lists c.self.inside.descriptors.items c.self.inside.queues.items in
    let room = c.self.invariant.1.0 in
    let same = c.drop_queue.ensures.capacity in (
      subst (λ qs. IsKept (of_lists c.self.inside.descriptors.items qs)) (sym c.drop_queue.ensures.items) (keeps_without s (Each c.in-Each.queue) c.self.invariant.0),
      (omega (arith, room, same), c.self.invariant.1.1),
    )
