use Rattle.std.proofs.Common.{◌≡◌, false, sym, subst, arith}
use Rattle.drv_chains.specs.Chains.{of_lists, has_name, id_of}
use Rattle.drv_members.specs.Members.{IsKept, IsMember}
use Rattle.drv_members.proofs.Keeping.{keeps_queue, keeps_descriptor}
use Rattle.drv_members.proofs.members.FrameMembers.insert.Goals as goal

pub returns-in-Once-clause-kept : goal.returns-in-Once-clause-kept
returns-in-Once-clause-kept g c =
    let s = of_lists c.self.inside.descriptors.items c.self.inside.queues.items in
    let d = c.in-Once.descriptor in
    let new : has_name s d.id ≡ false = subst (λ m. has_name s (id_of m) ≡ false) c.in-Once.is (subst (λ m. has_name m.schedule (id_of c.args.member.now) ≡ false) (sym c.self.view_is) c.requires.new) in
    subst (λ ds. IsKept (of_lists ds c.self.inside.queues.items)) (sym c.put_descriptor.ensures.items) (keeps_descriptor s d c.self.invariant.0 (subst IsMember c.in-Once.is c.requires.member) new)

pub returns-in-Each-clause-kept : goal.returns-in-Each-clause-kept
returns-in-Each-clause-kept g c =
    let s = of_lists c.self.inside.descriptors.items c.self.inside.queues.items in
    let q = c.in-Each.queue in
    let new : has_name s q.id ≡ false = subst (λ m. has_name s (id_of m) ≡ false) c.in-Each.is (subst (λ m. has_name m.schedule (id_of c.args.member.now) ≡ false) (sym c.self.view_is) c.requires.new) in
    subst (λ qs. IsKept (of_lists c.self.inside.descriptors.items qs)) (sym c.put_queue.ensures.items) (keeps_queue s q c.self.invariant.0 (subst IsMember c.in-Each.is c.requires.member) new)

pub invariant_of-self : goal.invariant_of-self
invariant_of-self g c =
    let s = of_lists c.self.inside.descriptors.items c.self.inside.queues.items in
    let d = c.in-Once.descriptor in
    let new : has_name s d.id ≡ false = subst (λ m. has_name s (id_of m) ≡ false) c.in-Once.is (subst (λ m. has_name m.schedule (id_of c.args.member.now) ≡ false) (sym c.self.view_is) c.requires.new) in
    let room = c.self.invariant.1.1 in
    let more = c.put_descriptor.ensures.capacity in (
      subst (λ ds. IsKept (of_lists ds c.self.inside.queues.items)) (sym c.put_descriptor.ensures.items) (keeps_descriptor s d c.self.invariant.0 (subst IsMember c.in-Once.is c.requires.member) new),
      (c.self.invariant.1.0, omega (arith, room, more)),
    )

pub invariant_of-self-in-Each : goal.invariant_of-self-in-Each
invariant_of-self-in-Each g c =
    let s = of_lists c.self.inside.descriptors.items c.self.inside.queues.items in
    let q = c.in-Each.queue in
    let new : has_name s q.id ≡ false = subst (λ m. has_name s (id_of m) ≡ false) c.in-Each.is (subst (λ m. has_name m.schedule (id_of c.args.member.now) ≡ false) (sym c.self.view_is) c.requires.new) in
    let room = c.self.invariant.1.0 in
    let more = c.put_queue.ensures.capacity in (
      subst (λ qs. IsKept (of_lists c.self.inside.descriptors.items qs)) (sym c.put_queue.ensures.items) (keeps_queue s q c.self.invariant.0 (subst IsMember c.in-Each.is c.requires.member) new),
      (omega (arith, room, more), c.self.invariant.1.1),
    )
