use Rattle.std.proofs.Common.{arith}
use Rattle.drv_members.proofs.Keeping.{kept_at_first}
use Rattle.drv_members.proofs.members.FrameMembers.build.Goals as goal

pub invariant_of-result : goal.invariant_of-result
invariant_of-result c =
    let a = c.in_ok-with_capacity.ensures.exact in
    let b = c.in_ok-with_capacity-2.ensures.exact in (
      kept_at_first c.in_ok-with_capacity-2.field-0.items c.in_ok-with_capacity.field-0.items c.in_ok-with_capacity-2.ensures.items c.in_ok-with_capacity.ensures.items,
      (omega (arith, a), omega (arith, b)),
    )
