use Rattle.std.proofs.Common.{◌^◌, ◌<◌, ◌≤◌, arith}
use Rattle.std.proofs.Math.Nat.{pow-le-pow_right}
use Rattle.drv_members.proofs.order.phases_of.Goals as goal

pub returns-clause-most : goal.returns-clause-most
returns-clause-most c =
    let two : 0 < 2 = omega arith in
    let most : 2 ^ c.args.level ≤ 2 ^ 10 = pow-le-pow_right two c.requires in
    omega (arith, most)
