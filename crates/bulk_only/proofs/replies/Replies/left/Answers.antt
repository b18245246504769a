use Rattle.std.proofs.Common.{arith}
use Rattle.bulk_only.proofs.Packets.{size_of_waiting}
use Rattle.bulk_only.proofs.replies.Replies.left.Goals as goal

pub returns : goal.returns
returns c =
    let r = c.self.inside in
    let e = size_of_waiting r.lengths.items r.bytes.items r.sent c.self.invariant.0 in
    rw (← c.self.view_is) (omega (arith, e, c.self.invariant.0, c.self.invariant.2, c.len.ensures, r.bytes.ok.0))
