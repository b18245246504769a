use Rattle.std.proofs.Common.{arith}
use Rattle.std.proofs.lemmas.List.Elements.{All-push}
use Rattle.bandwidth.specs.Tables.{AreZero}
use Rattle.bandwidth.proofs.hub_pool.zero_tables.Goals as goal

pub loop-k-preserved : goal.loop-k-preserved
loop-k-preserved c = record {
  count = omega (arith, c.push_reserved.ensures.len, c.loop-k.invariant.count);
  room = omega (arith, c.push_reserved.ensures.capacity, c.loop-k.invariant.room);
  zeros = rw c.push_reserved.ensures.items (All-push AreZero _ _ c.loop-k.invariant.zeros c.in_ok-sums.ensures);
}
