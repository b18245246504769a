use Rattle.std.proofs.Common.{arith}
use Rattle.bandwidth.proofs.Pools.{no_hubs}
use Rattle.bandwidth.proofs.hub_pool.HubPool.build.Goals as goal

pub invariant_of-result : goal.invariant_of-result
invariant_of-result c = record {
  count = c.in_ok-hubs.ensures.count;
  free = c.in_ok-free.ensures.zeros;
  fits = omega (arith, c.in_ok-free.ensures.count, c.in_ok-free.ensures.room, no_hubs _ c.in_ok-hubs.ensures.none);
}
