use Rattle.std.proofs.Common.{◌≡◌, refl, arith}
use Rattle.std.specs.Prelude.{Option, None}
use Rattle.std.proofs.lemmas.List.Elements.{All-push}
use Rattle.bandwidth.specs.Tables.{HubTables}
use Rattle.bandwidth.proofs.hub_pool.no_tables.Goals as goal

pub loop-k-preserved : goal.loop-k-preserved
loop-k-preserved c = record {
  count = omega (arith, c.push_reserved.ensures.len, c.loop-k.invariant.count);
  room = omega (arith, c.push_reserved.ensures.capacity, c.loop-k.invariant.room);
  none =
      rw c.push_reserved.ensures.items
      (All-push (λ (o : Option HubTables). o ≡ None) _ _ c.loop-k.invariant.none refl);
}
