use Rattle.std.proofs.Common.{rules}
use Rattle.std.specs.Prelude.{slice_index}
use Rattle.bandwidth.proofs.Pools.{added_given, at_given, some_at}
use Rattle.bandwidth.proofs.hub_pool.HubPool.add.Goals as goal

pub add_to-requires-2-clause-some : goal.add_to-requires-2-clause-some
add_to-requires-2-clause-some g c =
    some_at _ c.give.ensures.gives.given
    (at_given c.args.self.now c.give.new.self c.args.translator c.below.ensures.count c.below.ensures.number c.give.ensures.gives)

pub returns-clause-adds : goal.returns-clause-adds
returns-clause-adds g c =
    added_given c.args.self.now c.give.new.self c.add_to-2.new.self c.args.translator c.args.time
    (slice_index c.args.bytes.now.each) c.args.placement.now c.below.ensures.count c.below.ensures.number (search rules)
    c.give.ensures.gives c.add_to-2.ensures.adds
