use Rattle.std.proofs.Common.{arith}
use Rattle.bandwidth.proofs.Cells.{two_turns}
use Rattle.bandwidth.proofs.Pools.{free_left, hub_within}
use Rattle.bandwidth.proofs.Books.{loads_small, book_joined, costs_as}
use Rattle.bandwidth.proofs.accounts.Accounts.join.Goals as goal

pub add_microframes-requires-clause-room : goal.add_microframes-requires-clause-room
add_microframes-requires-clause-room g c = loads_small _ c.self.invariant.0

pub add_below-requires-clause-free : goal.add_below-requires-clause-free
add_below-requires-clause-free g c n h e none =
    let req = rw (← c.self.view_is) at c.requires in free_left _ n c.self.invariant.0 req.room h none

pub add_below-requires-clause-within : goal.add_below-requires-clause-within
add_below-requires-clause-within g c n h e =
    hub_within _ _ n h c.self.invariant.0.fits c.self.invariant.0.pool

pub invariant_of-self : goal.invariant_of-self
invariant_of-self g c =
    let req = rw (← c.self.view_is) at c.requires in
    let old = c.self.invariant.0 in
    let w = c.args.want.now in
    let p = c.args.placement.now in
    let x = c.args.shape.now in (
      rw c.push_reserved.ensures.items
          (book_joined _ w p _ _ old (record { want = req.want; place = req.place.place }) req.fits req.room req.id
          (record {
            cells = c.add_microframes.ensures.cells;
            loads = costs_as _ _ w x p req.shape req.place c.add_microframes.ensures.sums;
            pool = c.add_below.ensures.pool _ old.pool;
            size = c.add_below.ensures.size;
          })),
      rw c.push_reserved.ensures.capacity c.self.invariant.1,
    )

pub returns-clause-steps : goal.returns-clause-steps
returns-clause-steps g c =
    two_turns _ _ _ _ _ _ _ c.add_microframes.ensures.steps c.add_below.ensures.steps (omega (arith, c.requires.shape.cost_span))
