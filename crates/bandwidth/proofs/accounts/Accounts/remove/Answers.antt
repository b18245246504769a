use Rattle.std.proofs.Common.{◌≡◌, ◌%◌, ◌<◌, length, sym, ◌∙◌, arith}
use Rattle.std.specs.Prelude.{Some}
use Rattle.std.specs.List.{position}
use Rattle.bandwidth.proofs.Books.{book_left, costs_left, less_removed, load_holds}
use Rattle.bandwidth.proofs.Ids.{nothing_out, of_id, place_of, taken_out}
use Rattle.bandwidth.proofs.accounts.Accounts.remove.Goals as goal

pub returns-in_default-clause-placed : goal.returns-in_default-clause-placed
returns-in_default-clause-placed c = nothing_out c.args.self.now.placed c.args.id (sym c.in_default.ensures.place)

pub sub_microframes-requires-clause-enough : goal.sub_microframes-requires-clause-enough
sub_microframes-requires-clause-enough c u h active =
    let xs = c.self.inside.placed.items in
    let x = c.index.result.now in
    let at : position (of_id c.args.id) xs ≡ Some c.in-Some.i = sym (rw (← c.self.view_is) at c.place.ensures.place) ∙ c.in-Some.is in
    let found = place_of xs c.args.id c.in-Some.i at in
    let inside : c.in-Some.i < length xs = omega (arith, found.0, found.1) in
    let small : u % 8 < 8 = omega arith in
    rw (c.costs_of.ensures.costs (u % 8) small)
    (load_holds _ x _ c.self.invariant.0 (less_removed xs c.in-Some.i x inside c.index.ensures) u h active)

pub sub_below-requires-clause-was : goal.sub_below-requires-clause-was
sub_below-requires-clause-was c =
    let xs = c.self.inside.placed.items in
    let x = c.index.result.now in
    let at : position (of_id c.args.id) xs ≡ Some c.in-Some.i = sym (rw (← c.self.view_is) at c.place.ensures.place) ∙ c.in-Some.is in
    let found = place_of xs c.args.id c.in-Some.i at in
    let inside : c.in-Some.i < length xs = omega (arith, found.0, found.1) in
    rw (c.deref.ensures.value, c.remove.ensures.items)
    (record {
      all = xs;
      less = less_removed xs c.in-Some.i x inside c.index.ensures;
      pool = c.self.invariant.0.pool;
    })

pub returns-clause-placed : goal.returns-clause-placed
returns-clause-placed c =
    let xs = c.self.inside.placed.items in
    let at : position (of_id c.args.id) xs ≡ Some c.in-Some.i = sym (rw (← c.self.view_is) at c.place.ensures.place) ∙ c.in-Some.is in
    rw (← c.self.view_is) (c.remove.ensures.items ∙ taken_out xs c.args.id c.in-Some.i c.self.invariant.0.ids at)

pub invariant_of-self : goal.invariant_of-self
invariant_of-self c =
    let xs = c.self.inside.placed.items in
    let x = c.index.result.now in
    let at : position (of_id c.args.id) xs ≡ Some c.in-Some.i = sym (rw (← c.self.view_is) at c.place.ensures.place) ∙ c.in-Some.is in
    let found = place_of xs c.args.id c.in-Some.i at in
    let inside : c.in-Some.i < length xs = omega (arith, found.0, found.1) in (
      rw c.remove.ensures.items
          (book_left _ c.in-Some.i c.args.id x _ _ c.self.invariant.0 inside c.index.ensures at
          (record {
            cells = c.sub_microframes.ensures.cells;
            loads = costs_left _ _ _ x.want x.placement c.costs_of.ensures.costs c.sub_microframes.ensures.sums;
            pool = rw (c.deref.ensures.value, c.remove.ensures.items) at c.sub_below.ensures.pool;
            size = c.sub_below.ensures.size;
          })),
      omega (arith, c.remove.ensures.capacity, c.self.invariant.1),
    )
