use Rattle.std.proofs.Common.{◌==◌, ◌∙◌, ap, sym, subst}
use Rattle.std.specs.List.{list_any}
use Rattle.std.specs.List.Sorted.{IsNonDecreasing}
use Rattle.bus_wire.proofs.Search.{search_tells}
use Rattle.bus_wire.proofs.numbers.Numbers.has.Goals as goal

pub returns : goal.returns
returns c =
    c.is_ok.ensures.value
    ∙ search_tells c.deref.result.now c.args.k c.binary_search.result c.binary_search.ensures.position (subst IsNonDecreasing (sym c.deref.ensures.value) c.self.invariant)
    ∙ ap (λ xs. list_any (λ n. n == c.args.k) xs) (c.deref.ensures.value ∙ c.self.view_is)
