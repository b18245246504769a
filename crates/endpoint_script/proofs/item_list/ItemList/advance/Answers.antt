use Rattle.std.proofs.Common.{◌<◌, length, drop, subst, arith}
use Rattle.std.specs.Prelude.{IsTrue}
use Rattle.std.specs.List.{list_all}
use Rattle.endpoint_script.specs.Items.{is_short}
use Rattle.endpoint_script.proofs.Lists.{rest_of_dropped, all_of_rest}
use Rattle.endpoint_script.proofs.item_list.ItemList.advance.Goals as goal

pub invariant_of-self : goal.invariant_of-self
invariant_of-self c =
    let inside : c.self.inside.next < length c.self.inside.items.items = omega arith in
    subst (λ xs. IsTrue (list_all is_short xs)) (rest_of_dropped c.self.inside.items.items c.self.inside.next inside) (all_of_rest is_short (drop c.self.inside.next c.self.inside.items.items) c.self.invariant)
