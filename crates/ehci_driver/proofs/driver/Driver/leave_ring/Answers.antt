use Rattle.std.proofs.Common.{rules, ◌≡◌, true, slice_get, Some, sym, ◌∙◌, arith, refl}
use Rattle.ehci_driver.proofs.Counts.{left_ring}
use Rattle.ehci_driver.proofs.Left.{left_rooms}
use Rattle.ehci_driver.proofs.Placed.{frames_endpoint}
use Rattle.ehci_driver.proofs.driver.Driver.leave_ring.Goals as goal

pub push_back_reserved-requires : goal.push_back_reserved-requires
push_back_reserved-requires c =
    let there : slice_get c.self.inside.endpoints.items c.args.e ≡ Some c.in-Some.endpoint = sym c.get.ensures.endpoint ∙ c.in-Some.is in
    let on : c.in-Some.endpoint.linked ≡ true = search rules in
    omega (arith, c.self.invariant.0.for_waiting, left_ring c.self.inside.endpoints.items c.args.e c.in-Some.endpoint there on)

pub invariant_of-self : goal.invariant_of-self
invariant_of-self c =
    let there : slice_get c.self.inside.endpoints.items c.args.e ≡ Some c.in-Some.endpoint = sym c.get.ensures.endpoint ∙ c.in-Some.is in
    let on : c.in-Some.endpoint.linked ≡ true = search rules in (
      left_rooms _ _ c.args.e c.in-Some.endpoint _ _ c.self.invariant.0 c.write.ensures.items c.write.ensures.room there on c.push_back_reserved.ensures.len c.push_back_reserved.ensures.capacity,
      frames_endpoint _ c.args.e c.in-Some.endpoint _ c.self.invariant.1 c.write.ensures.items there refl,
    )
