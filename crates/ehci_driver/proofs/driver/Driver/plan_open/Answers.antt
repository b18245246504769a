use Rattle.std.proofs.Common.{◌≡◌, ◌≤◌, false, length, ap, arith}
use Rattle.drv_table.specs.declared.content.Endpoint.{Endpoint}
use Rattle.drv_table.specs.DriverContent.{DriverContent}
use Rattle.ehci_driver.proofs.Entered.{placed_rooms}
use Rattle.ehci_driver.proofs.Placed.{before_same, fresh_number}
use Rattle.ehci_driver.proofs.Placing.{place_rooms}
use Rattle.ehci_driver.proofs.driver.Driver.plan_open.Goals as goal

pub place_endpoint-requires-clause-fresh : goal.place_endpoint-requires-clause-fresh
place_endpoint-requires-clause-fresh c =
    fresh_number (length c.as_slice.result.now) c.self.inside.periodic.periodic.plan.placed
    (before_same _ _ _ (ap (length {A = Endpoint}) c.as_slice.ensures) c.self.invariant.1.placed_before)

pub invariant_of-self : goal.invariant_of-self
invariant_of-self c =
    let some : 1 ≤ c.self.inside.room.endpoints = omega (arith, ap (λ (d : DriverContent). d.room.endpoints) c.self.view_is, c.requires.room) in
    let out : c.new_placed.result.linked ≡ false = ap (λ (x : Endpoint). x.linked) c.new_placed.ensures in
    let off : c.new_placed.result.cancelled ≡ false = ap (λ (x : Endpoint). x.cancelled) c.new_placed.ensures in (
      placed_rooms c.push.new.self.items c.new_placed.result c.push.new.self.most c.self.invariant.0 some c.push.ensures.items off out c.push.ensures.room,
      place_rooms c.push.new.self.items c.new_placed.result c.args.desc.now c.in-Ok.place c.place_endpoint.new.periodic (length c.as_slice.result.now) c.self.invariant.1 some c.push.ensures.items (ap (length {A = Endpoint}) c.as_slice.ensures) c.in-Ok.ensures.part,
    )
