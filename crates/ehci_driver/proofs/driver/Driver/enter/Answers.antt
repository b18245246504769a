use Rattle.std.proofs.Common.{slice_get, ap, ◌∙◌, arith, refl}
use Rattle.drv_table.specs.declared.content.Reserve.{Reserve}
use Rattle.drv_table.specs.DriverContent.{DriverContent}
use Rattle.ehci_driver.proofs.Entered.{entered_rooms}
use Rattle.ehci_driver.proofs.Rosters.{written_rooms}
use Rattle.ehci_driver.proofs.Placed.{frames_entered}
use Rattle.ehci_driver.proofs.driver.Driver.enter.Goals as goal

pub invariant_of-self : goal.invariant_of-self
invariant_of-self c =
    let here = ap (λ (d : DriverContent). slice_get d.endpoints c.args.e) c.self.view_is ∙ c.requires.endpoint in (
      written_rooms _ _ _ _ c.write.ensures.items c.write.ensures.room
          (entered_rooms c.push_reserved.new.self.items c.args.transfer c.less_room-self-inside.result _ c.args.e c.args.endpoint.now _ c.self.invariant.0
          (omega (arith, ap (λ (d : DriverContent). d.room.transfers) c.self.view_is, c.requires.transfers))
          (omega (arith, ap (λ (d : DriverContent). d.room.reports) c.self.view_is, c.requires.reports))
          (omega (arith, ap (λ (d : DriverContent). d.room.report_bytes) c.self.view_is, c.requires.bytes))
          c.requires.open c.push_reserved.ensures.items c.push_reserved.ensures.capacity here refl refl refl c.less_room-self-inside.ensures),
      frames_entered _ _ c.args.transfer c.less_room-self-inside.result c.args.e c.args.endpoint.now _ c.self.invariant.1 (omega (arith, ap (λ (d : DriverContent). d.room.transfers) c.self.view_is, c.requires.transfers)) c.push_reserved.ensures.items c.write.ensures.items here refl (ap (λ (r : Reserve). r.endpoints) c.less_room-self-inside.ensures) (ap (λ (r : Reserve). r.transfers) c.less_room-self-inside.ensures),
    )
