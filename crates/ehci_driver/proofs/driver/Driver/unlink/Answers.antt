use Rattle.std.proofs.Common.{length, ap, ◌∙◌, arith}
use Rattle.std.proofs.lemmas.List.{length_push}
use Rattle.drv_chains.specs.declared.boundary.Boundary.TheVariants.{Unread}
use Rattle.drv_periodic_table.specs.declared.content.Removal.{Removal}
use Rattle.drv_periodic_table.specs.declared.content.Removed.TheVariants.{Descriptor}
use Rattle.drv_table.specs.DriverContent.{DriverContent}
use Rattle.drv_frames_content.specs.Part.{Held}
use Rattle.ehci_driver.proofs.Placed.{one_less, frames_unlinked}
use Rattle.ehci_driver.proofs.driver.Driver.unlink.Goals as goal

pub push_removal-requires : goal.push_removal-requires
push_removal-requires c =
    let waits = ap (λ (d : DriverContent). length d.periodic.unlinks) c.self.view_is in
    let same = ap (λ (h : Held). length h.periodic.removals) c.pop_unlink.ensures in
    let room = ap (λ (h : Held). h.removal_room) c.pop_unlink.ensures in
    let before = ap (λ (h : Held). length h.periodic.removals) c.unlink_descriptor.ensures.periodic in
    let also = ap (λ (h : Held). h.removal_room) c.unlink_descriptor.ensures.periodic in
    record { room = omega (arith, waits, same, room, before, also, c.requires.waits, c.self.invariant.1.for_removals) }

pub invariant_of-self : goal.invariant_of-self
invariant_of-self c =
    let waits = ap (λ (d : DriverContent). length d.periodic.unlinks) c.self.view_is in
    let a = c.unlink_descriptor.ensures.periodic in
    let b = c.pop_unlink.ensures in
    let d = c.push_removal.ensures in
    let removal : Removal = record { what = Descriptor c.args.t; boundary = Unread } in (
      c.self.invariant.0,
      frames_unlinked c.push_removal.new.self c.self.invariant.1
          (ap (λ (h : Held). h.periodic.plan) d ∙ ap (λ (h : Held). h.periodic.plan) b ∙ ap (λ (h : Held). h.periodic.plan) a)
          (let e = ap (λ (h : Held). length h.periodic.unlinks) d in
          let f = ap (λ (h : Held). length h.periodic.unlinks) b in
          let g = ap (λ (h : Held). length h.periodic.unlinks) a in
          let less = one_less c.unlink_descriptor.new.periodic.periodic.unlinks (omega (arith, waits, g, c.requires.waits)) in
          omega (arith, e, f, g, less))
          (let e = ap (λ (h : Held). length h.periodic.removals) d in
          let f = ap (λ (h : Held). length h.periodic.removals) b in
          let g = ap (λ (h : Held). length h.periodic.removals) a in
          omega (arith, e, f, g, length_push c.pop_unlink.new.self.periodic.removals removal))
          (ap (λ (h : Held). h.queued_room) d ∙ ap (λ (h : Held). h.queued_room) b ∙ ap (λ (h : Held). h.queued_room) a)
          (ap (λ (h : Held). h.unlink_room) d ∙ ap (λ (h : Held). h.unlink_room) b ∙ ap (λ (h : Held). h.unlink_room) a)
          (ap (λ (h : Held). h.removal_room) d ∙ ap (λ (h : Held). h.removal_room) b ∙ ap (λ (h : Held). h.removal_room) a),
    )
