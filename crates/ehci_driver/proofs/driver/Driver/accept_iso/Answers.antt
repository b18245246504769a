use Rattle.std.proofs.Common.{◌≤◌, ℕ, List, slice_get, ap, subst, sym, ◌∙◌, arith, refl}
use Rattle.std.proofs.Math.Nat.{mul-le-mul_left}
use Rattle.drv_table.specs.declared.content.Transfer.{Transfer}
use Rattle.drv_table.specs.DriverContent.{DriverContent}
use Rattle.drv_table.specs.IsoOffers.{Descriptors, total_of, with_descriptors}
use Rattle.ehci_driver.proofs.Descriptors.{Adds, adds_all, descriptors_rooms, descriptors_frames}
use Rattle.drv_frames_content.specs.Part.{Held}
use Rattle.ehci_driver.proofs.Rosters.{written_rooms}
use Rattle.ehci_driver.proofs.Placed.{Keeps, keeps_notes, frames_held}
use Rattle.ehci_driver.proofs.driver.Driver.accept_iso.Goals as goal

pub write_descriptors-requires-clause-room : goal.write_descriptors-requires-clause-room
write_descriptors-requires-clause-room c =
    omega (arith, ap (λ (d : DriverContent). d.room.transfers) c.self.view_is, c.requires.transfers, c.self.invariant.0.for_transfers)

pub room_for_descriptors-self-inside-requires-clause-bytes : goal.room_for_descriptors-self-inside-requires-clause-bytes
room_for_descriptors-self-inside-requires-clause-bytes c =
    omega (arith, mul-le-mul_left c.args.count c.total_bytes.ensures.few, c.requires.bytes, ap (λ (d : DriverContent). d.room.report_bytes) c.self.view_is)

pub invariant_of-self : goal.invariant_of-self
invariant_of-self c =
    let here = ap (λ (d : DriverContent). slice_get d.endpoints c.args.e) c.self.view_is ∙ c.requires.endpoint in
    let most = total_of c.args.slots.now in
    let rest = c.room_for_descriptors-self-inside.ensures ∙ ap (λ (n : ℕ). with_descriptors c.self.inside.room c.args.count n) c.total_bytes.ensures.total in
    let adds : Adds c.args.count most c.self.inside.transfers.items c.write_descriptors.new.transfers.items =
    subst (λ (ts : List Transfer). Adds c.args.count most c.self.inside.transfers.items ts) (sym (ap (λ (a : Descriptors). a.transfers) c.write_descriptors.ensures.written))
    (adds_all _ c.args.e c.args.endpoint.now.desc c.args.slots.now c.args.count c.args.seed _ _) in (
      written_rooms _ _ _ _ c.write.ensures.items c.write.ensures.room
          (descriptors_rooms c.write_descriptors.new.transfers.items _ c.args.count most _ c.args.e c.args.endpoint.now _ c.self.invariant.0
          (omega (arith, ap (λ (d : DriverContent). d.room.transfers) c.self.view_is, c.requires.transfers))
          (omega (arith, ap (λ (d : DriverContent). d.room.reports) c.self.view_is, c.requires.reports))
          (omega (arith, mul-le-mul_left c.args.count (subst (λ (n : ℕ). n ≤ 24576) c.total_bytes.ensures.total c.total_bytes.ensures.few), c.requires.bytes, ap (λ (d : DriverContent). d.room.report_bytes) c.self.view_is))
          adds c.write_descriptors.ensures.capacity here refl refl refl rest),
      descriptors_frames _ c.write_descriptors.new.transfers.items _ c.args.count most c.args.e c.args.endpoint.now _
          (frames_held c.write_descriptors.new.periodic c.self.invariant.1 (subst (λ (g : Held). Keeps c.self.inside.periodic g) (sym c.write_descriptors.ensures.rest) (keeps_notes c.self.inside.periodic _)))
          (omega (arith, ap (λ (d : DriverContent). d.room.transfers) c.self.view_is, c.requires.transfers)) adds c.write.ensures.items here refl rest,
    )
