use Rattle.std.proofs.Common.{length, true, set, slice_get, ap, subst, sym, ◌∙◌, arith, refl}
use Rattle.drv_table.specs.declared.content.Transfer.{Transfer}
use Rattle.drv_table.specs.DriverContent.{DriverContent}
use Rattle.drv_frames_content.specs.Part.{Held}
use Rattle.ehci_driver.proofs.Entered.{cancelled_rooms}
use Rattle.ehci_driver.proofs.Rosters.{written_rooms}
use Rattle.ehci_driver.proofs.Placed.{Keeps, keeps_both, keeps_queued, keeps_begun, frames_held, frames_cancelled}
use Rattle.ehci_driver.proofs.Cancelled.{unchain_made, unchained_part}
use Rattle.ehci_driver.proofs.driver.Driver.begin_unchain.Goals as goal

pub queue_leaving-requires : goal.queue_leaving-requires
queue_leaving-requires c = record { room = omega (arith, ap (length {A = Transfer}) c.deref.ensures.value, c.self.invariant.1.for_queued) }

pub invariant_of-self : goal.invariant_of-self
invariant_of-self c =
    let here = ap (λ (d : DriverContent). slice_get d.endpoints c.args.e) c.self.view_is ∙ c.requires.endpoint in
    let one : Keeps c.self.inside.periodic c.queue_leaving.new.periodic = subst (λ (g : Held). Keeps c.self.inside.periodic g) (sym c.queue_leaving.ensures) (keeps_queued c.self.inside.periodic _) in
    let two : Keeps c.queue_leaving.new.periodic c.begin_next.new.self = subst (λ (g : Held). Keeps c.queue_leaving.new.periodic g) (sym c.begin_next.ensures) (keeps_begun true c.queue_leaving.new.periodic) in (
      written_rooms _ _ _ _ c.write.ensures.items c.write.ensures.room
          (cancelled_rooms c.args.e c.args.endpoint.now _ c.self.invariant.0 (omega (arith, ap (λ (d : DriverContent). d.room.reports) c.self.view_is, c.requires.room)) here refl),
      frames_cancelled _ c.args.e _ c.args.endpoint.now _ (frames_held c.begin_next.new.self c.self.invariant.1 (keeps_both one two)) c.write.ensures.items here refl,
    )

pub returns-clause-driver : goal.returns-clause-driver
returns-clause-driver c =
    unchain_made _ c.args.self.now c.args.e c.args.endpoint.now c.args.placement.now _ _ c.self.view_is
    (c.write.ensures.items ∙ ap (λ o. set c.self.inside.endpoints.items c.args.e (record c.args.endpoint.now { cancelled = true; ended = o })) c.or_cancel.ensures)
    (unchained_part c.self.inside.periodic c.queue_leaving.new.periodic c.begin_next.new.self c.deref.result.now c.self.inside.transfers.items c.args.e c.args.endpoint.now c.args.placement.now c.queue_leaving.ensures c.begin_next.ensures c.deref.ensures.value)
