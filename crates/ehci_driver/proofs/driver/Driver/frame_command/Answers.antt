use Rattle.std.proofs.Common.{length, ap, subst, sym, ◌∙◌, arith}
use Rattle.drv_table.specs.declared.content.Transfer.{Transfer}
use Rattle.drv_table.specs.DriverContent.{DriverContent}
use Rattle.drv_frames_content.specs.Part.{Held}
use Rattle.ehci_driver.proofs.Placed.{Keeps, keeps_both, keeps_notes, keeps_queued, keeps_read, frames_held, short_span}
use Rattle.ehci_driver.proofs.driver.Driver.frame_command.Goals as goal

pub queue_descriptors-requires : goal.queue_descriptors-requires
queue_descriptors-requires c =
    let framed = c.give_frames.ensures c.args.self.now (sym (ap (λ (w : DriverContent). w.transfers) c.self.view_is) ∙ sym c.deref.ensures.value) (sym (ap (λ (w : DriverContent). w.periodic) c.self.view_is)) in
    let room = ap (λ (h : Held). h.queued_room) framed in
    let long = ap (length {A = Transfer}) c.of_command.ensures in
    let all = ap (length {A = Transfer}) c.deref-2.ensures.value in
    record { room = omega (arith, room, long, all, short_span c.args.count c.args.t c.deref-2.result.now, c.self.invariant.1.for_queued) }

pub invariant_of-self : goal.invariant_of-self
invariant_of-self c =
    let framed = c.give_frames.ensures c.args.self.now (sym (ap (λ (w : DriverContent). w.transfers) c.self.view_is) ∙ sym c.deref.ensures.value) (sym (ap (λ (w : DriverContent). w.periodic) c.self.view_is)) in
    let one : Keeps c.self.inside.periodic c.give_frames.new.periodic = subst (λ (g : Held). Keeps c.self.inside.periodic g) (sym framed) (keeps_notes c.self.inside.periodic _) in
    let two : Keeps c.give_frames.new.periodic c.queue_descriptors.new.periodic = subst (λ (g : Held). Keeps c.give_frames.new.periodic g) (sym c.queue_descriptors.ensures) (keeps_queued c.give_frames.new.periodic _) in
    let three : Keeps c.queue_descriptors.new.periodic c.read.new.self = subst (λ (g : Held). Keeps c.queue_descriptors.new.periodic g) (sym c.read.ensures) (keeps_read c.queue_descriptors.new.periodic _) in
    (c.self.invariant.0, frames_held c.read.new.self c.self.invariant.1 (keeps_both one (keeps_both two three)))
