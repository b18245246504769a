use Rattle.std.proofs.Common.{List, [], ◌∷◌, ◌++◌, take, set, slice_get, vec_len, vec_capacity, ap, subst, sym, ◌∙◌, arith, refl, length, true}
use Rattle.std.specs.VecDeque.{deque_len, deque_capacity}
use Rattle.std.proofs.lemmas.Option.{slice_get_within}
use Rattle.drv_table.specs.DriverContent.{DriverContent, next_after}
use Rattle.usb_base.specs.declared.reports.What.TheVariants.{Iso}
use Rattle.drv_periodic_table.specs.Descriptors.{told_bytes}
use Rattle.drv_frames_content.specs.Part.{Held}
use Rattle.ehci_driver.specs.Rooms.{HasFrameRooms}
use Rattle.ehci_driver.proofs.Lines.{can_tell, told_after}
use Rattle.ehci_driver.proofs.Rosters.{written_rooms}
use Rattle.ehci_driver.proofs.Placed.{can_serve, frames_served}
use Rattle.drv_table.specs.declared.content.Transfer.{Transfer}
use Rattle.drv_periodic_table.specs.declared.content.DescriptorNote.{DescriptorNote}
use Rattle.ehci_driver.proofs.Cancelled.{served_made}
use Rattle.ehci_driver.proofs.driver.Driver.tell_descriptor.Goals as goal

pub report_descriptor-requires-clause-line : goal.report_descriptor-requires-clause-line
report_descriptor-requires-clause-line c =
    let there = ap (λ (d : DriverContent). slice_get d.transfers c.args.t) c.self.view_is ∙ c.requires.transfer in
    (can_tell c.args.t c.args.transfer.now c.self.invariant.0 there c.requires.open).line

pub report_descriptor-requires-clause-bytes : goal.report_descriptor-requires-clause-bytes
report_descriptor-requires-clause-bytes c =
    let there = ap (λ (d : DriverContent). slice_get d.transfers c.args.t) c.self.view_is ∙ c.requires.transfer in
    (can_tell c.args.t c.args.transfer.now c.self.invariant.0 there c.requires.open).holds

pub report_descriptor-requires-clause-fits : goal.report_descriptor-requires-clause-fits
report_descriptor-requires-clause-fits c =
    let there = ap (λ (d : DriverContent). slice_get d.transfers c.args.t) c.self.view_is ∙ c.requires.transfer in
    (can_tell c.args.t c.args.transfer.now c.self.invariant.0 there c.requires.open).fits

pub index_mut-requires : goal.index_mut-requires
index_mut-requires c =
    let there = ap (λ (d : DriverContent). slice_get d.transfers c.args.t) c.self.view_is ∙ c.requires.transfer in
    omega (arith, slice_get_within c.self.inside.transfers.items c.args.t c.args.transfer.now there)

pub next_waiting-next-requires : goal.next_waiting-next-requires
next_waiting-next-requires c =
    let there = ap (λ (d : DriverContent). slice_get d.transfers c.args.t) c.self.view_is ∙ c.requires.transfer in
    omega (arith, slice_get_within c.self.inside.transfers.items c.args.t c.args.transfer.now there, ap length c.deref.ensures.value)

pub write-requires : goal.write-requires
write-requires c =
    let here = ap (λ (d : DriverContent). slice_get d.endpoints c.args.e) c.self.view_is ∙ c.requires.endpoint in
    omega (arith, slice_get_within c.self.inside.endpoints.items c.args.e c.args.endpoint.now here)

pub push_unlink-requires : goal.push_unlink-requires
push_unlink-requires c =
    let there = ap (λ (d : DriverContent). slice_get d.transfers c.args.t) c.self.view_is ∙ c.requires.transfer in
    record { room = can_serve c.args.t c.args.transfer.now c.self.invariant.1 there c.requires.open }

pub invariant_of-self : goal.invariant_of-self
invariant_of-self c =
    let there = ap (λ (d : DriverContent). slice_get d.transfers c.args.t) c.self.view_is ∙ c.requires.transfer in
    let here = ap (λ (d : DriverContent). slice_get d.endpoints c.args.e) c.self.view_is ∙ c.requires.endpoint in (
      written_rooms _ _ _ _ c.write.ensures.items c.write.ensures.room
          (told_after c.args.t c.args.transfer.now c.args.e c.args.endpoint.now (record c.args.endpoint.now { next = c.next_waiting-next.result })
          (vec_len c.report_descriptor.new.reports) (vec_capacity c.report_descriptor.new.reports) (vec_len c.report_descriptor.new.store) (vec_capacity c.report_descriptor.new.store)
          (deque_len c.self.inside.harvested) (deque_capacity c.self.inside.harvested) (deque_len c.self.inside.mends) (deque_capacity c.self.inside.mends)
          c.self.invariant.0 there c.requires.open here refl refl refl
          c.report_descriptor.ensures.len c.report_descriptor.ensures.capacity c.report_descriptor.ensures.store_len c.report_descriptor.ensures.store_capacity
          (omega arith) refl (omega arith) refl),
      subst (λ (h : Held). HasFrameRooms c.write.new.self.items (set c.self.inside.transfers.items c.args.t (record c.args.transfer.now { reported = true })) c.self.inside.room h) (sym c.push_unlink.ensures)
          (frames_served _ c.args.t c.args.transfer.now c.args.e c.args.endpoint.now _ c.self.invariant.1 there c.requires.open c.write.ensures.items here refl),
    )

pub returns-clause-driver : goal.returns-clause-driver
returns-clause-driver c =
    let moved = λ (n : DescriptorNote). take c.args.transfer.now.most (told_bytes n c.args.mem.now c.args.transfer.now.first) in
    let name = c.args.endpoint.now.desc.name in
    served_made _ c.args.self.now c.args.mem.now c.args.e c.args.t c.args.endpoint.now c.args.transfer.now c.args.errors _ _ _ _ _ c.self.view_is
    (c.report_descriptor.ensures.store ∙ ap (λ (n : DescriptorNote). c.self.inside.store.items ++ moved n) c.note-note.ensures)
    (c.report_descriptor.ensures.line ∙ ap (λ (n : DescriptorNote). c.self.inside.reports.items ++ (record { name = name; what = Iso c.args.errors; from = length c.self.inside.store.items; len = length (moved n) }) ∷ []) c.note-note.ensures)
    (c.write.ensures.items ∙ ap (λ o. set c.self.inside.endpoints.items c.args.e (record c.args.endpoint.now { next = o })) (c.next_waiting-next.ensures ∙ ap (λ (ts : List Transfer). next_after ts c.args.e c.args.t) c.deref.ensures.value))
    refl (ap (λ (h : Held). h.periodic) c.push_unlink.ensures)
