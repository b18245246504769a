use Rattle.std.proofs.Common.{slice_get, vec_len, vec_capacity, ap, ◌∙◌, arith, refl, length, true}
use Rattle.std.specs.VecDeque.{deque_len, deque_capacity}
use Rattle.std.proofs.lemmas.Option.{slice_get_within}
use Rattle.std.proofs.lemmas.List.{length-set}
use Rattle.drv_table.specs.DriverContent.{DriverContent}
use Rattle.ehci_driver.proofs.Lines.{can_tell, told_after}
use Rattle.ehci_driver.proofs.Rosters.{written_rooms}
use Rattle.ehci_driver.proofs.Placed.{frames_told}
use Rattle.ehci_driver.proofs.driver.Driver.go_on.Goals as goal

pub report-requires-clause-line : goal.report-requires-clause-line
report-requires-clause-line c =
    let there = ap (λ (d : DriverContent). slice_get d.transfers c.args.t) c.self.view_is ∙ c.requires.transfer in
    (can_tell c.args.t c.args.transfer.now c.self.invariant.0 there c.requires.open).line

pub report-requires-clause-bytes : goal.report-requires-clause-bytes
report-requires-clause-bytes c =
    let there = ap (λ (d : DriverContent). slice_get d.transfers c.args.t) c.self.view_is ∙ c.requires.transfer in
    (can_tell c.args.t c.args.transfer.now c.self.invariant.0 there c.requires.open).holds

pub report-requires-clause-fits : goal.report-requires-clause-fits
report-requires-clause-fits c =
    let there = ap (λ (d : DriverContent). slice_get d.transfers c.args.t) c.self.view_is ∙ c.requires.transfer in
    (can_tell c.args.t c.args.transfer.now c.self.invariant.0 there c.requires.open).fits

pub index_mut-requires : goal.index_mut-requires
index_mut-requires c =
    let there = ap (λ (d : DriverContent). slice_get d.transfers c.args.t) c.self.view_is ∙ c.requires.transfer in
    omega (arith, slice_get_within c.self.inside.transfers.items c.args.t c.args.transfer.now there)

pub write-requires : goal.write-requires
write-requires c =
    let here = ap (λ (d : DriverContent). slice_get d.endpoints c.args.e) c.self.view_is ∙ c.requires.endpoint in
    omega (arith, slice_get_within c.self.inside.endpoints.items c.args.e c.args.endpoint.now here)

pub push_back_reserved-requires : goal.push_back_reserved-requires
push_back_reserved-requires c =
    let there = ap (λ (d : DriverContent). slice_get d.transfers c.args.t) c.self.view_is ∙ c.requires.transfer in
    (can_tell c.args.t c.args.transfer.now c.self.invariant.0 there c.requires.open).harvest

pub next_waiting-next-requires : goal.next_waiting-next-requires
next_waiting-next-requires c =
    let there = ap (λ (d : DriverContent). slice_get d.transfers c.args.t) c.self.view_is ∙ c.requires.transfer in
    omega (arith, slice_get_within c.self.inside.transfers.items c.args.t c.args.transfer.now there, length-set c.self.inside.transfers.items c.args.t (record c.args.transfer.now { reported = true }), ap length c.deref-2.ensures.value)

pub invariant_of-self : goal.invariant_of-self
invariant_of-self c =
    let there = ap (λ (d : DriverContent). slice_get d.transfers c.args.t) c.self.view_is ∙ c.requires.transfer in
    let here = ap (λ (d : DriverContent). slice_get d.endpoints c.args.e) c.self.view_is ∙ c.requires.endpoint in (
      written_rooms _ _ _ _ c.write.ensures.items c.write.ensures.room
          (told_after c.args.t c.args.transfer.now c.args.e c.args.endpoint.now (record c.args.endpoint.now { next = c.next_waiting-next.result })
          (vec_len c.report.new.reports) (vec_capacity c.report.new.reports) (vec_len c.report.new.store) (vec_capacity c.report.new.store)
          (deque_len c.push_back_reserved.new.self) (deque_capacity c.push_back_reserved.new.self) (deque_len c.self.inside.mends) (deque_capacity c.self.inside.mends)
          c.self.invariant.0 there c.requires.open here refl refl refl
          c.report.ensures.len c.report.ensures.capacity c.report.ensures.store_len c.report.ensures.store_capacity
          (omega (arith, c.push_back_reserved.ensures.len)) c.push_back_reserved.ensures.capacity (omega arith) refl),
      frames_told _ c.args.t c.args.transfer.now c.args.e c.args.endpoint.now _ c.self.invariant.1 there c.requires.open c.write.ensures.items here refl,
    )
