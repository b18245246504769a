use Rattle.std.proofs.Common.{true, slice_get, ap, ◌∙◌, arith, vec_len, vec_capacity}
use Rattle.std.specs.VecDeque.{deque_len, deque_capacity}
use Rattle.std.proofs.lemmas.Option.{slice_get_within}
use Rattle.drv_table.specs.DriverContent.{DriverContent}
use Rattle.drv_harvests.specs.Owed.{owed_of}
use Rattle.ehci_driver.proofs.Gone.{can_tell_gone, line_rooms, told_is}
use Rattle.ehci_driver.proofs.Rosters.{written_rooms}
use Rattle.ehci_driver.proofs.Placed.{frames_gone}
use Rattle.ehci_driver.proofs.driver.Driver.release_told.Goals as goal

pub report_cancel-requires-clause-line : goal.report_cancel-requires-clause-line
report_cancel-requires-clause-line c =
    let here = ap (λ (d : DriverContent). slice_get d.endpoints c.args.e) c.self.view_is ∙ c.requires.endpoint in
    let tell = (can_tell_gone c.args.e c.args.endpoint.now c.self.invariant.0 here (told_is c.args.endpoint.now c.requires.told).0 (told_is c.args.endpoint.now c.requires.told).1) in
    tell.line

pub report_cancel-requires-clause-bytes : goal.report_cancel-requires-clause-bytes
report_cancel-requires-clause-bytes c =
    let here = ap (λ (d : DriverContent). slice_get d.endpoints c.args.e) c.self.view_is ∙ c.requires.endpoint in
    let tell = (can_tell_gone c.args.e c.args.endpoint.now c.self.invariant.0 here (told_is c.args.endpoint.now c.requires.told).0 (told_is c.args.endpoint.now c.requires.told).1) in
    omega (arith, tell.holds, ap (owed_of c.args.e) c.deref-2.ensures.value)

pub report_cancel-requires-clause-fits : goal.report_cancel-requires-clause-fits
report_cancel-requires-clause-fits c =
    let here = ap (λ (d : DriverContent). slice_get d.endpoints c.args.e) c.self.view_is ∙ c.requires.endpoint in
    let tell = (can_tell_gone c.args.e c.args.endpoint.now c.self.invariant.0 here (told_is c.args.endpoint.now c.requires.told).0 (told_is c.args.endpoint.now c.requires.told).1) in
    omega (arith, tell.fits, ap (owed_of c.args.e) c.deref-2.ensures.value)

pub write-requires : goal.write-requires
write-requires c =
    let here = ap (λ (d : DriverContent). slice_get d.endpoints c.args.e) c.self.view_is ∙ c.requires.endpoint in
    omega (arith, slice_get_within c.self.inside.endpoints.items c.args.e c.args.endpoint.now here)

pub invariant_of-self : goal.invariant_of-self
invariant_of-self c =
    let here = ap (λ (d : DriverContent). slice_get d.endpoints c.args.e) c.self.view_is ∙ c.requires.endpoint in
    let told = told_is c.args.endpoint.now c.requires.told in (
      written_rooms _ _ _ _ c.write.ensures.items c.write.ensures.room
          (line_rooms c.args.e c.args.endpoint.now c.let_all_go.new.transfers.items (vec_capacity c.let_all_go.new.transfers)
          (vec_len c.report_cancel.new.reports) (vec_capacity c.report_cancel.new.reports) (vec_len c.report_cancel.new.store) (vec_capacity c.report_cancel.new.store)
          (deque_len c.pop_front.new.self) (deque_capacity c.pop_front.new.self)
          c.self.invariant.0 here told.0 told.1 c.let_all_go.ensures.items c.let_all_go.ensures.capacity c.report_cancel.ensures.len c.report_cancel.ensures.capacity
          (omega (arith, c.report_cancel.ensures.store_len, ap (owed_of c.args.e) c.deref-2.ensures.value)) c.report_cancel.ensures.store_capacity (omega (arith, c.pop_front.ensures.len)) c.pop_front.ensures.capacity),
      frames_gone _ _ c.args.e true c.args.endpoint.now c.self.invariant.1 c.write.ensures.items here c.let_all_go.ensures.items,
    )
