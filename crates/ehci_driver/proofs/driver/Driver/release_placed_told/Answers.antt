use Rattle.std.proofs.Common.{true, slice_get, ap, ◌∙◌, arith, vec_len, vec_capacity, ◌≡◌, Bool, map, subst, sym, refl}
use Rattle.std.specs.VecDeque.{deque_len, deque_capacity}
use Rattle.std.proofs.lemmas.Option.{slice_get_within}
use Rattle.drv_table.specs.DriverContent.{DriverContent}
use Rattle.drv_harvests.specs.Owed.{owed_of}
use Rattle.ehci_driver.proofs.Gone.{can_tell_gone, line_rooms, told_is}
use Rattle.ehci_driver.proofs.Rosters.{written_rooms}
use Rattle.drv_frames_content.specs.Part.{Held}
use Rattle.drv_table.specs.Kinds.{is_iso}
use Rattle.drv_table.specs.Releases.{let_go}
use Rattle.drv_table.specs.Removals.{let_go_placed}
use Rattle.ehci_driver.specs.Rooms.{HasFrameRooms}
use Rattle.ehci_driver.proofs.Released.{placed_as, owed_by, owed_as, frames_owed}
use Rattle.ehci_driver.proofs.Placed.{frames_gone, frames_withdrawn, frames_held, keeps_less}
use Rattle.ehci_driver.proofs.driver.Driver.release_placed_told.Goals as goal

pub report_cancel-requires-clause-line : goal.report_cancel-requires-clause-line
report_cancel-requires-clause-line c =
    let here = ap (λ (d : DriverContent). slice_get d.endpoints c.args.e) c.self.view_is ∙ c.requires.endpoint in
    let tell = (can_tell_gone c.args.e c.args.endpoint.now c.self.invariant.0 here (told_is c.args.endpoint.now c.requires.told).0 (told_is c.args.endpoint.now c.requires.told).1) in
    tell.line

pub report_cancel-requires-clause-bytes : goal.report_cancel-requires-clause-bytes
report_cancel-requires-clause-bytes c =
    let here = ap (λ (d : DriverContent). slice_get d.endpoints c.args.e) c.self.view_is ∙ c.requires.endpoint in
    let tell = (can_tell_gone c.args.e c.args.endpoint.now c.self.invariant.0 here (told_is c.args.endpoint.now c.requires.told).0 (told_is c.args.endpoint.now c.requires.told).1) in
    omega (arith, tell.holds, ap (owed_of c.args.e) c.deref-2.ensures.value)

pub report_cancel-requires-clause-fits : goal.report_cancel-requires-clause-fits
report_cancel-requires-clause-fits c =
    let here = ap (λ (d : DriverContent). slice_get d.endpoints c.args.e) c.self.view_is ∙ c.requires.endpoint in
    let tell = (can_tell_gone c.args.e c.args.endpoint.now c.self.invariant.0 here (told_is c.args.endpoint.now c.requires.told).0 (told_is c.args.endpoint.now c.requires.told).1) in
    omega (arith, tell.fits, ap (owed_of c.args.e) c.deref-2.ensures.value)

pub write-requires : goal.write-requires
write-requires c =
    let here = ap (λ (d : DriverContent). slice_get d.endpoints c.args.e) c.self.view_is ∙ c.requires.endpoint in
    omega (arith, slice_get_within c.self.inside.endpoints.items c.args.e c.args.endpoint.now here)

pub overflow_cast-e : goal.overflow_cast-e
overflow_cast-e c =
    let here = ap (λ (d : DriverContent). slice_get d.endpoints c.args.e) c.self.view_is ∙ c.requires.endpoint in
    omega (arith, slice_get_within c.self.inside.endpoints.items c.args.e c.args.endpoint.now here, c.self.invariant.1.few_endpoints)

pub invariant_of-self : goal.invariant_of-self
invariant_of-self c =
    let here = ap (λ (d : DriverContent). slice_get d.endpoints c.args.e) c.self.view_is ∙ c.requires.endpoint in
    let ts = c.self.inside.transfers.items in
    let us = map (let_go_placed (is_iso c.args.endpoint.now.desc.kind) c.args.e true) ts in
    let all : c.let_placed_go.new.transfers.items ≡ us = c.let_placed_go.ensures.items ∙ ap (λ (b : Bool). map (let_go_placed b c.args.e true) ts) c.is_isochronous-iso.ensures in
    let alike = owed_by c.let_placed_go.new.transfers.items us (map (let_go c.args.e true) ts) all (placed_as (is_iso c.args.endpoint.now.desc.kind) c.args.e true ts) in
    let withdrawn = subst (λ (h : Held). HasFrameRooms c.self.inside.endpoints.items ts c.self.inside.room h) (sym c.withdraw.ensures) (frames_withdrawn _ c.self.invariant.1) in
    let less = subst (λ (h : Held). HasFrameRooms c.self.inside.endpoints.items ts c.self.inside.room h) (sym c.pop_removal.ensures) (frames_held _ withdrawn (keeps_less c.withdraw.new.self)) in
    let told = told_is c.args.endpoint.now c.requires.told in (
      written_rooms _ _ _ _ c.write.ensures.items c.write.ensures.room
          (owed_as c.let_placed_go.new.transfers.items (map (let_go c.args.e true) ts) alike
          (line_rooms c.args.e c.args.endpoint.now (map (let_go c.args.e true) ts) (vec_capacity c.let_placed_go.new.transfers)
          (vec_len c.report_cancel.new.reports) (vec_capacity c.report_cancel.new.reports) (vec_len c.report_cancel.new.store) (vec_capacity c.report_cancel.new.store)
          (deque_len c.self.inside.cleared) (deque_capacity c.self.inside.cleared)
          c.self.invariant.0 here told.0 told.1 refl c.let_placed_go.ensures.capacity c.report_cancel.ensures.len c.report_cancel.ensures.capacity
          (omega (arith, c.report_cancel.ensures.store_len, ap (owed_of c.args.e) c.deref-2.ensures.value)) c.report_cancel.ensures.store_capacity (omega arith) refl)),
      frames_owed c.let_placed_go.new.transfers.items (map (let_go c.args.e true) ts) alike (frames_gone _ _ c.args.e true c.args.endpoint.now less c.write.ensures.items here refl),
    )
