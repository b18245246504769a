use Rattle.std.proofs.Common.{false, slice_get, ap, ◌∙◌, arith, vec_capacity, ◌≡◌, Bool, map, subst, sym, refl}
use Rattle.std.specs.VecDeque.{deque_len, deque_capacity}
use Rattle.std.proofs.lemmas.Option.{slice_get_within}
use Rattle.drv_table.specs.DriverContent.{DriverContent}
use Rattle.ehci_driver.proofs.Gone.{gone_rooms}
use Rattle.ehci_driver.proofs.Rosters.{written_rooms}
use Rattle.drv_frames_content.specs.Part.{Held}
use Rattle.drv_table.specs.Kinds.{is_iso}
use Rattle.drv_table.specs.Releases.{let_go}
use Rattle.drv_table.specs.Removals.{let_go_placed}
use Rattle.ehci_driver.specs.Rooms.{HasFrameRooms}
use Rattle.ehci_driver.proofs.Released.{placed_as, owed_by, owed_as, frames_owed}
use Rattle.ehci_driver.proofs.Placed.{frames_gone, frames_withdrawn, frames_held, keeps_less}
use Rattle.ehci_driver.proofs.driver.Driver.release_placed_untold.Goals as goal

pub overflow_cast-e : goal.overflow_cast-e
overflow_cast-e c =
    let here = ap (λ (d : DriverContent). slice_get d.endpoints c.args.e) c.self.view_is ∙ c.requires.endpoint in
    omega (arith, slice_get_within c.self.inside.endpoints.items c.args.e c.args.endpoint.now here, c.self.invariant.1.few_endpoints)

pub invariant_of-self : goal.invariant_of-self
invariant_of-self c =
    let here = ap (λ (d : DriverContent). slice_get d.endpoints c.args.e) c.self.view_is ∙ c.requires.endpoint in
    let ts = c.self.inside.transfers.items in
    let us = map (let_go_placed (is_iso c.args.endpoint.now.desc.kind) c.args.e false) ts in
    let all : c.let_placed_go.new.transfers.items ≡ us = c.let_placed_go.ensures.items ∙ ap (λ (b : Bool). map (let_go_placed b c.args.e false) ts) c.is_isochronous-iso.ensures in
    let alike = owed_by c.let_placed_go.new.transfers.items us (map (let_go c.args.e false) ts) all (placed_as (is_iso c.args.endpoint.now.desc.kind) c.args.e false ts) in
    let withdrawn = subst (λ (h : Held). HasFrameRooms c.self.inside.endpoints.items ts c.self.inside.room h) (sym c.withdraw.ensures) (frames_withdrawn _ c.self.invariant.1) in
    let less = subst (λ (h : Held). HasFrameRooms c.self.inside.endpoints.items ts c.self.inside.room h) (sym c.pop_removal.ensures) (frames_held _ withdrawn (keeps_less c.withdraw.new.self)) in (
      written_rooms _ _ _ _ c.write.ensures.items c.write.ensures.room
          (owed_as c.let_placed_go.new.transfers.items (map (let_go c.args.e false) ts) alike
          (gone_rooms c.args.e false c.args.endpoint.now (map (let_go c.args.e false) ts) (vec_capacity c.let_placed_go.new.transfers)
          (deque_len c.self.inside.cleared) (deque_capacity c.self.inside.cleared)
          c.self.invariant.0 here refl c.let_placed_go.ensures.capacity (omega arith) refl)),
      frames_owed c.let_placed_go.new.transfers.items (map (let_go c.args.e false) ts) alike (frames_gone _ _ c.args.e false c.args.endpoint.now less c.write.ensures.items here refl),
    )
