use Rattle.std.proofs.Common.{rules, ◌≡◌, true, slice_get, Some, subst, sym, ◌∙◌, refl}
use Rattle.drv_frames_content.specs.Part.{Held}
use Rattle.ehci_driver.specs.Rooms.{HasFrameRooms}
use Rattle.ehci_driver.proofs.Left.{kept_rooms}
use Rattle.ehci_driver.proofs.Placed.{can_leave, frames_left}
use Rattle.ehci_driver.proofs.driver.Driver.leave_frames.Goals as goal

pub push_removal-requires : goal.push_removal-requires
push_removal-requires c =
    let there : slice_get c.self.inside.endpoints.items c.args.e ≡ Some c.in-Some.endpoint = sym c.get.ensures.endpoint ∙ c.in-Some.is in
    let on : c.in-Some.endpoint.chained ≡ true = search rules in
    record { room = can_leave c.args.e c.in-Some.endpoint c.self.invariant.1 there on }

pub invariant_of-self : goal.invariant_of-self
invariant_of-self c =
    let there : slice_get c.self.inside.endpoints.items c.args.e ≡ Some c.in-Some.endpoint = sym c.get.ensures.endpoint ∙ c.in-Some.is in
    let on : c.in-Some.endpoint.chained ≡ true = search rules in (
      kept_rooms _ _ c.args.e c.in-Some.endpoint _ c.self.invariant.0 c.write.ensures.items c.write.ensures.room there refl refl refl,
      subst (λ (h : Held). HasFrameRooms c.write.new.self.items c.self.inside.transfers.items c.self.inside.room h) (sym c.push_removal.ensures)
          (frames_left _ c.args.e c.in-Some.endpoint _ c.self.invariant.1 c.write.ensures.items there on),
    )
