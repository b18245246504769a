use Rattle.std.proofs.Common.{false, slice_get, ap, ◌∙◌, arith, vec_capacity}
use Rattle.std.specs.VecDeque.{deque_len, deque_capacity}
use Rattle.drv_table.specs.DriverContent.{DriverContent}
use Rattle.ehci_driver.proofs.Gone.{gone_rooms}
use Rattle.ehci_driver.proofs.Rosters.{written_rooms}
use Rattle.ehci_driver.proofs.Placed.{frames_gone}
use Rattle.ehci_driver.proofs.driver.Driver.release_untold.Goals as goal

pub invariant_of-self : goal.invariant_of-self
invariant_of-self c =
    let here = ap (λ (d : DriverContent). slice_get d.endpoints c.args.e) c.self.view_is ∙ c.requires.endpoint in (
      written_rooms _ _ _ _ c.write.ensures.items c.write.ensures.room
          (gone_rooms c.args.e false c.args.endpoint.now c.let_all_go.new.transfers.items (vec_capacity c.let_all_go.new.transfers)
          (deque_len c.pop_front.new.self) (deque_capacity c.pop_front.new.self)
          c.self.invariant.0 here c.let_all_go.ensures.items c.let_all_go.ensures.capacity (omega (arith, c.pop_front.ensures.len)) c.pop_front.ensures.capacity),
      frames_gone _ _ c.args.e false c.args.endpoint.now c.self.invariant.1 c.write.ensures.items here c.let_all_go.ensures.items,
    )
