use Rattle.std.proofs.Common.{slice_get, Some, ◌+◌, vec_len, vec_capacity, ap, ◌∙◌, arith, refl}
use Rattle.std.specs.VecDeque.{deque_len, deque_capacity}
use Rattle.std.proofs.lemmas.Option.{slice_get_within}
use Rattle.drv_table.specs.DriverContent.{DriverContent}
use Rattle.ehci_driver.proofs.Cleared.{silent_rooms}
use Rattle.ehci_driver.proofs.Lines.{told_after}
use Rattle.ehci_driver.proofs.Rosters.{written_rooms}
use Rattle.ehci_driver.proofs.Placed.{frames_told}
use Rattle.ehci_driver.proofs.driver.Driver.close_request.Goals as goal

pub index_mut-requires : goal.index_mut-requires
index_mut-requires c =
    let there = ap (λ (d : DriverContent). slice_get d.transfers c.args.t) c.self.view_is ∙ c.requires.transfer in
    omega (arith, slice_get_within c.self.inside.transfers.items c.args.t c.args.transfer.now there)

pub write-requires : goal.write-requires
write-requires c =
    let here = ap (λ (d : DriverContent). slice_get d.endpoints c.args.h) c.self.view_is ∙ c.requires.endpoint in
    omega (arith, slice_get_within c.self.inside.endpoints.items c.args.h c.args.endpoint.now here)

pub invariant_of-self : goal.invariant_of-self
invariant_of-self c =
    let there = ap (λ (d : DriverContent). slice_get d.transfers c.args.t) c.self.view_is ∙ c.requires.transfer in
    let here = ap (λ (d : DriverContent). slice_get d.endpoints c.args.h) c.self.view_is ∙ c.requires.endpoint in (
      written_rooms _ _ _ _ c.write.ensures.items c.write.ensures.room
          (silent_rooms (told_after c.args.t c.args.transfer.now c.args.h c.args.endpoint.now (record c.args.endpoint.now {
            ended =
                Some c.args.cause;
          })
          (vec_len c.self.inside.reports + 1) (vec_capacity c.self.inside.reports) (vec_len c.self.inside.store) (vec_capacity
          c.self.inside.store)
          (deque_len c.self.inside.harvested) (deque_capacity c.self.inside.harvested) (deque_len c.self.inside.mends)
          (deque_capacity c.self.inside.mends)
          c.self.invariant.0 there c.requires.open here refl refl refl
          refl refl (omega arith) refl
          (omega arith) refl (omega arith) refl)),
      frames_told _ c.args.t c.args.transfer.now c.args.h c.args.endpoint.now _ c.self.invariant.1 there c.requires.open
          c.write.ensures.items here refl,
    )
