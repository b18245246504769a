use Rattle.std.proofs.Common.{slice_get, vec_len, vec_capacity, ◌+◌, ap, ◌∙◌, arith, refl, length, true}
use Rattle.std.specs.VecDeque.{deque_len, deque_capacity}
use Rattle.std.proofs.lemmas.Option.{slice_get_within}
use Rattle.std.proofs.lemmas.List.{length-set}
use Rattle.drv_table.specs.DriverContent.{DriverContent}
use Rattle.ehci_driver.proofs.Cleared.{silent_rooms}
use Rattle.ehci_driver.proofs.Lines.{can_tell, told_after}
use Rattle.ehci_driver.proofs.Rosters.{written_rooms}
use Rattle.ehci_driver.proofs.Placed.{frames_told}
use Rattle.ehci_driver.proofs.driver.Driver.pass_request.Goals as goal

pub index_mut-requires : goal.index_mut-requires
index_mut-requires c =
    let there = ap (λ (d : DriverContent). slice_get d.transfers c.args.t) c.self.view_is ∙ c.requires.transfer in
    omega (arith, slice_get_within c.self.inside.transfers.items c.args.t c.args.transfer.now there)

pub write-requires : goal.write-requires
write-requires c =
    let here = ap (λ (d : DriverContent). slice_get d.endpoints c.args.h) c.self.view_is ∙ c.requires.endpoint in
    omega (arith, slice_get_within c.self.inside.endpoints.items c.args.h c.args.endpoint.now here)

pub push_back_reserved-requires : goal.push_back_reserved-requires
push_back_reserved-requires c =
    let there = ap (λ (d : DriverContent). slice_get d.transfers c.args.t) c.self.view_is ∙ c.requires.transfer in
    (can_tell c.args.t c.args.transfer.now c.self.invariant.0 there c.requires.open).harvest

pub next_waiting-next-requires : goal.next_waiting-next-requires
next_waiting-next-requires c =
    let there = ap (λ (d : DriverContent). slice_get d.transfers c.args.t) c.self.view_is ∙ c.requires.transfer in
    omega (
      arith,
      slice_get_within c.self.inside.transfers.items c.args.t c.args.transfer.now there,
      length-set
          c.self.inside.transfers.items c.args.t (record c.args.transfer.now { reported = true }),
      ap length c.deref.ensures.value,
    )

pub invariant_of-self : goal.invariant_of-self
invariant_of-self c =
    let there = ap (λ (d : DriverContent). slice_get d.transfers c.args.t) c.self.view_is ∙ c.requires.transfer in
    let here = ap (λ (d : DriverContent). slice_get d.endpoints c.args.h) c.self.view_is ∙ c.requires.endpoint in (
      written_rooms _ _ _ _ c.write.ensures.items c.write.ensures.room
          (silent_rooms (told_after c.args.t c.args.transfer.now c.args.h c.args.endpoint.now (record c.args.endpoint.now {
            next =
                c.next_waiting-next.result;
          })
          (vec_len c.self.inside.reports + 1) (vec_capacity c.self.inside.reports) (vec_len c.self.inside.store) (vec_capacity
          c.self.inside.store)
          (deque_len c.push_back_reserved.new.self) (deque_capacity c.push_back_reserved.new.self) (deque_len c.self.inside.mends)
          (deque_capacity c.self.inside.mends)
          c.self.invariant.0 there c.requires.open here refl refl refl
          refl refl (omega arith) refl
          (omega (arith, c.push_back_reserved.ensures.len)) c.push_back_reserved.ensures.capacity (omega arith) refl)),
      frames_told _ c.args.t c.args.transfer.now c.args.h c.args.endpoint.now _ c.self.invariant.1 there c.requires.open
          c.write.ensures.items here refl,
    )
