-- An accepted command leaves the walk among the queue heads that it may meet.
use Rattle.std.proofs.Common.{◌≡◌, ◌≢◌, ℕ, ◌-◌, Bool, true, List, length, take, get_or, set, slice_get, Some, Ok, ap, sym, subst, ◌∙◌, ⊎_elim, refl}
use Rattle.std.proofs.lemmas.Bool.{cases_eq}
use Rattle.std.proofs.lemmas.Option.{same_Some}
use Rattle.law_common.proofs.Lists.{set_here, set_there}
use Rattle.usb_base.specs.declared.commands.Cmd.{Cmd}
use Rattle.word_mem.specs.Memory.{Mem}
use Rattle.op_registers.specs.RegisterFile.{RegisterFile}
use Rattle.async_walk.specs.Walk.{Walk}
use Rattle.drv_table.specs.declared.content.Endpoint.{Endpoint}
use Rattle.drv_table.specs.declared.content.Command.TheVariants as unfinished
use Rattle.drv_table.specs.DriverContent.{DriverContent}
use Rattle.drv_table.specs.Accepting.{Offered, new_runs, first_waiting}
use Rattle.drv_table.specs.Offers.{offered, new_endpoint, placed_endpoint, with_queued}
use Rattle.drv_table.specs.CancelOffers.{endpoint_members, with_cancel, first_end}
use Rattle.law_driver.specs.run_owners.Accepts.{Accepts, opens, chains, places, transfers, describes, cancels, unchains}
use Rattle.law_driver.proofs.lemmas.run_owners.Commands.{each_command_has_its_reason}
use Rattle.law_driver.proofs.lemmas.ring_members.Leaving.{GoOn}
use Rattle.law_driver.proofs.lemmas.ring_members.Accepted.{one_more_on}
use Rattle.claims_driver.specs.Walk.{IsWalkIn}
use Rattle.law_driver_ring.proofs.lemmas.walk_members.Driving.{Reaches, goes_reach, or_done_reach, walk_mapped}

-- an endpoint is written that stays where it is
still_on : (xs : List Endpoint) (e : ℕ) (x y : Endpoint) → slice_get xs e ≡ Some x → y.queue ≡ x.queue → y.linked ≡ x.linked → GoOn xs (set xs e y)
still_on xs e x y here queue on = λ f z at.
    ⊎_elim
    (λ (same : f ≡ e).
    let is = same_Some z x (sym at ∙ ap (slice_get xs) same ∙ here) in
    record {
      endpoint = y;
      here = ap (slice_get (set xs e y)) same ∙ set_here xs e x y here;
      queue = queue ∙ ap (λ (v : Endpoint). v.queue) (sym is);
      linked = λ l. on ∙ ap (λ (v : Endpoint). v.linked) (sym is) ∙ l;
    })
    (λ (differs : f ≢ e). record { endpoint = z; here = set_there xs e f y differs ∙ at; queue = refl; linked = λ l. l }) (cases_eq f e)

accepted_reach : (d : DriverContent) (m : Mem) (o : Offered) (rings : Bool) → Accepts d m o → Reaches d rings o.driver rings
accepted_reach d m o rings (opens why) =
    let y = new_endpoint why.desc (get_or (new_runs d why.holding_after) 0 0) (get_or (new_runs d why.holding_after) 1 0) in
    subst (λ (f : Offered). Reaches d rings f.driver rings) (sym why.is) (goes_reach d _ rings (one_more_on d.endpoints y) refl refl)
accepted_reach d m o rings (transfers why) =
    let dummy = get_or (take (length why.asked.stages) (new_runs d why.holding_after)) (length why.asked.stages - 1) 0 in
    let y = with_queued why.endpoint dummy (length d.transfers) in
    subst (λ (f : Offered). Reaches d rings f.driver rings) (sym why.is)
    (goes_reach d _ rings (still_on d.endpoints why.number why.endpoint y why.here refl refl) refl refl)
accepted_reach d m o rings (cancels why) =
    let y : Endpoint = record why.endpoint { cancelled = true; ended = first_end why.endpoint.ended } in
    subst (λ (f : Offered). Reaches d rings f.driver rings) (sym why.is)
    (goes_reach d _ rings (still_on d.endpoints why.number why.endpoint y why.here refl refl) refl refl)
accepted_reach d m o rings (chains why) =
    let y = placed_endpoint why.desc why.placement (get_or (new_runs d why.holding_after) 0 0) (get_or (new_runs d why.holding_after) 1 0) in
    subst (λ (f : Offered). Reaches d rings f.driver rings) (sym why.is) (goes_reach d _ rings (one_more_on d.endpoints y) refl refl)
accepted_reach d m o rings (places why) =
    let y = placed_endpoint why.desc why.placement 0 0 in
    subst (λ (f : Offered). Reaches d rings f.driver rings) (sym why.is) (goes_reach d _ rings (one_more_on d.endpoints y) refl refl)
accepted_reach d m o rings (describes why) =
    let y : Endpoint = record why.endpoint { next = first_waiting why.endpoint.next (length d.transfers) } in
    subst (λ (f : Offered). Reaches d rings f.driver rings) (sym why.is)
    (goes_reach d _ rings (still_on d.endpoints why.number why.endpoint y why.here refl refl) refl refl)
accepted_reach d m o rings (unchains why) =
    let y : Endpoint = record why.endpoint { cancelled = true; ended = first_end why.endpoint.ended } in
    let e = with_cancel d why.number why.endpoint (endpoint_members d why.number why.endpoint why.placement) in
    subst (λ (f : Offered). Reaches d rings f.driver rings) (sym why.is)
    (λ b r. or_done_reach e rings (unfinished.Unchain why.number) b (goes_reach d e rings (still_on d.endpoints why.number why.endpoint y why.here refl refl) refl refl b r))

pub commands_leave_the_walk : (d : DriverContent) (m : Mem) (cmd : Cmd) (o : Offered) (r : RegisterFile) (w : Walk) → offered d m cmd ≡ Ok o → IsWalkIn d r w → IsWalkIn o.driver r w
commands_leave_the_walk d m cmd o r w is old = walk_mapped d o.driver r r w refl (accepted_reach d m o r.doorbell (each_command_has_its_reason d m cmd o is)) old
