-- An accepted command is one of the driver's queues, and leaves their transfers in turn.
use Rattle.std.proofs.Common.{◌≡◌, ℕ, Bool, true, false, List, [], ◌∷◌, length, slice_get, Some, None, ap, sym, subst, ◌∙◌, ⊎_elim, inl, inr, refl, arith}
use Rattle.std.specs.Prelude.{◌⊎◌}
use Rattle.std.specs.List.{AllByRecursion}
use Rattle.std.proofs.lemmas.List.{length-map}
use Rattle.std.proofs.lemmas.Option.{slice_get_within}
use Rattle.law_driver.proofs.Common.{times_of, busy_idle, of_none, get_queued}
use Rattle.usb_base.specs.declared.commands.Cmd.{Cmd}
use Rattle.usb_base.specs.declared.commands.Cmd.TheVariants as commands
use Rattle.usb_base.specs.declared.endpoints.EpDesc.{EpDesc}
use Rattle.usb_base.specs.declared.endpoints.EpName.{EpName}
use Rattle.word_mem.specs.Memory.{Mem}
use Rattle.mem_runs.specs.Book.{holding, Stands}
use Rattle.drv_periodic_table.specs.Periodic.{is_periodic}
use Rattle.drv_table.specs.declared.content.Endpoint.{Endpoint}
use Rattle.drv_table.specs.declared.content.Transfer.{Transfer}
use Rattle.drv_table.specs.DriverContent.{DriverContent}
use Rattle.drv_table.specs.Kinds.{is_iso}
use Rattle.drv_table.specs.Releases.{ended_by_cancel}
use Rattle.drv_table.specs.Accepting.{Offered}
use Rattle.drv_table.specs.Offers.{placed_endpoint, takes_get, takes_put, takes_control}
use Rattle.drv_table.specs.CancelOffers.{accepted_cancel}
use Rattle.claims_driver.specs.Leaving.{IsOrderly, leaver, HasOwners}
use Rattle.law_driver.proofs.lemmas.run_owners.Orders.{owed}
use Rattle.law_driver.specs.chained_transfers.Bulk.{IsBulkCommand, IsToUnlink, sort_by}
use Rattle.law_driver.specs.chained_transfers.Asynchronous.{StandsAsynchronous}
use Rattle.law_driver.specs.chained_transfers.AsynchronousTurns.{AsynchronousTakesTurns}
use Rattle.law_driver.proofs.lemmas.chained_transfers.Accepting.{asynchronous_command_is_accepted}
use Rattle.law_driver.proofs.lemmas.chained_transfers.Commands.{commands_keep_asynchronous_turns}
use Rattle.law_driver.specs.queued_drivers.Queued.{without_queue, queued_endpoint, queued_desc, sort_of_queue, queued_command, queued, QueuesTakeTurns}
use Rattle.law_driver.specs.queued_drivers.Commands.{opened_queue, told_of, IsQueueOpened, IsEndOpened, IsGivenBackOf, AreEndsTaken, unlink_of, IsQueueLeft, IsEndLeft, QueuesAccept, CommandsAreOfQueues, QueuesHaveOwners, CommandsKeepQueues}
use Rattle.law_driver.proofs.lemmas.queued_drivers.CommandReasons.{IsNew, in_ring, in_frames, bare, IsLeft, from_ring, from_frames, get_of, put_of, request_of, IsReasonOf, reason_of}
use Rattle.law_driver.proofs.lemmas.queued_drivers.CommandFields.{name_same, desc_asynchronous, push_get}
use Rattle.law_driver.proofs.lemmas.queued_drivers.CommandOpens.{idle_offers, opens_are_of_queues, chains_are_of_queues}
use Rattle.law_driver.proofs.lemmas.queued_drivers.CommandAsks.{taken_alike, gets_alike, puts_alike, requests_alike}
use Rattle.law_driver.proofs.lemmas.queued_drivers.CommandEnds.{end_opened, ends_taken}
use Rattle.law_driver.proofs.lemmas.queued_drivers.CommandGiven.{turns_alike, end_turns, IsGiven, AreListed, all_given}
use Rattle.law_driver.proofs.lemmas.queued_drivers.CommandLeaves.{ring_left, frames_left, end_left}
use Rattle.law_driver.proofs.lemmas.queued_drivers.CommandRest.{rest_of}

-- ---- a command of the queues

module _ (d : DriverContent) (m : Mem) (o : Offered) (order : IsOrderly d) (old : QueuesTakeTurns d) where
  new_accepts : (x : EpDesc) → IsNew d m o x → IsQueueOpened d m x o ⊎ IsEndOpened d m x o
  new_accepts x (in_ring w same) = inl (subst (λ (z : EpDesc). IsQueueOpened d m z o) same (opens_are_of_queues d m o order w))
  new_accepts x (in_frames w same) = inl (subst (λ (z : EpDesc). IsQueueOpened d m z o) same (chains_are_of_queues d m o order w))
  new_accepts x (bare w same) = inr (subst (λ (z : EpDesc). IsEndOpened d m z o) same (end_opened d m o order w))

  left_accepts : (name : EpName) → IsLeft d m o name → IsQueueLeft d m name o ⊎ IsEndLeft d m o
  left_accepts name (from_ring w named) = inl (ring_left d m name o order w named)
  left_accepts name (from_frames w named) = by (is_iso w.endpoint.desc.kind) refl
    where
      by : (b : Bool) → is_iso w.endpoint.desc.kind ≡ b → IsQueueLeft d m name o ⊎ IsEndLeft d m o
      by true iso = inr (end_left d m o w iso)
      by false queue = inl (frames_left d m name o order w queue named)

  accepts : (cmd : Cmd) → IsReasonOf d m o cmd → QueuesAccept d m o cmd
  accepts (commands.OpenEp x) why = new_accepts x why
  accepts (commands.Get name len by) why =
      let cmd = commands.Get name len by in
      let t = gets_alike why.endpoint why.taken in
      let takes = idle_offers d m cmd why.idle ∙ taken_alike d m o name takes_get (get_of len by) why t.0 t.1 refl in
      record { takes = takes; asked = asynchronous_command_is_accepted (queued d) m cmd (told_of o) old.turns.asynchronous tt takes }
  accepts (commands.Put name bytes by) why =
      let cmd = commands.Put name bytes by in
      let t = puts_alike why.endpoint why.taken in
      let takes = idle_offers d m cmd why.idle ∙ taken_alike d m o name takes_put (put_of bytes by) why t.0 t.1 refl in
      record { takes = takes; asked = asynchronous_command_is_accepted (queued d) m cmd (told_of o) old.turns.asynchronous tt takes }
  accepts (commands.Control name setup bytes) why =
      let cmd = commands.Control name setup bytes in
      let t = requests_alike why.endpoint (old.kinds_fit why.number why.endpoint why.here) why.taken in
      let takes = idle_offers d m cmd why.idle ∙ taken_alike d m o name takes_control (request_of setup bytes) why t.0 t.1 refl in
      record { takes = takes; requested = asynchronous_command_is_accepted (queued d) m cmd (told_of o) old.turns.asynchronous tt takes }
  accepts (commands.Iso name count len seed) why = ends_taken d m o why
  accepts (commands.Cancel name) why = left_accepts name why
  accepts _ why = absurd why

pub commands_are_of_queues : CommandsAreOfQueues
commands_are_of_queues d m cmd o order old is = accepts d m o order old cmd (reason_of d m cmd o is)

-- ---- what holds before it

pub listed : (d : DriverContent) → IsOrderly d → AreListed d.harvested (length d.transfers)
listed d order i u here =
    let y = owed d.transfers u (slice_get d.transfers u) refl (omega (arith, times_of d.harvested i u here, order.harvests u)) in
    slice_get_within d.transfers u y.transfer y.there

-- ---- turns

-- an endpoint of none of the queues
end_stands : (x : EpDesc) (z : Endpoint) → z.desc ≡ x → StandsAsynchronous (without_queue z)
end_stands x z same = record {
  asynchronous = desc_asynchronous z.desc;
  placement = refl;
  chained = refl;
  unlinked = λ off. refl;
  ended = λ on none. cc;
  cancel = λ on. refl;
  gone = λ gone. refl;
}

given_each : (d : DriverContent) (e : ℕ) (x : Endpoint) (ys : List Transfer) → slice_get d.endpoints e ≡ Some x → AllByRecursion (IsGivenBackOf d e) ys → AllByRecursion (IsGiven e (queued_endpoint x)) ys
given_each d e x [] here each = tt
given_each d e x (y ∷ ys) here each =
    let g = each.0 in (
      record { endpoint = g.endpoint; sort = g.sort ∙ (ap sort_of_queue here ∙ ap (λ (n : EpName). sort_by n.way) (sym (name_same x))); reported = g.reported; released = g.released },
      given_each d e x ys here each.1,
    )

module _ (d : DriverContent) (m : Mem) (o : Offered) (idle : d.command ≡ None) (stands : Stands (holding d.book m)) (owners : HasOwners (queued d)) (order : IsOrderly d) (old : QueuesTakeTurns d) where
  idle_queues : (queued d).command ≡ None
  idle_queues = ap (queued_command d.endpoints) idle

  no_leaver : (e : ℕ) → leaver (queued d).command ≡ Some e → ⊥
  no_leaver e is = let no : None ≡ Some e = sym (ap leaver idle_queues) ∙ is in cc

  opened_turns : (x : EpDesc) → IsQueueOpened d m x o → AsynchronousTakesTurns (queued o.driver)
  opened_turns x q =
      let g = opened_queue d x q.holding_after in
      let t = commands_keep_asynchronous_turns (queued d) m (commands.OpenEp (queued_desc x)) g stands owners old.turns
      (desc_asynchronous x) q.takes in
      subst AsynchronousTakesTurns (sym q.alike)
      (turns_alike g.driver g.driver.book g.driver.command g.driver.made g.driver.room (queued o.driver).periodic tt (λ e z is here. absurd (cc)) refl refl t)

  end_opened_turns : (x : EpDesc) → IsEndOpened d m x o → AsynchronousTakesTurns (queued o.driver)
  end_opened_turns x q =
      let z = placed_endpoint x q.placement 0 0 in
      let t = end_turns (queued d) (without_queue z) idle_queues (end_stands x z refl) refl old.turns in
      subst AsynchronousTakesTurns (sym q.alike)
      (turns_alike _ d.book (queued d).command (queued d).made o.driver.room (queued o.driver).periodic old.turns.asynchronous.command (λ e w is here. absurd (no_leaver e is)) refl refl t)

  taken_turns : AreEndsTaken d m o → AsynchronousTakesTurns (queued o.driver)
  taken_turns q =
      let x = q.endpoint in
      let z = queued_endpoint x in
      let is : z ≡ without_queue x = of_none x q.isochronous in
      let many : length (queued d).transfers ≡ length d.transfers = length-map d.transfers _ in
      let t = all_given (queued d) q.number z q.given
      (record { idle = idle_queues; here = get_queued d.endpoints q.number x q.here; gone = ap (λ (y : Endpoint). y.gone) is; cancel = ap (λ (y : Endpoint). ended_by_cancel y.ended) is })
      (given_each d q.number x q.given q.here q.each) (subst (AreListed d.harvested) (sym many) (listed d order)) old.turns in
      subst AsynchronousTakesTurns (sym q.alike)
      (turns_alike _ o.driver.book (queued d).command 0 o.driver.room (queued o.driver).periodic old.turns.asynchronous.command (λ e w is here. absurd (no_leaver e is)) refl refl t)

  left_turns : (name : EpName) → IsQueueLeft d m name o → AsynchronousTakesTurns (queued o.driver)
  left_turns name q =
      let e = q.number in
      let c = accepted_cancel (queued d) e (queued_endpoint q.endpoint) in
      let t = commands_keep_asynchronous_turns (queued d) m (commands.Cancel name) (record { driver = c; memory = m }) stands owners old.turns tt q.takes in
      let bulk : IsBulkCommand q.unlinks = ⊎_elim
      (λ (at : (is_periodic q.endpoint.desc.kind ≡ false) × (q.unlinks ≡ Some (unlink_of d e))). subst IsBulkCommand (sym at.1) tt)
      (λ (at : (is_periodic q.endpoint.desc.kind ≡ true) × (q.unlinks ≡ None)). subst IsBulkCommand (sym at.1) tt) q.command in
      let leaves : (k : ℕ) (x : Endpoint) → leaver q.unlinks ≡ Some k → slice_get c.endpoints k ≡ Some x → IsToUnlink x = λ k x is here. ⊎_elim
      (λ (at : (is_periodic q.endpoint.desc.kind ≡ false) × (q.unlinks ≡ Some (unlink_of d e))). t.asynchronous.leaver k x (sym (ap leaver at.1) ∙ is) here)
      (λ (at : (is_periodic q.endpoint.desc.kind ≡ true) × (q.unlinks ≡ None)). let no : None ≡ Some k = sym (ap leaver at.1) ∙ is in absurd (cc)) q.command in
      subst AsynchronousTakesTurns (sym q.alike) (turns_alike c c.book q.unlinks c.made c.room (queued o.driver).periodic bulk leaves refl refl t)

  end_left_turns : IsEndLeft d m o → AsynchronousTakesTurns (queued o.driver)
  end_left_turns q =
      subst AsynchronousTakesTurns (sym q.alike)
      (turns_alike (queued d) d.book (queued d).command 0 o.driver.room (queued o.driver).periodic old.turns.asynchronous.command (λ e w is here. absurd (no_leaver e is)) refl refl old.turns)

  turns_by : (cmd : Cmd) → QueuesAccept d m o cmd → AsynchronousTakesTurns (queued o.driver)
  turns_by (commands.OpenEp x) why = ⊎_elim (λ (q : IsQueueOpened d m x o). opened_turns x q) (λ (q : IsEndOpened d m x o). end_opened_turns x q) why
  turns_by (commands.Get name len by) why = commands_keep_asynchronous_turns (queued d) m (commands.Get name len by) (told_of o) stands owners old.turns tt why.takes
  turns_by (commands.Put name bytes by) why = commands_keep_asynchronous_turns (queued d) m (commands.Put name bytes by) (told_of o) stands owners old.turns tt why.takes
  turns_by (commands.Control name setup bytes) why = commands_keep_asynchronous_turns (queued d) m (commands.Control name setup bytes) (told_of o) stands owners old.turns tt why.takes
  turns_by (commands.Iso name count len seed) why = taken_turns why
  turns_by (commands.Cancel name) why = ⊎_elim (λ (q : IsQueueLeft d m name o). left_turns name q) (λ (q : IsEndLeft d m o). end_left_turns q) why
  turns_by _ why = absurd why

-- ---- all of it

pub commands_keep_queues : QueuesHaveOwners → CommandsKeepQueues
commands_keep_queues owned d m cmd o stands owners old fits is =
    let order = owners.orderly in
    let why = reason_of d m cmd o is in
    let idle = busy_idle d m cmd o d.command refl is in
    let rest = rest_of d m o order (λ e x here. record { kind = old.kinds_fit e x here; leaves = old.cancelled e x here }) cmd fits why in
    record {
      turns = turns_by d m o idle stands (owned d owners old) order old cmd (accepts d m o order old cmd why);
      kinds_fit = λ e x here. (rest.fits e x here).kind;
      harvested = λ i t y at there.
          let was = sym (ap (λ (hs : List ℕ). slice_get hs i) rest.harvested) ∙ at in
          old.harvested i t y was (sym (push_get d.transfers rest.more t (listed d order i t was)) ∙ (sym (ap (λ (ts : List Transfer). slice_get ts t) rest.moves) ∙ there));
      cancelled = λ e x here. (rest.fits e x here).leaves;
      leaver = rest.leaver;
      ring = rest.ring;
    }
