-- What is to be given back is of queue heads that a walk may still meet, once a command was accepted by a driver, whatever endpoints it has, as its queues tell it.
use Rattle.std.proofs.Common.{◌≡◌, ℕ, ◌<◌, ◌∷◌, [], length, Ok, sym, subst, ◌∙◌, ⊎_elim}
use Rattle.std.proofs.lemmas.List.{length-map}
use Rattle.usb_base.specs.declared.commands.Cmd.{Cmd}
use Rattle.usb_base.specs.declared.commands.Cmd.TheVariants as commands
use Rattle.word_mem.specs.Memory.{Mem}
use Rattle.drv_table.specs.declared.content.Endpoint.{Endpoint}
use Rattle.drv_table.specs.DriverContent.{DriverContent}
use Rattle.drv_table.specs.Accepting.{Offered}
use Rattle.drv_table.specs.Offers.{offered, placed_endpoint}
use Rattle.claims_driver.specs.Leaving.{HasOwners}
use Rattle.law_queues.specs.leaving_drivers.Owed.{AreOwedMet}
use Rattle.law_queues.proofs.lemmas.leaving_drivers.Owing.{commands_owe_met}
use Rattle.law_driver.specs.queued_drivers.Queued.{queued_desc, without_queue, queued, QueuesTakeTurns}
use Rattle.law_driver.specs.queued_drivers.Commands.{opened_queue, IsQueueOpened, IsEndOpened, told_of, AreEndsTaken, left_queue, IsQueueLeft, IsEndLeft, QueuesAccept}
use Rattle.law_driver.proofs.lemmas.queued_drivers.CommandFields.{desc_asynchronous, push_get}
use Rattle.law_driver.proofs.lemmas.queued_drivers.CommandTurns.{commands_are_of_queues, listed}
use Rattle.law_driver.proofs.lemmas.queued_drivers.RowOwners.{queued_has_owners}

module _ (d : DriverContent) (m : Mem) (o : Offered) (owners : HasOwners d) (turns : QueuesTakeTurns d) (old : AreOwedMet (queued d)) where
  own : HasOwners (queued d)
  own = queued_has_owners d owners turns

  opened : (x : _) → IsQueueOpened d m x o → AreOwedMet (queued o.driver)
  opened x k =
      subst AreOwedMet (sym k.alike)
      (commands_owe_met (queued d) m (commands.OpenEp (queued_desc x)) (opened_queue d x k.holding_after) own turns.turns (desc_asynchronous x) k.takes old)

  end_opened : (x : _) → IsEndOpened d m x o → AreOwedMet (queued o.driver)
  end_opened x k =
      let z : Endpoint = without_queue (placed_endpoint x k.placement 0 0) in
      subst AreOwedMet (sym k.alike)
      (λ i t y w at there here. old i t y w at there (sym (push_get (queued d).endpoints (z ∷ []) y.endpoint (own.orderly.within t y there)) ∙ here))

  taken : AreEndsTaken d m o → AreOwedMet (queued o.driver)
  taken k =
      subst AreOwedMet (sym k.alike)
      (λ i t y w at there here.
      let many : length (queued d).transfers ≡ length d.transfers = length-map d.transfers _ in
      old i t y w at (sym (push_get (queued d).transfers k.given t (subst (λ (n : ℕ). t < n) (sym many) (listed d owners.orderly i t at))) ∙ there) here)

  left : (name : _) → IsQueueLeft d m name o → AreOwedMet (queued o.driver)
  left name k =
      subst AreOwedMet (sym k.alike) (commands_owe_met (queued d) m (commands.Cancel name) (left_queue d k.number k.endpoint m) own turns.turns tt k.takes old)

  end_left : IsEndLeft d m o → AreOwedMet (queued o.driver)
  end_left k = subst AreOwedMet (sym k.alike) old

  by : (cmd : Cmd) → QueuesAccept d m o cmd → AreOwedMet (queued o.driver)
  by (commands.OpenEp x) why = ⊎_elim (λ (k : IsQueueOpened d m x o). opened x k) (λ (k : IsEndOpened d m x o). end_opened x k) why
  by (commands.Get name len size) why =
      commands_owe_met (queued d) m (commands.Get name len size) (told_of o) own turns.turns tt why.takes old
  by (commands.Put name bytes size) why = commands_owe_met (queued d) m (commands.Put name bytes size) (told_of o) own turns.turns tt why.takes old
  by (commands.Control name setup bytes) why = commands_owe_met (queued d) m (commands.Control name setup bytes) (told_of o) own turns.turns tt why.takes old
  by (commands.Iso name count len seed) why = taken why
  by (commands.Cancel name) why = ⊎_elim (λ (k : IsQueueLeft d m name o). left name k) (λ (k : IsEndLeft d m o). end_left k) why
  by _ why = absurd why

pub command_owes : (d : DriverContent) (m : Mem) (cmd : Cmd) (o : Offered) → HasOwners d → QueuesTakeTurns d → offered d m cmd ≡ Ok o → AreOwedMet (queued d) → AreOwedMet (queued o.driver)
command_owes d m cmd o owners turns is old = by d m o owners turns old cmd (commands_are_of_queues d m cmd o owners.orderly turns is)
