-- Each event of the driver and each command leave the requests of a world with endpoints of every kind silent: bytes are told of their data
-- alone.
use Rattle.std.proofs.Common.{◌≡◌, ℕ, List, slice_get, Option, Some, None, option_map, Result, Ok, Err}
use Rattle.std.proofs.Common.{ap, refl, sym, subst, ◌∙◌, ⊎_elim}
use Rattle.std.proofs.lemmas.Bool.{true≢false}
use Rattle.law_common.proofs.Lists.{nth_all}
use Rattle.usb_base.specs.declared.commands.Cmd.{Cmd}
use Rattle.usb_base.specs.declared.commands.Cmd.TheVariants as commands
use Rattle.usb_base.specs.declared.reports.OfferError.{OfferError}
use Rattle.claims_driver.specs.Owners.{runs_of_transfer}
use Rattle.drv_table.specs.Accepting.{Offered}
use Rattle.drv_table.specs.declared.content.Endpoint.{Endpoint}
use Rattle.drv_table.specs.declared.content.QtdNote.{QtdNote}
use Rattle.drv_table.specs.declared.rows.DriverRow.{DriverRow}
use Rattle.drv_table.specs.declared.rows.DriverRow.TheVariants as rows
use Rattle.drv_table.specs.DriverContent.{DriverContent}
use Rattle.drv_table.specs.Offers.{offered}
use Rattle.drv_table.specs.Rows.{driver_row}
use Rattle.law_driver.specs.chained_transfers.Asynchronous.{AcceptsAsynchronous}
use Rattle.law_driver.specs.run_owners.Due.{IsDue}
use Rattle.law_driver.specs.queued_drivers.Commands.{IsQueueOpened, IsEndOpened, told_of, IsGivenBackOf, AreEndsTaken, IsQueueLeft}
use Rattle.law_driver.specs.queued_drivers.Commands.{IsEndLeft, QueuesAccept}
use Rattle.law_driver.specs.queued_drivers.Queued.{queued}
use Rattle.law_driver.specs.queued_drivers.Rows.{out_by}
use Rattle.law_driver.proofs.lemmas.queued_drivers.CommandTurns.{commands_are_of_queues}
use Rattle.law_driver.proofs.lemmas.run_owners.Reasons.{each_event_is_due}
use Rattle.bus_world.specs.World.{World, driver_next, name_in, commanded_by}
use Rattle.law_world.proofs.lemmas.steps.lemmas.unlinked_streams.Passing.{unlink_row}
use Rattle.law_world.specs.memory.Mixed.{Standing, IsMixedAt}
use Rattle.law_world.specs.memory.Steps.{told_parts, IsToldRow, HasNoStep, LeftBy, given_by, left_the_ring, left_its_frames}
use Rattle.law_world.specs.memory.Steps.{left_alike, left_by_frames, left_by_bell, left_by_status, left_by_command}
use Rattle.law_world.specs.memory.Steps.{QueueStep, stays, harvests, returns, lends, stores, mends, begins, opens, unlinks, narrows, goes}
use Rattle.law_world.proofs.lemmas.memory.HarvestKept.{owners_of}
use Rattle.law_world.proofs.lemmas.memory.RingBasis.{row_alike}
use Rattle.law_reports.specs.requests.Reading.{AreSilent, IsSilent}
use Rattle.law_reports.proofs.lemmas.requests.HighMore.{found_or}
use Rattle.law_reports.proofs.lemmas.requests.HighSteps.{publish_not_chain}
use Rattle.law_reports.proofs.lemmas.requests.Silent.{StaysSilent, stays_silent, same_silent, by_row, release_silent}
use Rattle.law_reports.proofs.lemmas.requests.SilentCommands.{accepted_silent}

module _ (s : Standing) (w : World) (k : IsMixedAt s w) (silent : AreSilent (queued w.driver)) where
  same_queues : (f : DriverContent) → f.transfers ≡ (queued w.driver).transfers → f.notes ≡ (queued w.driver).notes → AreSilent f
  same_queues f transfers notes = stays_silent (queued w.driver) f (same_silent (queued w.driver) f transfers notes) silent

  -- ---- a command

  module _ (o : Offered) where
    ends_taken : AreEndsTaken w.driver w.memory o → AreSilent (queued o.driver)
    ends_taken r t y there sort held =
        ⊎_elim {C = IsSilent (queued o.driver).notes y}
        (λ (old : slice_get (queued w.driver).transfers t ≡ Some y).
        subst (λ (ns : List QtdNote). IsSilent ns y) (sym (ap (λ (c : DriverContent). c.notes) r.alike)) (silent t y old sort held))
        (λ (new : (j : ℕ) × slice_get r.given j ≡ Some y).
        absurd (true≢false (sym (nth_all (IsGivenBackOf w.driver r.number) r.given new.0 y r.each new.1).released ∙ held)))
        (found_or (queued w.driver).transfers r.given t y
        (ap (λ (c : DriverContent). slice_get c.transfers t) (sym r.alike) ∙ there))

    asked : (cmd : Cmd) → AcceptsAsynchronous (queued w.driver) w.memory (told_of o) cmd → AreSilent (queued o.driver)
    asked cmd r =
        accepted_silent (queued w.driver) w.memory (told_of o) cmd r k.now.framed.place.sound.stands (owners_of s w k)
        (λ t y there held. k.turns.turns.chained.some t (runs_of_transfer y) (ap (option_map runs_of_transfer) there) held) silent

    accepted : (cmd : Cmd) → QueuesAccept w.driver w.memory o cmd → AreSilent (queued o.driver)
    accepted (commands.OpenEp x) r =
        ⊎_elim
        (λ (z : IsQueueOpened w.driver w.memory x o).
        same_queues (queued o.driver) (ap (λ (c : DriverContent). c.transfers) z.alike) (ap (λ (c : DriverContent). c.notes) z.alike))
        (λ (z : IsEndOpened w.driver w.memory x o).
        same_queues (queued o.driver) (ap (λ (c : DriverContent). c.transfers) z.alike) (ap (λ (c : DriverContent). c.notes) z.alike)) r
    accepted (commands.Get name len by) r = asked (commands.Get name len by) r.asked
    accepted (commands.Put name bytes by) r = asked (commands.Put name bytes by) r.asked
    accepted (commands.Control name setup bytes) r = asked (commands.Control name setup bytes) r.requested
    accepted (commands.Iso name count len seed) r = ends_taken r
    accepted (commands.Cancel name) r =
        ⊎_elim
        (λ (z : IsQueueLeft w.driver w.memory name o).
        same_queues (queued o.driver) (ap (λ (c : DriverContent). c.transfers) z.alike) (ap (λ (c : DriverContent). c.notes) z.alike))
        (λ (z : IsEndLeft w.driver w.memory o).
        same_queues (queued o.driver) (ap (λ (c : DriverContent). c.transfers) z.alike) (ap (λ (c : DriverContent). c.notes) z.alike)) r
    accepted _ r = absurd r

  pub command_silent : (line : ℕ) (cmd : Cmd) (r : Result Offered OfferError) → offered w.driver w.memory cmd ≡ r
      → AreSilent (queued (commanded_by w line (name_in cmd) r).driver)
  command_silent line cmd (Ok o) is =
      accepted o cmd (commands_are_of_queues w.driver w.memory cmd o k.now.framed.place.sound.owners.orderly k.turns is)
  command_silent line cmd (Err why) is = same_queues (queued (commanded_by w line (name_in cmd) (Err why)).driver) refl refl

  -- ---- an event of the driver

  abbrev New : Type 0
  New = AreSilent (queued (driver_next w).driver)

  told : (row : DriverRow) → IsToldRow w (driver_next w) row → IsDue (told_parts w) row → New
  told row is due =
      stays_silent (queued w.driver) (queued (driver_next w).driver)
      (subst (StaysSilent (queued w.driver)) (sym is.told) (by_row (told_parts w) row k.turns.turns.asynchronous due)) silent

  quiet : HasNoStep w (driver_next w) → New
  quiet (left_alike alike tells) = same_queues (queued (driver_next w).driver) alike.transfers alike.notes
  quiet (left_by_frames alike of is) = same_queues (queued (driver_next w).driver) alike.transfers alike.notes
  quiet (left_by_bell row) = told rows.RingBell row (row_alike s w k rows.RingBell row.next tt).due
  quiet (left_by_status heard row) = told (rows.ReadStatus heard) row (row_alike s w k (rows.ReadStatus heard) row.next tt).due
  quiet (left_by_command line cmd fits room is) =
      subst (λ (n : World). AreSilent (queued n.driver)) (sym is) (command_silent line cmd (offered w.driver w.memory cmd) refl)

  left_silent : (e : ℕ) (d : DriverContent) → LeftBy w e d → AreSilent d
  left_silent e _ (left_the_ring row) = silent
  left_silent e _ (left_its_frames row) = by (slice_get (queued w.driver).endpoints e)
    where
      by : (o : Option Endpoint) → AreSilent (out_by e (queued w.driver) o)
      by None = silent
      by (Some y) = same_queues (out_by e (queued w.driver) (Some y)) refl refl

  pub step_silent : (t : Standing) → QueueStep s w (driver_next w) t → New
  step_silent _ (stays t none still) = quiet none
  step_silent _ (harvests e t found due later row out) = told (rows.Harvest e t found) row due
  step_silent _ (returns t y own row r) = told (rows.ReleaseTransfer t) row (row_alike s w k (rows.ReleaseTransfer t) row.next tt).due
  step_silent _ (lends b words get order out row behind) =
      told rows.Lend row
      (row_alike s w k rows.Lend row.next (publish_not_chain w.driver.command w.driver.endpoints b words get.command)).due
  step_silent _ (stores b words p is) =
      stays_silent (queued w.driver) (queued (driver_next w).driver)
      (subst (StaysSilent (queued w.driver)) (sym is.told)
      (by_row (told_parts w) (driver_row (told_parts w)) k.turns.turns.asynchronous (each_event_is_due (told_parts w)))) silent
  step_silent _ (mends at row) = told _ row (row_alike s w k _ row.next tt).due
  step_silent _ (begins at row alike) = same_queues (queued (driver_next w).driver) alike.transfers alike.notes
  step_silent _ (opens at t alike opened) = same_queues (queued (driver_next w).driver) alike.transfers alike.notes
  step_silent _ (unlinks at row) =
      told _ row (subst (IsDue (told_parts w)) (unlink_row (told_parts w) s.near s.parts at).row (each_event_is_due (told_parts w)))
  step_silent _ (narrows member near row are fewer) = told rows.ClearAdvance row (row_alike s w k rows.ClearAdvance row.next tt).due
  step_silent _ (goes e y d t back is) =
      let now : AreSilent (given_by (told_parts w) e d) =
      stays_silent d (given_by (told_parts w) e d) (release_silent (record (told_parts w) { driver = d }) e) (left_silent e d back.left) in
      stays_silent (given_by (told_parts w) e d) (queued (driver_next w).driver)
      (same_silent (given_by (told_parts w) e d) (queued (driver_next w).driver) back.told.transfers back.told.notes) now
