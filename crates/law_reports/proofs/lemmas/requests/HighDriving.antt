-- Each event of the driver leaves the requests of control endpoints at high speed as they must stand, in a world with endpoints of every
-- kind.
use Rattle.std.proofs.Common.{◌≡◌, ℕ, true, [], length, None}
use Rattle.std.proofs.Common.{Result, Ok, Err, ap, refl, sym, subst, ◌∙◌, ⊎_elim}
use Rattle.std.specs.Prelude.{slice_index}
use Rattle.usb_base.specs.declared.commands.Cmd.{Cmd}
use Rattle.usb_base.specs.declared.commands.Cmd.TheVariants as commands
use Rattle.usb_base.specs.declared.reports.OfferError.{OfferError}
use Rattle.word_mem.specs.Memory.{Mem}
use Rattle.bus_wire.specs.Bus.{Fixed}
use Rattle.drv_table.specs.Accepting.{Offered, new_runs}
use Rattle.drv_table.specs.declared.rows.DriverRow.{DriverRow}
use Rattle.drv_table.specs.declared.rows.DriverRow.TheVariants as rows
use Rattle.drv_table.specs.DriverContent.{DriverContent}
use Rattle.drv_table.specs.Offers.{offered, new_endpoint, new_transfer, placed_endpoint}
use Rattle.drv_table.specs.Rows.{driver_row, after_driver_row}
use Rattle.law_driver.specs.run_owners.Accepts.{Transfers}
use Rattle.law_driver.specs.run_owners.Due.{IsDue}
use Rattle.law_driver.specs.queued_drivers.Commands.{IsQueueOpened, IsEndOpened, told_of, IsQueueLeft, IsEndLeft, QueuesAccept}
use Rattle.law_driver.specs.queued_drivers.Queued.{queued_desc, without_queue, queued}
use Rattle.law_driver.proofs.lemmas.queued_drivers.CommandTurns.{commands_are_of_queues}
use Rattle.law_driver.proofs.lemmas.queued_drivers.RowEvents.{idle_told}
use Rattle.law_driver.proofs.lemmas.run_owners.Commands.{each_command_has_its_reason}
use Rattle.law_microframes.proofs.Common.{idle_by}
use Rattle.claims_report.specs.Requests.{Request}
use Rattle.claims_world.specs.Requests.{Windows, wired}
use Rattle.bus_world.specs.World.{World, driver_parts, driver_next, name_in, commanded_by}
use Rattle.law_world.specs.memory.Mixed.{Standing, IsMixedAt}
use Rattle.law_world.specs.memory.Steps.{told_parts, IsToldRow, AreStill, HasNoStep}
use Rattle.law_world.specs.memory.Steps.{left_alike, left_by_frames, left_by_bell, left_by_status, left_by_command}
use Rattle.law_world.specs.memory.Steps.{QueueStep, stays, harvests, returns, lends, stores, mends, begins, opens, unlinks, narrows, goes}
use Rattle.law_world.specs.streams.FeedingLaws.{is_still}
use Rattle.law_world.proofs.lemmas.memory.RingBasis.{due_is}
use Rattle.law_reports.specs.lines.Lined.{Lines}
use Rattle.law_reports.specs.lines.TellingLaws.{IsTellingNext}
use Rattle.law_reports.specs.pipes.Declared.{Sides as Pipes}
use Rattle.law_reports.specs.pipes.Piped.{Heads, IsPiped}
use Rattle.law_reports.specs.requests.Asking.{Sides, Asking, HasAsks, AsksIn}
use Rattle.law_reports.specs.requests.Footing.{IsFooting}
use Rattle.law_reports.specs.requests.HighAsking.{told_world, told_standing, told_streams, AreSuited, AsksAt}
use Rattle.law_reports.specs.requests.Reading.{AreSilent}
use Rattle.law_reports.proofs.lemmas.lines.Driven.{same_report}
use Rattle.law_reports.proofs.lemmas.pipes.lemmas.puts.DrivenPays.{as_long, ends_long, transfers_long}
use Rattle.law_reports.proofs.lemmas.requests.HighCommands.{refused, taken, end_left, queue_left}
use Rattle.law_reports.proofs.lemmas.requests.HighGoes.{gone_then}
use Rattle.law_reports.proofs.lemmas.requests.HighOpens.{begun, opened_then}
use Rattle.law_reports.proofs.lemmas.requests.HighStays.{alike_stays, frames_stay, stays_quiet}
use Rattle.law_reports.proofs.lemmas.requests.HighSteps.{harvested, returned, lent, stored, mended, unlinked, narrowed}
use Rattle.law_reports.proofs.lemmas.requests.Leaving.{IsQuiet, idle_quiet}
use Rattle.law_reports.proofs.lemmas.requests.Still.{still_row}

module _ (g : Sides) (fixed : Fixed) (x : Pipes) (s : Standing) (m : Lines) (h : Heads) (w : World) (k : IsPiped fixed x s m h w)
    (f : IsFooting s.near (told_streams s) (told_standing s m) (told_world w)) (suited : AreSuited g w.driver)
    (silent : AreSilent (queued w.driver)) (a : Asking) (v : Windows) (asks : ℕ → Request) (q : AsksAt g fixed s a v asks w) where
  abbrev InWorld : Standing → World → Type 0
  InWorld t n = HasAsks g t.near t.parts t.hand v asks (queued n.driver) n.memory (wired fixed w)

  -- ---- no queue has a step

  at_standing : (t : Standing) → AreStill s t → IsQuiet (queued w.driver) → AsksAt g fixed t a v asks w
  at_standing t still quiet =
      alike_stays g fixed s t m w k.mixed still a v asks q (queued w.driver) w.memory
      (record {
        endpoints = refl;
        transfers = refl;
        notes = refl;
        command = refl;
        made = refl;
        mends = refl;
        harvested = refl;
        waiting = refl;
        rung = refl;
        cleared = refl;
        bell = refl;
      }) (record { reports = refl; store = refl }) quiet

  told_still : (t : Standing) → AreStill s t → (row : DriverRow) → IsToldRow w (driver_next w) row → IsDue (told_parts w) row
      → is_still row ≡ true → (queued w.driver).command ≡ None
      → w.memory ≡ (driver_next w).memory → (after_driver_row row (told_parts w)).memory ≡ w.memory → InWorld t (driver_next w)
  told_still t still row told due on idle memory same = record {
    asking = a;
    world = subst (λ (c : DriverContent). AsksIn g t.near t.parts t.hand a v asks c (driver_next w).memory (wired fixed w)) (sym told.told)
        (subst (λ (i : Mem). AsksIn g t.near t.parts t.hand a v asks (after_driver_row row (told_parts w)).driver i (wired fixed w))
        (same ∙ memory)
        (still_row g fixed t.near (told_standing t m) a v asks (told_world w) (at_standing t still (idle_quiet (queued w.driver) idle))
        row due on));
  }

  -- an event of the driver brings no endpoint and no transfer
  module _ (t : Standing) (still : AreStill s t) (o : Offered) (idle : w.driver.command ≡ None)
      (ends : length (queued o.driver).endpoints ≡ length (queued w.driver).endpoints)
      (transfers : length (queued o.driver).transfers ≡ length (queued w.driver).transfers) where
    abbrev d : DriverContent
    d = queued w.driver

    at_now : AsksAt g fixed t a v asks w
    at_now = at_standing t still (idle_quiet (queued w.driver) (idle_told w.driver idle))

    abbrev Then : Type 0
    Then = HasAsks g t.near t.parts t.hand v asks (queued o.driver) o.memory (wired fixed w)

    asked_none : Transfers (queued w.driver) w.memory (told_of o) → ⊥
    asked_none i =
        as_long d.transfers (queued o.driver).transfers (new_transfer i.number i.asked i.endpoint.dummy) []
        (ap (λ (z : Offered). z.driver.transfers) i.is) transfers

    accepted : (cmd : Cmd) → QueuesAccept w.driver w.memory o cmd → Then
    accepted (commands.OpenEp desc) r =
        ⊎_elim
        (λ (z : IsQueueOpened w.driver w.memory desc o).
        absurd (as_long d.endpoints (queued o.driver).endpoints
        (new_endpoint (queued_desc desc) (slice_index (new_runs w.driver z.holding_after) 0)
        (slice_index (new_runs w.driver z.holding_after) 1))
        [] (ap (λ (c : DriverContent). c.endpoints) z.alike) ends))
        (λ (z : IsEndOpened w.driver w.memory desc o).
        absurd (as_long d.endpoints (queued o.driver).endpoints (without_queue (placed_endpoint desc z.placement 0 0)) []
        (ap (λ (c : DriverContent). c.endpoints) z.alike) ends)) r
    accepted (commands.Get name len by) r = absurd (asked_none r.asked.transfers)
    accepted (commands.Put name bytes by) r = absurd (asked_none r.asked.transfers)
    accepted (commands.Control name setup bytes) r = absurd (asked_none r.requested.transfers)
    accepted (commands.Iso name count len seed) r = taken g fixed s t m w k.mixed a v asks at_now o idle r
    accepted (commands.Cancel name) r =
        ⊎_elim (λ (z : IsQueueLeft w.driver w.memory name o). queue_left g fixed s t m w k.mixed a v asks at_now o idle name z)
        (λ (z : IsEndLeft w.driver w.memory o). end_left g fixed s t m w k.mixed a v asks at_now o idle z) r
    accepted _ r = absurd r

  by_offer : (t : Standing) → AreStill s t → (line : ℕ) (cmd : Cmd) (r : Result Offered OfferError) → offered w.driver w.memory cmd ≡ r
      → driver_next w ≡ commanded_by w line (name_in cmd) r → InWorld t (driver_next w)
  by_offer t still line cmd (Err why) is next =
      subst (λ (n : World). InWorld t n) (sym next)
      (refused g fixed s t m w k.mixed a v asks
      (at_standing t still
      (stays_quiet s w k.mixed (ap (λ (n : World). (queued n.driver).command) next) (ap (λ (n : World). (queued n.driver).made) next)))
      asks line (name_in cmd) why (λ i e of. refl))
  by_offer t still line cmd (Ok o) is next =
      subst (λ (n : World). InWorld t n) (sym next)
      (accepted t still o (idle_by w.driver w.memory o (each_command_has_its_reason w.driver w.memory cmd o is))
      (ap (λ (n : World). length (queued n.driver).endpoints) (sym next) ∙ ends_long w)
      (ap (λ (n : World). length (queued n.driver).transfers) (sym next) ∙ transfers_long w) cmd
      (commands_are_of_queues w.driver w.memory cmd o k.mixed.now.framed.place.sound.owners.orderly k.mixed.turns is))

  memory_same : (row : DriverRow) → driver_row (driver_parts w) ≡ row → (after_driver_row row (driver_parts w)).memory ≡ w.memory
      → w.memory ≡ (driver_next w).memory
  memory_same row is same = sym (ap (λ (r : DriverRow). (after_driver_row r (driver_parts w)).memory) is ∙ same)

  quiet_then : (t : Standing) → HasNoStep w (driver_next w) → AreStill s t → InWorld t (driver_next w)
  quiet_then t (left_alike alike tells) still = record {
    asking = a;
    world = alike_stays g fixed s t m w k.mixed still a v asks q (queued (driver_next w).driver) (driver_next w).memory alike tells
        (stays_quiet s w k.mixed alike.command alike.made);
  }
  quiet_then t (left_by_frames alike of is) still = record {
    asking = a;
    world = frames_stay g fixed s t m w k.mixed still a v asks q alike of (driver_next w).memory;
  }
  quiet_then t (left_by_bell row) still =
      let due = due_is s w k.mixed rows.RingBell row.next in
      let idle = idle_told w.driver due.0 in
      told_still t still rows.RingBell row (idle, due.1) refl idle (memory_same rows.RingBell row.next refl) refl
  quiet_then t (left_by_status heard row) still =
      let due = due_is s w k.mixed (rows.ReadStatus heard) row.next in
      let idle = idle_told w.driver due.0 in
      told_still t still (rows.ReadStatus heard) row (idle, due.1, due.2) refl idle (memory_same (rows.ReadStatus heard) row.next refl) refl
  quiet_then t (left_by_command line cmd fits room is) still = by_offer t still line cmd (offered w.driver w.memory cmd) refl is

  -- ---- each step

  pub driven_asks : (t : Standing) (step : QueueStep s w (driver_next w) t) → IsMixedAt t (driver_next w)
      → IsTellingNext s m w (driver_next w) t step → InWorld t (driver_next w)
  driven_asks _ (stays t none still) mixed next = quiet_then t none still
  driven_asks _ (harvests e t found due later row out) mixed next =
      harvested g fixed x s m h w k f suited silent a v asks q e t found due row mixed.turns.turns
  driven_asks _ (returns t y own row r) mixed next = returned g fixed x s m h w k f suited silent a v asks q t y own row r
  driven_asks _ (lends b words get order out row behind) mixed next =
      lent g fixed x s m h w k f suited silent a v asks q b words get order out row behind mixed
  driven_asks _ (stores b words p is) mixed next = stored g fixed x s m h w k f suited silent a v asks q b words p is
  driven_asks _ (mends at row) mixed next = mended g fixed x s m h w k f suited silent a v asks q at row
  driven_asks _ (begins at row alike) mixed next =
      begun g fixed x s m h w k f suited a v asks q at alike (same_report w at.endpoint.queue at.command)
  driven_asks _ (opens at t alike opened) mixed next =
      opened_then g fixed x s m h w k f suited a v asks q at t alike opened mixed next (same_report w at.endpoint.queue at.command)
  driven_asks _ (unlinks at row) mixed next = unlinked g fixed x s m h w k f suited silent a v asks q at row
  driven_asks _ (narrows member near row are fewer) mixed next =
      narrowed g fixed x s m h w k f suited silent a v asks q near row mixed.queues.queues.met
  driven_asks _ (goes e y d t back is) mixed next = gone_then g fixed s m w k.mixed f a v asks q e y d t back is
