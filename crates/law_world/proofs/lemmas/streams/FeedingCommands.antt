-- A command leaves queues fed: it is refused, or an endpoint or a transfer more is accepted, or a cancel.
use Rattle.std.proofs.Common.{◌≡◌, ◌≢◌, ℕ, ◌*◌, Bool, true, false, length, get_or, take, ◌-◌, slice_get, Option, Some, None, Result, Ok, Err, ap, sym, ◌∙◌, ⊎_elim, refl}
use Rattle.law_common.proofs.Lists.{push_which}
use Rattle.usb_base.specs.declared.commands.Cmd.{Cmd}
use Rattle.usb_base.specs.declared.commands.Cmd.TheVariants as commands
use Rattle.usb_base.specs.declared.reports.OfferError.{OfferError}
use Rattle.bus_wire.specs.Bus.{Fixed}
use Rattle.word_mem.specs.Memory.{Mem}
use Rattle.drv_table.specs.DriverContent.{DriverContent}
use Rattle.drv_table.specs.declared.content.Endpoint.{Endpoint}
use Rattle.drv_table.specs.declared.content.Command.{Command}
use Rattle.drv_table.specs.declared.content.Command.TheVariants as unfinished
use Rattle.drv_table.specs.Accepting.{Offered, new_runs}
use Rattle.drv_table.specs.Offers.{new_endpoint, with_queued, offered, IsOffered}
use Rattle.law_driver.specs.run_owners.Accepts.{Opens, Transfers}
use Rattle.claims_base.specs.Controller.{opening_base}
use Rattle.law_driver_ring.specs.Driven.{DrivesRing}
use Rattle.law_driver_ring.proofs.Commanding.{open_drives, transfer_drives}
use Rattle.law_driver.specs.in_place.InPlace.{IsInPlace}
use Rattle.law_driver.proofs.lemmas.in_place.Laws.{commands_keep_all_in_place}
use Rattle.bus_world.specs.World.{World, name_in, commanded_by}
use Rattle.law_world.specs.steps.Streaming.{Streams, Standing}
use Rattle.law_world.specs.streams.shared_worlds.Working.{IsWorking}
use Rattle.law_driver.specs.chained_transfers.Accepted.{IsAsked}
use Rattle.law_driver.specs.AsynchronousScripts.{OpensAsynchronous}
use Rattle.law_driver.specs.chained_transfers.Asynchronous.{IsRequested, AcceptsAsynchronous}
use Rattle.law_driver.specs.chained_transfers.AsynchronousTurns.{AsynchronousTakesTurns}
use Rattle.law_driver.proofs.lemmas.chained_transfers.Accepting.{asynchronous_command_is_accepted}
use Rattle.law_driver.proofs.lemmas.chained_transfers.Commands.{commands_keep_asynchronous_turns}
use Rattle.claims_report.specs.Streams.{has_stream}
use Rattle.law_queues.specs.fed_lends.Commands.{QueuesStand}
use Rattle.law_queues.proofs.lemmas.fed_lends.Asked.{set_which}
use Rattle.law_queues.proofs.lemmas.fed_lends.Opened.{open_stands}
use Rattle.law_queues.proofs.lemmas.fed_lends.Publishing.{asked_stands, requested_stands}
use Rattle.async_walk.specs.Rows.{place}
use Rattle.law_driver_ring.specs.fed_queues.Places.{HasThere}
use Rattle.law_world.proofs.lemmas.steps.lemmas.control_queues.Beside.{commands_keep_controls}
use Rattle.law_world.specs.streams.Feeding.{there_of, IsFeeding}
use Rattle.law_world.specs.streams.FeedingLaws.{OpensApart, CommandFeeds}
use Rattle.law_world.proofs.lemmas.streams.Told.{HasBulkThere, there_by, bulk_there}
use Rattle.law_world.proofs.lemmas.streams.Names.{command_apart}
use Rattle.law_world.proofs.lemmas.streams.Cancelling.{refused_feeds, accepted_working, drives_now, cancelled_feeds}

-- the endpoints that are there were so before: the new one isn't yet
module _ (d : DriverContent) (m : Mem) (o : Offered) where
  no_open : d.command ≡ None → (c : ℕ) → d.command ≡ Some (unfinished.Open c) → ⊥
  no_open idle c is = let a : ◌≡◌ {A = Option Command} None (Some (unfinished.Open c)) = sym idle ∙ is in cc

  itself : (n e : ℕ) (z : Endpoint) → d.command ≡ None → slice_get d.endpoints e ≡ Some z → z.gone ≡ false → has_stream z.desc.kind ≡ true → n ≡ 32 * z.queue → there_of d n ≡ true
  itself n e z idle here kept stream at =
      there_by d n (record { has = record { number = e; endpoint = z; here = here; there = record { linked = no_open idle z.queue; kept = kept }; at = at }; stream = stream })

  opened_there : Opens d m o → (n : ℕ) → there_of o.driver n ≡ true → there_of d n ≡ true
  opened_there w n on =
      let b : HasBulkThere o.driver n = bulk_there o.driver n on in
      let h : HasThere o.driver n = b.has in
      let new : Endpoint = new_endpoint w.desc (get_or (new_runs d w.holding_after) 0 0) (get_or (new_runs d w.holding_after) 1 0) in
      ⊎_elim (λ (was : slice_get d.endpoints h.number ≡ Some h.endpoint). itself n h.number h.endpoint w.idle was h.there.kept b.stream h.at)
      (λ (is : (h.number ≡ length d.endpoints) × (h.endpoint ≡ new)). absurd (h.there.linked (ap (λ (p : Offered). p.driver.command) w.is ∙ ap (λ (y : Endpoint). Some (unfinished.Open y.queue)) (sym is.1))))
      (push_which d.endpoints new h.number h.endpoint (ap (λ (p : Offered). slice_get p.driver.endpoints h.number) (sym w.is) ∙ h.here))

  moved_there : Transfers d m o → (n : ℕ) → there_of o.driver n ≡ true → there_of d n ≡ true
  moved_there w n on =
      let b : HasBulkThere o.driver n = bulk_there o.driver n on in
      let h : HasThere o.driver n = b.has in
      let queued : Endpoint = with_queued w.endpoint (get_or (take (length w.asked.stages) (new_runs d w.holding_after)) (length w.asked.stages - 1) 0) (length d.transfers) in
      ⊎_elim
      (λ (own : (h.number ≡ w.number) × (h.endpoint ≡ queued)).
      itself n w.number w.endpoint w.idle w.here (ap (λ (y : Endpoint). y.gone) (sym own.1) ∙ h.there.kept) (ap (λ (y : Endpoint). has_stream y.desc.kind) (sym own.1) ∙ b.stream) (h.at ∙ ap (λ (y : Endpoint). 32 * y.queue) own.1))
      (λ (other : (h.number ≢ w.number) × (slice_get d.endpoints h.number ≡ Some h.endpoint)). itself n h.number h.endpoint w.idle other.1 h.there.kept b.stream h.at)
      (set_which d.endpoints w.number h.number w.endpoint queued h.endpoint w.here (ap (λ (p : Offered). slice_get p.driver.endpoints h.number) (sym w.is) ∙ h.here))

module _ (fixed : Fixed) (member : ℕ → Bool) (x : Streams) (s : Standing) (w : World) (line : ℕ) (cmd : Cmd) (o : Offered) (only : OpensAsynchronous cmd) (apart : OpensApart x.stream w cmd) (room : IsOffered w.driver.room cmd) (f : IsFeeding fixed member x s w) (is : offered w.driver w.memory cmd ≡ Ok o) where
  abbrev now : World
  now = commanded_by w line (name_in cmd) (Ok o)

  abbrev k : IsWorking fixed opening_base member x s w
  k = f.working

  in_place : IsInPlace o.memory o.driver
  in_place = commands_keep_all_in_place w.driver w.memory cmd o room k.place is

  turns : AsynchronousTakesTurns o.driver
  turns = commands_keep_asynchronous_turns w.driver w.memory cmd o k.place.sound.stands k.place.sound.owners f.turns only is

  -- it drives the ring, its queues stand, and no endpoint more is there
  accepted_feeding : DrivesRing opening_base member s.parts s.hand (place w.control.walk w.registers o.memory) o.driver → QueuesStand o.driver member x.streams x.endpoint s.parts s.order s.out
      → ((n : ℕ) → there_of o.driver n ≡ true → there_of w.driver n ≡ true) → IsFeeding fixed member x s now
  accepted_feeding drives queues there = record {
    working = accepted_working fixed member x s w line (name_in cmd) o k in_place drives;
    turns = turns;
    queues = queues;
    counted = λ n on. f.counted n (there n on);
    controls = commands_keep_controls w.driver w.memory cmd o s.parts s.order s.out f.turns.asynchronous only is f.controls;
    controls_apart = command_apart x.stream w cmd o f.turns only apart is f.controls_apart;
    unopened = f.unopened;
  }

  moved_feeding : Transfers w.driver w.memory o → QueuesStand o.driver member x.streams x.endpoint s.parts s.order s.out → IsFeeding fixed member x s now
  moved_feeding why queues =
      accepted_feeding (transfer_drives opening_base member s.parts s.hand w.control.walk w.registers w.memory w.driver o why k.place.sound.owners k.place.sound.stands (drives_now fixed member x s w k)) queues
      (moved_there w.driver w.memory o why)

  asked_feeding : IsAsked w.driver w.memory o → IsFeeding fixed member x s now
  asked_feeding why =
      let sound = k.place.sound in
      moved_feeding why.transfers
      (asked_stands w.driver w.memory o member x.streams x.endpoint s.parts s.order s.out why sound.stands sound.shape in_place.sound.stands in_place.sound.shape sound.owners k.place.lent f.turns f.queues)

  requested_feeding : IsRequested w.driver w.memory o → IsFeeding fixed member x s now
  requested_feeding why =
      let sound = k.place.sound in
      moved_feeding why.transfers
      (requested_stands w.driver w.memory o member x.streams x.endpoint s.parts s.order s.out why sound.stands sound.shape in_place.sound.stands in_place.sound.shape sound.owners k.place.lent f.turns f.queues)

  opened_feeding : Opens w.driver w.memory o → IsFeeding fixed member x s now
  opened_feeding why =
      let sound = k.place.sound in
      accepted_feeding (open_drives opening_base member s.parts s.hand w.control.walk w.registers w.memory w.driver o why sound.owners sound.stands (drives_now fixed member x s w k))
      (open_stands w.driver w.memory o member x.streams x.endpoint s.parts s.order s.out why sound.stands sound.shape sound.owners in_place.sound.owners k.place.lent f.turns f.queues)
      (opened_there w.driver w.memory o why)

  -- what an accepted command comes to
  feeding_as : (like : Cmd) → AcceptsAsynchronous w.driver w.memory o like → IsFeeding fixed member x s now
  feeding_as (commands.OpenEp desc) why = opened_feeding why.opens
  feeding_as (commands.Get name len by) why = asked_feeding why
  feeding_as (commands.Put name bytes by) why = asked_feeding why
  feeding_as (commands.Control name setup bytes) why = requested_feeding why
  feeding_as (commands.Cancel name) why = cancelled_feeds fixed member x s w line (name_in cmd) cmd o in_place only apart f is why
  feeding_as _ why = absurd why

  pub accepted_feeds : IsFeeding fixed member x s now
  accepted_feeds = feeding_as cmd (asynchronous_command_is_accepted w.driver w.memory cmd o f.turns.asynchronous only is)

by_offer : (fixed : Fixed) (member : ℕ → Bool) (x : Streams) (s : Standing) (w : World) (line : ℕ) (cmd : Cmd) (r : Result Offered OfferError) → OpensAsynchronous cmd → OpensApart x.stream w cmd → IsOffered w.driver.room cmd
    → IsFeeding fixed member x s w → offered w.driver w.memory cmd ≡ r → IsFeeding fixed member x s (commanded_by w line (name_in cmd) r)
by_offer fixed member x s w line cmd (Ok o) only apart room f is = accepted_feeds fixed member x s w line cmd o only apart room f is
by_offer fixed member x s w line cmd (Err why) only apart room f is = refused_feeds fixed member x s w line (name_in cmd) why f

pub command_feeds : CommandFeeds
command_feeds fixed member x s w line cmd only apart room f = by_offer fixed member x s w line cmd (offered w.driver w.memory cmd) only apart room f refl
