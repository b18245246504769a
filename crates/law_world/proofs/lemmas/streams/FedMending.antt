-- The store that a stalled control endpoint is owed leaves queues fed.
use Rattle.std.proofs.Common.{◌≡◌, ◌≢◌, ℕ, ◌*◌, Bool, false, ap, sym, subst, ◌∙◌}
use Rattle.bus_wire.specs.Bus.{Fixed}
use Rattle.drv_table.specs.DriverContent.{DriverContent}
use Rattle.drv_table.specs.Parts.{Parts as DriverParts}
use Rattle.drv_table.specs.Rows.{driver_row}
use Rattle.law_structures.specs.lent_structures.Structures.{QueueHead}
use Rattle.law_ring.specs.Hand.{Hand}
use Rattle.law_ring.specs.Stores.{hand_stale}
use Rattle.law_controller.specs.controlled_streams.Reported.{AreReported}
use Rattle.claims_base.specs.Controller.{opening_base}
use Rattle.law_driver_ring.specs.Driven.{DrivesRing}
use Rattle.law_driver.proofs.lemmas.in_place.Laws.{events_keep_all_in_place}
use Rattle.async_walk.specs.Rows.{place}
use Rattle.law_devices.specs.Senders.{sender_of}
use Rattle.bus_world.specs.World.{World, driver_parts, driver_next}
use Rattle.law_world.specs.steps.Streaming.{Streams, Standing, wired}
use Rattle.law_world.specs.streams.shared_worlds.Working.{IsWorking}
use Rattle.law_driver.proofs.lemmas.chained_transfers.Events.{events_keep_asynchronous_turns}
use Rattle.law_queues.specs.mended_heads.Owed.{IsOwed}
use Rattle.law_queues.specs.mended_heads.Mended.{next_of, IsAtMend, head_at, mended as head_mended, driver_mended}
use Rattle.law_queues.proofs.lemmas.mended_heads.Row.{mend_is_due, mend_row, mend_leaves_ring}
use Rattle.law_queues.proofs.lemmas.mended_heads.Queues.{leaves_pipes, mend_leaves_met, mend_leaves_ends, mend_leaves_fed, mend_leaves_last, mend_leaves_out}
use Rattle.law_queues.proofs.lemmas.mended_heads.Streams.{mend_leaves_reports}
use Rattle.law_world.proofs.lemmas.steps.lemmas.control_queues.Heads.{mend_keeps_controls}
use Rattle.law_world.specs.streams.Feeding.{there_of, IsFeeding}
use Rattle.law_world.specs.streams.Mends.{MendFinds, MendFeeds, mended}
use Rattle.law_world.proofs.lemmas.streams.Names.{row_apart}
use Rattle.law_world.proofs.lemmas.streams.Told.{there_same}
use Rattle.law_world.proofs.lemmas.streams.FeedingStores.{queue_above, put_apart}
use Rattle.law_world.proofs.lemmas.streams.Heads.{right_of, control_head, control_streamless}
use Rattle.law_world.proofs.lemmas.streams.OpenBeside.{still_frameless}

pub mend_finds : MendFinds
mend_finds fixed member x s w m row f =
    let g = f.working in
    mend_is_due (driver_parts w) s.parts s.out m row g.place.sound.stands g.place.sound.owners g.place.lent f.turns.chained f.turns.turns g.driven f.controls.mends

module _ (fixed : Fixed) (member : ℕ → Bool) (x : Streams) (s : Standing) (w : World) (k : IsAtMend (driver_parts w) s.parts s.out) (f : IsFeeding fixed member x s w) where
  abbrev p : DriverParts
  p = driver_parts w

  abbrev g : IsWorking fixed opening_base member x s w
  g = f.working

  abbrev now : Standing
  now = mended s k

  -- the endpoint that is owed the store
  abbrev owed : IsOwed w.driver k.stalled
  owed = k.are.owed.0

  -- its queue head has no stream
  streamless : x.streams (32 * k.stalled.queue) ≡ false
  streamless = ap (λ (q : ℕ). x.streams (32 * q)) (sym owed.queue) ∙ control_streamless fixed member x s w f owed.number owed.endpoint owed.here owed.kept owed.control

  pub headless : there_of w.driver (32 * k.stalled.queue) ≡ false
  headless = ap (λ (q : ℕ). there_of w.driver (32 * q)) (sym owed.queue) ∙ control_head fixed member x s w f owed.number owed.endpoint owed.here owed.kept owed.control

  above : 0 ≢ 32 * k.stalled.queue
  above = subst (λ (q : ℕ). 0 ≢ 32 * q) owed.queue (queue_above w.driver owed.number owed.endpoint g.place.sound.owners f.turns.asynchronous owed.here owed.kept)

  there_was : (n : ℕ) → there_of (next_of p).driver n ≡ there_of w.driver n
  there_was n =
      let is : (next_of p).driver ≡ driver_mended w.driver = (mend_row p s.parts s.out k).driver in
      there_same w.driver (next_of p).driver n (ap (λ (d : DriverContent). d.endpoints) is) (ap (λ (d : DriverContent). d.command) is)

  drives : DrivesRing opening_base member now.parts now.hand (place w.control.walk (next_of p).registers (next_of p).memory) (next_of p).driver
  drives = mend_leaves_ring opening_base member s.hand w.control.walk p s.parts s.out k (record { ring = g.streaming.controlled.ring; driven = g.driven })

  counted_now : AreReported (there_of w.driver) s.order s.out now.hand now.parts s.acc s.reported
  counted_now = mend_leaves_reports (there_of w.driver) s.order s.out s.acc s.reported s.hand p s.parts s.out k headless f.counted

  working_now : IsWorking fixed opening_base member x now (driver_next w)
  working_now = record {
    operating = g.operating;
    streaming = record {
      on = g.streaming.on;
      ends = g.streaming.ends;
      controlled = record {
        ring = drives.ring;
        between = λ part. ap (λ (h : Hand). hand_stale (32 * k.stalled.queue) h) (g.streaming.controlled.between part);
        list = record {
          words = g.streaming.controlled.list.words;
          here = put_apart s.parts (32 * k.stalled.queue) (32 * k.stalled.queue) (QueueHead (head_mended k.stalled (head_at k))) 0 0 above ∙ g.streaming.controlled.list.here;
          size = g.streaming.controlled.list.size;
        };
        frameless = still_frameless g.streaming.controlled.list.words w g.streaming.controlled.frameless;
      };
      piped = leaves_pipes sender_of x.stream x.packets member x.streams x.endpoint s.acc (wired fixed w) s.hand p s.parts s.out k streamless g.streaming.piped;
      right = right_of fixed member x s w f s.order s.out now.hand now.parts s.acc s.reported counted_now;
    };
    place = events_keep_all_in_place p g.place;
    driven = drives.driven;
  }

  pub mended_feeding : IsFeeding fixed member x now (driver_next w)
  mended_feeding = record {
    working = working_now;
    turns = events_keep_asynchronous_turns p g.place.sound.owners f.turns;
    queues = record {
      met = mend_leaves_met p s.parts s.out member k f.queues.met;
      streams_are = mend_leaves_ends p s.parts s.out x.streams x.endpoint k f.queues.streams_are;
      fed = mend_leaves_fed p s.parts s.out k f.queues.fed;
      last = mend_leaves_last p s.parts s.out s.order k f.queues.last;
      out_are = mend_leaves_out p s.parts s.out s.out k f.queues.out_are;
    };
    counted = λ n on. counted_now n (sym (there_was n) ∙ on);
    controls = mend_keeps_controls p s.parts s.order s.out k f.controls;
    controls_apart = row_apart x.stream (driver_row p) p f.controls_apart;
    unopened = f.unopened;
  }

pub mend_feeds : MendFeeds
mend_feeds fixed member x s w k f = mended_feeding fixed member x s w k f
