-- A store of the first qTD of a transfer leaves queues fed.
use Rattle.std.proofs.Common.{◌≡◌, ◌≢◌, ℕ, ◌*◌, ◌≤◌, Bool, true, false, ◌||◌, cond, List, slice_get, Option, Some, None, option_map, ap, refl, sym, ◌∙◌, arith}
use Rattle.law_common.proofs.Numbers.{other_number}
use Rattle.bus_wire.specs.Bus.{Fixed}
use Rattle.drv_table.specs.declared.content.Endpoint.{Endpoint}
use Rattle.drv_table.specs.declared.content.Command.{Command}
use Rattle.drv_table.specs.declared.content.Command.TheVariants as unfinished
use Rattle.drv_table.specs.DriverContent.{DriverContent}
use Rattle.drv_table.specs.Parts.{Parts as DriverParts}
use Rattle.drv_table.specs.Kinds.{is_iso}
use Rattle.drv_table.specs.Rows.{driver_row}
use Rattle.claims_driver.specs.Leaving.{HasOwners}
use Rattle.claims_driver.specs.Owners.{FrameList, QueueHead, runs_of_endpoint}
use Rattle.law_structures.specs.lent_structures.Structures.{Structure, Element, StructureSets, with_structure, put}
use Rattle.law_ring.proofs.QueueParts.{member_part}
use Rattle.law_controller.specs.controlled_streams.Reported.{AreReported}
use Rattle.claims_base.specs.Controller.{opening_base}
use Rattle.law_driver_ring.specs.Driven.{DrivesRing}
use Rattle.law_driver.proofs.lemmas.in_place.Laws.{events_keep_all_in_place}
use Rattle.async_walk.specs.Rows.{place}
use Rattle.law_devices.specs.Senders.{sender_of}
use Rattle.bus_world.specs.World.{World, driver_parts, driver_next}
use Rattle.law_world.specs.steps.Streaming.{Streams, Standing, wired}
use Rattle.law_world.specs.streams.shared_worlds.Working.{IsWorking}
use Rattle.law_driver.specs.chained_transfers.Asynchronous.{OnlyAsynchronous}
use Rattle.law_driver.proofs.lemmas.chained_transfers.BulkAndControl.{not_iso}
use Rattle.law_driver.proofs.lemmas.chained_transfers.Staying.{stands_alive}
use Rattle.law_driver.proofs.lemmas.chained_transfers.Events.{events_keep_asynchronous_turns}
use Rattle.law_driver_ring.specs.fed_queues.Fed.{IsPublished}
use Rattle.law_queues.specs.publish_laws.Stores.{IsAtStore, published_by, parts_then, out_then, QueuesThen, next_of}
use Rattle.law_queues.proofs.lemmas.publish_laws.Storing.{store_publishes, store_keeps_pipes, store_reports, store_stands}
use Rattle.law_driver_ring.specs.Published.{partly}
use Rattle.law_world.proofs.lemmas.streams.Names.{row_apart}
use Rattle.law_world.specs.streams.Feeding.{there_of, IsFeeding}
use Rattle.law_world.proofs.lemmas.steps.lemmas.control_queues.Stores.{store_keeps_controls}
use Rattle.law_world.specs.streams.FeedingLaws.{StoreFeeds}
use Rattle.law_world.proofs.lemmas.streams.Told.{there_before}
use Rattle.law_world.proofs.lemmas.streams.Heads.{right_of}
use Rattle.law_world.proofs.lemmas.streams.Storing.{by_store}
use Rattle.law_world.proofs.lemmas.streams.OpenBeside.{still_frameless}

-- a queue head stands behind the frame list
pub queue_above : (d : DriverContent) (e : ℕ) (x : Endpoint) → HasOwners d → OnlyAsynchronous d → slice_get d.endpoints e ≡ Some x → x.gone ≡ false → 0 ≢ 32 * x.queue
queue_above d e x owners only here kept same =
    let alive : is_iso x.desc.kind || x.gone ≡ false = ap (λ (b : Bool). b || x.gone) (not_iso x.desc (only.endpoints e x here).asynchronous) ∙ kept in
    let one = owners.owned.each.queue e (runs_of_endpoint x) (ap (option_map runs_of_endpoint) here) alive in
    let zero : x.queue ≡ 0 = omega (arith, same) in
    let is : QueueHead e ≡ FrameList = sym one.owned ∙ ap owners.owner zero ∙ owners.owned.each.list.owned in
    cc

-- another owner's structures stay
pub put_apart : (parts : StructureSets) (n a : ℕ) (z : Structure) (k c : ℕ) → k ≢ n → put parts n a z k c ≡ parts k c
put_apart parts n a z k c differs = ap (λ (t : Bool). (cond t (with_structure (parts n) a z) (parts k)) c) (other_number k n differs)

module _ (fixed : Fixed) (member : ℕ → Bool) (x : Streams) (s : Standing) (w : World) (b : ℕ) (words : List ℕ) (command : w.driver.command ≡ Some (unfinished.Publish b words)) (made : 1 ≤ w.driver.made) (f : IsFeeding fixed member x s w) where
  abbrev p : DriverParts
  p = driver_parts w

  abbrev k : IsWorking fixed opening_base member x s w
  k = f.working

  abbrev pub at : IsAtStore p.driver p.memory member x.streams x.endpoint s.parts s.order s.out b words
  at = record {
    command = command;
    made = made;
    sound = k.place.sound;
    lent = k.place.lent;
    turns = f.turns;
    met = f.queues.met;
    streams_are = f.queues.streams_are;
    fed = f.queues.fed;
    last = f.queues.last;
    out_are = f.queues.out_are;
  }

  abbrev pub stored : IsPublished p.driver s.parts b words
  stored = published_by at

  -- what stands after it
  abbrev pub after_store : Standing
  after_store = record s { parts = parts_then stored; out = out_then s.out (next_of p).driver stored }

  pub store_drives : DrivesRing opening_base member (parts_then stored) s.hand (place w.control.walk (next_of p).registers (next_of p).memory) (next_of p).driver
  store_drives =
      store_publishes opening_base w.control.walk s.hand p member x.streams x.endpoint s.parts s.order s.out b words at (record { ring = k.streaming.controlled.ring; driven = k.driven })

  pub queues_then : QueuesThen (next_of p).driver member x.streams x.endpoint (parts_then stored) s.order (out_then s.out (next_of p).driver stored)
  queues_then = store_stands p member x.streams x.endpoint s.parts s.order s.out b words at

  counted_then : AreReported (there_of w.driver) s.order (out_then s.out (next_of p).driver stored) s.hand (parts_then stored) s.acc s.reported
  counted_then = store_reports s.acc s.reported s.hand (there_of w.driver) p member x.streams x.endpoint s.parts s.order s.out b words at (λ n on. member_part member n (s.parts n) (k.streaming.controlled.ring.members n on)) f.counted

  -- the endpoints that are there were so before
  stored_there : (n : ℕ) → there_of (next_of p).driver n ≡ true → there_of p.driver n ≡ true
  stored_there n =
      by_store p member x.streams x.endpoint s.parts s.order s.out b words at (λ (d : DriverContent). there_of d n ≡ true → there_of p.driver n ≡ true) (λ low on. on)
      (λ eighth on. there_before p.driver (record p.driver { command = None; made = 0 }) n refl (λ c is. never_opens c (sym command ∙ is)) on)
    where
      never_opens : (c : ℕ) → ◌≡◌ {A = Option Command} (Some (unfinished.Publish b words)) (Some (unfinished.Open c)) → ⊥
      never_opens c is = cc

  working_then : IsWorking fixed opening_base member x after_store (driver_next w)
  working_then =
      let kept : stored.endpoint.gone ≡ false = stands_alive stored.endpoint (f.turns.asynchronous.endpoints stored.transfer.endpoint stored.endpoint stored.here) stored.going in
      let above = queue_above p.driver stored.transfer.endpoint stored.endpoint k.place.sound.owners f.turns.asynchronous stored.here kept in
      record {
        operating = k.operating;
        streaming = record {
          on = k.streaming.on;
          ends = k.streaming.ends;
          controlled = record {
            ring = store_drives.ring;
            between = k.streaming.controlled.between;
            list = record {
              words = k.streaming.controlled.list.words;
              here = put_apart s.parts (32 * stored.endpoint.queue) (32 * b) (Element (partly stored.qtd w.driver.made)) 0 0 above ∙ k.streaming.controlled.list.here;
              size = k.streaming.controlled.list.size;
            };
            frameless = still_frameless k.streaming.controlled.list.words w k.streaming.controlled.frameless;
          };
          piped = store_keeps_pipes sender_of x.stream x.packets s.acc (wired fixed w) s.hand p member x.streams x.endpoint s.parts s.order s.out b words at k.streaming.piped;
          right = right_of fixed member x s w f s.order (out_then s.out (next_of p).driver stored) s.hand (parts_then stored) s.acc s.reported counted_then;
        };
        place = events_keep_all_in_place p k.place;
        driven = store_drives.driven;
      }

  pub store_feeding : IsFeeding fixed member x after_store (driver_next w)
  store_feeding =
      let stands = queues_then in
      record {
        working = working_then;
        turns = events_keep_asynchronous_turns p k.place.sound.owners f.turns;
        queues = record { met = stands.met; streams_are = stands.streams_are; fed = stands.fed; last = stands.last; out_are = stands.out_are };
        counted = λ n on. counted_then n (stored_there n on);
        controls = store_keeps_controls p member x.streams x.endpoint s.parts s.order s.out b words at f.controls;
        controls_apart = row_apart x.stream (driver_row p) p f.controls_apart;
        unopened = f.unopened;
      }

pub store_feeds : StoreFeeds
store_feeds fixed member x s w b words command made f =
    let g = stored fixed member x s w b words command made f in
    record {
      parts = parts_then g;
      order = s.order;
      out = out_then s.out (next_of (driver_parts w)).driver g;
      feeding = store_feeding fixed member x s w b words command made f;
    }
