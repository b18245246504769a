-- Each event of the controller leaves a world with endpoints of every kind one.
use Rattle.std.proofs.Common.{◌≡◌, ℕ, ◌*◌, ◌≤◌, ◌⊎◌, ⊎_elim, inl, inr, List, Option, Some, refl}
use Rattle.mem_runs.specs.Book.{holding, Stands}
use Rattle.law_ring.specs.walk_writes.Writes.{WritesLent}
use Rattle.law_controller.proofs.lemmas.lent_writes.Controlling.{each_event_of_the_controller_writes_lent_words}
use Rattle.law_controller.proofs.lemmas.aligned_copies.Controlling.{aligned_placed}
use Rattle.bus_wire.specs.Bus.{Fixed}
use Rattle.drv_table.specs.declared.content.Command.{Command}
use Rattle.drv_table.specs.declared.content.Command.TheVariants as unfinished
use Rattle.drv_table.specs.DriverContent.{DriverContent}
use Rattle.claims_driver.specs.Owners.{runs_of_endpoint}
use Rattle.claims_base.specs.Controller.{opening_base}
use Rattle.law_driver_ring.proofs.Beside.{opened_stays}
use Rattle.law_structures.specs.lent_structures.Structures.{StructureSets}
use Rattle.law_controller.specs.frame_control.Both.{RunsBoth}
use Rattle.law_descriptors.specs.Both.{both, parts_now}
use Rattle.law_descriptors.specs.Meeting.{met}
use Rattle.law_queues.specs.fed_lends.ToLend.{IsToBeLent}
use Rattle.law_queues.proofs.lemmas.fed_lends.Accepting.{to_be_lent_stays}
use Rattle.law_queues.specs.open_laws.Lends.{IsOpenReady}
use Rattle.law_queues.specs.open_laws.Opens.{IsOpenLent}
use Rattle.law_queues.proofs.lemmas.open_laws.AcceptWaiting.{ready_stays}
use Rattle.law_queues.specs.released_queues.Fronts.{FrontsStand}
use Rattle.law_queues.specs.standing_fronts.Tails.{tail_of}
use Rattle.law_world.specs.memory.framed_memory.Now.{recent_then}
use Rattle.law_world.proofs.lemmas.memory.lemmas.framed_memory.NowControlled.{controller_keeps_now}
use Rattle.law_world.proofs.lemmas.memory.lemmas.framed_memory.Awaiting.{writes_keep_awaiting}
use Rattle.law_world.specs.memory.framed_memory.Chained.{chained_queue}
use Rattle.law_world.proofs.lemmas.memory.lemmas.framed_memory.RingLinksMet.{head_is_met}
use Rattle.law_world.proofs.lemmas.memory.lemmas.framed_memory.RingLinksWaiting.{open_lent_stays_now}
use Rattle.law_descriptors.proofs.lemmas.queue_events.Events.{both_keeps_fed, both_keeps_last, both_keeps_links, both_keeps_reaches, both_keeps_halts, both_keeps_mends}
use Rattle.law_driver.specs.queued_drivers.Queued.{queued}
use Rattle.law_world.proofs.lemmas.steps.lemmas.controlled_walks.Worlds.{controller_keeps_walking}
use Rattle.bus_world.specs.World.{World, controller_parts, controller_row, controller_next}
use Rattle.law_world.specs.steps.Streaming.{begins_by, transacts_by, wired}
use Rattle.law_world.proofs.lemmas.steps.StreamTurning.{world_has_row}
use Rattle.law_world.proofs.lemmas.steps.lemmas.world_bytes.Turning.{controller_bytes}
use Rattle.law_world.proofs.lemmas.steps.lemmas.world_bytes.Hearing.{a_bus_of_bytes_is_heard_as_bytes}
use Rattle.law_world.specs.memory.Mixed.{QueuesGoOn, IsChainToLend, IsChainThere, IsUnderWay, Standing, IsMixedAt}
use Rattle.law_world.specs.memory.Steps.{IsEventOf, standing_then, IsMixedControlled}
use Rattle.law_world.specs.memory.Laws.{ControllerKeepsMixed, ControllerTellsEvent}
use Rattle.law_world.proofs.lemmas.memory.ControllerParts.{sound_then}
use Rattle.law_world.proofs.lemmas.memory.ControllerRests.{chain_there_stays}

module _ (fixed : Fixed) (s : Standing) (w : World) (k : IsMixedAt s w) where
  abbrev d : DriverContent
  d = w.driver

  abbrev new : World
  new = controller_next fixed w

  abbrev After : Type 0
  After = IsEventOf fixed s w

  after_event : After
  after_event =
      controller_keeps_now begins_by transacts_by opening_base s.member s.recent s.descs s.parts s.hand s.frame (controller_parts w) d (wired fixed w) (controller_parts new) (wired fixed new) k.now
      (a_bus_of_bytes_is_heard_as_bytes fixed w k.bytes (wired fixed new)) (world_has_row fixed w)

  stands : Stands (holding d.book w.memory)
  stands = k.now.framed.place.sound.stands

  writes : WritesLent w.memory (controller_next fixed w).memory
  writes =
      each_event_of_the_controller_writes_lent_words begins_by transacts_by (controller_parts w) (wired fixed w) (controller_parts new)
      (wired fixed new)
      (aligned_placed (controller_parts w) k.now.framed.aligned) (world_has_row fixed w)

  -- ---- the queues

  module _ (a : After) where
    abbrev then : StructureSets
    then = parts_now s.descs s.parts a.now

    runs : RunsBoth opening_base s.member (met w.driver s.recent) (both s.descs s.parts) s.hand s.frame (controller_parts w)
    runs = k.now.framed.runs

    fronts : FrontsStand (queued w.driver) s.parts s.order s.out
    fronts e x here is_met = (k.queues.tails e x here is_met).stands

    queues_then : QueuesGoOn (queued w.driver) s.near s.streams s.ends (parts_now s.descs s.parts a.now) s.order s.out
    queues_then =
        let q = k.queues in
        record {
          queues = record {
            met = q.queues.met;
            streams_are = q.queues.streams_are;
            fed = both_keeps_fed begins_by transacts_by opening_base s.member (met d s.recent) s.descs s.parts s.hand s.frame (controller_parts w) (wired fixed w) (wired fixed new) a.now a.later a.frame_later
                runs a.effect (queued d) q.queues.fed;
            last = both_keeps_last begins_by transacts_by opening_base s.member (met d s.recent) s.descs s.parts s.hand s.frame (controller_parts w) (wired fixed w) (wired fixed new) a.now a.later a.frame_later
                runs a.effect (queued d) s.order q.queues.last;
            out_are = q.queues.out_are;
          };
          sound = λ e x here is_met.
              sound_then begins_by transacts_by opening_base s.member s.recent s.descs s.parts s.hand s.frame (controller_parts w) d (wired fixed w) (wired fixed new) (controller_parts new) k.now a
              (32 * x.queue) (q.sound e x here is_met);
          tails = λ e x here is_met.
              both_keeps_reaches begins_by transacts_by opening_base s.member (met d s.recent) s.descs s.parts s.hand s.frame (controller_parts w) (wired fixed w) (wired fixed new) a.now a.later a.frame_later
              runs a.effect (queued d) (s.order (32 * x.queue)) (s.out (32 * x.queue)) e x (tail_of (queued d) e x) (q.sound e x here is_met) (q.controls.rises e x here is_met.there)
              (q.tails e x here is_met);
          controls = record {
            rises = λ e x here there.
                both_keeps_links begins_by transacts_by opening_base s.member (met d s.recent) s.descs s.parts s.hand s.frame (controller_parts w) (wired fixed w) (wired fixed new) a.now a.later a.frame_later
                runs a.effect (s.order (32 * x.queue)) (32 * x.queue) (q.controls.rises e x here there);
            sorted = q.controls.sorted;
            stops = both_keeps_halts begins_by transacts_by opening_base s.member (met d s.recent) s.descs s.parts s.hand s.frame (controller_parts w) (wired fixed w) (wired fixed new) a.now a.later a.frame_later
                runs a.effect (queued d) s.order s.out q.sound fronts q.controls.stops;
            mends = both_keeps_mends begins_by transacts_by opening_base s.member (met d s.recent) s.descs s.parts s.hand s.frame (controller_parts w) (wired fixed w) (wired fixed new) a.now a.later a.frame_later
                runs a.effect (queued d) s.out q.controls.mends;
          };
        }

    -- ---- the unfinished command

    open_stays : IsOpenReady w.driver w.memory ⊎ IsOpenLent w.driver s.member s.parts
        → IsOpenReady w.driver (controller_next fixed w).memory ⊎ IsOpenLent w.driver s.member (parts_now s.descs s.parts a.now)
    open_stays =
        ⊎_elim (λ (r : IsOpenReady w.driver w.memory). inl (ready_stays d w.memory new.memory k.now.framed.place.sound.owners stands writes.words r))
        (λ (l : IsOpenLent w.driver s.member s.parts).
        inr
        (open_lent_stays_now begins_by transacts_by opening_base s.member s.recent s.descs s.parts s.hand s.frame (controller_parts w) d (wired fixed w) (wired fixed new) a.now a.later a.frame_later k.now
        (head_is_met opening_base s.member s.recent s.descs s.parts s.hand s.frame (controller_parts w) d k.now k.ring) l a.effect))

    publish_stays : (b : ℕ) (words : List ℕ) → IsToBeLent (queued w.driver) w.memory b words ⊎ (1 ≤ w.driver.made) → IsToBeLent (queued w.driver) (controller_next fixed w).memory b words ⊎ (1 ≤ w.driver.made)
    publish_stays b words =
        ⊎_elim (λ (t : IsToBeLent (queued w.driver) w.memory b words). inl (to_be_lent_stays (queued d) w.memory new.memory b words t stands writes.words)) (λ (made : 1 ≤ w.driver.made). inr made)

    -- of an interrupt endpoint
    chain_ready : IsChainToLend w.driver w.memory → IsChainToLend w.driver (controller_next fixed w).memory
    chain_ready t =
        let r = t.ready in
        record {
          ready = record {
            number = r.number;
            endpoint = r.endpoint;
            here = r.here;
            command = r.command;
            made = r.made;
            place = r.place;
            placed = r.placed;
            link = r.link;
            opened = opened_stays d w.memory new.memory r.number (runs_of_endpoint r.endpoint) (chained_queue r.endpoint r.place r.link) r.opened k.now.framed.place.sound.owners stands writes.words;
            links = r.links;
          };
          work = t.work;
          begun = t.begun;
          newest = t.newest;
        }

    chain_there : IsChainThere w.driver s.member s.recent s.parts → IsChainThere w.driver s.member (recent_then (controller_row w) s.recent) (parts_now s.descs s.parts a.now)
    chain_there t =
        chain_there_stays begins_by transacts_by opening_base s.member s.recent s.descs s.parts s.hand s.frame (controller_parts w) d (wired fixed w) (controller_parts new) (wired fixed new) (controller_row w)
        k.now a t

    chain_stays : IsChainToLend w.driver w.memory ⊎ IsChainThere w.driver s.member s.recent s.parts
        → IsChainToLend w.driver (controller_next fixed w).memory ⊎ IsChainThere w.driver s.member (recent_then (controller_row w) s.recent) (parts_now s.descs s.parts a.now)
    chain_stays = ⊎_elim (λ (t : IsChainToLend w.driver w.memory). inl (chain_ready t)) (λ (t : IsChainThere w.driver s.member s.recent s.parts). inr (chain_there t))

    by_command : (o : Option Command) → w.driver.command ≡ o → IsUnderWay w.driver w.memory s.member s.recent s.parts o
        → IsUnderWay w.driver (controller_next fixed w).memory s.member (recent_then (controller_row w) s.recent) (parts_now s.descs s.parts a.now) o
    by_command (Some (unfinished.Open queue)) is u = open_stays u
    by_command (Some (unfinished.Publish b words)) is u = publish_stays b words u
    by_command (Some (unfinished.Unlink e b link)) is u = u
    by_command (Some unfinished.Chain) is u = chain_stays u
    by_command _ is u = tt

    -- ---- the world

    pub world_then : IsMixedAt (standing_then s w a) (controller_next fixed w)
    world_then = record {
      now = a.framed;
      turns = k.turns;
      ring = k.ring;
      queues = queues_then;
      under_way = by_command d.command refl k.under_way;
      walking = controller_keeps_walking fixed w k.now.framed.place k.walking;
      numbers = k.numbers;
      masks = k.masks;
      awaiting = writes_keep_awaiting d w.memory new.memory stands writes.words k.awaiting;
      bytes = controller_bytes fixed w k.bytes;
      owed = k.owed;
    }

pub controller_tells_event : ControllerTellsEvent
controller_tells_event fixed s w k = let a = after_event fixed s w k in record { event = a; mixed = world_then fixed s w k a }

pub controller_keeps_mixed : ControllerKeepsMixed
controller_keeps_mixed fixed w k =
    let c : IsMixedControlled fixed k.standing w = controller_tells_event fixed k.standing w k.mixed in
    record { standing = standing_then k.standing w c.event; mixed = c.mixed }
