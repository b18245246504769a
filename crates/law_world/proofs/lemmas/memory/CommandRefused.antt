-- A command that is refused is one line more of the report: all else of a mixed world stays.
use Rattle.std.proofs.Common.{ℕ, ◌≤◌, Bool, List, Option, Some, Err, refl, inl, inr, ⊎_elim}
use Rattle.usb_base.specs.declared.endpoints.EpName.{EpName}
use Rattle.usb_base.specs.declared.reports.OfferError.{OfferError}
use Rattle.word_mem.specs.Memory.{Mem}
use Rattle.drv_table.specs.declared.content.Command.{Command}
use Rattle.drv_table.specs.declared.content.Command.TheVariants as unfinished
use Rattle.drv_table.specs.DriverContent.{DriverContent}
use Rattle.law_driver.specs.iso_frames.Frames.{AreInFrames}
use Rattle.law_frame_list.specs.list_driver.Keeping.{AreToLink, KeepsItsList}
use Rattle.hc_core.specs.Controller.{Content}
use Rattle.law_structures.specs.lent_structures.Structures.{StructureSets}
use Rattle.law_ring.specs.Hand.{Hand}
use Rattle.claims_base.specs.Controller.{Base, opening_base}
use Rattle.law_frames.specs.Met.{Kind}
use Rattle.law_frames.specs.FrameHand.{FrameHand}
use Rattle.law_descriptors.specs.Queued.{LinksQueued}
use Rattle.law_world.specs.memory.framed_memory.Framed.{IsFramed}
use Rattle.law_world.specs.memory.framed_memory.Now.{IsFramedNow}
use Rattle.law_world.specs.memory.framed_memory.Isochronous.{AreAwaiting}
use Rattle.law_world.proofs.lemmas.steps.lemmas.worlds_in_place.Refused.{refused_in_place}
use Rattle.law_driver_ring.proofs.lemmas.fed_queues.Places.{same_ends, met_stays}
use Rattle.law_queues.specs.fed_lends.ToLend.{IsToBeLent}
use Rattle.law_queues.specs.open_laws.Lends.{IsOpenReady}
use Rattle.law_queues.specs.open_laws.Opens.{IsOpenLent}
use Rattle.law_world.specs.memory.framed_memory.Chained.{IsChainReady, IsChainLent}
use Rattle.law_driver.specs.chained_transfers.AsynchronousTurns.{AsynchronousTakesTurns}
use Rattle.law_driver.specs.queued_drivers.Queued.{queued, QueuesTakeTurns}
use Rattle.claims_world.specs.Memory.{IsWalking}
use Rattle.bus_world.specs.World.{World, controller_parts, refused_line, commanded_by}
use Rattle.law_world.specs.memory.Mixed.{IsChainToLend, IsChainThere, IsUnderWay, Standing, IsMixedAt}
use Rattle.law_world.proofs.lemmas.memory.CommandBeside.{beside}

module _ (d : DriverContent) (line : ℕ) (name : EpName) (why : OfferError) where
  abbrev f : DriverContent
  f = refused_line d line name why

  -- ---- the frame list

  to_link : AreToLink d → AreToLink (refused_line d line name why)
  to_link old e first count is few = let l = old e first count is few in record { idle = l.idle; all = l.all }

  keeps_list : (m : Mem) → KeepsItsList m d → KeepsItsList m (refused_line d line name why)
  keeps_list m old = record { list = record { order = old.list.order; words = old.list.words }; mends = old.mends; to_link = to_link old.to_link; leading = old.leading }

  links : LinksQueued d → LinksQueued (refused_line d line name why)
  links old e t count w is work =
      let l = old e t count w is work in
      let q = l.1 in
      (l.0, record { number = q.number; placed = q.placed; here = q.here; later = q.later; endpoint = q.endpoint; waits = q.waits; is = q.is })

  in_frames : AreInFrames d → AreInFrames (refused_line d line name why)
  in_frames old = record {
    places = old.places;
    stepped = λ e x p here iso chained placed. let s = old.stepped e x p here iso chained placed in record { steps = s.steps; active = s.active; few = s.few; bound = s.bound; next = s.next };
  }

  -- ---- what the unfinished command has still to lend

  await : (m : Mem) → AreAwaiting d m → AreAwaiting (refused_line d line name why) m
  await m old e t count is few =
      let a = old e t count is few in
      let l = a.await in
      record {
        endpoint = a.endpoint;
        here = a.here;
        await = record { number = l.number; count = l.count; command = l.command; last = l.last; fields = l.fields; each = l.each; taken = l.taken; apart = l.apart };
      }

  module _ (m : Mem) where
    ready : IsOpenReady d m → IsOpenReady f m
    ready k = record {
      number = k.number;
      endpoint = k.endpoint;
      here = k.here;
      command = k.command;
      made = k.made;
      fresh = k.fresh;
      none = k.none;
      link = k.link;
      opened = record {
        here = k.opened.here;
        taken = k.opened.taken;
        queue_kept = k.opened.queue_kept;
        dummy_kept = k.opened.dummy_kept;
        no_transfer = k.opened.no_transfer;
        queue_words = k.opened.queue_words;
        dummy_words = k.opened.dummy_words;
        range = k.opened.range;
      };
    }

    lent : (member : ℕ → Bool) (parts : StructureSets) → IsOpenLent d member parts → IsOpenLent f member parts
    lent member parts k = record { number = k.number; endpoint = k.endpoint; here = k.here; command = k.command; made = k.made; fresh = k.fresh; unmet = k.unmet; none = k.none; link = k.link; part = k.part }

    chain_ready : IsChainReady d m → IsChainReady f m
    chain_ready k = record {
      number = k.number;
      endpoint = k.endpoint;
      here = k.here;
      command = k.command;
      made = k.made;
      place = k.place;
      placed = k.placed;
      link = k.link;
      opened = record {
        here = k.opened.here;
        taken = k.opened.taken;
        queue_kept = k.opened.queue_kept;
        dummy_kept = k.opened.dummy_kept;
        no_transfer = k.opened.no_transfer;
        queue_words = k.opened.queue_words;
        dummy_words = k.opened.dummy_words;
        range = k.opened.range;
      };
      links = k.links;
    }

    chain_lent : (member : ℕ → Bool) (recent : ℕ → Option Kind) (parts : StructureSets) → IsChainLent d member recent parts → IsChainLent f member recent parts
    chain_lent member recent parts k = record {
      number = k.number;
      endpoint = k.endpoint;
      here = k.here;
      queued = k.queued;
      command = k.command;
      made = k.made;
      place = k.place;
      placed = k.placed;
      work = k.work;
      under_way = k.under_way;
      adds = k.adds;
      links = k.links;
      unmet = k.unmet;
      fresh = k.fresh;
      link = k.link;
      off = k.off;
      part = k.part;
    }

    to_be_lent : (b : ℕ) (words : List ℕ) → IsToBeLent (queued d) m b words → IsToBeLent (queued f) m b words
    to_be_lent b words k =
        let r = k.awaits in
        record {
          number = k.number;
          transfer = k.transfer;
          endpoint = k.endpoint;
          stage = k.stage;
          further = k.further;
          command = k.command;
          made = k.made;
          newest = k.newest;
          there = k.there;
          here = k.here;
          going = k.going;
          first = k.first;
          place = k.place;
          left = k.left;
          fresh = k.fresh;
          awaits = record {
            here = r.here;
            qtds = r.qtds;
            first = r.first;
            taken = r.taken;
            apart = r.apart;
            ends = r.ends;
            qtds_kept = r.qtds_kept;
            noted = r.noted;
            words = r.words;
            short = r.short;
            pids = r.pids;
          };
          stages = k.stages;
          sort = k.sort;
          are = k.are;
        }

    under_way : (member : ℕ → Bool) (recent : ℕ → Option Kind) (parts : StructureSets) (c : Option Command) → IsUnderWay d m member recent parts c → IsUnderWay f m member recent parts c
    unfolding chain_ready
    under_way member recent parts (Some (unfinished.Open queue)) k = ⊎_elim (λ (r : IsOpenReady d m). inl (ready r)) (λ (l : IsOpenLent d member parts). inr (lent member parts l)) k
    under_way member recent parts (Some (unfinished.Publish b words)) k = ⊎_elim (λ (g : IsToBeLent (queued d) m b words). inl (to_be_lent b words g)) (λ (made : 1 ≤ d.made). inr made) k
    under_way member recent parts (Some (unfinished.Unlink e b link)) k = k
    under_way member recent parts (Some unfinished.Chain) k = ⊎_elim
        (λ (r : IsChainToLend d m). inl (record { ready = chain_ready r.ready; work = r.work; begun = r.begun; newest = r.newest }))
        (λ (l : IsChainThere d member recent parts).
        let t = l.there in
        inr
        (record {
          lent = chain_lent member recent parts l.lent;
          there = record { number = t.number; endpoint = t.endpoint; here = t.here; command = t.command; fresh = t.fresh; none = t.none; part = t.part };
          unmet = l.unmet;
        })) k
    under_way member recent parts _ k = tt

  -- ---- turns

  asynchronous : AsynchronousTakesTurns (queued d) → AsynchronousTakesTurns (queued f)
  asynchronous t =
      let r = t.asynchronous in
      record {
        asynchronous = record {
          endpoints = r.endpoints;
          moves = λ i y there. let m = r.moves i y there in record { endpoint = m.endpoint; here = m.here; sort = m.sort };
          command = r.command;
          leaver = r.leaver;
          unlinks = r.unlinks;
          removals = r.removals;
        };
        chained = t.chained;
        turns = record { places = t.turns.places; turns = t.turns.turns; returned = t.turns.returned };
      }

  turns : QueuesTakeTurns d → QueuesTakeTurns f
  turns k = record { turns = asynchronous k.turns; kinds_fit = k.kinds_fit; harvested = k.harvested; cancelled = k.cancelled; leaver = k.leaver; ring = k.ring }

  -- ---- memory

  module _ (base : Base) (member : ℕ → Bool) (recent : ℕ → Option Kind) (descs parts : StructureSets) (hand : Hand) (frame : FrameHand) (c : Content) where
    framed : (met : ℕ → Option Kind) → IsFramed base member met descs parts hand frame c d → IsFramed base member met descs parts hand frame c (refused_line d line name why)
    framed met old = record {
      operating = old.operating;
      start = old.start;
      aligned = old.aligned;
      runs = old.runs;
      place = refused_in_place d line name why c.memory old.place;
      list = keeps_list c.memory old.list;
      driven = old.driven;
      described = old.described;
      extents = old.extents;
    }

    now : IsFramedNow base member recent descs parts hand frame c d → IsFramedNow base member recent descs parts hand frame c (refused_line d line name why)
    now old = record {
      framed = framed _ old.framed;
      recent_are = old.recent_are;
      apart = old.apart;
      chained = old.chained;
      queued = links old.queued;
      planned = old.planned;
      in_frames = in_frames old.in_frames;
    }

-- ---- the world

pub refused_mixed : (s : Standing) (w : World) (line : ℕ) (name : EpName) (why : OfferError) → IsWalking (commanded_by w line name (Err why)) → IsMixedAt s w
    → IsMixedAt s (commanded_by w line name (Err why))
refused_mixed s w line name why walking k =
    let d = w.driver in
    let g = refused_line d line name why in
    let q = queued g in
    record {
      now = now d line name why opening_base s.member s.recent s.descs s.parts s.hand s.frame (controller_parts w) k.now;
      turns = turns d line name why k.turns;
      ring = met_stays d g s.member
          (same_ends d g (record { waiting = refl; rung = refl; opens = λ c is. is }) (record { waiting = refl; rung = refl; opens = λ c is. is }) refl) k.ring;
      queues = beside (queued d) q.reports q.store q.room q.periodic s.near s.streams s.ends s.parts s.order s.out k.queues;
      under_way = under_way d line name why w.memory s.member s.recent s.parts d.command k.under_way;
      walking = walking;
      numbers = k.numbers;
      masks = k.masks;
      awaiting = await d line name why w.memory k.awaiting;
      owed = k.owed;
      bytes = k.bytes;
    }
