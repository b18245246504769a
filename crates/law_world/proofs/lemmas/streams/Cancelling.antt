-- A cancel leaves queues fed: it is refused, or an endpoint is to leave the ring.
use Rattle.std.proofs.Common.{◌≡◌, ℕ, ◌*◌, Bool, true, List, Option, Some, Result, Ok, Err, ap, sym, subst, ◌∙◌, ⊎_elim, inl, inr, refl}
use Rattle.usb_base.specs.declared.commands.Cmd.{Cmd}
use Rattle.usb_base.specs.declared.commands.Cmd.TheVariants as commands
use Rattle.usb_base.specs.declared.endpoints.EpDesc.{EpDesc}
use Rattle.usb_base.specs.declared.endpoints.EpName.{EpName}
use Rattle.usb_base.specs.declared.reports.OfferError.{OfferError}
use Rattle.bus_wire.specs.Bus.{Fixed}
use Rattle.word_mem.specs.Memory.{Mem}
use Rattle.drv_table.specs.declared.content.Command.{Command}
use Rattle.drv_table.specs.declared.content.Command.TheVariants as unfinished
use Rattle.drv_table.specs.DriverContent.{DriverContent}
use Rattle.drv_table.specs.Accepting.{Offered}
use Rattle.drv_table.specs.Offers.{offered, IsOffered}
use Rattle.drv_table.specs.Words.{head_block, queue_head}
use Rattle.law_driver.specs.run_owners.Accepts.{Cancels}
use Rattle.hc_core.specs.Controller.{content}
use Rattle.claims_base.specs.Controller.{opening_base}
use Rattle.law_driver_ring.specs.Driven.{DrivesRing}
use Rattle.law_driver_ring.proofs.Commanding.{cancel_drives}
use Rattle.law_controller.specs.controlled_streams.Control.{IsFrameless, off, empty}
use Rattle.law_driver.specs.in_place.InPlace.{IsInPlace}
use Rattle.law_driver.proofs.lemmas.in_place.Laws.{commands_keep_all_in_place}
use Rattle.law_world.proofs.lemmas.steps.lemmas.worlds_in_place.Refused.{refused_in_place}
use Rattle.bus_world.specs.World.{World, controller_parts, refused_line, commanded_by}
use Rattle.law_world.specs.steps.Streaming.{Streams, Standing}
use Rattle.law_world.specs.streams.shared_worlds.Working.{IsWorking}
use Rattle.claims_driver.specs.Scripts.{comes_in}
use Rattle.law_driver.specs.AsynchronousScripts.{OpensAsynchronous}
use Rattle.law_driver.specs.chained_transfers.AsynchronousTurns.{AsynchronousTakesTurns}
use Rattle.law_driver.proofs.lemmas.chained_transfers.Accepting.{asynchronous_command_is_accepted}
use Rattle.law_driver.proofs.lemmas.chained_transfers.Commands.{commands_keep_asynchronous_turns}
use Rattle.claims_report.specs.Streams.{has_stream}
use Rattle.law_queues.specs.fed_lends.Commands.{QueuesStand}
use Rattle.async_walk.specs.Rows.{place}
use Rattle.law_structures.specs.lent_structures.Structures.{StructureSets}
use Rattle.law_ring.specs.Told.{Endpoint as Told, endpoint_of}
use Rattle.law_driver_ring.specs.fed_queues.Fed.{IsPublished}
use Rattle.law_driver_ring.specs.fed_queues.Places.{HasHead, AreMet, HaveStreams}
use Rattle.law_driver_ring.proofs.lemmas.fed_queues.Places.{SameQueues, same_ends, met_stays, streams_stay}
use Rattle.law_queues.specs.leaving_drivers.Before.{IsAsBefore, NearSame, UnlinksAtMost, WasSame}
use Rattle.law_queues.proofs.lemmas.leaving_drivers.Alike.{near_fewer, met_before, head_now}
use Rattle.law_queues.proofs.lemmas.leaving_drivers.Leaving.{cancel_is_as_before}
use Rattle.law_world.proofs.lemmas.steps.lemmas.left_queues.Same.{fed_now, last_now, still_out_now}
use Rattle.law_world.specs.streams.Feeding.{there_of, IsFeeding}
use Rattle.law_world.proofs.lemmas.steps.lemmas.control_queues.Beside.{same_keep_controls, commands_keep_controls}
use Rattle.law_world.proofs.lemmas.streams.Names.{command_apart}
use Rattle.law_world.proofs.lemmas.streams.Told.{there_by, bulk_there}
use Rattle.law_world.specs.streams.FeedingLaws.{OpensApart}
use Rattle.law_world.specs.streams.Cancelling.{CancelFeeds}

-- ---- a refusal

refused_queues : (d : DriverContent) (line : ℕ) (name : EpName) (why : OfferError) (member streams : ℕ → Bool) (ends : ℕ → Told) (parts : StructureSets) (order : ℕ → ℕ → ℕ) (out : ℕ → List ℕ)
    → QueuesStand d member streams ends parts order out → QueuesStand (refused_line d line name why) member streams ends parts order out
refused_queues d line name why member streams ends parts order out old = record {
  met = met_stays d (refused_line d line name why) member same old.met;
  streams_are = streams_stay d (refused_line d line name why) streams ends same old.streams_are;
  fed = record { dummies = old.fed.dummies; pieces = old.fed.pieces; publishes = λ b words is. published b words (old.fed.publishes b words is) };
  last = record { dummies = old.last.dummies; taken = old.last.taken; sorted = old.last.sorted };
  out_are = λ e x here there. old.out_are e x here (record { linked = there.linked; kept = there.kept });
}
  where
    same : SameQueues d (refused_line d line name why)
    same = same_ends d (refused_line d line name why) (record { waiting = refl; rung = refl; opens = λ c is. is }) (record { waiting = refl; rung = refl; opens = λ c is. is }) refl

    published : (b : ℕ) (words : List ℕ) → IsPublished d parts b words → IsPublished (refused_line d line name why) parts b words
    published b words p = record {
      number = p.number;
      transfer = p.transfer;
      endpoint = p.endpoint;
      newest = p.newest;
      there = p.there;
      fresh = p.fresh;
      place = p.place;
      here = p.here;
      going = p.going;
      qtd = p.qtd;
      are = p.are;
      range = p.range;
      noted = p.noted;
      active = p.active;
      pid = p.pid;
      total = p.total;
      stored = p.stored;
      places = p.places;
      blank = p.blank;
      few = p.few;
      long = p.long;
      may = p.may;
    }

refused_turns : (d : DriverContent) (line : ℕ) (name : EpName) (why : OfferError) → AsynchronousTakesTurns d → AsynchronousTakesTurns (refused_line d line name why)
refused_turns d line name why t =
    let r = t.asynchronous in
    record {
      asynchronous = record {
        endpoints = r.endpoints;
        moves = λ i y there. let m = r.moves i y there in record { endpoint = m.endpoint; here = m.here; sort = m.sort };
        command = r.command;
        leaver = r.leaver;
        unlinks = r.unlinks;
        removals = r.removals;
      };
      chained = t.chained;
      turns = record { places = t.turns.places; turns = t.turns.turns; returned = t.turns.returned };
    }

pub refused_feeds : (fixed : Fixed) (member : ℕ → Bool) (x : Streams) (s : Standing) (w : World) (line : ℕ) (name : EpName) (why : OfferError) → IsFeeding fixed member x s w → IsFeeding fixed member x s (commanded_by w line name (Err why))
refused_feeds fixed member x s w line name why f =
    let k = f.working in
    record {
      working = record {
        operating = k.operating;
        streaming = record { on = k.streaming.on; ends = k.streaming.ends; controlled = k.streaming.controlled; piped = k.streaming.piped; right = k.streaming.right };
        place = refused_in_place w.driver line name why w.memory k.place;
        driven = k.driven;
      };
      turns = refused_turns w.driver line name why f.turns;
      queues = refused_queues w.driver line name why member x.streams x.endpoint s.parts s.order s.out f.queues;
      counted = f.counted;
      controls = same_keep_controls w.driver (refused_line w.driver line name why) s.parts s.order s.out refl refl refl refl refl refl f.controls;
      controls_apart = f.controls_apart;
      unopened = f.unopened;
    }

-- ---- an accepted command

still_frameless : (words : List ℕ) (w : World) (m : Mem) → IsFrameless opening_base words (controller_parts w) → IsFrameless opening_base words (content w.control w.registers m)
still_frameless words w m (off is) = off is
still_frameless words w m (empty none over) = empty none over

pub accepted_working : (fixed : Fixed) (member : ℕ → Bool) (x : Streams) (s : Standing) (w : World) (line : ℕ) (name : EpName) (o : Offered) → IsWorking fixed opening_base member x s w → IsInPlace o.memory o.driver
    → DrivesRing opening_base member s.parts s.hand (place w.control.walk w.registers o.memory) o.driver → IsWorking fixed opening_base member x s (commanded_by w line name (Ok o))
accepted_working fixed member x s w line name o k in_place drives = record {
  operating = k.operating;
  streaming = record {
    on = k.streaming.on;
    ends = k.streaming.ends;
    controlled = record {
      ring = drives.ring;
      between = k.streaming.controlled.between;
      list = k.streaming.controlled.list;
      frameless = still_frameless k.streaming.controlled.list.words w o.memory k.streaming.controlled.frameless;
    };
    piped = k.streaming.piped;
    right = k.streaming.right;
  };
  place = in_place;
  driven = drives.driven;
}

pub drives_now : (fixed : Fixed) (member : ℕ → Bool) (x : Streams) (s : Standing) (w : World) → IsWorking fixed opening_base member x s w → DrivesRing opening_base member s.parts s.hand (place w.control.walk w.registers w.memory) w.driver
drives_now fixed member x s w k = record { ring = k.streaming.controlled.ring; driven = k.driven }

-- ---- queue heads that are met

module _ (d f : DriverContent) (b : IsAsBefore d f) (near : NearSame d f) where
  met_now : (member : ℕ → Bool) → AreMet d member → AreMet f member
  met_now member old = record {
    head = old.head;
    each = λ e z here m.
        let w = b.ends e z here in
        ap (λ (q : ℕ). member (32 * q)) w.queue ∙ old.each e w.endpoint w.here (met_before d f e z w here b (near_fewer d f near) m);
    only = λ n on. ⊎_elim (λ (head : n ≡ 32 * head_block). inl head) (λ (h : HasHead d n). inr (head_now d f n b near h)) (old.only n on);
  }

  streams_now : (streams : ℕ → Bool) (ends : ℕ → Told) → HaveStreams d streams ends → HaveStreams f streams ends
  streams_now streams ends old = record {
    each = λ e z here m.
        let w = b.ends e z here in
        let one = old.each e w.endpoint w.here (met_before d f e z w here b (near_fewer d f near) m) in (
          ap (λ (q : ℕ). streams (32 * q)) w.queue ∙ one.0 ∙ ap (λ (desc : EpDesc). comes_in desc.name.way) (sym w.desc),
          ap (λ (q : ℕ). ends (32 * q)) w.queue ∙ one.1 ∙ ap (λ (desc : EpDesc). endpoint_of (queue_head desc 0 w.endpoint.dummy)) (sym w.desc)
              ∙ ap (λ (c : ℕ). endpoint_of (queue_head z.desc 0 c)) (sym w.dummy),
        );
    only = λ n on. head_now d f n b near (old.only n on);
  }

queues_now : (d f : DriverContent) (member streams : ℕ → Bool) (ends : ℕ → Told) (parts : StructureSets) (order : ℕ → ℕ → ℕ) (out : ℕ → List ℕ) → IsAsBefore d f → NearSame d f → QueuesStand d member streams ends parts order out → QueuesStand f member streams ends parts order out
queues_now d f member streams ends parts order out b near old = record {
  met = met_now d f b near member old.met;
  streams_are = streams_now d f b near streams ends old.streams_are;
  fed = fed_now d f b parts old.fed;
  last = last_now d f b parts order old.last;
  out_are = still_out_now d f b out old.out_are;
}

there_was : (d f : DriverContent) (n : ℕ) → IsAsBefore d f → there_of f n ≡ true → there_of d n ≡ true
there_was d f n b on =
    let h = bulk_there f n on in
    let w : WasSame d h.has.number h.has.endpoint = b.ends h.has.number h.has.endpoint h.has.here in
    there_by d n
    (record {
      has = record {
        number = h.has.number;
        endpoint = w.endpoint;
        here = w.here;
        there = record { linked = λ is. never_opens d.command w.endpoint.queue b.idle is; kept = sym w.gone ∙ h.has.there.kept };
        at = h.has.at ∙ ap (λ (q : ℕ). 32 * q) w.queue;
      };
      stream = ap (λ (desc : EpDesc). has_stream desc.kind) (sym w.desc) ∙ h.stream;
    })
  where
    never_opens : (c : Option Command) (q : ℕ) → UnlinksAtMost c → c ≡ Some (unfinished.Open q) → ⊥
    never_opens c q at is = subst UnlinksAtMost is at

pub cancelled_feeds : (fixed : Fixed) (member : ℕ → Bool) (x : Streams) (s : Standing) (w : World) (line : ℕ) (name : EpName) (cmd : Cmd) (o : Offered) → IsInPlace o.memory o.driver
    → OpensAsynchronous cmd → OpensApart x.stream w cmd → IsFeeding fixed member x s w → offered w.driver w.memory cmd ≡ Ok o → Cancels w.driver w.memory o → IsFeeding fixed member x s (commanded_by w line name (Ok o))
cancelled_feeds fixed member x s w line name cmd o in_place only apart f is why =
    let k = f.working in
    let b = cancel_is_as_before w.driver w.memory o f.turns why in
    record {
      working = accepted_working fixed member x s w line name o k in_place (cancel_drives opening_base member s.parts s.hand w.control.walk w.registers w.memory w.driver o why (drives_now fixed member x s w k));
      turns = commands_keep_asynchronous_turns w.driver w.memory cmd o k.place.sound.stands k.place.sound.owners f.turns only is;
      queues = queues_now w.driver o.driver member x.streams x.endpoint s.parts s.order s.out b.0 b.1 f.queues;
      counted = λ n on. f.counted n (there_was w.driver o.driver n b.0 on);
      controls = commands_keep_controls w.driver w.memory cmd o s.parts s.order s.out f.turns.asynchronous only is f.controls;
      controls_apart = command_apart x.stream w cmd o f.turns only apart is f.controls_apart;
      unopened = f.unopened;
    }

cancel_by : (fixed : Fixed) (member : ℕ → Bool) (x : Streams) (s : Standing) (w : World) (line : ℕ) (name : EpName) (r : Result Offered OfferError) → IsOffered w.driver.room (commands.Cancel name) → IsFeeding fixed member x s w
    → offered w.driver w.memory (commands.Cancel name) ≡ r → IsFeeding fixed member x s (commanded_by w line name r)
cancel_by fixed member x s w line name (Ok o) room f is =
    let why : Cancels w.driver w.memory o =
    asynchronous_command_is_accepted w.driver w.memory (commands.Cancel name) o f.turns.asynchronous tt is in
    cancelled_feeds fixed member x s w line name (commands.Cancel name) o (commands_keep_all_in_place w.driver w.memory (commands.Cancel name) o room f.working.place is) tt (λ p accepted. tt) f is why
cancel_by fixed member x s w line name (Err why) room f is = refused_feeds fixed member x s w line name why f

pub cancel_feeds : CancelFeeds
cancel_feeds fixed member x s w line name room f = cancel_by fixed member x s w line name (offered w.driver w.memory (commands.Cancel name)) room f refl
