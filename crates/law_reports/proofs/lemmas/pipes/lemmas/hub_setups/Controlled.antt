-- Each event of the controller leaves what is sent as a SETUP to a device among the setup bytes of requests to it, and so hears its hub.
use Rattle.std.proofs.Common.{◌≡◌, ◌≢◌, ℕ, ◌-◌, ◌*◌, ◌≤◌, Bool, true, false, if◌then◌else◌, List, [], length, slice_get}
use Rattle.std.proofs.Common.{Some, ap, refl, sym, subst, ◌∙◌, ⊎_elim, arith}
use Rattle.std.specs.Prelude.{◌⊎◌}
use Rattle.std.specs.List.{AllByRecursion}
use Rattle.std.proofs.lemmas.Bool.{cases_eq, true≢false}
use Rattle.std.proofs.lemmas.Option.{same_Some}
use Rattle.law_driver.proofs.Common.{get_queued}
use Rattle.law_driver_ring.proofs.Common.{partly_idle}
use Rattle.law_queues.proofs.Common.{one_qtd}
use Rattle.law_world.proofs.Common.{no_open}
use Rattle.usb_base.specs.declared.packets.Ask.{Ask}
use Rattle.usb_base.specs.declared.packets.EpKind.{EpKind}
use Rattle.usb_base.specs.declared.packets.EpKind.TheVariants as kinds
use Rattle.usb_base.specs.declared.packets.Pid.{Pid}
use Rattle.usb_base.specs.declared.packets.Pid.TheVariants as pids
use Rattle.usb_base.specs.declared.packets.Split.{Split}
use Rattle.usb_base.specs.declared.packets.Split.TheVariants.{Plain, Start, Complete}
use Rattle.qh_qtd.specs.declared.qtd.Qtd.{Qtd}
use Rattle.qh_qtd.specs.declared.queue_head.Qh.{Qh}
use Rattle.hc_copy.specs.Overlay.{buffer_place}
use Rattle.hc_copy.specs.Planning.{pid_at, transaction_of}
use Rattle.hc_copy.specs.Transacting.{call_in}
use Rattle.transactions.specs.Asks.{pinged, token_pid, sends}
use Rattle.bus_wire.specs.Bus.{Fixed}
use Rattle.claims_base.specs.Controller.{opening_base}
use Rattle.claims_driver.specs.Owners.{runs_of_endpoint, runs_of_transfer}
use Rattle.drv_table.specs.declared.content.Endpoint.{Endpoint}
use Rattle.drv_table.specs.declared.content.Transfer.{Transfer}
use Rattle.drv_table.specs.DriverContent.{DriverContent}
use Rattle.drv_table.specs.Words.{head_block}
use Rattle.law_driver.specs.queued_drivers.Queued.{queued_endpoint, queued}
use Rattle.law_structures.specs.lent_structures.Structures.{QueueHead, Buffer, StructureSets}
use Rattle.law_structures.specs.lent_structures.Sound.{buffer_name, IsWorking, IsMember}
use Rattle.law_structures.specs.lent_structures.Alters.{Alters}
use Rattle.law_structures.proofs.lemmas.lent_structures.Altering.{found_queue, found_element}
use Rattle.law_ring.specs.Effects.{bytes_in, buffer_of, Asks}
use Rattle.law_ring.specs.Hand.{Hand}
use Rattle.law_ring.specs.QueueParts.{IsQueuePart}
use Rattle.law_ring.specs.Told.{HasEndpoint, Endpoint as Told}
use Rattle.law_frames.specs.FrameStreams.{IsIsoAsk, of_itd, of_sitd}
use Rattle.law_descriptors.specs.Both.{both, parts_now}
use Rattle.law_descriptors.specs.Meeting.{met}
use Rattle.law_descriptors.proofs.Telling.{queue_off}
use Rattle.law_descriptors.proofs.lemmas.queue_events.Events.{both_keeps_structures}
use Rattle.law_driver_ring.specs.Published.{partly}
use Rattle.law_driver_ring.specs.fed_queues.Fed.{IsPublished}
use Rattle.law_driver_ring.specs.fed_queues.Places.{IsMet}
use Rattle.law_driver_ring.proofs.lemmas.fed_queues.Places.{stands_met}
use Rattle.law_controller.proofs.lemmas.aligned_copies.Controlling.{aligned_placed}
use Rattle.law_controller.proofs.lemmas.lent_writes.Controlling.{each_event_of_the_controller_writes_lent_words}
use Rattle.law_ring.specs.walk_writes.Writes.{WritesLent}
use Rattle.law_driver_ring.proofs.Stays.{written_stays}
use Rattle.law_microframes.proofs.lemmas.visits.AskedHeads.{asked_is_near}
use Rattle.law_world.specs.memory.Mixed.{Standing}
use Rattle.law_world.specs.memory.Steps.{standing_then, IsMixedControlled}
use Rattle.law_world.specs.steps.Streaming.{begins_by, transacts_by, wired}
use Rattle.law_world.proofs.lemmas.memory.HarvestKept.{describes}
use Rattle.law_world.proofs.lemmas.steps.StreamTurning.{world_has_row}
use Rattle.bus_world.specs.World.{World, controller_parts, controller_next}
use Rattle.law_reports.specs.lines.Lined.{in_hand, Lines}
use Rattle.law_reports.specs.pipes.Declared.{Sides}
use Rattle.law_reports.specs.pipes.Piped.{Heads, IsPiped}
use Rattle.law_reports.specs.requests.Asking.{IsHeldRequest}
use Rattle.law_reports.specs.requests.request_bytes.Held.{RequestIsHeld}
use Rattle.law_reports.proofs.lemmas.pipes.Controlled.{c, z}
use Rattle.law_reports.proofs.lemmas.pipes.Names.{IsMetHead, met_head, queue_same}
use Rattle.law_reports.proofs.lemmas.requests.HighFooting.{ring_of}
use Rattle.law_reports.proofs.lemmas.requests.lemmas.request_bytes.Accepting.{held_request_stays}
use Rattle.law_reports.specs.pipes.hub_setups.Setups.{SendsOnly, AreSetUp, IsSetupHeld, IsSettingUp, PublishesOnly, HearsOnly, IsHeeding}
use Rattle.law_reports.proofs.lemmas.pipes.lemmas.hub_setups.Heard.{IsFit, event_hears}
use Rattle.law_reports.proofs.lemmas.pipes.lemmas.hub_setups.KeptBytes.{IsUnreceived, StaysAt, both_leave_bytes}
use Rattle.law_reports.proofs.lemmas.pipes.lemmas.hub_setups.Sets.{sets_fewer, fewer_after, kept_bytes, sends_none}

-- ---- tokens

pinged_none : (kind : EpKind) (ping : Bool) → pinged kind ping ≡ pids.Setup → ⊥
pinged_none kinds.Iso ping e = cc
pinged_none kinds.Bulk true e = cc
pinged_none kinds.Bulk false e = cc
pinged_none kinds.Control true e = cc
pinged_none kinds.Control false e = cc
pinged_none kinds.Interrupt true e = cc
pinged_none kinds.Interrupt false e = cc

token_setup : (split : Split) (pid out : Pid) → (out ≡ pids.Setup → ⊥) → token_pid split pid out ≡ pids.Setup → pid ≡ pids.Setup
token_setup Plain pids.Out out none e = absurd (none e)
token_setup _ pid out none e = e

iso_none : (b : Bool) → (if b then pids.In else pids.Out) ≡ pids.Setup → ⊥
iso_none true e = cc
iso_none false e = cc

sends_eight : (split : Split) (pid : Pid) (out : List ℕ) → length (sends split pid out) ≡ 8 → sends split pid out ≡ out
sends_eight (Complete hub port) pid out e = absurd (omega (arith, e))
sends_eight Plain pids.In out e = absurd (omega (arith, e))
sends_eight Plain pids.Ping out e = absurd (omega (arith, e))
sends_eight (Start hub port part) pids.In out e = absurd (omega (arith, e))
sends_eight (Start hub port part) pids.Ping out e = absurd (omega (arith, e))
sends_eight _ pid out e = refl

module _ (fixed : Fixed) (x : Sides) (s : Standing) (m : Lines) (h : Heads) (w : World) (k : IsPiped fixed x s m h w) (a : ℕ)
    (Q : List ℕ → Type 0) (heeds : IsHeeding a Q s h w) where
  abbrev d : DriverContent
  d = queued w.driver

  abbrev new : World
  new = controller_next fixed w

  abbrev event : IsMixedControlled fixed s w
  event = c fixed x s m h w k

  abbrev after : StructureSets
  after = parts_now s.descs s.parts (c fixed x s m h w k).event.now

  -- ---- one queue

  part_at : (n : ℕ) → s.near n ≡ true → IsQueuePart n (s.parts n)
  part_at n near =
      ⊎_elim
      (λ (head : n ≡ 32 * head_block).
      let i : IsMember s.member n (s.parts n) = (ring_of s w k.mixed).members n (ap s.member head ∙ k.mixed.ring.head) in
      record { queue = i.queue; here = i.here; sound = i.sound; elements = i.elements; own = i.own })
      (λ (v : IsMetHead w.driver n).
      subst (λ (i : ℕ). IsQueuePart i (s.parts i)) (sym (v.at ∙ ap (λ (q : ℕ). 32 * q) (sym (queue_same v.endpoint))))
      (k.mixed.queues.sound v.number (queued_endpoint v.endpoint) (get_queued w.driver.endpoints v.number v.endpoint v.here) v.met))
      (met_head w.driver s.near k.mixed.queues.queues.met n near)

  alters : (n : ℕ) → Alters (s.parts n) (parts_now s.descs s.parts (c fixed x s m h w k).event.now n)
  alters n =
      (both_keeps_structures begins_by transacts_by opening_base s.member (met w.driver s.recent) s.descs s.parts s.hand s.frame
      (controller_parts w) (wired fixed w) (wired fixed (controller_next fixed w)) event.event.now event.event.later event.event.frame_later
      k.mixed.now.framed.runs event.event.effect n).alters

  stay : (n : ℕ) → s.near n ≡ true → (name : ℕ) → IsUnreceived (s.parts n) name
      → StaysAt (s.parts n) (parts_now s.descs s.parts (c fixed x s m h w k).event.now n) name
  stay n near name none =
      let part : IsQueuePart n (s.parts n) = part_at n near in
      both_leave_bytes begins_by transacts_by opening_base s.member (met w.driver s.recent) s.descs s.parts s.hand s.frame
      (controller_parts w) (wired fixed w) (wired fixed (controller_next fixed w)) event.event.now event.event.later event.event.frame_later
      k.mixed.now.framed.runs event.event.effect n
      (queue_off w.driver s.descs s.parts (describes s w k.mixed) n n (QueueHead part.queue) part.here) part name none

  sets_then : AreSetUp a Q s.near h.ends (parts_now s.descs s.parts (c fixed x s m h w k).event.now)
  sets_then n near address =
      sets_fewer Q (s.parts n) (after n) (fewer_after (s.parts n) (after n) (part_at n near).own (alters n) (stay n near))
      (heeds.sets_up n near address)

  -- ---- the request that is being published

  writes : WritesLent w.memory (controller_next fixed w).memory
  writes =
      each_event_of_the_controller_writes_lent_words begins_by transacts_by (controller_parts w) (wired fixed w) (controller_parts new)
      (wired fixed new)
      (aligned_placed (controller_parts w) k.mixed.now.framed.aligned) (world_has_row fixed w)

  held_then : (b : ℕ) (words : List ℕ) → IsSetupHeld Q (queued w.driver) w.memory b words
      → IsSetupHeld Q (queued w.driver) (controller_next fixed w).memory b words
  held_then b words old =
      let held : IsHeldRequest d w.memory b words old.request = old.held in
      let l = held.lends in
      let stands = k.mixed.now.framed.place.sound.stands in
      record {
        request = old.request;
        whole = old.whole;
        held = record {
          lends = record {
            number = l.number;
            transfer = l.transfer;
            endpoint = l.endpoint;
            stage = l.stage;
            further = l.further;
            command = l.command;
            made = l.made;
            newest = l.newest;
            there = l.there;
            here = l.here;
            going = l.going;
            first = l.first;
            place = l.place;
            left = l.left;
            fresh = l.fresh;
            awaits = written_stays d w.memory new.memory l.number (runs_of_transfer l.transfer) (runs_of_endpoint l.endpoint) l.stage
                l.further l.awaits stands writes.words;
            stages = l.stages;
            sort = l.sort;
            are = l.are;
          };
          stages = held.stages;
          held = subst (λ (i : ℕ). RequestIsHeld new.memory d.notes i old.request) l.first
              (held_request_stays d w.memory new.memory l.number (runs_of_transfer l.transfer) (runs_of_endpoint l.endpoint) l.stage
              l.further old.request l.awaits held.stages stands writes.words
              (subst (λ (i : ℕ). RequestIsHeld w.memory d.notes i old.request) (sym l.first) held.held));
        };
        fits = old.fits;
      }

  -- its first qTD isn't there yet, and no other names its buffer
  module _ (b : ℕ) (words : List ℕ) (p : IsPublished (queued w.driver) s.parts b words) (some : 1 ≤ (queued w.driver).made)
      (near : s.near (32 * p.endpoint.queue) ≡ true) where
    abbrev own : ℕ
    own = 32 * p.endpoint.queue

    unreceived : (pages : List ℕ) (i : ℕ) (bs : List ℕ)
        → s.parts (32 * p.endpoint.queue) (buffer_name p.qtd) ≡ Some (Buffer pages i bs)
        → IsUnreceived (s.parts (32 * p.endpoint.queue)) (buffer_name p.qtd)
    unreceived pages i bs at e t there on one named =
        ⊎_elim
        (λ (same : e ≡ 32 * b).
        let few = p.few in
        let is : partly p.qtd ((queued w.driver).made - 1) ≡ t =
        found_element (s.parts own (32 * b)) (partly p.qtd ((queued w.driver).made - 1)) t p.stored (ap (s.parts own) (sym same) ∙ there) in
        true≢false (sym on ∙ ap (λ (u : Qtd). u.token.active) (sym is)
        ∙ partly_idle p.qtd ((queued w.driver).made - 1) (omega (arith, some, few))))
        (λ (differs : e ≢ 32 * b).
        (p.may some).own e t differs there named (record { pages = pages; start = i; bytes = bs; here = at })) (cases_eq e (32 * b))

    lent_then : SendsOnly Q (buffer_of (s.parts (32 * p.endpoint.queue)) p.qtd)
        → SendsOnly Q (buffer_of (parts_now s.descs s.parts (c fixed x s m h w k).event.now (32 * p.endpoint.queue)) p.qtd)
    lent_then old =
        ⊎_elim
        (λ (same : bytes_in (after own (buffer_name p.qtd)) ≡ bytes_in (s.parts own (buffer_name p.qtd))).
        subst (λ (bs : List ℕ). SendsOnly Q bs) (sym same) old)
        (λ (none : bytes_in (after own (buffer_name p.qtd)) ≡ []). subst (λ (bs : List ℕ). SendsOnly Q bs) (sym none) (sends_none Q))
        (kept_bytes (s.parts own) (after own) (buffer_name p.qtd) (alters own)
        (λ pages i bs at. stay own near (buffer_name p.qtd) (unreceived pages i bs at) pages i bs at) (after own (buffer_name p.qtd)) refl)

  publishes_then : PublishesOnly a Q (queued w.driver) (controller_next fixed w).memory
      (parts_now s.descs s.parts (c fixed x s m h w k).event.now)
  publishes_then b words t y end command newest there here sort address =
      let set : IsSettingUp Q d w.memory (s.parts (32 * end.queue)) b words =
      heeds.publishes b words t y end command newest there here sort address in
      let p : IsPublished d s.parts b words = k.mixed.queues.queues.fed.publishes b words command in
      let last = p.newest in
      let number : t ≡ p.number = omega (arith, newest, last) in
      let transfer : y ≡ p.transfer = same_Some y p.transfer (sym there ∙ ap (slice_get d.transfers) number ∙ p.there) in
      let its : end ≡ p.endpoint =
      same_Some end p.endpoint (sym here ∙ ap (λ (i : Transfer). slice_get d.endpoints i.endpoint) transfer ∙ p.here) in
      let is_met : IsMet d p.transfer.endpoint p.endpoint =
      stands_met d p.transfer.endpoint p.endpoint
      (k.mixed.turns.turns.asynchronous.endpoints p.transfer.endpoint p.endpoint p.here) p.going
      (λ opens_it. no_open b p.endpoint.queue words (sym command ∙ opens_it)) in
      record {
        held = λ none. held_then b words (set.held none);
        lent = λ some u are range.
            let same : u ≡ p.qtd = one_qtd u p.qtd range p.range (sym are ∙ p.are) in
            subst (λ (i : Endpoint). SendsOnly Q (buffer_of (after (32 * i.queue)) u)) (sym its)
            (subst (λ (v : Qtd). SendsOnly Q (buffer_of (after (32 * p.endpoint.queue)) v)) (sym same)
            (lent_then b words p some (k.mixed.queues.queues.met.each p.transfer.endpoint p.endpoint p.here is_met)
            (subst (λ (v : Qtd). SendsOnly Q (buffer_of (s.parts (32 * p.endpoint.queue)) v)) same
            (subst (λ (i : Endpoint). SendsOnly Q (buffer_of (s.parts (32 * i.queue)) u)) its (set.lent some u are range)))));
      }

  -- ---- what its hub hears

  named : (n : ℕ) → s.near n ≡ true → HasEndpoint s.parts n (h.ends n)
  named n near = by (h.ins n) refl
    where
      by : (b : Bool) → h.ins n ≡ b → HasEndpoint s.parts n (h.ends n)
      by true is = (k.pipes.in_pipes.pipes n is).named
      by false is = (k.pipes.in_pipes.others n near is).0

  iso_fits : (ask : Ask) → IsIsoAsk (both s.descs s.parts) ask → (out : List ℕ) → IsFit a Q ask out
  iso_fits ask (of_itd n v here i) out at setup eight = absurd (iso_none v.dir_in (sym i.token ∙ setup))
  iso_fits ask (of_sitd n v here i) out at setup eight = absurd (iso_none v.dir_in (sym i.token ∙ setup))

  module _ (after : _) (later : Hand) (q : Asks transacts_by s.parts (in_hand s) (wired fixed w) after later) where
    abbrev n : ℕ
    n = q.copy.at

    near : s.near q.copy.at ≡ true
    near = asked_is_near s w k.mixed q.copy q.in_hand q.here q.works

    work : IsWorking (s.parts q.copy.at) q.copy.queue
    work =
        let part = q.part_is in
        (subst (λ (i : Qh). i.token.active ≡ true → IsWorking (s.parts n) i)
        (found_queue (s.parts n n) part.queue q.copy.queue part.here q.here) part.sound.work) q.works

    address : (h.ends q.copy.at).addr ≡ q.copy.queue.addr
    address =
        let has : HasEndpoint s.parts n (h.ends n) = named n near in
        ap (λ (t : Told). t.addr) has.is ∙ ap (λ (i : Qh). i.addr) (found_queue (s.parts n n) has.queue q.copy.queue has.head q.here)

    asks_fits : IsFit a Q (call_in (transaction_of q.kind q.copy.queue) q.out q.last).ask
        (call_in (transaction_of q.kind q.copy.queue) q.out q.last).out
    asks_fits at setup eight =
        let t = transaction_of q.kind q.copy.queue in
        let pid : pid_at q.copy.queue.token.pid ≡ pids.Setup =
        token_setup t.split t.pipe.pid (pinged t.pipe.kind t.host.ping) (pinged_none t.pipe.kind t.host.ping) setup in
        let same : (call_in t q.out q.last).out ≡ q.out = sends_eight t.split (call_in t q.out q.last).ask.pid q.out eight in
        let one : work.element ≡ q.sent.element =
        found_element (s.parts n q.copy.queue.current) work.element q.sent.element work.here q.sent.here in
        let are = same ∙ q.sent.are in
        let sends_it : SendsOnly Q (buffer_of (s.parts n) q.sent.element) =
        subst (λ (e : Qtd). SendsOnly Q (buffer_of (s.parts n) e)) one
        (heeds.sets_up n near (address ∙ at) q.copy.queue.current work.element work.here work.published (ap pid_at (sym work.pid) ∙ pid)) in
        subst Q (sym are)
        (sends_it (buffer_place q.copy.queue - q.sent.element.offset) t.bytes (ap length (sym are) ∙ eight))

  hubs_then : AllByRecursion (HearsOnly a Q) (controller_next fixed w).bus.hubs
  hubs_then =
      event_hears a Q s.parts (in_hand s) (wired fixed w) (wired fixed (controller_next fixed w)) _ _ iso_fits (asks_fits _ _)
      (z fixed x s m h w k) heeds.hubs

  pub controlled_heeds : IsHeeding a Q (standing_then s w (c fixed x s m h w k).event) h (controller_next fixed w)
  controlled_heeds = record { sets_up = sets_then; publishes = publishes_then; hubs = hubs_then }
