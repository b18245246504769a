-- The host of an interrupt IN endpoint below a hub, by whether it is in time: where it waits while a frame begins it isn't any more; at
-- each transaction of its queue head it is in time where the world says so.
use Rattle.std.proofs.Common.{◌≡◌, ℕ, ◌==◌, ◌%◌, Bool, true, false, not, if◌then◌else◌, List, Option, Some, None, ap, refl, sym, subst}
use Rattle.std.proofs.Common.{◌∙◌}
use Rattle.std.specs.Prelude.{◌&&◌, ◌||◌}
use Rattle.std.proofs.lemmas.Bool.{and_parts, eqb-true, eq-eqb, false≢true}
use Rattle.usb_base.specs.declared.packets.Dir.{Dir}
use Rattle.usb_base.specs.declared.packets.Dir.TheVariants as Directions
use Rattle.usb_base.specs.declared.packets.EpKind.{EpKind}
use Rattle.usb_base.specs.declared.packets.EpKind.TheVariants as kinds
use Rattle.hub_keys.specs.Keys.{direction_of}
use Rattle.hub_keys.specs.declared.key.Key.{Key}
use Rattle.qh_qtd.specs.declared.queue_head.Qh.{Qh}
use Rattle.bus_wire.specs.Bus.{Fixed, Wired}
use Rattle.claims_base.specs.Controller.{opening_base}
use Rattle.toggle_error.specs.declared.host.HostSide.{HostSide}
use Rattle.hc_copy.specs.Planning.{pid_at, host_in}
use Rattle.hc_core.specs.Controller.{frame_place}
use Rattle.hc_core.specs.declared.controller.MicroframePart.TheVariants.{Periodic, Asynchronous}
use Rattle.hc_interrupt.specs.Turns.{is_last_of}
use Rattle.periodic_walk.specs.declared.state.Hand.TheVariants as hands
use Rattle.periodic_walk.specs.declared.state.HeldQueue.{HeldQueue}
use Rattle.law_structures.specs.lent_structures.Sound.{IsWorking, IsSoundQueue}
use Rattle.law_structures.specs.lent_structures.Structures.{QueueHead, Structure, Structures, StructureSets}
use Rattle.law_structures.proofs.lemmas.lent_structures.Altering.{found_queue}
use Rattle.law_structures.proofs.lemmas.lent_structures.Reading.{head_read}
use Rattle.law_ring.specs.Hand.{Hand, Empty, copied_queue}
use Rattle.law_ring.specs.Pipes.{IsIn}
use Rattle.law_ring.specs.QueueParts.{IsQueuePart}
use Rattle.law_ring.specs.Told.{Endpoint as Told, endpoint_of, HasEndpoint}
use Rattle.law_frames.specs.Frame.{IsCopiedQueue, IsInFrame, IsFrameWalk}
use Rattle.law_frames.specs.FrameEffects.{MakesOfQueue}
use Rattle.law_frames.specs.FrameHand.{FrameHand, Nothing, OfQueue, OfSettled, OfItd, OfSitd, came, frame_held}
use Rattle.law_frames.specs.Met.{AQueue}
use Rattle.law_controller.specs.frame_control.Joined.{joined, begun, moved}
use Rattle.law_descriptors.specs.Both.{both}
use Rattle.law_descriptors.specs.Meeting.{met}
use Rattle.law_descriptors.specs.PartLaws.{IsDescribing}
use Rattle.law_descriptors.proofs.Standing.{both_off}
use Rattle.law_descriptors.proofs.Telling.{queue_off}
use Rattle.law_below_hubs.specs.HostEvents.{hand_host, told_key, IsInBehind, AsksInTime, BeginsNoFrame, StaysInTime}
use Rattle.law_below_hubs.specs.HostIns.{InSide, IsInTime, HasResult}
use Rattle.law_below_hubs.specs.HostOuts.{queue_key, FindsNoneTold}
use Rattle.law_below_hubs.specs.Splits.{IsAtHub}
use Rattle.law_below_hubs.proofs.HostFinds.{result_is_over}
use Rattle.law_below_hubs.proofs.HostInBeside.{rested_is_timely, halted_is_timely, less_timely}
use Rattle.law_world.specs.steps.Streaming.{transacts_by, wired}
use Rattle.law_world.specs.memory.Mixed.{Standing, IsMixedAt}
use Rattle.law_world.specs.memory.Steps.{IsEventOf, IsMixedControlled}
use Rattle.law_microframes.specs.translators.Fresh.{key_started}
use Rattle.law_microframes.specs.visits.WorldPipes.{EventOf}
use Rattle.bus_world.specs.World.{World, controller_parts, controller_next}
use Rattle.law_reports.specs.lines.Lined.{in_hand, Lines}
use Rattle.law_reports.specs.pipes.Begun.{IsOfRow}
use Rattle.law_reports.specs.pipes.Declared.{Sides}
use Rattle.law_reports.specs.pipes.Piped.{Heads, asked_as, IsPiped}
use Rattle.law_reports.specs.pipes.below_hubs.BehindLaws.{WorldFindsNoneTold}
use Rattle.law_reports.specs.pipes.below_hubs.Inward.{Inlet, is_late_host, may_be_late, renewed, host_waits, is_frame_begun, still_timely}
use Rattle.law_reports.specs.pipes.below_hubs.InwardLaws.{WorldAsksInTime, BeginsFrame, WaitsAt, IsLateBy, now, before}
use Rattle.law_reports.proofs.lemmas.pipes.lemmas.below_hubs.FoundNone.{periodic_by}

-- ---- a host that rests, or has halted, is in time

or_off : (a : Bool) → (a || false) ≡ true → a ≡ true
or_off true e = refl
or_off false e = e

module _ (packets : List (List ℕ)) (k : Key) (i place : ℕ) (w : Wired) (h : Bool) (timely : Bool) (known : List ℕ) where
  renew_side : (active waiting halted : Bool) → (active ≡ false → halted ≡ false → waiting ≡ false)
      → InSide packets k i place w h waiting (not halted) timely known
      → InSide packets k i place w h waiting (not halted) (timely || not (active && (waiting && not halted))) known
  renew_side active false halted rests side =
      rested_is_timely packets k i place w h (not halted) timely (timely || not (active && (false && not halted))) known side
  renew_side active true true rests side =
      halted_is_timely packets k i place w h true timely (timely || not (active && (true && false))) known side
  renew_side true true false rests side =
      less_timely packets k i place w h true true timely (timely || false) known (or_off timely) side
  renew_side false true false rests side = absurd (false≢true (sym (rests refl refl)))

pub renew : (kind : EpKind) (packets : List (List ℕ)) (w : Wired) (i place : ℕ) (timely : Bool) (known : List ℕ) (parts : StructureSets)
    (hand : Hand) (n : ℕ) (x : Told) → IsInBehind kind packets w i place timely known parts hand n x
    → IsInBehind kind packets w i place (timely || not (may_be_late hand n (parts n n))) known parts hand n x
renew kind packets w i place timely known parts hand n x k =
    let host : HostSide = hand_host hand n k.queue in
    let slow : (k.queue.eps == 2) ≡ false = sym (ap (λ (e : Told). e.speed == 2) k.is) ∙ k.below in
    record {
      queue = k.queue;
      head = k.head;
      is = k.is;
      below = k.below;
      own = k.own;
      ins = k.ins;
      first = k.first;
      rests = k.rests;
      hub = k.hub;
      side = subst (λ (o : Option Structure). InSide packets (told_key kind Directions.In x) i place w host.toggle host.waiting
          (not host.halted) (timely || not (may_be_late hand n o)) known) (sym k.head)
          (subst (λ (high : Bool). InSide packets (told_key kind Directions.In x) i place w host.toggle host.waiting (not host.halted)
          (timely || not (not high && is_late_host host)) known) (sym slow)
          (renew_side packets (told_key kind Directions.In x) i place w host.toggle timely known host.active host.waiting host.halted
          k.rests k.side));
    }

-- ---- an event of the controller

not_on : (b : Bool) → not b ≡ true → b ≡ false
not_on false e = refl
not_on true e = absurd (false≢true e)

module _ {fixed : Fixed} (s : Standing) (w : World) (a : IsEventOf fixed s w) (z : EventOf fixed s w a) (timely : ℕ → Bool) (n : ℕ)
    (q : Qh) (head : s.parts n n ≡ Some (QueueHead q)) where
  abbrev host : HostSide
  host = hand_host (in_hand s) n q

  still_off : (y : EventOf fixed s w a) → still_timely y timely n ≡ true → BeginsNoFrame y (hand_host (in_hand s) n q)
  still_off (begun index allowed asked told) on =
      λ first.
      let off : (index % 8 == 0 && host_waits (in_hand s) n (s.parts n n)) ≡ false =
      not_on (index % 8 == 0 && host_waits (in_hand s) n (s.parts n n))
      (and_parts (timely n) (not (index % 8 == 0 && host_waits (in_hand s) n (s.parts n n))) on).1 in
      sym (ap (host_waits (in_hand s) n) head)
      ∙ sym (ap (λ (b : Bool). b && host_waits (in_hand s) n (s.parts n n)) (eq-eqb (index % 8) 0 first)) ∙ off
  still_off (moved y) on = tt

  pub stays_in_time : StaysInTime z (hand_host (in_hand s) n q) (timely n) (still_timely z timely n)
  stays_in_time = record {
    before = λ on. (and_parts (timely n) (not (is_frame_begun z && host_waits (in_hand s) n (s.parts n n))) on).0;
    begun = still_off z;
  }

-- ---- its transaction

module _ (fixed : Fixed) (v : Inlet) (timely : ℕ → Bool) (s : Standing) (w : World) (mixed : IsMixedAt s w)
    (c : IsMixedControlled fixed s w) (n : ℕ) (t : Told) (ins : IsIn (s.parts n)) (named : HasEndpoint s.parts n t)
    (below : (t.speed == 2) ≡ false) (hub : IsAtHub (wired fixed w).bus.hubs t.hub t.port v.hub v.place) (its : t ≡ asked_as v.desc) where
  there : both s.descs s.parts n ≡ s.parts n
  there =
      let f = mixed.now.framed in
      let describing : IsDescribing w.driver s.descs s.parts =
      record { owners = f.place.sound.owners; driven = f.driven; described = f.described } in
      both_off s.descs s.parts n (queue_off w.driver s.descs s.parts describing n n (QueueHead named.queue) named.head)

  module _ (r : MakesOfQueue transacts_by (both s.descs s.parts) w.control.frame s.frame (wired fixed w)
      (wired fixed (controller_next fixed w)) c.event.frame_later) (at : r.copy.at ≡ n) (finds : WorldFindsNoneTold (wired fixed w) w)
      (asks : WorldAsksInTime v timely (wired fixed w) w) (periodic : v.desc.kind ≡ kinds.Interrupt) where
    abbrev q : Qh
    q = r.copy.queue

    part : w.control.part ≡ Periodic
    part = periodic_by w.control.part opening_base.periodic_enable s.frame r.copy r.made r.in_hand mixed.now.framed.runs.outside

    walk : IsFrameWalk (met w.driver s.recent) (both s.descs s.parts) s.frame (frame_place (controller_parts w))
    walk = mixed.now.framed.runs.walk part

    copied : IsCopiedQueue (met w.driver s.recent) (both s.descs s.parts) r.copy
    copied =
        subst (IsInFrame (met w.driver s.recent) (both s.descs s.parts) w.control.frame.got w.control.frame.reply) r.in_hand walk.in_hand

    here : s.parts n n ≡ Some (QueueHead r.copy.queue)
    here = ap (λ (ps : Structures). ps n) (sym there) ∙ ap (λ (j : ℕ). both s.descs s.parts j j) (sym at) ∙ copied.here

    told : t ≡ endpoint_of r.copy.queue
    told = named.is ∙ ap endpoint_of (found_queue (s.parts n n) named.queue r.copy.queue named.head here)

    -- it works on an IN
    pid : r.copy.queue.token.pid ≡ 1
    pid =
        let part_is : IsQueuePart r.copy.at (both s.descs s.parts r.copy.at) =
        (mixed.now.framed.runs.members r.copy.at AQueue copied.on).part_is in
        let same : both s.descs s.parts r.copy.at ≡ s.parts n = ap (both s.descs s.parts) at ∙ there in
        let w_is : IsWorking (both s.descs s.parts r.copy.at) r.copy.queue =
        (subst (IsSoundQueue (both s.descs s.parts r.copy.at)) (found_queue (both s.descs s.parts r.copy.at r.copy.at) part_is.queue
        r.copy.queue part_is.here copied.here) part_is.sound).work r.works in
        w_is.pid ∙ ins r.copy.queue.current w_is.element (ap (λ (p : Structures). p r.copy.queue.current) (sym same) ∙ w_is.here)
        w_is.published

    abbrev held : HeldQueue
    held = record { copy = record { at = r.copy.at; queue_head = copied_queue r.copy; settled = None }; made = r.made }

    in_periodic : w.control.frame.hand ≡ Some (hands.Queue held)
    in_periodic = walk.held ∙ ap frame_held r.in_hand

    low : (r.copy.queue.eps == 2) ≡ false
    low = ap (λ (e : Told). e.speed == 2) (sym told) ∙ below

    key_is : key_started r.copy.queue ≡ told_key kinds.Interrupt Directions.In t
    key_is =
        ap (λ (d : Dir). queue_key kinds.Interrupt d r.copy.queue) (ap (λ (code : ℕ). direction_of (pid_at code)) pid)
        ∙ ap (told_key kinds.Interrupt Directions.In) (sym told)

    finds_none : r.copy.queue.token.split_state ≡ false
        → FindsNoneTold (told_key kinds.Interrupt Directions.In t) v.hub v.place (wired fixed w)
    finds_none first =
        subst (λ (k : Key). FindsNoneTold k v.hub v.place (wired fixed w)) key_is
        (finds held (record { part = part; held = in_periodic; unsettled = refl; turn = r.turn; below = low; first = first }) v.hub v.place
        (subst (λ (e : Told). IsAtHub (wired fixed w).bus.hubs e.hub e.port v.hub v.place) told hub))

    asked : r.copy.queue.token.split_state ≡ true → is_last_of w.control.frame.index r.copy.queue ≡ true
        → (timely r.copy.at ≡ true) × HasResult (key_started r.copy.queue) v.hub v.place (wired fixed w)
    asked waits last =
        asks periodic held
        (record {
          part = part;
          held = in_periodic;
          unsettled = refl;
          turn = r.turn;
          works = r.works;
          below = low;
          waits = waits;
          last = last;
        })
        (key_is ∙ ap (told_key kinds.Interrupt Directions.In) its)

    by_time : IsInTime (told_key kinds.Interrupt Directions.In t) v.hub v.place (wired fixed w) r.copy.queue.token.split_state (is_last_of
        w.control.frame.index r.copy.queue) (renewed s timely n)
    by_time = record {
      starts = finds_none;
      completes = λ waits last.
          ap (λ (b : Bool). b || not (may_be_late (in_hand s) n (s.parts n n))) (ap timely (sym at) ∙ (asked waits last).0);
      over = λ waits last.
          result_is_over (told_key kinds.Interrupt Directions.In t) v.hub v.place (wired fixed w)
          (subst (λ (k : Key). HasResult k v.hub v.place (wired fixed w)) key_is (asked waits last).1);
    }

  pub in_time : WorldFindsNoneTold (wired fixed w) w → WorldAsksInTime v timely (wired fixed w) w
      → AsksInTime v.desc.kind t v.hub v.place n (renewed s timely n) (both s.descs s.parts) w.control.frame s.frame (wired fixed w)
      (wired fixed (controller_next fixed w)) c.event.frame_later
  in_time finds asks is r at =
      subst (λ (x : EpKind). IsInTime (told_key x Directions.In t) v.hub v.place (wired fixed w) r.copy.queue.token.split_state
      (is_last_of w.control.frame.index r.copy.queue) (renewed s timely n)) (sym is) (by_time r at finds asks is)

-- ---- who isn't in time after it

either_off : (a b : Bool) → (a || not b) ≡ false → (a ≡ false) × (b ≡ true)
either_off false true e = (refl, refl)
either_off false false e = absurd (false≢true (sym e))
either_off true b e = absurd (false≢true (sym e))

kept_off : (a b c : Bool) → a ≡ true → (a && not (b && c)) ≡ false → b ≡ true
kept_off true true c on e = refl
kept_off true false c on e = absurd (false≢true (sym e))
kept_off false b c on e = absurd (false≢true on)

module _ (fixed : Fixed) (x : Sides) (s : Standing) (m : Lines) (h : Heads) (w : World) (k : IsPiped fixed x s m h w) (n : ℕ) where
  pub late_before : (timely : ℕ → Bool) → renewed s timely n ≡ false → (timely n ≡ false) × WaitsAt fixed x w n
  late_before timely off =
      let parts_of = either_off (timely n) (may_be_late (in_hand s) n (s.parts n n)) off in
      (parts_of.0, record { standing = s; lines = m; heads = h; piped = k; late = parts_of.1 })

  module _ (a : IsEventOf fixed s w) (timely : ℕ → Bool) where
    frame_began : (y : EventOf fixed s w a) → IsOfRow w y → is_frame_begun y ≡ true → BeginsFrame w
    frame_began (begun index allowed asked told) of_row on =
        record { row = of_row.1; first = ap (λ (i : ℕ). i % 8) (sym of_row.0) ∙ eqb-true (index % 8) 0 on }
    frame_began (moved y) of_row on = absurd (false≢true on)

    pub late_by : (z : EventOf fixed s w a) → IsOfRow w z → still_timely z (renewed s timely) n ≡ false → IsLateBy fixed x w timely n
    late_by z of_row off = by (renewed s timely n) refl
      where
        by : (b : Bool) → renewed s timely n ≡ b → IsLateBy fixed x w timely n
        by false is = let was = late_before timely is in before was.0 was.1
        by true is =
            now (frame_began z of_row
            (kept_off (renewed s timely n) (is_frame_begun z) (host_waits (in_hand s) n (s.parts n n)) is off))
