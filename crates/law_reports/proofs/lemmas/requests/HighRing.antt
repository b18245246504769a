-- An event of the ring, in a world with endpoints of every kind: its walk is over the structures of queues alone, and its requests are
-- those of the ring.
use Rattle.std.proofs.Common.{◌≡◌, ℕ, ◌*◌, true, false, slice_get, Option, Some, ap, refl, sym, subst, ◌∙◌}
use Rattle.usb_base.specs.declared.packets.Speed.TheVariants.{High}
use Rattle.law_reports.proofs.Common.{queue_still, has_still}
use Rattle.bus_wire.specs.Bus.{Wired, Fixed}
use Rattle.op_registers.specs.RegisterFile.{RegisterFile}
use Rattle.async_walk.specs.declared.state.Cursor.{Cursor}
use Rattle.async_walk.specs.declared.state.Cursor.TheVariants as cursors
use Rattle.async_walk.specs.Rows.{cursor_link}
use Rattle.hc_core.specs.declared.controller.MicroframePart.TheVariants.{Asynchronous}
use Rattle.hc_core.specs.Controller.{Content, content, walk_place}
use Rattle.claims_base.specs.Controller.{Base, opening_base}
use Rattle.claims_driver.specs.Owners.{views_of}
use Rattle.drv_table.specs.declared.content.Endpoint.{Endpoint}
use Rattle.drv_table.specs.Words.{is_control, head_block, opening_head, speed_field}
use Rattle.law_driver.specs.queued_drivers.Queued.{queued}
use Rattle.law_driver_ring.specs.fed_queues.Places.{IsMet}
use Rattle.law_structures.specs.lent_structures.Structures.{StructureSets}
use Rattle.law_ring.specs.Hand.{Hand}
use Rattle.law_ring.specs.Effects.{Effect}
use Rattle.law_ring.specs.Ring.{IsRing, IsCursorAmong}
use Rattle.law_ring.specs.Told.{Endpoint as Characteristics, endpoint_of}
use Rattle.law_ring.proofs.StreamEvents.{streams_by}
use Rattle.law_controller.specs.controlled_streams.Control.{FrameList, IsControlled, off as unscheduled, ControlEffect, a_microframe}
use Rattle.law_controller.specs.controlled_streams.Control.{a_step}
use Rattle.law_controller.specs.frame_control.Both.{RunsBoth}
use Rattle.law_controller.proofs.lemmas.controlled_streams.Events.{control_keeps}
use Rattle.law_controller.proofs.lemmas.lent_writes.Controlling.{each_event_of_the_controller_writes_lent_words}
use Rattle.law_controller.proofs.lemmas.aligned_copies.Controlling.{aligned_placed}
use Rattle.law_descriptors.specs.Both.{both, parts_now}
use Rattle.law_descriptors.specs.Meeting.{met}
use Rattle.law_descriptors.proofs.QueueQueues.{effect_is_of_queues, parts_same}
use Rattle.law_descriptors.proofs.Rings.{list_is_of_queues}
use Rattle.law_ring.specs.walk_writes.Writes.{WritesLent}
use Rattle.law_devices.specs.ring_requests.Windows.{Queue, IsElsewhere, AreHigh, Step}
use Rattle.law_devices.specs.scripted_requests.Controls.{transacts_by, begins_by}
use Rattle.law_devices.proofs.lemmas.scripted_requests.Asking.{a_scripted_bus_answers_by_stages}
use Rattle.law_devices.proofs.lemmas.scripted_requests.Beginning.{keeps_devices}
use Rattle.law_devices.specs.Controls.{control_of}
use Rattle.claims_report.specs.Requests.{Request}
use Rattle.claims_world.specs.Requests.{wired, Windows}
use Rattle.bus_world.specs.World.{World, controller_parts, controller_next}
use Rattle.law_world.specs.memory.Mixed.{Standing}
use Rattle.law_world.specs.memory.Steps.{standing_then}
use Rattle.law_world.proofs.lemmas.memory.HarvestKept.{describes}
use Rattle.law_world.proofs.lemmas.steps.StreamTurning.{world_has_row}
use Rattle.law_reports.specs.lines.Lined.{Lines}
use Rattle.law_reports.specs.pipes.Declared.{Sides as Pipes}
use Rattle.law_reports.specs.pipes.Piped.{Heads, asked_as, IsPiped}
use Rattle.law_reports.proofs.lemmas.pipes.Controlled.{c, controlled, lines_then}
use Rattle.law_reports.proofs.lemmas.pipes.Names.{queue_same, WasQueued, was_queued}
use Rattle.law_reports.specs.requests.world_requests.Requesting.{IsWalked, RingGoesOn}
use Rattle.law_reports.specs.requests.Courses.{Course, IsCourse, queues, have_queues, are_asking, CoursesStand}
use Rattle.law_reports.specs.requests.QueueEvents.{courses_after, course_after, CoursesGoOn}
use Rattle.law_reports.specs.requests.TransferEvents.{IsLeftAlone, IsOwned}
use Rattle.law_reports.specs.requests.Asking.{Sides, Asking, has_left}
use Rattle.law_reports.specs.requests.Footing.{IsFooting}
use Rattle.law_reports.specs.requests.HighAsking.{told_world, told_standing, told_streams, AreSuited, AsksHigh, AsksAt}
use Rattle.law_reports.proofs.lemmas.requests.lemmas.driver_requests.Commands.{chained_have_qtds}
use Rattle.law_reports.proofs.lemmas.requests.Assembled.{RequestsGoOn, done_still, event_unmissed}
use Rattle.law_reports.proofs.lemmas.requests.Beside.{HasOwner, owner_of}
use Rattle.law_reports.proofs.lemmas.requests.Coming.{event_coming}
use Rattle.law_reports.proofs.lemmas.requests.HighDevices.{device_unopened, left_waits}
use Rattle.law_reports.proofs.lemmas.requests.Courses.{asks_has}
use Rattle.law_reports.proofs.lemmas.requests.HighSteps.{desc_same, high_is}
use Rattle.law_reports.proofs.lemmas.requests.HighFooting.{ring_of, wider, control_member, real_control, named_by}
use Rattle.law_reports.proofs.lemmas.requests.Names.{one_endpoint}
use Rattle.law_reports.proofs.lemmas.requests.QueueEvents.{event_keeps}
use Rattle.law_reports.proofs.lemmas.requests.TransferEvents.{event_keeps_records, event_keeps_closed, event_keeps_counts}

-- the registers, with the periodic schedule off: the walk of the ring doesn't read them otherwise
abbrev quiet_registers : RegisterFile → RegisterFile
quiet_registers r = record r { periodic_enable = false }

abbrev quiet_base : Base
quiet_base = record opening_base { periodic_enable = false }

cursor_quiet : (r : RegisterFile) (at : Cursor) → cursor_link (record r { periodic_enable = false }) at ≡ cursor_link r at
cursor_quiet r cursors.Start = refl
cursor_quiet r (cursors.At link) = refl

module _ (g : Sides) (fixed : Fixed) (x : Pipes) (s : Standing) (m : Lines) (h : Heads) (w : World) (k : IsPiped fixed x s m h w)
    (f : IsFooting s.near (told_streams s) (told_standing s m) (told_world w)) (head : h.ends (32 * head_block) ≡ endpoint_of opening_head)
    (suited : AreSuited g w.driver) (a : Asking) (v : Windows) (asks : ℕ → Request) (q : AsksAt g fixed s a v asks w) where
  abbrev u : World
  u = told_world w

  abbrev new : World
  new = controller_next fixed w

  abbrev wire : Wired
  wire = wired fixed w

  abbrev after : Wired
  after = wired fixed (controller_next fixed w)

  abbrev pub now : StructureSets
  now = parts_now s.descs s.parts (c fixed x s m h w k).event.now

  abbrev pub later : Hand
  later = (c fixed x s m h w k).event.later

  abbrev runs : RunsBoth opening_base s.member (met w.driver s.recent) (both s.descs s.parts) s.hand s.frame (controller_parts w)
  runs = k.mixed.now.framed.runs

  ring : IsRing opening_base s.member s.parts s.hand (walk_place (controller_parts w))
  ring = ring_of s w k.mixed

  -- ---- the queues of the ring

  pub member_of : (n : ℕ) → have_queues a.courses n ≡ true → s.member n ≡ true
  member_of n has =
      let o : HasOwner g (told_world w) a n =
      owner_of g fixed s.near (told_streams s) (told_standing s m) a v asks (told_world w) f q n has in
      let t : WasQueued w.driver.endpoints o.number o.endpoint = was_queued w.driver.endpoints o.number o.endpoint o.control.is.here in
      let on : is_control o.endpoint.desc.kind ≡ true = g.controls o.endpoint.desc o.control.is.control in
      ap s.member (o.at ∙ ap (λ (y : Endpoint). 32 * y.queue) t.is ∙ ap (λ (b : ℕ). 32 * b) (queue_same t.endpoint))
      ∙ control_member s w k.mixed o.number t.endpoint t.here
      (real_control g fixed x s m h w k head suited o.number t.endpoint t.here
      (ap (λ (y : Endpoint). is_control y.desc.kind) (sym t.is) ∙ on))
      (subst (IsMet (queued w.driver) o.number) t.is o.control.met)

  narrow_stand : CoursesStand control_of s.member a.courses s.parts s.hand (wired fixed w)
  narrow_stand = record {
    each = q.stand.each;
    members = λ n on. member_of n on;
    apart = q.stand.apart;
    others = λ n on none. q.stand.others n (wider s w k.mixed n on) none;
  }

  -- ---- .. and of all that are met

  then : IsPiped fixed x (standing_then s w (c fixed x s m h w k).event) (lines_then fixed x s m h w k) h (controller_next fixed w)
  then = controlled fixed x s m h w k

  module _ (step : Option Step) where
    abbrev courses : ℕ → Course
    courses = courses_after step a.courses

    others_then : (n : ℕ) → s.near n ≡ true → have_queues (courses_after step a.courses) n ≡ false
        → IsElsewhere (have_queues (courses_after step a.courses)) (queues (courses_after step a.courses)) now n
    others_then n on none =
        let o : IsElsewhere (have_queues a.courses) (queues a.courses) s.parts n =
        q.stand.others n on (sym (has_still step n (a.courses n)) ∙ none) in
        let own_is : o.own ≡ h.ends n =
        one_endpoint s.parts n o.own (h.ends n) o.has (named_by g fixed x s m h w k head suited n on) in
        record {
          own = h.ends n;
          has = named_by g fixed x (standing_then s w (c fixed x s m h w k).event) (lines_then fixed x s m h w k) h
              (controller_next fixed w) then head suited n on;
          other = λ i has addr num.
              o.other i (sym (has_still step i (a.courses i)) ∙ has)
              (ap (λ (y : Queue). y.endpoint.addr) (sym (queue_still step i (a.courses i))) ∙ addr
              ∙ ap (λ (y : Characteristics). y.addr) (sym own_is))
              (ap (λ (y : Queue). y.endpoint.num) (sym (queue_still step i (a.courses i))) ∙ num
              ∙ ap (λ (y : Characteristics). y.ep) (sym own_is));
        }

    pub all_stand : ((n : ℕ) → IsCourse control_of now later (wired fixed (controller_next fixed w)) n (course_after step n (a.courses n)))
        → CoursesStand control_of s.near (courses_after step a.courses) now later (wired fixed (controller_next fixed w))
    all_stand each = record {
      each = each;
      members = λ n on. q.stand.members n (sym (has_still step n (a.courses n)) ∙ on);
      apart = λ n i on one addr num.
          q.stand.apart n i (sym (has_still step n (a.courses n)) ∙ on) (sym (has_still step i (a.courses i)) ∙ one)
          (ap (λ (y : Queue). y.endpoint.addr) (sym (queue_still step n (a.courses n))) ∙ addr
          ∙ ap (λ (y : Queue). y.endpoint.addr) (queue_still step i (a.courses i)))
          (ap (λ (y : Queue). y.endpoint.num) (sym (queue_still step n (a.courses n))) ∙ num
          ∙ ap (λ (y : Queue). y.endpoint.num) (queue_still step i (a.courses i)));
      others = others_then;
    }

  -- ---- the words

  pub lent_words : WritesLent w.memory (controller_next fixed w).memory
  lent_words =
      each_event_of_the_controller_writes_lent_words begins_by transacts_by (controller_parts w) wire (controller_parts new) after
      (aligned_placed (controller_parts w) k.mixed.now.framed.aligned) (world_has_row fixed w)

  -- ---- those that ask are of high speed

  are_high : AsksHigh g → AreHigh (are_asking a.courses) s.parts
  are_high fast n c on here =
      let has : have_queues a.courses n ≡ true = asks_has (a.courses n) on in
      let o : HasOwner g (told_world w) a n =
      owner_of g fixed s.near (told_streams s) (told_standing s m) a v asks (told_world w) f q n has in
      let t : WasQueued w.driver.endpoints o.number o.endpoint = was_queued w.driver.endpoints o.number o.endpoint o.control.is.here in
      let speed : t.endpoint.desc.speed ≡ High =
      high_is t.endpoint.desc.speed
      (fast t.endpoint.desc.speed
      ((suited o.number t.endpoint t.here).speed
      (ap g.asks (sym (ap (λ (y : Endpoint). y.desc) t.is ∙ desc_same t.endpoint)) ∙ o.control.is.control))) in
      let ends : h.ends n ≡ asked_as t.endpoint.desc =
      ap h.ends (o.at ∙ ap (λ (y : Endpoint). 32 * y.queue) t.is ∙ ap (λ (b : ℕ). 32 * b) (queue_same t.endpoint))
      ∙ k.named o.number t.endpoint t.here (subst (IsMet (queued w.driver) o.number) t.is o.control.met) in
      ap (λ (y : Characteristics). y.speed)
      (one_endpoint s.parts n (endpoint_of c) (h.ends n) (record { queue = c; head = here; is = refl })
      (named_by g fixed x s m h w k head suited n (q.stand.members n has))
      ∙ ends)
      ∙ ap speed_field speed

  -- ---- an event of the ring

  module _ (fast : AsksHigh g) (e : ControlEffect begins_by transacts_by (both s.descs s.parts) s.hand (wired fixed w)
      (wired fixed (controller_next fixed w))
      (c fixed x s m h w k).event.now (c fixed x s m h w k).event.later) where
    of_queues : ControlEffect begins_by transacts_by (both s.descs s.parts) s.hand (wired fixed w) (wired fixed (controller_next fixed w))
        (c fixed x s m h w k).event.now (c fixed x s m h w k).event.later
        → ControlEffect begins_by transacts_by s.parts s.hand (wired fixed w) (wired fixed (controller_next fixed w)) now later
    of_queues (a_microframe b) = a_microframe (record {
      index = b.index;
      allowed = b.allowed;
      asked = b.asked;
      parts_stay = parts_same (views_of w.driver) s.descs s.parts k.mixed.now.framed.described _ b.parts_stay;
      hand_stays = b.hand_stays;
    })
    of_queues (a_step r) =
        let walk : Effect transacts_by s.parts s.hand wire after now later r.kind =
        effect_is_of_queues transacts_by (views_of w.driver) s.descs s.parts opening_base s.member s.hand (walk_place (controller_parts w))
        wire after _ later r.kind k.mixed.now.framed.described runs.ring r.effect in
        a_step (record {
          kind = r.kind;
          effect = walk;
          streams = streams_by transacts_by s.member s.parts s.hand (walk_place (controller_parts w)).walk.reply wire after now later r.kind
              ring.members ring.in_hand walk;
        })

    abbrev effect : ControlEffect begins_by transacts_by s.parts s.hand (wired fixed w) (wired fixed (controller_next fixed w)) now later
    effect = of_queues e

    walked : IsWalked opening_base s.member s.parts s.hand (controller_parts (told_world w))
    walked = record { ring = ring; between = runs.between }

    abbrev ring_event : RingGoesOn begins_by transacts_by opening_base s.member s.parts s.hand (wired fixed (told_world w))
        (wired fixed (controller_next fixed (told_world w))) (controller_parts (controller_next fixed (told_world w)))
    ring_event = record {
      now = now;
      later = later;
      ring = ring_of (standing_then s w (c fixed x s m h w k).event) new then.mixed;
      effect = of_queues e;
    }

    -- ---- with the periodic schedule off

    abbrev quiet_content : Content
    quiet_content = content (record w.control { part = Asynchronous }) (quiet_registers w.registers) w.memory

    cursor_there : IsCursorAmong s.member (walk_place quiet_content)
    cursor_there = record {
      to = ring.cursor.to;
      leads = cursor_quiet w.registers w.control.walk.cursor ∙ ring.cursor.leads;
      on = ring.cursor.on;
    }

    listed : FrameList s.parts opening_base
    listed = (list_is_of_queues w.driver s.descs s.parts opening_base (describes s w k.mixed)).0 runs.list

    quiet : IsControlled quiet_base s.member s.parts s.hand quiet_content
    quiet = record {
      ring = record {
        tells = ring.tells;
        members = ring.members;
        registers = ap (λ (b : Base). record b { periodic_enable = false }) ring.registers;
        start = ring.start;
        cursor = cursor_there;
        held = ring.held;
        in_hand = ring.in_hand;
      };
      between = λ other. absurd (other refl);
      list = record { words = listed.words; here = listed.here; size = listed.size };
      frameless = unscheduled refl;
    }

    goes : CoursesGoOn control_of s.member a.courses (of_queues e)
    goes =
        event_keeps begins_by transacts_by control_of quiet_base s.member a.courses s.parts s.hand quiet_content wire after now later
        (of_queues e) a_scripted_bus_answers_by_stages keeps_devices quiet (are_high fast) narrow_stand

    owned : IsOwned (queued w.driver) s.parts
    owned = record { owners = f.owners; qtds = chained_have_qtds (queued w.driver) f.turns.chained; driven = f.driven }

    alone : (i : ℕ) (y : Endpoint) → has_left g (queued w.driver) i ≡ true → slice_get (queued w.driver).endpoints i ≡ Some y
        → IsLeftAlone fixed (told_world w) (controller_next fixed (told_world w)) y
    alone i y left here = left_waits fixed x s m h w k f g a v asks head suited q i y left here

    pub ring_goes_on : RequestsGoOn g fixed s.near s.parts s.hand a v asks (told_world w) now later
    ring_goes_on = record {
      step = goes.step;
      stand = all_stand goes.step goes.stand.each;
      records = event_keeps_records fixed opening_base s.member a.courses a.numbers (has_left g (queued w.driver)) s.parts s.hand asks u v
          ring_event goes walked narrow_stand owned alone q.records;
      closed = event_keeps_closed fixed opening_base s.member a.courses a.numbers (has_left g (queued w.driver)) s.parts s.hand asks u v
          ring_event goes walked narrow_stand owned alone q.records;
      coming = λ n b r places setup has here.
          event_coming begins_by transacts_by control_of quiet_base s.member a.courses s.parts s.hand quiet_content wire after now later
          (of_queues e) n b r places setup a_scripted_bus_answers_by_stages keeps_devices quiet narrow_stand has here;
      done = λ n b i xs has here.
          done_still begins_by transacts_by s.parts s.hand wire after now later n b i xs (of_queues e)
          (control_keeps begins_by transacts_by quiet_base s.member s.parts s.hand quiet_content wire after now later quiet (of_queues e))
          here;
      counts = λ n has here.
          event_keeps_counts fixed opening_base s.member a.courses a.numbers (has_left g (queued w.driver)) s.parts s.hand asks u v
          ring_event goes walked narrow_stand owned alone q.records n has here;
      left = alone;
      unopened = λ addr num d least none is. device_unopened fixed x s m h w k f addr num d least none is;
      words = lent_words.words;
      unmissed = event_unmissed begins_by transacts_by s.parts s.hand wire after now later (have_queues a.courses) (of_queues e)
          q.unmissed.structures q.unmissed.in_hand;
    }
