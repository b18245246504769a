-- An event of the controller that leaves the queues, the windows and the devices of control endpoints as they must stand leaves their
-- requests so.
use Rattle.std.proofs.Common.{◌≡◌, ℕ, ◌*◌, ◌≤◌, Bool, true, false, not, List, slice_get, Option, Some, ap, refl, sym, subst, ◌∙◌}
use Rattle.std.specs.List.{AllByRecursion}
use Rattle.std.proofs.lemmas.Bool.{false≢true, true≢false, and_from}
use Rattle.std.proofs.lemmas.Option.{same_Some}
use Rattle.law_reports.proofs.Common.{queue_still, has_still}
use Rattle.law_world.proofs.Common2.{opens_is}
use Rattle.word_mem.specs.Memory.{word_at, reaches}
use Rattle.qh_qtd.specs.declared.qtd.Qtd.{Qtd}
use Rattle.usb_base.specs.declared.packets.Ask.{Ask}
use Rattle.usb_base.specs.declared.packets.Reply.{Reply}
use Rattle.bus_wire.specs.Bus.{Fixed}
use Rattle.claims_driver.specs.Owners.{runs_of_transfer, runs_of_endpoint}
use Rattle.drv_table.specs.declared.content.Command.{Command}
use Rattle.drv_table.specs.declared.content.Command.TheVariants as unfinished
use Rattle.drv_table.specs.declared.content.Endpoint.{Endpoint as DriverEndpoint}
use Rattle.drv_table.specs.declared.content.Transfer.{Transfer}
use Rattle.drv_table.specs.DriverContent.{DriverContent}
use Rattle.drv_table.specs.Harvests.{note_at}
use Rattle.law_driver_ring.proofs.Stays.{written_stays}
use Rattle.law_driver_ring.specs.told_harvests.Held.{IsDone}
use Rattle.law_driver.specs.endpoint_lives.Lives.{may_meet}
use Rattle.law_world.proofs.lemmas.steps.lemmas.left_queues.Unmet.{near_kept}
use Rattle.law_structures.specs.lent_structures.Structures.{StructureSets}
use Rattle.claims_report.specs.Requests.{Request}
use Rattle.law_request.specs.Host.{Endpoint}
use Rattle.claims_report.specs.ControlSides.{Device}
use Rattle.law_reports.specs.requests.request_bytes.Held.{RequestIsHeld}
use Rattle.law_reports.proofs.lemmas.requests.lemmas.request_bytes.Accepting.{held_request_stays}
use Rattle.law_driver_ring.proofs.lemmas.told_harvests.Keeping.{events_keep_what_is_done}
use Rattle.law_controller.specs.controlled_streams.Control.{ControlEffect, a_microframe, a_step}
use Rattle.law_controller.specs.controlled_streams.Kept.{KeepsEach}
use Rattle.law_ring.specs.Hand.{Hand}
use Rattle.law_devices.specs.ring_requests.Laid.{Places}
use Rattle.law_devices.specs.ring_requests.Windows.{Queue, Step}
use Rattle.law_devices.specs.Controls.{control_of}
use Rattle.bus_world.specs.World.{World, controller_next}
use Rattle.law_world.specs.steps.Streaming.{Streams, Standing}
use Rattle.claims_world.specs.Requests.{wired, Windows, numbers_of, after_event, opens, is_opening}
use Rattle.law_reports.specs.requests.Courses.{Course, NoQueue, Asks, Rests, has_queue, queue_in, tail_in, IsCourse, queues, have_queues}
use Rattle.law_reports.specs.requests.Courses.{CoursesStand}
use Rattle.law_reports.specs.requests.Coming.{IsComing}
use Rattle.law_reports.specs.requests.QueueEvents.{course_after, courses_after}
use Rattle.law_reports.specs.requests.Records.{Numbers, AreRecords}
use Rattle.law_reports.specs.requests.Counts.{counted_all, Counts, side_at}
use Rattle.law_reports.specs.requests.TransferEvents.{IsLeftAlone, ClosedStay}
use Rattle.law_reports.proofs.lemmas.requests.Counts.{counted_same}
use Rattle.law_reports.proofs.lemmas.requests.Telling.{acts_keep_telling, split}
use Rattle.law_reports.specs.requests.Asking.{Sides, Asking, has_left, left_with, HasCourse, IsWritten, IsHeldRequest, IsPublishingAt}
use Rattle.law_reports.specs.requests.Asking.{IsPublishingBy, IsReadTo, HasTelling, IsCounted, IsControlOf, IsMetControl, IsUnopened}
use Rattle.law_reports.specs.requests.Asking.{AsksIn, IsAskingWorld}
use Rattle.law_reports.specs.requests.Missed.{NoneMissed, MissesNone}
use Rattle.law_reports.proofs.lemmas.requests.Missed.{walk_misses_none, narrow_unmissed, narrow_misses}
use Rattle.law_reports.specs.requests.Footing.{IsFooting}

-- ---- what the event leaves so

pub record RequestsGoOn (g : Sides) (fixed : Fixed) (member : ℕ → Bool) (parts : StructureSets) (hand : Hand) (a : Asking) (v : Windows)
    (asks : ℕ → Request) (w : World) (now : StructureSets) (next : Hand) : Type 0 where
  pub step : Option Step
  pub stand : CoursesStand control_of member (courses_after step a.courses) now next (wired fixed (controller_next fixed w))
  pub records : AreRecords w.driver asks (courses_after step a.courses) a.numbers (has_left g w.driver) (after_event fixed w v)
  pub closed : ClosedStay w.driver a.courses a.numbers (has_left g w.driver) v (after_event fixed w v)
  pub coming : (n d : ℕ) (r : Request) (x : Places) (s : Qtd) → have_queues a.courses n ≡ true
      → IsComing (queues a.courses n) r x (tail_in (a.courses n)) d s (parts n)
      → IsComing (queues a.courses n) r x (tail_in (a.courses n)) d s (now n)
  pub done : (n b i : ℕ) (xs : List ℕ) → have_queues a.courses n ≡ true → IsDone hand parts n b i xs → IsDone next now n b i xs
  pub counts : (n : ℕ) → have_queues a.courses n ≡ true
      → Counts (side_at fixed w (a.courses n)) (counted_all v (numbers_of w.driver (a.numbers n).endpoint) 0)
      → Counts (side_at fixed (controller_next fixed w) (a.courses n))
      (counted_all (after_event fixed w v) (numbers_of w.driver (a.numbers n).endpoint) 0)
  -- the devices of those of whose queues nothing more is told
  pub left : (e : ℕ) (z : DriverEndpoint) → has_left g w.driver e ≡ true → slice_get w.driver.endpoints e ≡ Some z
      → IsLeftAlone fixed w (controller_next fixed w) z
  -- .. and of those that aren't opened
  pub unopened : (addr num : ℕ) (c : Device) → 1 ≤ addr → IsUnopened w.driver addr num → control_of (wired fixed w) addr num ≡ Some c
      → control_of (wired fixed (controller_next fixed w)) addr num ≡ Some c
  pub words : (at : ℕ) → reaches w.memory at ≡ false → word_at (controller_next fixed w).memory at ≡ word_at w.memory at
  pub unmissed : NoneMissed (have_queues a.courses) now × MissesNone (have_queues a.courses) next

course_still : (g : Sides) (d : DriverContent) (e : ℕ) (x : DriverEndpoint) (a : Numbers) (step : Option Step) (n : ℕ) (c : Course)
    → HasCourse g d e x c a → HasCourse g d e x (course_after step n c) a
course_still g d e x a step n NoQueue h = absurd (false≢true h.queue)
course_still g d e x a step n _ h =
    record { queue = refl; endpoint = h.endpoint; number = h.number; tail = h.tail; count = h.count; newest = h.newest; next = h.next; ended = h.ended; owed = h.owed }

-- its device is on the bus
pub course_device : (fixed : Fixed) (w : World) (parts : StructureSets) (hand : Hand) (n : ℕ) (c : Course) → has_queue c ≡ true
    → IsCourse control_of parts hand (wired fixed w) n c
    → (z : Device) × (control_of (wired fixed w) (queue_in c).endpoint.addr (queue_in c).endpoint.num ≡ Some z)
course_device fixed w parts hand n NoQueue has k = absurd (false≢true has)
course_device fixed w parts hand n (Asks q b l) has k = (_, k.queue.window.device)
course_device fixed w parts hand n (Rests q b c) has k = (_, k.rest.device)

-- ---- an event of the ring

module _ {W : Type 0} (begins : W → ℕ → Bool → W → Type 0) (transacts : W → Ask → List ℕ → Reply → W → Type 0) (parts : StructureSets)
    (hand : Hand) (wire after : W) (now : StructureSets) (later : Hand) where
  -- a qTD that is done
  pub done_still : (n b i : ℕ) (xs : List ℕ) → ControlEffect begins transacts parts hand wire after now later → KeepsEach parts now
      → IsDone hand parts n b i xs → IsDone later now n b i xs
  done_still n b i xs (a_microframe m) keeps k =
      subst (λ (h : Hand). IsDone h now n b i xs) (sym m.hand_stays)
      (subst (λ (ps : StructureSets). IsDone hand ps n b i xs) (sym m.parts_stay) k)
  done_still n b i xs (a_step k) keeps done =
      events_keep_what_is_done transacts parts hand wire after now later n b i xs (λ a t there off. (keeps n).idle a t there off) k.streams
      done

  -- no microframe is missed
  pub event_unmissed : (asked : ℕ → Bool) → ControlEffect begins transacts parts hand wire after now later → NoneMissed asked parts
      → MissesNone asked hand → NoneMissed asked now × MissesNone asked later
  event_unmissed asked (a_microframe m) none had =
      (subst (NoneMissed asked) (sym m.parts_stay) none, subst (MissesNone asked) (sym m.hand_stays) had)
  event_unmissed asked (a_step k) none had =
      walk_misses_none transacts asked parts hand wire after now later k.kind k.effect none had

-- ---- the whole

module _ (g : Sides) (fixed : Fixed) (member : ℕ → Bool) (x : Streams) (s : Standing) (a : Asking) (v : Windows) (asks : ℕ → Request)
    (w : World) (f : IsFooting member x s w) (q : IsAskingWorld g fixed member s a v asks w) (now : StructureSets) (next : Hand)
    (goes : RequestsGoOn g fixed member s.parts s.hand a v asks w now next) where
  abbrev new : World
  new = controller_next fixed w

  abbrev later : Windows
  later = after_event fixed w v

  -- the request that is being published
  held_then : (b : ℕ) (words : List ℕ) (r : Request) → IsHeldRequest w.driver w.memory b words r
      → IsHeldRequest w.driver (controller_next fixed w).memory b words r
  held_then b words r h =
      let l = h.lends in
      record {
        lends = record {
          number = l.number;
          transfer = l.transfer;
          endpoint = l.endpoint;
          stage = l.stage;
          further = l.further;
          command = l.command;
          made = l.made;
          newest = l.newest;
          there = l.there;
          here = l.here;
          going = l.going;
          first = l.first;
          place = l.place;
          left = l.left;
          fresh = l.fresh;
          awaits = written_stays w.driver w.memory new.memory l.number (runs_of_transfer l.transfer) (runs_of_endpoint l.endpoint) l.stage l.further l.awaits f.stands goes.words;
          stages = l.stages;
          sort = l.sort;
          are = l.are;
        };
        stages = h.stages;
        held = subst (λ (c : ℕ). RequestIsHeld new.memory w.driver.notes c r) l.first
            (held_request_stays w.driver w.memory new.memory l.number (runs_of_transfer l.transfer) (runs_of_endpoint l.endpoint) l.stage l.further r l.awaits h.stages f.stands goes.words
            (subst (λ (c : ℕ). RequestIsHeld w.memory w.driver.notes c r) (sym l.first) h.held));
      }

  module _ (e : ℕ) (z : DriverEndpoint) (is : IsMetControl g w.driver e z) where
    abbrev n : ℕ
    n = 32 * z.queue

    abbrev its : HasCourse g w.driver e z (a.courses (32 * z.queue)) (a.numbers (32 * z.queue))
    its = q.each e z is

    coming_then : (c : Course) → a.courses (32 * z.queue) ≡ c → (words : List ℕ)
        → IsWritten w.driver z (s.parts (32 * z.queue)) c (a.numbers (32 * z.queue)) words
        → IsWritten w.driver z (now (32 * z.queue)) c (a.numbers (32 * z.queue)) words
    coming_then c same words h = record {
      setup = h.setup;
      words_are = h.words_are;
      range = h.range;
      coming = subst
          (λ (y : Course). IsComing (queue_in y) ((a.numbers (32 * z.queue)).requests.requests (queue_in c).count) ((a.numbers (32 * z.queue)).requests.places (queue_in c).count) (tail_in y) (32 * z.dummy) h.setup (now (32 * z.queue)))
          same
          (goes.coming n (32 * z.dummy) ((a.numbers (32 * z.queue)).requests.requests (queue_in c).count)
          ((a.numbers (32 * z.queue)).requests.places (queue_in c).count) h.setup its.queue
          (subst
          (λ (y : Course). IsComing (queue_in y) ((a.numbers (32 * z.queue)).requests.requests (queue_in c).count) ((a.numbers (32 * z.queue)).requests.places (queue_in c).count) (tail_in y) (32 * z.dummy) h.setup (s.parts (32 * z.queue)))
          (sym same) h.coming));
    }

    published_then : (c : Course) → a.courses (32 * z.queue) ≡ c → (b : ℕ) (words : List ℕ)
        → IsPublishingAt w.driver w.memory z (s.parts (32 * z.queue)) c (a.numbers (32 * z.queue)) b words
        → IsPublishingAt w.driver (controller_next fixed w).memory z (now (32 * z.queue)) (course_after goes.step (32 * z.queue) c) (a.numbers (32 * z.queue)) b words
    published_then NoQueue same b words h = absurd (false≢true (sym (ap has_queue same) ∙ its.queue))
    published_then (Asks v b l) same at words h = record {
      request = h.request;
      held = λ none. held_then at words _ (h.held none);
      written = λ some. let y = coming_then (Asks v b l) same words (h.written some) in record { setup = y.setup; words_are = y.words_are; range = y.range; coming = y.coming };
    }
    published_then (Rests v b l) same at words h = record {
      request = h.request;
      held = λ none. held_then at words _ (h.held none);
      written = λ some. let y = coming_then (Rests v b l) same words (h.written some) in record { setup = y.setup; words_are = y.words_are; range = y.range; coming = y.coming };
    }

    publishing_by : (o : Option Command)
        → IsPublishingBy w.driver w.memory z (s.parts (32 * z.queue)) (a.courses (32 * z.queue)) (a.numbers (32 * z.queue)) o
        → IsPublishingBy w.driver (controller_next fixed w).memory z (now (32 * z.queue)) (course_after goes.step (32 * z.queue) (a.courses (32 * z.queue))) (a.numbers (32 * z.queue)) o
    publishing_by (Some (unfinished.Publish b words)) h = published_then (a.courses (32 * z.queue)) refl b words h
    publishing_by _ h = tt

    -- what was harvested
    read_then : (t : ℕ) (y : Transfer) (r : Request) → IsReadTo s.hand s.parts (32 * z.queue) (note_at w.driver.notes) y r
        → IsReadTo next now (32 * z.queue) (note_at w.driver.notes) y r
    read_then t y r h = record {
      setup = h.setup;
      data_at = λ some last. let k = h.data_at some last in record {
        bytes = k.bytes;
        done = goes.done n _ _ k.bytes its.queue k.done;
      };
      rest = h.rest;
    }

    -- what is told
    telling_then : HasTelling w.driver asks e z g.whole v (a.numbers (32 * z.queue))
        → HasTelling w.driver asks e z g.whole (after_event fixed w v) (a.numbers (32 * z.queue))
    telling_then h = record {
      reported = h.reported;
      untold = h.untold;
      closed = h.closed;
      going = h.going;
      uncancelled = h.uncancelled;
      telling = acts_keep_telling w.driver asks e z.desc.name (g.whole z.desc.name) v later h.reported _ h.uncancelled
          (split (λ t. later.acts t ≡ v.acts t) h.reported h.untold (subst (AllByRecursion (λ t. later.acts t ≡ v.acts t)) h.closed (goes.closed.each n its.queue))).0 h.telling;
    }

    -- what its device counts
    counted_then : IsCounted fixed w v e z → IsCounted fixed (controller_next fixed w) (after_event fixed w v) e z
    counted_then h =
        let given = q.given e z is.is in
        let addressed : (queue_in (a.courses n)).endpoint.addr ≡ z.desc.name.addr = ap (λ (u : Endpoint). u.addr) its.endpoint ∙ given.address in
        let numbered : (queue_in (a.courses n)).endpoint.num ≡ z.desc.name.num = ap (λ (u : Endpoint). u.num) its.endpoint ∙ given.number in
        let here = course_device fixed new now next n (course_after goes.step n (a.courses n)) (has_still goes.step n (a.courses n) ∙ its.queue) (goes.stand.each n) in
        let side : control_of (wired fixed new) (queue_in (a.courses n)).endpoint.addr (queue_in (a.courses n)).endpoint.num ≡ Some here.0 =
        subst (λ (u : Queue). control_of (wired fixed new) u.endpoint.addr u.endpoint.num ≡ Some here.0) (queue_still goes.step n (a.courses n)) here.1 in
        let named : (y : World) → control_of (wired fixed y) (queue_in (a.courses n)).endpoint.addr (queue_in (a.courses n)).endpoint.num ≡ control_of (wired fixed y) z.desc.name.addr z.desc.name.num =
        λ y. ap (λ (i : ℕ). control_of (wired fixed y) i (queue_in (a.courses n)).endpoint.num) addressed ∙ ap (λ (i : ℕ). control_of (wired fixed y) z.desc.name.addr i) numbered in
        record {
          device = here.0;
          is = sym (named new) ∙ side;
          acted = subst (λ (i : ℕ). here.0.stages.acted ≡ counted_all later (numbers_of w.driver i) 0) its.number
              (goes.counts n its.queue
              (λ c at. subst (λ (u : Device). u.stages.acted ≡ counted_all v (numbers_of w.driver (a.numbers n).endpoint) 0) (same_Some h.device c (sym h.is ∙ sym (named w) ∙ at))
              (h.acted ∙ ap (λ (i : ℕ). counted_all v (numbers_of w.driver i) 0) (sym its.number)))
              here.0 side);
        }

  -- .. that the walk can't meet
  counted_left : (e : ℕ) (z : DriverEndpoint) (is : IsControlOf g w.driver e z) → may_meet w.driver e z ≡ false → IsCounted fixed w v e z
      → IsCounted fixed (controller_next fixed w) (after_event fixed w v) e z
  counted_left e z is off h =
      let left : has_left g w.driver e ≡ true =
      ap (λ (o : Option DriverEndpoint). left_with g w.driver e o) is.here ∙ and_from (g.asks z.desc) (not (may_meet w.driver e z)) is.control (ap not off) in
      record {
        device = h.device;
        is = (goes.left e z left is.here).after ∙ sym (goes.left e z left is.here).before ∙ h.is;
        acted = h.acted ∙ sym (counted_same v later (numbers_of w.driver e) 0 (goes.closed.left e left));
      }

  counts_then : (e : ℕ) (z : DriverEndpoint) → IsControlOf g w.driver e z → is_opening w.driver z ≡ false
      → IsCounted fixed (controller_next fixed w) (after_event fixed w v) e z
  counts_then e z is off = by (may_meet w.driver e z) refl
    where
      by : (b : Bool) → may_meet w.driver e z ≡ b → IsCounted fixed (controller_next fixed w) (after_event fixed w v) e z
      by false unmet = counted_left e z is unmet (q.counts e z is off)
      by true met =
          let kept : z.gone ≡ false = near_kept w.driver e z f.owners f.turns is.here met in
          counted_then e z (record {
            is = is;
            met = record {
              there = record { linked = λ same. true≢false (sym (and_from (opens w.driver.command z.queue) (not z.gone) (opens_is w.driver.command z.queue same) (ap not kept)) ∙ off); kept = kept };
              near = met;
            };
          }) (q.counts e z is off)

  had_queues : (n : ℕ) → have_queues (courses_after goes.step a.courses) n ≡ true → have_queues a.courses n ≡ true
  had_queues n has = sym (has_still goes.step n (a.courses n)) ∙ has

  pub assembled : AsksIn g member now next (record { courses = courses_after goes.step a.courses; numbers = a.numbers })
      (after_event fixed w v) asks w.driver (controller_next fixed w).memory (wired fixed (controller_next fixed w))
  assembled = record {
    stand = goes.stand;
    records = goes.records;
    each = λ e z is. course_still g w.driver e z (a.numbers (32 * z.queue)) goes.step (32 * z.queue) (a.courses (32 * z.queue)) (q.each e z is);
    asked = λ n z has there. q.asked n z (had_queues n has) there;
    publishing = λ e z is on. publishing_by e z is w.driver.command (q.publishing e z is on);
    read = λ e t z y is going next here. read_then e z is t y _ (q.read e t z y is going next here);
    telling = λ e z is. telling_then e z is (q.telling e z is);
    given = q.given;
    counts = counts_then;
    unopened = λ addr num c least none first.
        goes.unopened addr num c least none (q.unopened addr num c least none first);
    untold = q.untold;
    unmissed = record {
      structures = narrow_unmissed (have_queues a.courses) (have_queues (courses_after goes.step a.courses)) now had_queues goes.unmissed.0;
      in_hand = narrow_misses (have_queues a.courses) (have_queues (courses_after goes.step a.courses)) next had_queues goes.unmissed.1;
      first = q.unmissed.first;
    };
  }
