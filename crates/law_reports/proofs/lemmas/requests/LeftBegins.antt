-- Of a control endpoint that a walk may meet the bytes moved of the data of each request that waits begin them.
use Rattle.std.proofs.Common.{◌≡◌, ◌≢◌, ℕ, zero, suc, ◌+◌, ◌*◌, ◌<◌, ◌≤◌, ◌==◌, Bool, true, false, if◌then◌else◌, List, [], ◌∷◌, ◌++◌}
use Rattle.std.proofs.Common.{length, map, slice_get, Option, Some, None, ap, refl, sym, subst, ◌∙◌, ⊎_elim, inl, inr, arith}
use Rattle.std.specs.Prelude.{◌⊎◌}
use Rattle.std.specs.List.{AllByRecursion}
use Rattle.std.proofs.lemmas.Bool.{true≢false, cases_eq, cases_lt}
use Rattle.std.proofs.lemmas.Option.{same_Some}
use Rattle.std.proofs.lemmas.List.{length-append, length-map}
use Rattle.law_common.proofs.Lists.{all_both, nothing_at}
use Rattle.drv_table.specs.declared.content.Mend.{Mend}
use Rattle.law_common.proofs.Numbers.{other_number}
use Rattle.law_driver.proofs.Common.{waits_is}
use Rattle.law_driver_ring.proofs.Common.{one_told}
use Rattle.bus_wire.specs.Bus.{Fixed}
use Rattle.claims_base.specs.Prefix.{IsPrefix}
use Rattle.law_devices.specs.Controls.{control_of}
use Rattle.claims_report.specs.ControlSides.{Device}
use Rattle.claims_report.specs.Requests.{Request, Window}
use Rattle.claims_world.specs.Requests.{Windows, window_at}
use Rattle.drv_table.specs.declared.content.Endpoint.{Endpoint}
use Rattle.drv_table.specs.declared.content.QtdNote.{QtdNote}
use Rattle.drv_table.specs.declared.content.Transfer.{Transfer}
use Rattle.drv_table.specs.DriverContent.{DriverContent, waits_for}
use Rattle.drv_table.specs.Harvests.{note_at}
use Rattle.drv_table.specs.Words.{head_block, opening_head, request_stages}
use Rattle.hc_core.specs.declared.controller.MicroframePart.{MicroframePart}
use Rattle.hc_core.specs.declared.controller.MicroframePart.TheVariants as times
use Rattle.law_driver.specs.endpoint_lives.Lives.{told_end}
use Rattle.law_driver.specs.queued_drivers.Queued.{queued}
use Rattle.law_controller.specs.frame_control.Both.{RunsBoth}
use Rattle.law_controller.specs.frame_control.Joined.{joined}
use Rattle.law_descriptors.specs.Both.{both}
use Rattle.law_descriptors.specs.Meeting.{met}
use Rattle.law_frames.specs.Frame.{IsInFrame}
use Rattle.law_frames.specs.FrameHand.{FrameHand, Nothing, OfQueue, OfSettled, OfItd, OfSitd, came}
use Rattle.law_frames.specs.Met.{AQueue}
use Rattle.law_request.specs.Host.{Endpoint as Characteristics, has_data}
use Rattle.law_request.specs.Line.{Line}
use Rattle.law_request.specs.Windows.{IsRight, data_of}
use Rattle.law_request.proofs.Steps.{window_is_right}
use Rattle.law_ring.specs.Effects.{buffer_of}
use Rattle.law_ring.specs.Hand.{Hand, Empty}
use Rattle.law_ring.specs.Told.{Told, hand_bytes, told_bytes, settled_bytes, works_on, endpoint_of}
use Rattle.law_structures.specs.lent_structures.Structures.{StructureSets}
use Rattle.law_devices.specs.ring_requests.Laid.{Places}
use Rattle.law_devices.specs.ring_requests.Runs.{first_of}
use Rattle.law_devices.specs.ring_requests.Windows.{Queue, Sent, Lines as Told_lines, sent_at, IsWindow, IsFinished, IsBehind, IsQueue}
use Rattle.claims_base.specs.Controller.{opening_base}
use Rattle.law_world.specs.memory.Mixed.{Standing, IsMixedAt}
use Rattle.bus_world.specs.World.{World, controller_parts}
use Rattle.law_reports.specs.lines.Lined.{in_hand, Lines}
use Rattle.law_reports.specs.pipes.Declared.{Sides as Pipes}
use Rattle.law_reports.specs.pipes.Piped.{Heads, IsPiped}
use Rattle.law_reports.specs.requests.Asking.{Sides, Asking, next_with, IsMetControl}
use Rattle.law_reports.specs.requests.CancelLine.{waiting_from}
use Rattle.law_reports.specs.requests.Courses.{Course, NoQueue, Asks, Rests, queue_in, IsCourse}
use Rattle.law_reports.specs.requests.Footing.{IsFooting}
use Rattle.law_reports.specs.requests.HighAsking.{told_world, told_standing, told_streams, AreSuited, AsksAt}
use Rattle.law_reports.specs.requests.Records.{Numbers, IsRecord}
use Rattle.law_reports.specs.requests.driver_requests.Requests.{IsLaidOut}
use Rattle.law_reports.specs.requests.request_bytes.Fresh.{next_of, data_places, other_places}
use Rattle.law_reports.proofs.lemmas.requests.CancelWaits.{waits_are_unreported}
use Rattle.law_reports.proofs.lemmas.requests.EndedBeside.{data_three, is_number}
use Rattle.law_reports.proofs.lemmas.requests.HighRing.{member_of}
use Rattle.law_reports.proofs.lemmas.requests.lemmas.told_requests.Windows.{windows_have_front}
use Rattle.drv_table.specs.declared.content.Sort.TheVariants as sorts
use Rattle.claims_world.specs.Requests.{wired}
use Rattle.law_driver_ring.specs.told_harvests.Held.{AreUnmoved}
use Rattle.law_queues.specs.harvest_laws.Holds.{IsToCome}
use Rattle.law_queues.specs.told_endpoints.Telling.{lines_in}
use Rattle.law_reports.specs.requests.Asking.{IsReadTo, HasCourse, HasTelling}
use Rattle.law_reports.specs.requests.LeftStays.{IsWaiting}
use Rattle.law_reports.specs.requests.Telling.{IsTelling}
use Rattle.law_reports.proofs.lemmas.requests.Leaving.{idle_quiet}
use Rattle.std.specs.Prelude.{◌&&◌}
use Rattle.law_reports.specs.requests.LeftTold.{DataHasBegun, RequestHasBegun, WaitHasBegun, RestHasBegun, IsLeftToTell}

-- ---- of a queue

record IsMoved (v : Queue) (hand : Hand) (parts : StructureSets) (n i : ℕ) : Type 0 where
  bytes : List ℕ
  told : Told hand parts n (v.places i).data_at bytes
  begins : IsPrefix bytes (data_of v.endpoint (v.requests i))

module _ (v : Queue) (hand : Hand) (parts : StructureSets) (n i : ℕ) (some : has_data (v.requests i) ≡ true) where
  of_line : (l : Line) → Told hand parts n (v.places i).data_at l.host.moved → IsRight v.endpoint (v.requests i) l
      → IsMoved v hand parts n i
  of_line l moved is = record { bytes = l.host.moved; told = moved; begins = is.begins }

  of_behind : IsBehind (sent_at v i) hand parts n → IsMoved v hand parts n i
  of_behind b = record { bytes = []; told = b.none_told some; begins = (data_of v.endpoint (v.requests i), refl) }

  of_queue : (l : Told_lines) (o : Option Device) → IsQueue v l hand parts n o → i < v.count → IsMoved v hand parts n i
  of_queue l o k within =
      ⊎_elim
      (λ (done : i < l.under).
      let f : IsFinished (sent_at v i) (l.line i) hand parts n = k.finished i done in
      of_line (l.line i) (f.moved some) (window_is_right v.endpoint (v.requests i) (l.line i) f.stands))
      (λ (most : l.under ≤ i).
      ⊎_elim
      (λ (same : l.under ≡ i).
      let u : IsWindow (sent_at v i) (l.line i) hand parts n o =
      subst (λ (j : ℕ). IsWindow (sent_at v j) (l.line j) hand parts n o) same k.window in
      of_line (l.line i) (u.moved some) (window_is_right v.endpoint (v.requests i) (l.line i) u.stands))
      (λ (differs : l.under ≢ i). of_behind (k.behind i (omega (arith, most, differs)) within)) (cases_eq l.under i)) (cases_lt i l.under)

course_moved : {W : Type 0} (device : W → ℕ → ℕ → Option Device) (c : Course) (hand : Hand) (parts : StructureSets) (wire : W) (n i : ℕ)
    → IsCourse device parts hand wire n c → i < (queue_in c).count → has_data ((queue_in c).requests i) ≡ true
    → IsMoved (queue_in c) hand parts n i
course_moved device NoQueue hand parts wire n i k within some = absurd (omega (arith, within))
course_moved device (Asks v b l) hand parts wire n i k within some =
    of_queue v hand parts n i some l (device wire v.endpoint.addr v.endpoint.num) k.queue within
course_moved device (Rests v b c) hand parts wire n i k within some = of_behind v hand parts n i some (k.behind i within)

-- ---- lists

all_first : (P : ℕ → Type 0) (number : ℕ → ℕ) (n : ℕ) → ((i : ℕ) → i < n → P (number i)) → AllByRecursion P (first_of number n)
all_first P number zero each = tt
all_first P number (suc n) each =
    all_both P (first_of number n) (number n ∷ []) (all_first P number n
    (λ i below. each i (omega (arith, below)))) (each n (omega arith), tt)

all_two : (P Q R : ℕ → Type 0) → ((t : ℕ) → P t → Q t → R t) → (ts : List ℕ) → AllByRecursion P ts → AllByRecursion Q ts
    → AllByRecursion R ts
all_two P Q R each [] one other = tt
all_two P Q R each (t ∷ ts) one other = (each t one.0 other.0, all_two P Q R each ts one.1 other.1)

waiting_by : (P : ℕ → Type 0) (e k : ℕ) (y : Transfer) (ys : List Transfer) (b : Bool) → (b ≡ true → P k)
    → AllByRecursion P (waiting_from e (suc k) ys)
    → AllByRecursion P (if b then k ∷ waiting_from e (suc k) ys else waiting_from e (suc k) ys)
waiting_by P e k y ys true first rest = (first refl, rest)
waiting_by P e k y ys false first rest = rest

pub waiting_all : (P : ℕ → Type 0) (e k : ℕ) (ys : List Transfer)
    → ((i : ℕ) (y : Transfer) → slice_get ys i ≡ Some y → waits_for e y ≡ true → P (k + i)) → AllByRecursion P (waiting_from e k ys)
waiting_all P e k [] each = tt
waiting_all P e k (y ∷ ys) each =
    waiting_by P e k y ys (waits_for e y) (λ on. let same : k + 0 ≡ k = omega arith in subst P same (each 0 y refl on))
    (waiting_all P e (suc k) ys (λ i z here on. let same : k + suc i ≡ suc k + i = omega arith in subst P same (each (suc i) z here on)))

-- ---- in either hand

periodic_or : (part : MicroframePart) → (part ≡ times.Periodic) ⊎ (part ≢ times.Periodic)
periodic_or times.Periodic = inl refl
periodic_or _ = inr (λ is. cc)

module _ (s : Standing) (w : World) (k : IsMixedAt s w) (n : ℕ) (on : s.member n ≡ true) where
  runs : RunsBoth opening_base s.member (met w.driver s.recent) (both s.descs s.parts) s.hand s.frame (controller_parts w)
  runs = k.now.framed.runs

  module _ (periodic : w.control.part ≡ times.Periodic) (a : ℕ) (xs : List ℕ) (t : Told s.hand s.parts n a xs) where
    empty : s.hand ≡ Empty
    empty = runs.between (λ same. let bad : times.Periodic ≡ times.Asynchronous = sym periodic ∙ same in cc)

    in_frame : IsInFrame (met w.driver s.recent) (both s.descs s.parts) w.control.frame.got w.control.frame.reply s.frame
    in_frame = (runs.walk periodic).in_hand

    none_in_hand : xs ≡ told_bytes t.queue a t.qtd (buffer_of (s.parts n) t.qtd)
    none_in_hand = t.are ∙ ap (λ (h : Hand). hand_bytes h n t.queue a t.qtd (buffer_of (s.parts n) t.qtd)) empty

    with_frame : (f : FrameHand) → s.frame ≡ f → Told (joined s.hand f) s.parts n a xs
    with_frame Nothing is = t
    with_frame (OfItd c) is = t
    with_frame (OfSitd c) is = t
    with_frame (OfQueue c made) is = record { queue = t.queue; head = t.head; qtd = t.qtd; here = t.here; are = none_in_hand }
    with_frame (OfSettled c z made) is =
        let there : IsInFrame (met w.driver s.recent) (both s.descs s.parts) w.control.frame.got w.control.frame.reply
        (OfSettled c z made) =
        subst (IsInFrame (met w.driver s.recent) (both s.descs s.parts) w.control.frame.got w.control.frame.reply) is in_frame in
        let off : (c.at == n) ≡ false = other_number c.at n (λ same. true≢false (sym on ∙ ap s.member (sym same)
        ∙ runs.apart c.at AQueue there.0.on)) in
        record {
          queue = t.queue;
          head = t.head;
          qtd = t.qtd;
          here = t.here;
          are = none_in_hand
              ∙ sym (ap (λ (b : Bool). if b && works_on t.queue a then settled_bytes t.queue t.qtd (came z) (buffer_of (s.parts n) t.qtd)
              else told_bytes t.queue a t.qtd (buffer_of (s.parts n) t.qtd)) off);
        }

  pub told_joined : (a : ℕ) (xs : List ℕ) → Told s.hand s.parts n a xs → Told (in_hand s) s.parts n a xs
  told_joined a xs t =
      ⊎_elim (λ (periodic : w.control.part ≡ times.Periodic). with_frame periodic a xs t s.frame refl)
      (λ (other : w.control.part ≢ times.Periodic).
      subst (λ (f : FrameHand). Told (joined s.hand f) s.parts n a xs) (sym (runs.outside (inl other))) t)
      (periodic_or w.control.part)

-- ---- an endpoint that is met

module _ (g : Sides) (fixed : Fixed) (x : Pipes) (s : Standing) (m : Lines) (h : Heads) (w : World) (k : IsPiped fixed x s m h w)
    (f : IsFooting s.near (told_streams s) (told_standing s m) (told_world w)) (head : h.ends (32 * head_block) ≡ endpoint_of opening_head)
    (suited : AreSuited g w.driver) (a : Asking) (v : Windows) (asks : ℕ → Request) (q : AsksAt g fixed s a v asks w)
    (idle : (queued w.driver).command ≡ None) (e : ℕ) (y : Endpoint) (is : IsMetControl g (queued w.driver) e y) where
  abbrev d : DriverContent
  d = queued w.driver

  abbrev n : ℕ
  n = 32 * y.queue

  abbrev c : Course
  c = a.courses (32 * y.queue)

  abbrev b : Numbers
  b = a.numbers (32 * y.queue)

  abbrev course : HasCourse g (queued w.driver) e y (a.courses (32 * y.queue)) (a.numbers (32 * y.queue))
  course = q.each e y is

  abbrev rec : IsRecord (queued w.driver) asks (32 * y.queue) (a.courses (32 * y.queue)) (a.numbers (32 * y.queue)) v
  rec = q.records.each (32 * y.queue) (q.each e y is).queue

  abbrev tell : HasTelling (queued w.driver) asks e y g.whole v (a.numbers (32 * y.queue))
  tell = q.telling e y is

  count_is : (a.numbers (32 * y.queue)).requests.count ≡ (queue_in (a.courses (32 * y.queue))).count
  count_is =
      (q.each e y is).count
      ∙ ap (λ (on : Bool). if on then suc (queue_in (a.courses (32 * y.queue))).count else (queue_in (a.courses (32 * y.queue))).count)
      ((idle_quiet (queued w.driver) idle).none e)

  module _ (going : told_end y ≡ None) where
    abbrev waits : List ℕ
    waits = first_of (a.numbers (32 * y.queue)).number (a.numbers (32 * y.queue)).requests.count

    waits_are : (q.telling e y is).untold ++ waits ≡ waits
    waits_are = ap (λ (ns : List ℕ). ns ++ waits) ((q.telling e y is).going going)

    telling : IsTelling d asks e y.desc.name (g.whole y.desc.name) v (q.telling e y is).reported waits
    telling =
        subst (IsTelling d asks e y.desc.name (g.whole y.desc.name) v (q.telling e y is).reported) waits_are (q.telling e y is).telling

    many : length (q.telling e y is).reported ≡ length (lines_in y.desc.name d.reports)
    many =
        let t = (q.telling e y is) in
        let ws : List Window = map (window_at asks v) t.reported in
        let left : List Window = map (window_at asks v) waits in
        let front = windows_have_front d.reports d.store y.desc.name (g.whole y.desc.name) (ws ++ left) left t.uncancelled telling.told in
        let one = length-append ws left in
        let two = length-append front.0 left in
        let all = ap (λ (us : List Window). length us) front.1 in
        let long = length-map t.reported (window_at asks v) in
        let is_long = front.2 in
        omega (arith, one, two, all, long, is_long)

    -- none of them is reported
    abbrev IsUnreported : ℕ → Type 0
    IsUnreported u = (z : Transfer) → slice_get (queued w.driver).transfers u ≡ Some z → z.reported ≡ false

    unreported : AllByRecursion (λ (u : ℕ). IsUnreported u) waits
    unreported =
        subst (AllByRecursion (λ (u : ℕ). IsUnreported u))
        (sym (waits_are_unreported d asks e y.desc.name (g.whole y.desc.name) v
        (q.telling e y is).reported waits k.mixed.turns.turns.turns telling))
        (waiting_all (λ (u : ℕ). IsUnreported u) e 0 d.transfers
        (λ i z here on o there.
        ap (λ (r : Transfer). r.reported)
        (same_Some o z (sym there ∙ (let zero_more : 0 + i ≡ i = omega arith in ap (slice_get d.transfers) zero_more) ∙ here))
        ∙ (waits_is e z on).1))

    -- ---- one of them

    module _ (i : ℕ) (below : i < (a.numbers (32 * y.queue)).requests.count)
        (unmarked : IsUnreported ((a.numbers (32 * y.queue)).number i)) where
      abbrev u : ℕ
      u = (a.numbers (32 * y.queue)).number i

      abbrev r : Request
      r = (a.numbers (32 * y.queue)).requests.requests i

      laid : IsLaidOut (queued w.driver) ((a.numbers (32 * y.queue)).number i) ((a.numbers (32 * y.queue)).requests.requests i)
          ((a.numbers (32 * y.queue)).requests.places i)
      laid = rec.numbered.own.laid i (omega arith) below

      abbrev own : Transfer
      own = laid.own

      abbrev note : ℕ → QtdNote
      note = note_at w.driver.notes

      of_it : (own.endpoint ≡ e) × (own.sort ≡ sorts.Request)
      of_it =
          let t = rec.numbered.own.transfers i below in
          let same : t.own ≡ own = same_Some t.own own (sym t.here ∙ laid.here) in
          (ap (λ (z : Transfer). z.endpoint) (sym same) ∙ t.endpoint ∙ course.number, ap (λ (z : Transfer). z.sort) (sym same) ∙ t.sort)

      waiting : IsWaiting d e u own
      waiting = record { here = laid.here; endpoint = of_it.0; reported = unmarked own laid.here; released = laid.held }

      its_end : slice_get d.endpoints own.endpoint ≡ Some y
      its_end = ap (slice_get d.endpoints) of_it.0 ∙ is.is.here

      -- the first is the next one
      next_is : i ≡ 0 → y.next ≡ Some u
      next_is first =
          course.next going ∙ by (a.numbers (32 * y.queue)).requests.count below
          ∙ ap (λ (j : ℕ). Some ((a.numbers (32 * y.queue)).number j)) (sym first)
        where
          by : (m : ℕ) → i < m → next_with m ((a.numbers (32 * y.queue)).number 0) ≡ Some ((a.numbers (32 * y.queue)).number 0)
          by zero less = absurd (omega (arith, less))
          by (suc m) less = refl

      to_come : 0 < i → IsToCome (note_at w.driver.notes) own
      to_come later =
          k.telling.told.holds.to_come u own laid.here waiting.reported laid.held
          (λ z there next.
          let same : y ≡ z = same_Some y z (sym its_end ∙ there) in
          let less : (a.numbers (32 * y.queue)).number 0 < u = rec.numbered.own.rising 0 i later below in
          let first : Some u ≡ next_with (a.numbers (32 * y.queue)).requests.count ((a.numbers (32 * y.queue)).number 0) =
          sym next ∙ ap (λ (o : Endpoint). o.next) (sym same) ∙ course.next going in
          let one = is_number u (a.numbers (32 * y.queue)).requests.count ((a.numbers (32 * y.queue)).number 0) first in
          let are = one.0 in
          omega (arith, are, less))

      read : i ≡ 0 → IsReadTo s.hand s.parts n note own ((a.numbers (32 * y.queue)).requests.requests 0)
      read first = q.read e u y own is going (next_is first) laid.here

      stages : own.qtds ≡ length (request_stages r.setup)
      stages = laid.qtds

      some_qtds : 1 ≤ own.qtds
      some_qtds =
          let at = k.mixed.turns.turns.turns.places u own laid.here laid.held in
          let some = at.some in
          let most = at.most in
          omega (arith, some, most)

      setup : (note own.first).moved ≡ 0
      setup =
          ⊎_elim (λ (first : i ≡ 0). (read first).setup)
          (λ (other : i ≢ 0). unmoved own.qtds (to_come (omega (arith, other))).rest some_qtds) (cases_eq i 0)
        where
          unmoved : (j : ℕ) → AreUnmoved note own.first j → 1 ≤ j → (note own.first).moved ≡ 0
          unmoved zero all some = absurd (omega (arith, some))
          unmoved (suc j) all some = all.0

      -- ---- its data

      module _ (carries : has_data r ≡ true) where
        three : own.qtds ≡ 3
        three = data_three d u r ((a.numbers (32 * y.queue)).requests.places i) own laid laid.here carries

        in_queue : i < (queue_in c).count
        in_queue = let same = count_is in omega (arith, below, same)

        sent : sent_at b.requests i ≡ sent_at (queue_in c) i
        sent = rec.numbered.ahead.same i in_queue

        asked : (queue_in c).requests i ≡ r
        asked = ap (λ (z : Sent). z.request) (sym sent)

        moved : IsMoved (queue_in c) s.hand s.parts n i
        moved = course_moved control_of c s.hand s.parts (wired fixed w) n i (q.stand.each n) in_queue (ap has_data asked ∙ carries)

        place : ((queue_in c).places i).data_at ≡ 32 * next_of w.driver.notes own.first
        place =
            ap (λ (z : Sent). z.places.data_at) (sym sent) ∙ ap (λ (p : Places). p.data_at) laid.places
            ∙ ap (λ (on : Bool). (if on then data_places own.first (next_of w.driver.notes own.first)
            (next_of w.driver.notes (next_of w.driver.notes own.first))
            (next_of w.driver.notes (next_of w.driver.notes (next_of w.driver.notes own.first)))
            else other_places own.first (next_of w.driver.notes own.first) (next_of w.driver.notes
            (next_of w.driver.notes own.first))).data_at) carries

        told : Told s.hand s.parts n (32 * next_of w.driver.notes own.first) moved.bytes
        told = subst (λ (at : ℕ). Told s.hand s.parts n at moved.bytes) place moved.told

        done : own.left ≡ 1 → length moved.bytes ≡ (note (next_of w.driver.notes own.first)).moved
        done last =
            ⊎_elim
            (λ (first : i ≡ 0).
            let read_data = (read first).data_at (ap (λ (j : ℕ). has_data ((a.numbers (32 * y.queue)).requests.requests j)) (sym first)
            ∙ carries) last in
            ap length (one_told s.hand s.parts n
            (32 * next_of w.driver.notes own.first) moved.bytes read_data.bytes told read_data.done.told)
            ∙ read_data.done.count)
            (λ (other : i ≢ 0). absurd (let all = (to_come (omega (arith, other))).left in omega (arith, all, three, last))) (cases_eq i 0)

        whole_is : g.whole y.desc.name r ≡ data_of (queue_in c).endpoint ((queue_in c).requests i)
        whole_is =
            (q.given e y is.is).replies r
            ∙ ap (λ (z : Characteristics). data_of z r) (sym course.endpoint)
            ∙ ap (data_of (queue_in c).endpoint) (sym asked)

        data_begun : DataHasBegun (in_hand s) s.parts n (next_of w.driver.notes own.first) (note
            (next_of w.driver.notes own.first)) own.left
            (g.whole y.desc.name r)
        data_begun = record {
          bytes = moved.bytes;
          told = told_joined s w k.mixed n (member_of g fixed x s m h w k f head suited a v asks q n course.queue)
              (32 * next_of w.driver.notes own.first) moved.bytes told;
          done = done;
          begins = subst (IsPrefix moved.bytes) (sym whole_is) moved.begins;
        }

      wait_begun : WaitHasBegun d (in_hand s) s.parts n e (g.whole y.desc.name) asks u
      wait_begun = record {
        own = own;
        waits = waiting;
        begun = subst (RequestHasBegun (in_hand s) s.parts n w.driver.notes (g.whole y.desc.name) own)
            (sym (rec.numbered.order.requests i below))
            (record { sort = of_it.1; qtds = stages; setup = setup; data_at = λ carries. data_begun carries });
      }

    rest_begun : RestHasBegun d (in_hand s) s.parts e y (g.whole y.desc.name) asks
    rest_begun = record {
      reported = (q.telling e y is).reported;
      waits = waits;
      numbers = telling.numbers;
      many = many;
      wait = telling.wait;
      each = all_two (λ (t : ℕ). IsUnreported t
          → WaitHasBegun d (in_hand s) s.parts n e (g.whole y.desc.name) asks t) (λ (t : ℕ). IsUnreported t)
          (WaitHasBegun d (in_hand s) s.parts n e (g.whole y.desc.name) asks) (λ t one other. one other) waits
          (all_first _ b.number b.requests.count (λ i below. wait_begun i below)) unreported;
    }

  pub met_to_tell : (queued w.driver).mends ≡ [] → IsLeftToTell g s asks (queued w.driver) e y
  met_to_tell none = record {
    uncancelled = (q.telling e y is).uncancelled;
    owed = λ j o at same. nothing_at j o (sym (ap (λ (ms : List Mend). slice_get ms j) none) ∙ at);
    rest = rest_begun;
  }
