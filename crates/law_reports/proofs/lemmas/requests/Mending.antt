-- The next store by which a stalled control endpoint goes on leaves the queues of all control endpoints as they must stand.
use Rattle.std.proofs.Common.{[], ◌≡◌, ◌≢◌, ℕ, zero, suc, ◌*◌, ◌<◌, ◌++◌, Bool, true, false, List, ◌∷◌, drop, slice_get, take, length, ◌-◌, ◌==◌, ◌&&◌, if◌then◌else◌, Option, Some, None, ap, refl, sym, subst, ◌∙◌, ⊎_elim, arith}
use Rattle.std.specs.List.{AllByRecursion}
use Rattle.std.proofs.lemmas.Bool.{cases_eq, false≢true, true≢false}
use Rattle.std.proofs.lemmas.Option.{same_Some}
use Rattle.law_common.proofs.Booleans.{and_false}
use Rattle.law_queues.proofs.Common.{queue_of, first_of}
use Rattle.law_common.proofs.Numbers.{same_blocks}
use Rattle.law_reports.proofs.Common.{regone}
use Rattle.usb_base.specs.declared.endpoints.EndCause.{EndCause}
use Rattle.qh_qtd.specs.declared.qtd.Qtd.{Qtd}
use Rattle.bus_wire.specs.Bus.{Fixed}
use Rattle.qh_qtd.specs.declared.queue_head.Qh.{Qh}
use Rattle.link_words.specs.Links.{qtd_link_of}
use Rattle.link_words.specs.declared.kinds.QtdLink.TheVariants.{To}
use Rattle.hc_copy.specs.Visits.{next_pointer}
use Rattle.drv_table.specs.declared.content.Endpoint.{Endpoint}
use Rattle.drv_table.specs.declared.content.Mend.{Mend}
use Rattle.drv_table.specs.declared.content.Transfer.{Transfer}
use Rattle.drv_table.specs.DriverContent.{DriverContent}
use Rattle.drv_table.specs.Harvests.{note_at}
use Rattle.drv_table.specs.Parts.{Parts}
use Rattle.law_driver.specs.endpoint_lives.Lives.{told_end}
use Rattle.law_structures.specs.lent_structures.Structures.{QueueHead, StructureSets}
use Rattle.law_structures.proofs.lemmas.lent_structures.Names.{put_same, put_beside}
use Rattle.law_structures.proofs.lemmas.lent_structures.Altering.{found_queue}
use Rattle.law_queues.specs.mended_heads.Owed.{StalledQueue, mends_at, store_due, all_left, IsOwed, GoesOnAt}
use Rattle.law_queues.specs.mended_heads.Mended.{mended_by, IsAtMend, IsMendedWhole, mended as mended_head, head_at, driver_mended, parts_then, hand_then}
use Rattle.law_queues.proofs.lemmas.mended_heads.Row.{last_mend_ends, mend_spares_heads, mend_spares_endpoints, mend_spares_elements}
use Rattle.law_queues.proofs.lemmas.mended_heads.Mending.{keeps_endpoint, keeps_halted}
use Rattle.claims_report.specs.Requests.{Request}
use Rattle.law_ring.specs.Hand.{Hand, Settled}
use Rattle.law_ring.specs.Effects.{buffer_of}
use Rattle.law_ring.specs.Told.{told_bytes, settled_bytes, hand_bytes}
use Rattle.law_ring.specs.Sparing.{SparesElement}
use Rattle.law_ring.proofs.SparedSparing.{stale_hand_is_same}
use Rattle.law_devices.specs.ring_requests.Laid.{Places}
use Rattle.law_devices.specs.ring_requests.Windows.{Queue, Sent, sent_at}
use Rattle.law_devices.proofs.lemmas.ring_requests.RestingSpared.{stale_side}
use Rattle.dev_control.specs.Stages.{Stages}
use Rattle.law_devices.specs.Controls.{control_of}
use Rattle.law_request.specs.Host.{has_data}
use Rattle.law_reports.specs.requests.request_bytes.Fresh.{data_places, other_places, request_places, next_of}
use Rattle.law_driver_ring.specs.told_harvests.Held.{IsDone}
use Rattle.law_driver_ring.proofs.lemmas.told_harvests.Keeping.{spared_is_done}
use Rattle.bus_world.specs.World.{World, driver_parts}
use Rattle.law_world.specs.steps.Streaming.{Streams, Standing}
use Rattle.claims_world.specs.Requests.{wired, Windows}
use Rattle.law_reports.specs.requests.driver_requests.Requests.{IsLaidOut}
use Rattle.law_reports.specs.requests.Courses.{Course, NoQueue, Asks, Rests, has_queue, is_asking, queue_in, tail_in, have_queues, IsResting, IsCourse, CoursesStand, with_course}
use Rattle.law_reports.specs.requests.QueueChanges.{first_from, first_in, mended_from, mended_course, IsMendedTo}
use Rattle.law_reports.proofs.lemmas.requests.QueueChanging.{each_with}
use Rattle.law_reports.proofs.lemmas.requests.QueueMending.{mend_stands, mend_goes_on}
use Rattle.law_reports.specs.requests.Records.{Numbers, IsRecord, AreRecords}
use Rattle.law_reports.proofs.lemmas.requests.TransferChanging.{mended_is_recorded}
use Rattle.law_reports.proofs.lemmas.requests.Rows.{row_keeps_records}
use Rattle.law_world.specs.streams.Mends.{mended}
use Rattle.law_reports.specs.requests.Asking.{Sides, Asking, has_left, next_with, next_in, HasCourse, IsMetControl, IsReadTo, IsAskingWorld, HasAsks}
use Rattle.law_reports.proofs.lemmas.requests.Leaving.{idle_quiet, same_endpoint, RowLeaves, each_still, world_left}
use Rattle.law_reports.proofs.lemmas.requests.Beside.{HasOwner, one_queue, owner_of, stand_beside}
use Rattle.law_reports.proofs.lemmas.requests.Missed.{writing_misses_none, stale_unmissed}
use Rattle.law_reports.specs.requests.Footing.{IsFooting}
use Rattle.law_reports.proofs.lemmas.requests.Courses.{has_with}
use Rattle.word_mem.specs.Memory.{Mem}
use Rattle.drv_table.specs.declared.rows.DriverRow.TheVariants as rows

-- ---- the stores that are left

last_left : (q b made : ℕ) (rest : List Mend) → made ≡ 2 → drop 1 (drop made (mends_at q b) ++ rest) ≡ rest
last_left q b made rest is = ap (λ (k : ℕ). drop 1 (drop k (mends_at q b) ++ rest)) is

left_apart : (q r b made : ℕ) → made < 3 → r ≢ q → (rest : List Mend) → AllByRecursion (λ m. m.queue ≢ q) rest
    → AllByRecursion (λ m. m.queue ≢ q) (drop made (mends_at r b) ++ rest)
left_apart q r b zero few differs rest all = (differs, (differs, (differs, all)))
left_apart q r b (suc zero) few differs rest all = (differs, (differs, all))
left_apart q r b (suc (suc zero)) few differs rest all = (differs, all)
left_apart q r b (suc (suc (suc k))) few differs rest all = absurd (omega (arith, few))

others_apart : (d : DriverContent) (q : ℕ) (others : List StalledQueue) → AllByRecursion (IsOwed d) others
    → AllByRecursion (λ r. r.queue ≢ q) others → AllByRecursion (λ m. m.queue ≢ q) (all_left others)
others_apart d q [] owed apart = tt
others_apart d q (r ∷ rs) owed apart = left_apart q r.queue r.onward r.made owed.0.some apart.0 (all_left rs) (others_apart d q rs owed.1 apart.1)

dropped : (ms : List Mend) (i : ℕ) (m : Mend) → slice_get (drop 1 ms) i ≡ Some m → (j : ℕ) × slice_get ms j ≡ Some m
dropped [] i m at = let never : ◌≡◌ {A = Option Mend} None (Some m) = at in cc
dropped (r ∷ rs) i m at = (suc i, at)

each_in : (P : Mend → Type 0) (ms : List Mend) → AllByRecursion P ms → (i : ℕ) (m : Mend) → slice_get ms i ≡ Some m → P m
each_in P [] all i m at = let never : ◌≡◌ {A = Option Mend} None (Some m) = at in cc
each_in P (r ∷ rs) all zero m at = subst P (same_Some r m at) all.0
each_in P (r ∷ rs) all (suc i) m at = each_in P rs all.1 i m at

-- ---- where a request begins

setup_by : (c : Bool) (b i j k : ℕ) → (if c then data_places b i j k else other_places b i j).setup ≡ 32 * b
setup_by true b i j k = refl
setup_by false b i j k = refl

setup_at : (d : DriverContent) (b : ℕ) (r : Request) → (request_places d.notes b r).setup ≡ 32 * b
setup_at d b r = setup_by (has_data r) b (next_of d.notes b) (next_of d.notes (next_of d.notes b)) (next_of d.notes (next_of d.notes (next_of d.notes b)))

-- ---- a queue head that isn't active

still_idle : (b made : ℕ) (q : Qh) → q.token.active ≡ false → (mended_by b made q).token.active ≡ false
still_idle b (suc (suc k)) q off = refl
still_idle b _ q off = off

mended_unmissed : (b made : ℕ) (q : Qh) → q.token.missed ≡ false → (mended_by b made q).token.missed ≡ false
mended_unmissed b (suc (suc k)) q off = refl
mended_unmissed b _ q off = off

told_idle : (q : Qh) (e : ℕ) (t : Qtd) (bs : List ℕ) → q.token.active ≡ false → told_bytes q e t bs ≡ take (length bs - t.token.total) bs
told_idle q e t bs off = ap (λ (b : Bool). take (length bs - (if b && q.current == e then q.token.total else t.token.total)) bs) off

bytes_idle : (hand : Hand) (n : ℕ) (q : Qh) (e : ℕ) (t : Qtd) (bs : List ℕ) → q.token.active ≡ false
    → hand_bytes hand n q e t bs ≡ take (length bs - t.token.total) bs
bytes_idle (Settled c y) n q e t bs off =
    ap (λ (b : Bool). if c.at == n && (b && q.current == e) then settled_bytes q t y bs else told_bytes q e t bs) off
    ∙ ap (λ (b : Bool). if b then settled_bytes q t y bs else told_bytes q e t bs) (and_false (c.at == n)) ∙ told_idle q e t bs off
bytes_idle _ n q e t bs off = told_idle q e t bs off

done_idle : (hand later : Hand) (parts now : StructureSets) (n b k : ℕ) (xs : List ℕ) (q new : Qh) → parts n n ≡ Some (QueueHead q)
    → now n n ≡ Some (QueueHead new) → q.token.active ≡ false → new.token.active ≡ false
    → SparesElement parts now n (32 * b) → IsDone hand parts n b k xs → IsDone later now n b k xs
done_idle hand later parts now n b k xs q new here there off off_now element d =
    let same : d.told.queue ≡ q = found_queue (parts n n) d.told.queue q d.told.head here in
    record {
      qtd = d.qtd;
      here = element.element d.qtd d.here;
      off = d.off;
      told = record {
        queue = new;
        head = there;
        qtd = d.told.qtd;
        here = element.element d.told.qtd d.told.here;
        are =
            d.told.are ∙ bytes_idle hand n d.told.queue (32 * b) d.told.qtd (buffer_of (parts n) d.told.qtd) (ap (λ (y : Qh). y.token.active) same ∙ off)
            ∙ ap (λ (bs : List ℕ). take (length bs - d.told.qtd.token.total) bs) (sym (element.bytes d.told.qtd d.told.here))
            ∙ sym (bytes_idle later n new (32 * b) d.told.qtd (buffer_of (now n) d.told.qtd) off_now);
      };
      count = d.count;
    }

-- ---- its course once it goes on

course_mended : (g : Sides) (d : DriverContent) (e : ℕ) (y : Endpoint) (u : Queue) (b : ℕ) (c : Stages) (ping : Bool) (a : Numbers) (count : ℕ)
    → HasCourse g d e y (Rests u b c) a → told_end y ≡ None
    → ((i : ℕ) (m : Mend) → slice_get d.mends i ≡ Some m → m.queue ≢ y.queue) → HasCourse g d e y (mended_from count u b ping c) a
course_mended g d e y u b c ping a zero h going none = record {
  queue = refl;
  endpoint = h.endpoint;
  number = h.number;
  tail = h.tail;
  count = h.count;
  newest = h.newest;
  next = h.next;
  ended = h.ended;
  owed = h.owed;
}
course_mended g d e y u b c ping a (suc k) h going none = record {
  queue = refl;
  endpoint = h.endpoint;
  number = h.number;
  tail = h.tail;
  count = h.count;
  newest = h.newest;
  next = h.next;
  ended = λ cause is. let never : ◌≡◌ {A = Option EndCause} None (Some cause) = sym going ∙ is in absurd (cc);
  owed = λ i m at same. absurd (none i m at same);
}

-- ---- the world

module _ (g : Sides) (fixed : Fixed) (member : ℕ → Bool) (x : Streams) (s : Standing) (a : Asking) (v : Windows) (asks : ℕ → Request)
    (w : World) (k : IsFooting member x s w) (z : IsAskingWorld g fixed member s a v asks w) (p : Parts) (at : IsAtMend p s.parts s.out)
    (idle_is : w.driver.command ≡ None) (mends_are : w.driver.mends ≡ all_left (at.stalled ∷ at.others)) (owed_are : AllByRecursion (IsOwed w.driver) (at.stalled ∷ at.others)) (more : Mem) where
  abbrev d : DriverContent
  d = w.driver

  abbrev q : StalledQueue
  q = at.stalled

  abbrev n : ℕ
  n = 32 * at.stalled.queue

  abbrev owed : IsOwed w.driver at.stalled
  owed = owed_are.0

  abbrev new : Qh
  new = mended_head at.stalled (head_at at)

  first_is : slice_get w.driver.mends 0 ≡ Some (store_due at.stalled)
  first_is = ap (λ (ms : List Mend). slice_get ms 0) mends_are ∙ first_of at.stalled.queue at.stalled.onward at.stalled.made (all_left at.others) owed.some

  leaves : RowLeaves w.driver (driver_mended w.driver)
  unfolding same_endpoint
  leaves = record {
    quiet = idle_quiet w.driver idle_is;
    quiet_now = idle_quiet (driver_mended w.driver) idle_is;
    was = same_endpoint w.driver (driver_mended w.driver) refl;
    still = λ e y here. record { now = y; here = here; desc = refl; queue = refl };
    opening = λ e y here. refl;
    linked = λ b off. off;
    near = λ e y here on. on;
    mends = dropped w.driver.mends;
    numbers = λ e. refl;
  }

  -- ---- its course

  module _ (has : have_queues a.courses n ≡ true) where
    owner : HasOwner g w a n
    owner = owner_of g fixed member x s a v asks w k z n has

    same_number : owner.number ≡ owed.number
    same_number = one_queue g fixed member x s a v asks w k z owner.number owed.number owner.endpoint owed.endpoint owner.control.is.here owed.here owner.control.met.there.kept owed.kept (same_blocks owner.endpoint.queue owed.endpoint.queue (sym owner.at ∙ ap (λ (b : ℕ). 32 * b) (sym owed.queue)))

    same_endpoint_is : owed.endpoint ≡ owner.endpoint
    same_endpoint_is = same_Some owed.endpoint owner.endpoint (sym owed.here ∙ ap (slice_get w.driver.endpoints) (sym same_number) ∙ owner.control.is.here)

    course_at : HasCourse g w.driver owner.number owner.endpoint (a.courses n) (a.numbers n)
    course_at = subst (λ (b : ℕ). HasCourse g w.driver owner.number owner.endpoint (a.courses b) (a.numbers b)) (sym owner.at) (z.each owner.number owner.endpoint owner.control)

    off : is_asking (a.courses n) ≡ false
    off = course_at.owed 0 (store_due at.stalled) first_is (queue_of q.queue q.onward q.made ∙ sym owed.queue ∙ ap (λ (y : Endpoint). y.queue) same_endpoint_is)

    -- all its requests are published
    all_there : (a.numbers n).requests.count ≡ (queue_in (a.courses n)).count
    all_there = course_at.count ∙ ap (λ (b : Bool). if b then suc (queue_in (a.courses n)).count else (queue_in (a.courses n)).count) (leaves.quiet.none owner.number)

    -- where its queue goes on
    module _ (u : Queue) (b : ℕ) (c : Stages) (is : a.courses n ≡ Rests u b c) where
      going : owner.endpoint.next ≡ next_in (a.numbers n)
      going = course_at.next (ap told_end (sym same_endpoint_is) ∙ owed.going)

      goes_on : GoesOnAt w.driver.transfers owner.endpoint.dummy (next_in (a.numbers n)) q.onward
      goes_on =
          subst (λ (o : Option ℕ). GoesOnAt w.driver.transfers owner.endpoint.dummy o q.onward) going
          (subst (λ (y : Endpoint). GoesOnAt w.driver.transfers y.dummy y.next q.onward) same_endpoint_is owed.onward)

      counts : (a.numbers n).requests.count ≡ u.count
      counts = all_there ∙ ap (λ (r : Course). (queue_in r).count) is

      tail : b ≡ 32 * owner.endpoint.dummy
      tail = ap tail_in (sym is) ∙ course_at.tail ∙ leaves.quiet.tail owner.number owner.endpoint

      first_by_count : (count : ℕ) → (a.numbers n).requests.count ≡ count
          → GoesOnAt w.driver.transfers owner.endpoint.dummy (next_with count ((a.numbers n).number 0)) q.onward
          → 32 * q.onward ≡ first_from count u b
      first_by_count zero none to = ap (λ (i : ℕ). 32 * i) to ∙ sym tail
      first_by_count (suc j) some to =
          let r : IsRecord w.driver asks n (a.courses n) (a.numbers n) v = z.records.each n has in
          let laid : IsLaidOut w.driver ((a.numbers n).number 0) ((a.numbers n).requests.requests 0) ((a.numbers n).requests.places 0) = r.numbered.own.laid 0 (omega arith) (omega (arith, some)) in
          let own : to.transfer ≡ laid.own = same_Some to.transfer laid.own (sym to.here ∙ laid.here) in
          let same : sent_at (a.numbers n).requests 0 ≡ sent_at (queue_in (a.courses n)) 0 = r.numbered.ahead.same 0 (let there = all_there in omega (arith, some, there)) in
          let at_first : 32 * q.onward ≡ 32 * laid.own.first = ap (λ (i : ℕ). 32 * i) (to.first ∙ ap (λ (y : Transfer). y.first) own) in
          let place : 32 * laid.own.first ≡ ((a.numbers n).requests.places 0).setup = sym (setup_at w.driver laid.own.first ((a.numbers n).requests.requests 0)) ∙ ap (λ (y : Places). y.setup) (sym laid.places) in
          let setup : ((a.numbers n).requests.places 0).setup ≡ ((queue_in (a.courses n)).places 0).setup = ap (λ (y : Sent). y.places.setup) same in
          at_first ∙ place ∙ setup ∙ ap (λ (y : Course). ((queue_in y).places 0).setup) is

      onward_is : 32 * q.onward ≡ first_in u b
      onward_is = first_by_count (a.numbers n).requests.count refl goes_on ∙ ap (λ (i : ℕ). first_from i u b) counts

  -- ---- the queues

  beside : have_queues a.courses n ≡ false → CoursesStand control_of member a.courses (parts_then at) (hand_then at s.hand) (wired fixed w)
  beside none =
      stand_beside control_of s.parts (parts_then at) s.hand (hand_then at s.hand) (wired fixed w) (λ j. stale_side n j s.hand) (stale_hand_is_same n s.hand) member a.courses
      (λ j has. put_beside s.parts n n (QueueHead new) j (λ same. false≢true (sym none ∙ ap (have_queues a.courses) (sym same) ∙ has)))
      (λ j own met has. mend_spares_endpoints p s.parts s.out at j own has) z.stand

  abbrev here : s.parts n n ≡ Some (QueueHead (head_at at))
  here = at.are.wait.0.stands.here

  -- its overlay isn't active
  module _ (u : Queue) (b : ℕ) (c : Stages) (is : a.courses n ≡ Rests u b c) where
    resting : IsResting u b c s.hand s.parts n (control_of (wired fixed w) u.endpoint.addr u.endpoint.num)
    resting = subst (IsCourse control_of s.parts s.hand (wired fixed w) n) is (z.stand.each n)

    idle : (head_at at).token.active ≡ false
    idle = ap (λ (y : Qh). y.token.active) (found_queue (s.parts n n) (head_at at) resting.rest.queue here resting.rest.head) ∙ resting.rest.idle

    idle_now : new.token.active ≡ false
    idle_now = still_idle q.onward q.made (head_at at) idle

    mended_to : IsMendedTo s.parts n (head_at at) new
    mended_to = record { here = here; endpoint = keeps_endpoint q.onward q.made (head_at at); idle = idle_now }

    stands : new.token.halted ≡ true → CoursesStand control_of member a.courses (parts_then at) (hand_then at s.hand) (wired fixed w)
    stands halted =
        mend_stands control_of member a.courses s.parts s.hand w.control.walk.reply (wired fixed w) n b u c (head_at at) new is k.in_hand mended_to halted z.stand

    goes : new.token.halted ≡ false → qtd_link_of (next_pointer new) ≡ To (first_in u b)
        → CoursesStand control_of member (with_course a.courses n (mended_course u b new.token.ping c)) (parts_then at) (hand_then at s.hand) (wired fixed w)
    goes on leads =
        mend_goes_on control_of member a.courses s.parts s.hand w.control.walk.reply (wired fixed w) n b u c (head_at at) new is k.in_hand mended_to on leads z.stand

  -- ---- what is read

  element : (j e : ℕ) → SparesElement s.parts (parts_then at) j e
  element j e = mend_spares_elements p s.parts s.out at j e

  done_own : (u : Queue) (b : ℕ) (c : Stages) → a.courses n ≡ Rests u b c → (i bytes : ℕ) (xs : List ℕ) → IsDone s.hand s.parts n i bytes xs
      → IsDone (hand_then at s.hand) (parts_then at) n i bytes xs
  done_own u b c is i bytes xs d =
      done_idle s.hand (hand_then at s.hand) s.parts (parts_then at) n i bytes xs (head_at at) new here (put_same s.parts n n (QueueHead new)) (idle u b c is) (idle_now u b c is) (element n (32 * i)) d

  done_by : (c : Course) → has_queue c ≡ true → is_asking c ≡ false → a.courses n ≡ c → (i bytes : ℕ) (xs : List ℕ)
      → IsDone s.hand s.parts n i bytes xs → IsDone (hand_then at s.hand) (parts_then at) n i bytes xs
  done_by NoQueue has none is i bytes xs d = absurd (false≢true has)
  done_by (Asks u b l) has none is i bytes xs d = absurd (true≢false none)
  done_by (Rests u b c) has none is i bytes xs d = done_own u b c is i bytes xs d

  done_at : (j : ℕ) → have_queues a.courses j ≡ true → (i bytes : ℕ) (xs : List ℕ) → IsDone s.hand s.parts j i bytes xs
      → IsDone (hand_then at s.hand) (parts_then at) j i bytes xs
  done_at j has i bytes xs d =
      ⊎_elim {C = IsDone (hand_then at s.hand) (parts_then at) j i bytes xs}
      (λ (same : j ≡ n).
      let there : have_queues a.courses n ≡ true = ap (have_queues a.courses) (sym same) ∙ has in
      subst (λ (h : ℕ). IsDone (hand_then at s.hand) (parts_then at) h i bytes xs) (sym same)
      (done_by (a.courses n) there (off there) refl i bytes xs (subst (λ (h : ℕ). IsDone s.hand s.parts h i bytes xs) same d)))
      (λ (differs : j ≢ n).
      spared_is_done s.hand (hand_then at s.hand) s.parts (parts_then at) j i bytes xs (stale_hand_is_same n s.hand) (mend_spares_heads p s.parts s.out at j differs) (element j (32 * i)) d) (cases_eq j n)

  reads : (e t : ℕ) (y : Endpoint) (tr : Transfer) → IsMetControl g (driver_mended w.driver) e y → told_end y ≡ None → y.next ≡ Some t
      → slice_get w.driver.transfers t ≡ Some tr
      → IsReadTo (hand_then at s.hand) (parts_then at) (32 * y.queue) (note_at w.driver.notes) tr ((a.numbers (32 * y.queue)).requests.requests 0)
  reads e t y tr c going next there =
      let m : IsMetControl g w.driver e y = record { is = record { here = c.is.here; control = c.is.control }; met = record { there = record { linked = c.met.there.linked; kept = c.met.there.kept }; near = c.met.near } } in
      let r : IsReadTo s.hand s.parts (32 * y.queue) (note_at w.driver.notes) tr ((a.numbers (32 * y.queue)).requests.requests 0) = z.read e t y tr m going next there in
      record {
        setup = r.setup;
        data_at = λ has one. let g = r.data_at has one in record { bytes = g.bytes; done = done_at (32 * y.queue) (z.each e y m).queue _ _ g.bytes g.done };
        rest = r.rest;
      }

  -- ---- the world

  recorded : AreRecords (driver_mended w.driver) asks a.courses a.numbers (has_left g (driver_mended w.driver)) v
  recorded =
      regone (driver_mended w.driver) asks a.courses a.numbers (has_left g w.driver) (has_left g (driver_mended w.driver)) v (λ e on. on)
      (row_keeps_records (driver_parts w) (rows.Mend (store_due at.stalled)) asks a.courses a.numbers (has_left g w.driver) v (λ j has. tt)
      (λ j i has few given. let never : ◌≡◌ {A = Option ℕ} None (Some ((a.numbers j).number i)) = given in cc) z.records)

  abbrev then_parts : Parts
  then_parts = record { driver = driver_mended w.driver; registers = w.registers; memory = more }

  world_by : (courses : ℕ → Course) → ((j : ℕ) → have_queues courses j ≡ true → have_queues a.courses j ≡ true)
      → CoursesStand control_of member courses (parts_then at) (hand_then at s.hand) (wired fixed w)
      → AreRecords (driver_mended w.driver) asks courses a.numbers (has_left g (driver_mended w.driver)) v
      → ((e : ℕ) (y : Endpoint) → IsMetControl g (driver_mended w.driver) e y → HasCourse g (driver_mended w.driver) e y (courses (32 * y.queue)) (a.numbers (32 * y.queue)))
      → HasAsks g member (parts_then at) (hand_then at s.hand) v asks (driver_mended w.driver) more (wired fixed w)
  world_by courses had stand records each = record {
    asking = record { courses = courses; numbers = a.numbers };
    world = world_left g fixed member s a v asks w then_parts leaves z (λ e y c. record { lines = refl; telling = λ reported waits t. record { numbers = t.numbers; told = t.told; wait = t.wait } }) (λ name u. refl)
        member (mended s at) courses had
        (writing_misses_none (have_queues a.courses) s.parts (32 * at.stalled.queue) (32 * at.stalled.queue) (QueueHead (mended_head at.stalled (head_at at)))
        (λ on. mended_unmissed at.stalled.onward at.stalled.made (head_at at) (z.unmissed.structures.heads (32 * at.stalled.queue) (head_at at) on at.are.wait.0.stands.here)) z.unmissed.structures)
        (stale_unmissed (have_queues a.courses) (32 * at.stalled.queue) s.hand z.unmissed.in_hand) stand records each reads;
  }

  still : CoursesStand control_of member a.courses (parts_then at) (hand_then at s.hand) (wired fixed w)
      → HasAsks g member (parts_then at) (hand_then at s.hand) v asks (driver_mended w.driver) more (wired fixed w)
  still stand = world_by a.courses (λ j has. has) stand recorded (each_still g fixed member s a v asks w then_parts leaves z)

  -- the window of the first that waits opens
  module _ (u : Queue) (b : ℕ) (c : Stages) (is : a.courses n ≡ Rests u b c) (has : have_queues a.courses n ≡ true)
      (last : q.made ≡ 2) where
    whole_now : IsMendedWhole q new
    whole_now = last_mend_ends p s.parts s.out at last

    abbrev course : Course
    course = mended_course u b new.token.ping c

    each_then : (e : ℕ) (y : Endpoint) → IsMetControl g (driver_mended w.driver) e y
        → HasCourse g (driver_mended w.driver) e y (with_course a.courses n (mended_course u b new.token.ping c) (32 * y.queue)) (a.numbers (32 * y.queue))
    each_then e y m =
        each_with a.courses n (mended_course u b new.token.ping c)
        (λ (j : ℕ) (r : Course). j ≡ 32 * y.queue → HasCourse g (driver_mended w.driver) e y r (a.numbers j))
        (λ own.
        let h : HasCourse g (driver_mended w.driver) e y (Rests u b c) (a.numbers n) =
        subst (λ (r : Course). HasCourse g (driver_mended w.driver) e y r (a.numbers n)) is
        (subst (λ (j : ℕ). HasCourse g (driver_mended w.driver) e y (a.courses j) (a.numbers j)) (sym own) (each_still g fixed member s a v asks w then_parts leaves z e y m)) in
        course_mended g (driver_mended w.driver) e y u b c new.token.ping (a.numbers n) u.count h (going_at own e y m refl)
        (λ i r at_r mine. let none = apart_now i r at_r in none (mine ∙ sym (same_blocks q.queue y.queue own))))
        (λ j differs own. subst (λ (i : ℕ). HasCourse g (driver_mended w.driver) e y (a.courses i) (a.numbers i)) (sym own) (each_still g fixed member s a v asks w then_parts leaves z e y m))
        (32 * y.queue) refl
      where
        going_at : n ≡ 32 * y.queue → (e : ℕ) (t : Endpoint) → IsMetControl g (driver_mended w.driver) e t → t.queue ≡ y.queue
            → told_end t ≡ None
        going_at own e t m same =
            let number : e ≡ owed.number =
            one_queue g fixed member x s a v asks w k z e owed.number t owed.endpoint m.is.here owed.here m.met.there.kept owed.kept (same ∙ sym (same_blocks q.queue y.queue own) ∙ sym owed.queue) in
            ap told_end (same_Some t owed.endpoint (sym m.is.here ∙ ap (slice_get w.driver.endpoints) number ∙ owed.here)) ∙ owed.going

        apart_now : (i : ℕ) (r : Mend) → slice_get (drop 1 w.driver.mends) i ≡ Some r → r.queue ≢ q.queue
        apart_now i r at_r =
            each_in (λ y. y.queue ≢ q.queue) (all_left at.others) (others_apart w.driver q.queue at.others owed_are.1 at.are.apart.0) i r
            (ap (λ (ys : List Mend). slice_get ys i) (sym (ap (drop 1) mends_are ∙ last_left q.queue q.onward q.made (all_left at.others) last)) ∙ at_r)

    goes_on_at : HasAsks g member (parts_then at) (hand_then at s.hand) v asks (driver_mended w.driver) more (wired fixed w)
    goes_on_at =
        world_by (with_course a.courses n (mended_course u b new.token.ping c)) (has_with a.courses n (mended_course u b new.token.ping c) has)
        (goes u b c is whole_now.halted (whole_now.leads ∙ ap To (onward_is has u b c is)))
        (record {
          each = each_with a.courses n (mended_course u b new.token.ping c)
              (λ (j : ℕ) (r : Course). has_queue r ≡ true → IsRecord (driver_mended w.driver) asks j r (a.numbers j) v)
              (λ on. mended_is_recorded (driver_mended w.driver) asks n b u c new.token.ping (a.numbers n) v
              (subst (λ (r : Course). IsRecord (driver_mended w.driver) asks n r (a.numbers n) v) is (recorded.each n has)))
              (λ j differs on. recorded.each j on);
          left = recorded.left;
          none = recorded.none;
        }) each_then

  by_course : (r : Course) → a.courses n ≡ r
      → HasAsks g member (parts_then at) (hand_then at s.hand) v asks (driver_mended w.driver) more (wired fixed w)
  by_course NoQueue is = still (beside (ap has_queue is))
  by_course (Asks u b l) is = absurd (false≢true (sym (off (ap has_queue is)) ∙ ap is_asking is))
  by_course (Rests u b c) is =
      ⊎_elim {C = HasAsks g member (parts_then at) (hand_then at s.hand) v asks (driver_mended w.driver) more (wired fixed w)} (λ (last : q.made ≡ 2). goes_on_at u b c is (ap has_queue is) last)
      (λ (differs : q.made ≢ 2).
      let few = owed.some in
      still (stands u b c is (keeps_halted q.onward q.made (head_at at) (omega (arith, few, differs)) at.are.wait.0.stands.halted))) (cases_eq q.made 2)

  pub mended_asks : HasAsks g member (parts_then at) (hand_then at s.hand) v asks (driver_mended w.driver) more (wired fixed w)
  mended_asks = by_course (a.courses n) refl
