-- The row that gives a harvested transfer's blocks back leaves the queues of all control endpoints as they stand: what it gives back is no request that waits.
use Rattle.std.proofs.Common.{[], ◌≡◌, ◌≢◌, ℕ, zero, suc, ◌+◌, ◌*◌, ◌<◌, ◌≤◌, ◌||◌, Bool, true, false, List, ◌∷◌, slice_get, Option, Some, None, option_map, ap, refl, sym, subst, ◌∙◌, ⊎_elim, inr, arith}
use Rattle.std.specs.Prelude.{◌⊎◌}
use Rattle.std.proofs.lemmas.Bool.{cases_eq, false≢true, true≢false}
use Rattle.std.proofs.lemmas.Option.{same_Some}
use Rattle.law_common.proofs.Numbers.{other_number}
use Rattle.law_controller.proofs.Common.{same_hand}
use Rattle.law_reports.proofs.Common.{regone}
use Rattle.usb_base.specs.declared.endpoints.EndCause.{EndCause}
use Rattle.bus_wire.specs.Bus.{Fixed}
use Rattle.mem_runs.specs.Book.{holding}
use Rattle.drv_table.specs.declared.content.Endpoint.{Endpoint}
use Rattle.drv_table.specs.declared.content.Transfer.{Transfer}
use Rattle.drv_table.specs.DriverContent.{DriverContent}
use Rattle.drv_table.specs.Harvests.{note_at}
use Rattle.drv_table.specs.Parts.{Parts}
use Rattle.drv_table.specs.Rows.{after_driver_row}
use Rattle.drv_table.specs.Releases.{after_transfer, freed_by, free_qtds}
use Rattle.claims_driver.specs.Owners.{note_in}
use Rattle.law_driver.specs.endpoint_lives.Lives.{told_end}
use Rattle.law_driver.specs.chained_transfers.Turns.{AreReportedTo, IsNext, turn_of, turn_in}
use Rattle.law_structures.specs.lent_structures.Structures.{Structures, StructureSets}
use Rattle.law_driver_ring.specs.Released.{names_one, blocks_of, goes_of}
use Rattle.law_driver_ring.proofs.Blocks.{mine}
use Rattle.claims_report.specs.Requests.{Request}
use Rattle.law_request.specs.Host.{Stage, Setup, Data}
use Rattle.law_ring.specs.Effects.{buffer_of}
use Rattle.law_ring.specs.Fewer.{without_those}
use Rattle.law_ring.specs.Sparing.{SparesElement}
use Rattle.law_ring.proofs.Returning.{those_beside}
use Rattle.law_controller.proofs.lemmas.controlled_streams.Returning.{spares_head, spares_element}
use Rattle.law_devices.specs.ring_requests.Laid.{Places, place_at}
use Rattle.law_devices.specs.ring_requests.Windows.{Sent}
use Rattle.law_devices.specs.Controls.{control_of}
use Rattle.law_devices.proofs.Places.{set_beside}
use Rattle.law_driver_ring.proofs.lemmas.told_harvests.Keeping.{spared_is_done}
use Rattle.bus_world.specs.World.{World, driver_parts}
use Rattle.law_world.specs.steps.Streaming.{Streams, Standing}
use Rattle.claims_world.specs.Requests.{wired, Windows, numbers_of}
use Rattle.law_reports.specs.requests.driver_requests.Requests.{IsOfTransfer, IsLaidOut}
use Rattle.law_reports.proofs.lemmas.requests.lemmas.driver_requests.Owning.{qtds_case, first_piece, second_piece, setup_place, status_place, data_place, IsQtdAt, owned_piece}
use Rattle.law_reports.proofs.lemmas.requests.lemmas.driver_requests.RowOrder.{row_numbers}
use Rattle.law_reports.specs.requests.Courses.{queues, have_queues, CoursesStand}
use Rattle.law_reports.specs.requests.Spared.{GoBeside}
use Rattle.law_reports.proofs.lemmas.requests.Writing.{release_spares}
use Rattle.law_reports.specs.requests.Records.{AreRecords}
use Rattle.law_reports.proofs.lemmas.requests.Rows.{row_keeps_records}
use Rattle.law_reports.specs.requests.Telling.{IsTelling}
use Rattle.law_reports.proofs.lemmas.requests.Telling.{quiet_row_keeps_telling}
use Rattle.law_world.proofs.lemmas.streams.Returning.{transfer, endpoint}
use Rattle.law_reports.specs.requests.Asking.{Sides, Asking, left_with, has_left, next_with, HasCourse, IsMetControl, IsReadTo, IsAskingWorld, AsksIn}
use Rattle.law_reports.proofs.lemmas.requests.Leaving.{idle_quiet, same_endpoint, RowLeaves, LinesLeave, each_still, world_left}
use Rattle.law_reports.proofs.lemmas.requests.Beside.{HasOwner, owner_of}
use Rattle.law_reports.proofs.lemmas.requests.Missed.{release_misses_none}
use Rattle.law_queues.proofs.lemmas.released_queues.StayingQueues.{goes_off, dummy_off}
use Rattle.law_queues.specs.released_queues.Released.{IsReturning}
use Rattle.law_queues.specs.released_queues.Staying.{QueuesAreTold, ReleaseLeaves}
use Rattle.law_queues.proofs.lemmas.released_queues.Staying.{release_stays}
use Rattle.law_driver_ring.specs.fed_queues.Places.{IsMet}
use Rattle.law_driver.proofs.lemmas.chained_transfers.Holding.{held_alive}
use Rattle.law_reports.specs.requests.Footing.{IsFooting}
use Rattle.drv_table.specs.declared.content.Command.{Command}
use Rattle.drv_table.specs.declared.rows.DriverRow.TheVariants as rows
use Rattle.drv_table.specs.declared.content.Command.TheVariants as unfinished

-- ---- numbers

some_next : (count t : ℕ) → 0 < count → next_with count t ≡ Some t
some_next zero t some = absurd (omega (arith, some))
some_next (suc i) t some = refl

pub next_is : (count t u : ℕ) → next_with count t ≡ Some u → (0 < count) × (t ≡ u)
next_is zero t u is = let never : ◌≡◌ {A = Option ℕ} None (Some u) = is in absurd cc
next_is (suc i) t u is = (omega arith, same_Some t u is)

-- no block begins there
odd_stays : (bs : List ℕ) (b : ℕ) → names_one bs (32 * b + 1) ≡ false
odd_stays [] b = refl
odd_stays (c ∷ bs) b = ap (λ (t : Bool). t || names_one bs (32 * b + 1)) (other_number (32 * b + 1) (32 * c) (λ same. omega (arith, same))) ∙ odd_stays bs b

-- ---- a qTD of a request

module _ (d : DriverContent) (t : ℕ) (r : Request) (x : Places) (l : IsLaidOut d t r x) where
  pub two_at_least : 2 ≤ l.own.qtds
  two_at_least =
      let many = l.qtds in
      ⊎_elim {C = 2 ≤ l.own.qtds} (λ none. let two = none.1 in omega (arith, many, two)) (λ some. let three = some.1 in omega (arith, many, three)) (qtds_case r)

  setup_is : IsQtdAt d l.own x.setup
  setup_is = record {
    block = l.own.first;
    at = sym (setup_place d t r x l);
    piece = first_piece (note_in d.notes) l.own.first l.own.qtds (let many = two_at_least in omega (arith, many));
  }

  pub place_is : (st : Stage) → (place_at x st ≡ 32 * l.own.first + 1) ⊎ IsQtdAt d l.own (place_at x st)
  place_is Setup = inr setup_is
  place_is Data = data_place d t r x l
  place_is _ = inr (status_place d t r x l)

module _ (g : Sides) (fixed : Fixed) (member : ℕ → Bool) (x : Streams) (s : Standing) (a : Asking) (v : Windows) (asks : ℕ → Request)
    (w : World) (k : IsFooting member x s w) (z : IsAskingWorld g fixed member s a v asks w)
    (t : ℕ) (y : Transfer) (own : Endpoint) (r : IsReturning w.driver t y own) where
  abbrev d : DriverContent
  d = w.driver

  abbrev p : Parts
  p = driver_parts w

  abbrev n : ℕ
  n = 32 * own.queue

  abbrev goes : ℕ → Bool
  goes = goes_of w.driver y

  abbrev now : StructureSets
  now = without_those s.parts n goes

  abbrev after : Parts
  after = after_transfer (driver_parts w) t (Some y) (free_qtds w.driver.notes (holding w.driver.book w.memory) y.first y.qtds)

  row_is : after_driver_row (rows.ReleaseTransfer t) (driver_parts w) ≡ after
  row_is = ap (λ (o : Option Transfer). after_transfer (driver_parts w) t o (freed_by w.driver (holding w.driver.book w.memory) o)) r.here

  idle : w.driver.command ≡ None
  idle = r.free

  abbrev told : QueuesAreTold s.parts (driver_parts w) s.order s.out
  told = record {
    driven = k.driven;
    owners = k.owners;
    in_runs = k.in_runs;
    asynchronous = k.turns.asynchronous;
    chained = k.turns.chained;
    turns = k.turns.turns;
    fed = k.queues.fed;
    last = k.queues.last;
    still_out = k.queues.out_are;
    fronts = k.fronts;
    rise = k.controls.rises;
  }

  met : IsMet w.driver y.endpoint own
  met = record {
    there = record { linked = λ is. let never : ◌≡◌ {A = Option Command} None (Some (unfinished.Open own.queue)) = sym r.free ∙ is in cc; kept = held_alive w.driver t y own k.turns.turns r.here r.held r.endpoint };
    near = r.near;
  }

  leaves_all : ReleaseLeaves s.parts (driver_parts w) s.order s.out t y own n goes
  leaves_all = release_stays s.parts (driver_parts w) s.order s.out t y own told r (k.sound y.endpoint own r.endpoint met)

  -- what was shown of the queue, here
  off : (c : ℕ) → mine t (k.owners.owner c) ≡ false → goes (32 * c) ≡ false
  off = goes_off s.parts (driver_parts w) s.order s.out t y own told r

  head_off : goes n ≡ false
  head_off = leaves_all.head

  leaves : RowLeaves w.driver after.driver
  unfolding same_endpoint
  leaves = record {
    quiet = idle_quiet w.driver idle;
    quiet_now = idle_quiet after.driver idle;
    was = same_endpoint w.driver after.driver refl;
    still = λ e i here. record { now = i; here = here; desc = refl; queue = refl };
    opening = λ e i here. refl;
    linked = λ b other. other;
    near = λ e i here on. on;
    mends = λ i m at. (i, at);
    numbers = λ e. sym (ap (λ (q : Parts). numbers_of q.driver e) row_is) ∙ row_numbers (driver_parts w) (rows.ReleaseTransfer t) e;
  }

  -- ---- requests that wait

  course_at : (j : ℕ) → (has : have_queues a.courses j ≡ true) → (o : HasOwner g w a j)
      → HasCourse g w.driver o.number o.endpoint (a.courses j) (a.numbers j)
  course_at j has o = subst (λ (i : ℕ). HasCourse g w.driver o.number o.endpoint (a.courses i) (a.numbers i)) (sym o.at) (z.each o.number o.endpoint o.control)

  waits : (j i : ℕ) (tr : Transfer) → have_queues a.courses j ≡ true → i < (a.numbers j).requests.count
      → slice_get w.driver.transfers ((a.numbers j).number i) ≡ Some tr → tr.reported ≡ false
  waits j i tr has few there = by (told_end o.endpoint) refl
    where
      o : HasOwner g w a j
      o = owner_of g fixed member x s a v asks w k z j has

      c : HasCourse g w.driver o.number o.endpoint (a.courses j) (a.numbers j)
      c = course_at j has o

      of : IsOfTransfer w.driver (a.numbers j).endpoint ((a.numbers j).number i)
      of = (z.records.each j has).numbered.own.transfers i few

      its : tr.endpoint ≡ o.number
      its = ap (λ (q : Transfer). q.endpoint) (same_Some tr of.own (sym there ∙ of.here)) ∙ of.endpoint ∙ o.is

      later : IsNext (turn_in w.driver.transfers) o.number ((a.numbers j).number 0) → (b : Bool) → tr.reported ≡ b → tr.reported ≡ false
      later first false is = is
      later first true is =
          ⊎_elim {C = tr.reported ≡ false}
          (λ (zero : i ≡ 0).
          ap (λ (q : _). q.reported) (same_Some (turn_of tr) first.transfer (ap (option_map turn_of) (sym there ∙ ap (λ (m : ℕ). slice_get w.driver.transfers ((a.numbers j).number m)) zero) ∙ first.here)) ∙ first.waits)
          (λ (differs : i ≢ 0).
          absurd (true≢false
          (sym (k.turns.turns.turns.reported ((a.numbers j).number 0) ((a.numbers j).number i) first.transfer (turn_of tr) ((z.records.each j has).numbered.own.rising 0 i (omega (arith, differs)) few) first.here
          (ap (option_map turn_of) there) (its ∙ sym first.endpoint) is) ∙ first.waits)))
          (cases_eq i 0)

      by : (q : Option EndCause) → told_end o.endpoint ≡ q → tr.reported ≡ false
      by None is =
          later
          (subst (AreReportedTo (turn_in w.driver.transfers) o.number) (c.next is ∙ some_next (a.numbers j).requests.count ((a.numbers j).number 0) (omega (arith, few)))
          (k.turns.turns.turns.next o.number o.endpoint o.control.is.here is)) tr.reported refl
      by (Some cause) is = let none = (c.ended cause is).0 in absurd (omega (arith, few, none))

  other : (j i : ℕ) → have_queues a.courses j ≡ true → i < (a.numbers j).requests.count → (a.numbers j).number i ≢ t
  other j i has few same =
      true≢false (sym r.reported ∙ waits j i y has few (ap (slice_get w.driver.transfers) same ∙ r.here))

  -- a qTD of another transfer stays
  piece_stays : (u c : ℕ) (q : Transfer) → u ≢ t → slice_get w.driver.transfers u ≡ Some q → IsQtdAt w.driver q c → q.released ≡ false
      → goes c ≡ false
  piece_stays u c q differs there at held =
      ap goes at.at
      ∙ off at.block (ap (mine t) (owned_piece w.driver k.owners u at.block q there held at.piece) ∙ other_number u t differs)

  laid_at : (j i : ℕ) → have_queues a.courses j ≡ true → i < (a.numbers j).requests.count
      → IsLaidOut w.driver ((a.numbers j).number i) ((a.numbers j).requests.requests i) ((a.numbers j).requests.places i)
  laid_at j i has few = (z.records.each j has).numbered.own.laid i (omega arith) few

  place_stays : (j i : ℕ) (st : Stage) → have_queues a.courses j ≡ true → i < (a.numbers j).requests.count
      → goes (place_at ((a.numbers j).requests.places i) st) ≡ false
  place_stays j i st has few =
      let l = laid_at j i has few in
      ⊎_elim {C = goes (place_at ((a.numbers j).requests.places i) st) ≡ false}
      (λ (odd : place_at ((a.numbers j).requests.places i) st ≡ 32 * l.own.first + 1). ap goes odd ∙ odd_stays (blocks_of (note_in w.driver.notes) y.first y.qtds) l.own.first)
      (λ (at : IsQtdAt w.driver l.own (place_at ((a.numbers j).requests.places i) st)). piece_stays ((a.numbers j).number i) (place_at ((a.numbers j).requests.places i) st) l.own (other j i has few) l.here at l.held)
      (place_is w.driver ((a.numbers j).number i) ((a.numbers j).requests.requests i) ((a.numbers j).requests.places i) l st)

  beside : GoBeside a.courses s.parts n goes
  beside = record {
    head = head_off;
    place = λ i st q has few there.
        let ahead = (z.records.each n has).numbered.ahead in
        let more = ahead.few in
        let stays : goes (place_at ((queues a.courses n).places i) st) ≡ false =
        subst (λ (u : Sent). goes (place_at u.places st) ≡ false) (ahead.same i few) (place_stays n i st has (omega (arith, few, more))) in (
          stays,
          λ pages j bytes is.
              leaves_all.buffers
              (place_at ((queues a.courses n).places i) st) q there stays (record { pages = pages; start = j; bytes = bytes; here = is }),
        );
    tail = λ has.
        let o = owner_of g fixed member x s a v asks w k z n has in
        let c = course_at n has o in
        ap goes (c.tail ∙ leaves.quiet.tail o.number o.endpoint)
        ∙ off o.endpoint.dummy
        (dummy_off s.parts (driver_parts w) s.order s.out t y own told r o.number o.endpoint o.control.is.here o.control.met.there.kept);
  }

  stand_now : CoursesStand control_of member a.courses now s.hand (wired fixed w)
  stand_now = release_spares control_of member a.courses s.parts s.hand (wired fixed w) n goes beside z.stand

  -- ---- what is recorded

  left_by : (e : ℕ) (o : Option Endpoint) → slice_get w.driver.endpoints e ≡ o → left_with g after.driver e o ≡ true
      → has_left g w.driver e ≡ true
  left_by e None is on = absurd (false≢true on)
  left_by e (Some i) is on = ap (left_with g w.driver e) is ∙ on

  recorded : AreRecords after.driver asks a.courses a.numbers (has_left g after.driver) v
  recorded =
      regone after.driver asks a.courses a.numbers (has_left g w.driver) (has_left g after.driver) v (λ e on. left_by e (slice_get w.driver.endpoints e) refl on)
      (subst (λ (q : Parts). AreRecords q.driver asks a.courses a.numbers (has_left g w.driver) v) row_is
      (row_keeps_records (driver_parts w) (rows.ReleaseTransfer t) asks a.courses a.numbers (has_left g w.driver) v (λ j has. tt)
      (λ j i has few given. other j i has few (sym (same_Some t ((a.numbers j).number i) given))) z.records))

  -- ---- what is read

  spares_at : (m c : ℕ) → goes c ≡ false → SparesElement s.parts now m c
  spares_at m c stays =
      ⊎_elim {C = SparesElement s.parts now m c}
      (λ (same : m ≡ n).
      subst (λ (i : ℕ). SparesElement s.parts now i c) (sym same)
      (spares_element s.parts n goes head_off
      leaves_all.buffers c stays))
      (λ (differs : m ≢ n).
      let same : now m ≡ s.parts m = those_beside s.parts n goes m differs in
      record { element = λ q here. ap (λ (part : Structures). part c) same ∙ here; bytes = λ q here. ap (λ (part : Structures). buffer_of part q) same }) (cases_eq m n)

  met_was : (e : ℕ) (i : Endpoint) → IsMetControl g after.driver e i → IsMetControl g w.driver e i
  met_was e i m = record {
    is = record { here = m.is.here; control = m.is.control };
    met = record { there = record { linked = m.met.there.linked; kept = m.met.there.kept }; near = m.met.near };
  }

  reads : (e u : ℕ) (i : Endpoint) (tr : Transfer) → IsMetControl g after.driver e i → told_end i ≡ None → i.next ≡ Some u
      → slice_get after.driver.transfers u ≡ Some tr
      → IsReadTo s.hand now (32 * i.queue) (note_at w.driver.notes) tr ((a.numbers (32 * i.queue)).requests.requests 0)
  reads e u i tr m going next there =
      let c = z.each e i (met_was e i m) in
      let first = next_is (a.numbers (32 * i.queue)).requests.count ((a.numbers (32 * i.queue)).number 0) u (sym (c.next going) ∙ next) in
      let differs : u ≢ t = λ same. other (32 * i.queue) 0 c.queue first.0 (first.1 ∙ same) in
      let was : slice_get w.driver.transfers u ≡ Some tr = sym (set_beside w.driver.transfers t u (record y { released = true }) differs) ∙ there in
      let before : IsReadTo s.hand s.parts (32 * i.queue) (note_at w.driver.notes) tr ((a.numbers (32 * i.queue)).requests.requests 0) = z.read e u i tr (met_was e i m) going next was in
      let l = laid_at (32 * i.queue) 0 c.queue first.0 in
      let same : l.own ≡ tr = same_Some l.own tr (sym l.here ∙ ap (slice_get w.driver.transfers) first.1 ∙ was) in
      let two : 2 ≤ tr.qtds = subst (λ (q : Transfer). 2 ≤ q.qtds) same (two_at_least w.driver ((a.numbers (32 * i.queue)).number 0) ((a.numbers (32 * i.queue)).requests.requests 0) ((a.numbers (32 * i.queue)).requests.places 0) l) in
      let held : tr.released ≡ false = ap (λ (q : Transfer). q.released) (sym same) ∙ l.held in
      let stays : goes (32 * (note_at w.driver.notes tr.first).next) ≡ false =
      piece_stays u (32 * (note_at w.driver.notes tr.first).next) tr differs was (record { block = (note_at w.driver.notes tr.first).next; at = refl; piece = second_piece (note_in w.driver.notes) tr.first tr.qtds two }) held in
      record {
        setup = before.setup;
        data_at = λ has one.
            let read = before.data_at has one in
            record {
              bytes = read.bytes;
              done = spared_is_done s.hand s.hand s.parts now (32 * i.queue) _ _ read.bytes (same_hand s.hand) (spares_head s.parts n goes head_off (32 * i.queue)) (spares_at (32 * i.queue) _ stays) read.done;
            };
        rest = before.rest;
      }

  -- ---- the world

  lines : (e : ℕ) (i : Endpoint) → IsMetControl g after.driver e i
      → LinesLeave w.driver after.driver asks v e i.desc.name (g.whole i.desc.name)
  lines e i m = record {
    lines = refl;
    telling = λ reported waiting told.
        subst (λ (q : Parts). IsTelling q.driver asks e i.desc.name (g.whole i.desc.name) v reported waiting) row_is
        (quiet_row_keeps_telling (driver_parts w) (rows.ReleaseTransfer t) asks e i.desc.name (g.whole i.desc.name) v reported waiting refl
        told);
  }

  abbrev later : Standing
  later = record s { parts = now }

  world : AsksIn g member now s.hand (record { courses = a.courses; numbers = a.numbers }) v asks after.driver after.memory (wired fixed w)
  world =
      world_left g fixed member s a v asks w after leaves z lines (λ name u. refl) member later a.courses (λ j has. has) (release_misses_none (have_queues a.courses) s.parts n goes z.unmissed.structures) z.unmissed.in_hand stand_now recorded
      (each_still g fixed member s a v asks w after leaves z) reads

  pub released_asks : AsksIn g member now s.hand (record { courses = a.courses; numbers = a.numbers }) v asks (after_driver_row (rows.ReleaseTransfer t) (driver_parts w)).driver (after_driver_row (rows.ReleaseTransfer t) (driver_parts w)).memory
      (wired fixed w)
  released_asks = subst (λ (q : Parts). AsksIn g member now s.hand (record { courses = a.courses; numbers = a.numbers }) v asks q.driver q.memory (wired fixed w)) (sym row_is) world
