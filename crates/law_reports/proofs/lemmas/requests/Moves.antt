-- A harvest that finds a qTD done which doesn't end its transfer.
use Rattle.std.proofs.Common.{◌≡◌, ◌≢◌, ℕ, zero, suc, ◌-◌, ◌*◌, ◌<◌, ◌≤◌, Bool, true, false, if◌then◌else◌, List, length, slice_get, slice_set, Option, Some, None, ap, refl, sym, subst, ◌∙◌, ⊎_elim, inl, inr, arith}
use Rattle.std.proofs.lemmas.Bool.{cases_eq, false≢true}
use Rattle.std.proofs.lemmas.Option.{same_Some}
use Rattle.law_driver_ring.proofs.Common.{set_else}
use Rattle.law_driver.proofs.Common.{waits_is}
use Rattle.law_queues.proofs.Common.{set_which, after_is}
use Rattle.bus_wire.specs.Bus.{Fixed}
use Rattle.drv_table.specs.declared.content.Command.{Command}
use Rattle.drv_table.specs.declared.content.Endpoint.{Endpoint}
use Rattle.drv_table.specs.declared.content.QtdNote.{QtdNote}
use Rattle.drv_table.specs.declared.content.Transfer.{Transfer}
use Rattle.drv_table.specs.declared.rows.Found.{Found}
use Rattle.drv_table.specs.DriverContent.{DriverContent}
use Rattle.drv_table.specs.Harvests.{note_at, noted}
use Rattle.drv_table.specs.Harvesting.{served, moved_on}
use Rattle.drv_table.specs.Words.{request_stages}
use Rattle.law_driver.specs.endpoint_lives.Lives.{told_end}
use Rattle.law_driver.specs.run_owners.Due.{IsHarvestDue}
use Rattle.claims_driver.specs.Owners.{note_in}
use Rattle.law_driver.specs.chained_transfers.Turns.{IsAtPlace}
use Rattle.law_driver_ring.specs.told_harvests.Held.{IsOneFrom}
use Rattle.law_queues.specs.harvest_laws.RowLaws.{IsReadNext}
use Rattle.law_queues.proofs.lemmas.harvest_laws.Places.{unmoved_noted, one_later}
use Rattle.law_queues.proofs.lemmas.harvest_laws.ReadRows.{read_next}
use Rattle.claims_report.specs.Requests.{Request}
use Rattle.law_request.specs.Host.{has_data}
use Rattle.law_devices.specs.ring_requests.Windows.{Queue, Sent}
use Rattle.bus_world.specs.World.{World, driver_parts}
use Rattle.law_world.specs.steps.Streaming.{Streams, Standing}
use Rattle.claims_world.specs.Requests.{Windows, numbers_of}
use Rattle.law_reports.specs.requests.told_requests.Waiting.{waiting}
use Rattle.law_reports.proofs.lemmas.requests.lemmas.told_requests.WaitingHarvests.{other_harvest_keeps_waiting, harvest_keeps_waiting}
use Rattle.law_reports.proofs.lemmas.requests.lemmas.driver_requests.Owning.{qtds_case}
use Rattle.law_reports.proofs.lemmas.requests.lemmas.driver_requests.RowOrder.{row_numbers}
use Rattle.law_reports.specs.requests.Courses.{queue_in, have_queues}
use Rattle.law_reports.specs.requests.Counts.{counted_all}
use Rattle.law_reports.specs.requests.Records.{AreRecords}
use Rattle.law_reports.proofs.lemmas.requests.Rows.{row_keeps_records}
use Rattle.law_queues.specs.standing_fronts.Tails.{tail_of, tail_block}
use Rattle.law_reports.specs.requests.Asking.{Sides, Asking, has_left, is_next_of, is_publishing, next_with, DataIsRead, HasCourse, IsPublishingBy, IsMetControl, IsReadTo, IsAskingWorld}
use Rattle.law_reports.specs.requests.Reading.{AreSilent}
use Rattle.law_reports.specs.requests.Ended.{ReadsFirst, ended_driver}
use Rattle.law_reports.proofs.lemmas.requests.Reading.{moved_is_read}
use Rattle.law_reports.proofs.lemmas.requests.Ended.{reads, same_sent}
use Rattle.law_reports.proofs.lemmas.requests.Missed.{idle_misses}
use Rattle.law_reports.specs.requests.Footing.{IsFooting}
use Rattle.drv_table.specs.declared.rows.DriverRow.TheVariants as rows
use Rattle.drv_table.specs.declared.rows.Found.TheVariants as founds

-- ---- notes of other blocks

pub first_one : (note : ℕ → QtdNote) (b n : ℕ) → 1 ≤ n → IsOneFrom note b n b
first_one note b zero some = absurd (omega (arith, some))
first_one note b (suc n) some = inl refl

pub second_one : (note : ℕ → QtdNote) (b n : ℕ) → 2 ≤ n → IsOneFrom note b n (note b).next
second_one note b zero some = absurd (omega (arith, some))
second_one note b (suc n) some = inr (first_one note (note b).next n (omega (arith, some)))

module _ (g : Sides) (fixed : Fixed) (member : ℕ → Bool) (x : Streams) (s : Standing) (a : Asking) (v : Windows) (asks : ℕ → Request)
    (w : World) (e t n : ℕ)
    (is_due : IsHarvestDue (driver_parts w) e t (founds.Moved n)) (k : IsFooting member x s w) (silent : AreSilent w.driver) (q : IsAskingWorld g fixed member s a v asks w) where
  abbrev as_moved : Found
  as_moved = founds.Moved n

  abbrev f : DriverContent
  f = served (moved_on w.driver t is_due.transfer n) e

  f_is : ended_driver w e t (founds.Moved n) ≡ served (moved_on w.driver t is_due.transfer n) e
  f_is = after_is (driver_parts w) e t as_moved is_due ∙ ap (λ (b : Bool). if b then served (moved_on w.driver t is_due.transfer n) e else w.driver) is_due.waits

  moved_active : founds.Moved n ≢ founds.Active
  moved_active same = cc

  was_met : (i : ℕ) (z : Endpoint) → IsMetControl g f i z → IsMetControl g w.driver i z
  was_met i z is = record {
    is = record { here = is.is.here; control = is.is.control };
    met = record { there = record { linked = is.met.there.linked; kept = is.met.there.kept }; near = is.met.near };
  }

  unpublished : (i : ℕ) → is_next_of w.driver i ≡ false
  unpublished i = ap (λ (c : Option Command). is_publishing c (slice_get w.driver.transfers (length w.driver.transfers - 1)) i) is_due.idle

  unpublished_then : (i : ℕ) → is_next_of f i ≡ false
  unpublished_then i = ap (λ (c : Option Command). is_publishing c (slice_get f.transfers (length f.transfers - 1)) i) is_due.idle

  same_tail : (i : ℕ) (z : Endpoint) → tail_of w.driver i z ≡ tail_of f i z
  same_tail i z =
      ap (λ (c : Option Command). 32 * tail_block c (slice_get w.driver.transfers (length w.driver.transfers - 1)) i z.dummy) is_due.idle
      ∙ sym (ap (λ (c : Option Command). 32 * tail_block c (slice_get f.transfers (length f.transfers - 1)) i z.dummy) is_due.idle)

  each_then : (i : ℕ) (z : Endpoint) → IsMetControl g f i z → HasCourse g f i z (a.courses (32 * z.queue)) (a.numbers (32 * z.queue))
  each_then i z is =
      let h = q.each i z (was_met i z is) in
      let m : ℕ = (queue_in (a.courses (32 * z.queue))).count in
      record {
        queue = h.queue;
        endpoint = h.endpoint;
        number = h.number;
        tail = h.tail ∙ same_tail i z;
        count = h.count ∙ ap (λ (b : Bool). if b then suc m else m) (unpublished i ∙ sym (unpublished_then i));
        newest = λ on. absurd (false≢true (sym (unpublished_then i) ∙ on));
        next = h.next;
        ended = h.ended;
        owed = h.owed;
      }

  waiting_then : (i : ℕ) → waiting f i ≡ waiting w.driver i
  waiting_then i =
      sym (ap (λ (d : DriverContent). waiting d i) f_is)
      ∙ ⊎_elim {C = waiting (ended_driver w e t (founds.Moved n)) i ≡ waiting w.driver i}
      (λ (same : i ≡ e). subst (λ (u : ℕ). waiting (ended_driver w e t (founds.Moved n)) u ≡ waiting w.driver u) (sym same)
      (harvest_keeps_waiting (driver_parts w) e t n is_due.endpoint is_due.transfer (record { here = is_due.here; there = is_due.there; waits = is_due.waits })).1)
      (λ (differs : i ≢ e). other_harvest_keeps_waiting (driver_parts w) e t (founds.Moved n) i (λ is. differs (sym is))) (cases_eq i e)

  numbers_then : (i : ℕ) → numbers_of f i ≡ numbers_of w.driver i
  numbers_then i = sym (ap (λ (d : DriverContent). numbers_of d i) f_is) ∙ row_numbers (driver_parts w) (rows.Harvest e t (founds.Moved n)) i

  next_read : IsReadNext w.driver e t is_due.endpoint is_due.transfer
  next_read = read_next (driver_parts w) e t as_moved is_due k.owners k.turns

  -- ---- what was read

  module _ (i u : ℕ) (z : Endpoint) (y : Transfer) (is : IsMetControl g w.driver i z) (going : told_end z ≡ None)
      (next : z.next ≡ Some u) where
    own_read : u ≡ t
        → y ≡ record is_due.transfer { place = (note_at w.driver.notes is_due.transfer.place).next; left = is_due.transfer.left - 1 }
        → IsReadTo s.hand s.parts (32 * z.queue) (note_at (noted w.driver.notes is_due.transfer.place n)) y ((a.numbers (32 * z.queue)).requests.requests 0)
    own_read at same =
        let owner = next_read.waits i t z is_due.transfer (record { endpoint = is.is.here; going = going; next = next ∙ ap Some at; transfer = is_due.there }) in
        let number : e ≡ i = sym (waits_is e is_due.transfer is_due.waits).0 ∙ owner.0 in
        let one : is_due.endpoint ≡ z = same_Some is_due.endpoint z (sym is_due.here ∙ ap (slice_get w.driver.endpoints) number ∙ is.is.here) in
        let control : g.asks is_due.endpoint.desc ≡ true = ap (λ (d : Endpoint). g.asks d.desc) one ∙ is.is.control in
        let first : ReadsFirst member s a w e t as_moved is_due = reads g fixed member x s a v asks w e t as_moved is_due control k silent q moved_active in
        let r : first.queue.requests 0 ≡ (a.numbers (32 * is_due.endpoint.queue)).requests.requests 0 =
        sym (ap (λ (d : Sent). d.request) (same_sent g fixed member x s a v asks w e t as_moved is_due control k silent q) ∙ ap (λ (d : Queue). d.requests 0) (ap queue_in first.asked)) in
        subst (λ (d : Endpoint). IsReadTo s.hand s.parts (32 * d.queue) (note_at (noted w.driver.notes is_due.transfer.place n)) y ((a.numbers (32 * d.queue)).requests.requests 0)) one
        (subst (λ (d : Transfer). IsReadTo s.hand s.parts (32 * is_due.endpoint.queue) (note_at (noted w.driver.notes is_due.transfer.place n)) d ((a.numbers (32 * is_due.endpoint.queue)).requests.requests 0)) (sym same)
        (subst (IsReadTo s.hand s.parts (32 * is_due.endpoint.queue) (note_at (noted w.driver.notes is_due.transfer.place n)) _) r
        (moved_is_read member (driver_parts w) e t n is_due s.parts s.hand (first.queue.requests 0) (first.queue.places 0) first.at)))

    other_read : u ≢ t → slice_get w.driver.transfers u ≡ Some y
        → IsReadTo s.hand s.parts (32 * z.queue) (note_at (noted w.driver.notes is_due.transfer.place n)) y ((a.numbers (32 * z.queue)).requests.requests 0)
    other_read differs there =
        let note : ℕ → QtdNote = note_at w.driver.notes in
        let was : IsReadTo s.hand s.parts (32 * z.queue) (note_at w.driver.notes) y ((a.numbers (32 * z.queue)).requests.requests 0) = q.read i u z y is going next there in
        let owner = next_read.waits i u z y (record { endpoint = is.is.here; going = going; next = next; transfer = there }) in
        let kept : y.released ≡ false = next_read.unreleased u y z there (ap (slice_get w.driver.endpoints) owner.0 ∙ is.is.here) going owner.1 in
        let at : IsAtPlace (note_in w.driver.notes) y = next_read.places u y there owner.1 kept in
        let least = at.some in
        let most = at.most in
        let same : (c : ℕ) → IsOneFrom (note_at w.driver.notes) y.first y.qtds c → note_at (noted w.driver.notes is_due.transfer.place n) c ≡ note_at w.driver.notes c =
        λ c one. set_else w.driver.notes is_due.transfer.place c (record (note_at w.driver.notes is_due.transfer.place) { moved = n })
        (λ bad. next_read.others u y there owner.1 kept differs (subst (IsOneFrom (note_at w.driver.notes) y.first y.qtds) bad one)) in
        let first : note_at (noted w.driver.notes is_due.transfer.place n) y.first ≡ note_at w.driver.notes y.first = same y.first (first_one (note_at w.driver.notes) y.first y.qtds (omega (arith, least, most))) in
        record {
          setup = ap (λ (d : QtdNote). d.moved) first ∙ was.setup;
          data_at = λ carries last.
              let later : note_at (noted w.driver.notes is_due.transfer.place n) (note_at w.driver.notes y.first).next ≡ note_at w.driver.notes (note_at w.driver.notes y.first).next =
              same (note_at w.driver.notes y.first).next (second_one (note_at w.driver.notes) y.first y.qtds (many there carries)) in
              subst (λ (b : ℕ). DataIsRead s.hand s.parts (32 * z.queue) b (note_at (noted w.driver.notes is_due.transfer.place n) b)) (sym (ap (λ (d : QtdNote). d.next) first))
              (subst (DataIsRead s.hand s.parts (32 * z.queue) (note_at w.driver.notes y.first).next) (sym later) (was.data_at carries last));
          rest = unmoved_noted (note_at w.driver.notes) (note_at (noted w.driver.notes is_due.transfer.place n)) y.place y.left
              (λ c one. same c (one_later w.driver.notes y.first (y.qtds - y.left) y.left y.qtds c (omega (arith, most)) (subst (λ (b : ℕ). IsOneFrom (note_at w.driver.notes) b y.left c) at.place one))) was.rest;
        }
      where
        many : slice_get w.driver.transfers u ≡ Some y → has_data ((a.numbers (32 * z.queue)).requests.requests 0) ≡ true → 2 ≤ y.qtds
        many there carries =
            let c = q.each i z is in
            let rec = q.records.each (32 * z.queue) c.queue in
            let first = next_is (a.numbers (32 * z.queue)).requests.count ((a.numbers (32 * z.queue)).number 0) (sym next ∙ c.next going) in
            let laid = rec.numbered.own.laid 0 (omega arith) first.1 in
            let own : laid.own ≡ y = same_Some laid.own y (sym laid.here ∙ ap (slice_get w.driver.transfers) first.0 ∙ there) in
            let size : y.qtds ≡ length (request_stages ((a.numbers (32 * z.queue)).requests.requests 0).setup) = ap (λ (d : Transfer). d.qtds) (sym own) ∙ laid.qtds in
            ⊎_elim {C = 2 ≤ y.qtds} (λ none. absurd (false≢true (sym none.0 ∙ carries))) (λ some. let three = some.1 in omega (arith, size, three)) (qtds_case ((a.numbers (32 * z.queue)).requests.requests 0))
          where
            next_is : (m c : ℕ) → Some u ≡ next_with m c → (c ≡ u) × (0 < m)
            next_is zero c none = absurd cc
            next_is (suc m) c some = (sym (same_Some u c some), omega arith)

    read_then : slice_get (slice_set w.driver.transfers t (record is_due.transfer { place = (note_at w.driver.notes is_due.transfer.place).next; left = is_due.transfer.left - 1 })) u ≡ Some y
        → IsReadTo s.hand s.parts (32 * z.queue) (note_at (noted w.driver.notes is_due.transfer.place n)) y ((a.numbers (32 * z.queue)).requests.requests 0)
    read_then here =
        ⊎_elim {C = IsReadTo s.hand s.parts (32 * z.queue) (note_at (noted w.driver.notes is_due.transfer.place n)) y ((a.numbers (32 * z.queue)).requests.requests 0)}
        (λ own. own_read own.0 own.1) (λ other. other_read other.0 other.1)
        (set_which w.driver.transfers t u is_due.transfer (record is_due.transfer { place = (note_at w.driver.notes is_due.transfer.place).next; left = is_due.transfer.left - 1 }) y is_due.there here)

  records_then : AreRecords f asks a.courses a.numbers (has_left g w.driver) v
  records_then = subst (λ (d : DriverContent). AreRecords d asks a.courses a.numbers (has_left g w.driver) v) f_is
      (row_keeps_records (driver_parts w) (rows.Harvest e t (founds.Moved n)) asks a.courses a.numbers (has_left g w.driver) v (λ i has. tt)
      (λ i m has few is. let bad : ◌≡◌ {A = Option ℕ} None (Some ((a.numbers i).number m)) = is in cc) q.records)

  asking_moved : IsAskingWorld g fixed member s a v asks (record w { driver = f })
  asking_moved = record {
    stand = q.stand;
    records = record { each = records_then.each; left = records_then.left; none = records_then.none };
    each = each_then;
    asked = q.asked;
    publishing = λ i z is on. subst (λ (o : Option Command). IsPublishingBy f w.memory z (s.parts (32 * z.queue)) (a.courses (32 * z.queue)) (a.numbers (32 * z.queue)) o) (sym is_due.idle) tt;
    read = λ i u z y is going next here. read_then i u z y (was_met i z is) going next here;
    telling = λ i z is.
        let h = q.telling i z (was_met i z is) in
        record {
          reported = h.reported;
          untold = h.untold;
          closed = h.closed;
          going = h.going;
          uncancelled = h.uncancelled;
          telling = record { numbers = numbers_then i ∙ h.telling.numbers; told = h.telling.told; wait = h.telling.wait ∙ sym (waiting_then i) };
        };
    given = λ i z is. q.given i z (record { here = is.here; control = is.control });
    counts = λ i z is off.
        let h = q.counts i z (record { here = is.here; control = is.control }) off in
        record { device = h.device; is = h.is; acted = h.acted ∙ ap (λ (ts : List ℕ). counted_all v ts 0) (sym (numbers_then i)) };
    unopened = q.unopened;
    untold = q.untold;
    unmissed = idle_misses (have_queues a.courses) w.driver f s.parts s.hand is_due.idle q.unmissed;
  }

  pub moved_asks : IsAskingWorld g fixed member s a v asks (record w { driver = ended_driver w e t (founds.Moved n) })
  moved_asks = subst (λ (d : DriverContent). IsAskingWorld g fixed member s a v asks (record w { driver = d })) (sym f_is) asking_moved
