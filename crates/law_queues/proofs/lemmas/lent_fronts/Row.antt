-- The row that lends a transfer, with the fronts.
use Rattle.std.proofs.Common.{ℕ, suc, ◌+◌, ◌*◌, ◌≤◌, ◌++◌, Bool, List, arith, Option, refl, sym, subst}
use Rattle.word_mem.specs.Memory.{Mem, IsShaped}
use Rattle.async_walk.specs.Rows.{place}
use Rattle.mem_runs.specs.Book.{holding, slot_of, Stands}
use Rattle.drv_table.specs.DriverContent.{DriverContent}
use Rattle.claims_driver.specs.Leaving.{HasOwners}
use Rattle.claims_driver.specs.Owners.{views_of}
use Rattle.claims_driver.specs.LentRuns.{AreLent}
use Rattle.law_structures.specs.lent_structures.Structures.{Element, StructureSets}
use Rattle.law_ring.specs.Bus.{Sender}
use Rattle.law_ring.specs.Order.{IsSorted}
use Rattle.law_ring.specs.Told.{Endpoint}
use Rattle.law_ring.proofs.QueueParts.{member_part}
use Rattle.law_driver.specs.chained_transfers.Asynchronous.{OnlyAsynchronous}
use Rattle.law_driver.specs.chained_transfers.Turns.{AreInTurn}
use Rattle.law_driver_ring.specs.Driven.{DrivesRing}
use Rattle.law_driver_ring.specs.Extents.{AreInRuns}
use Rattle.law_driver_ring.specs.Inventory.{sorts_of, IsDriven}
use Rattle.law_driver_ring.specs.TransferLaws.{lent_memory, lent_driver, HasPieces}
use Rattle.law_driver_ring.proofs.Lends.{lend_drives}
use Rattle.law_driver_ring.specs.fed_queues.Fed.{AreFed}
use Rattle.law_driver_ring.specs.fed_queues.Places.{AreLast, AreStillOut}
use Rattle.law_queues.proofs.lemmas.fed_lends.Reporting.{spares_heads}
use Rattle.law_queues.proofs.lemmas.fed_lends.Piping.{lend_leaves_pipes}
use Rattle.law_queues.proofs.lemmas.fed_lends.Names.{names_lent}
use Rattle.law_queues.proofs.lemmas.fed_lends.Fed.{y_of, x_of, buffers_same, queues_fed}
use Rattle.law_queues.specs.fed_lends.Commands.{QueuesStand}
use Rattle.law_queues.specs.fed_lends.Streams.{new_out}
use Rattle.law_queues.specs.fed_lends.ToLend.{IsToBeLent}
use Rattle.law_queues.proofs.lemmas.fed_lends.Order.{at_here, at_else}
use Rattle.law_queues.proofs.lemmas.fed_lends.Reports.{IsOrdering, is_there, it_is_met, first_last, queue_order, order_lent, out_lent, all_reported, place_by, reported_below, sorted_by, in_order, all_out, all_last}
use Rattle.law_queues.proofs.lemmas.fed_lends.Row.{advance_is, lend_is, after_is, met_on, streams_on, its_asks}
use Rattle.law_queues.specs.released_queues.Fronts.{FrontsStand}
use Rattle.law_queues.specs.standing_fronts.Tails.{tail_of}
use Rattle.law_frames.specs.Met.{IsQueuePart}
use Rattle.law_queues.specs.lent_fronts.Stands.{AreSorted, parts_with, StandsLent, LendStands, LendIsAsked, LendIsMade}
use Rattle.law_queues.specs.lent_fronts.Whole.{GoesOnWhole, LendRowLeavesFronts}
use Rattle.law_queues.proofs.lemmas.lent_fronts.Fronts.{fronts_stand, reaches_on}
use Rattle.law_queues.proofs.lemmas.lent_fronts.Extents.{runs_lent}
use Rattle.law_queues.proofs.lemmas.lent_fronts.Parts.{member_head, lent_pieces}
use Rattle.law_queues.proofs.lemmas.lent_fronts.Rising.{queues_rise}
use Rattle.law_queues.proofs.lemmas.lent_fronts.Tails.{tail_stands}

-- ---- the queues

pub queues_lent : {d : DriverContent} {m : Mem} {b : ℕ} {words : List ℕ} {parts now : StructureSets} {order : ℕ → ℕ → ℕ} {out : ℕ → List ℕ} (member streams : ℕ → Bool) (ends : ℕ → Endpoint) → (o : IsOrdering d m b words parts now order out) → AreLent d → IsDriven (views_of d) (sorts_of parts) → AreInRuns (views_of d) parts
    → QueuesStand d member streams ends parts order out → (fronts : FrontsStand d parts order out)
    → (fronts o.lending.ready.transfer.endpoint o.lending.ready.endpoint o.lending.ready.here (it_is_met d m b words o.lending.asynchronous o.lending.ready)).front ≤ o.from → AreSorted d order out
    → IsQueuePart (32 * o.lending.ready.endpoint.queue) (parts (32 * o.lending.ready.endpoint.queue)) → IsQueuePart (32 * o.lending.ready.endpoint.queue) (now (32 * o.lending.ready.endpoint.queue))
    → StandsLent d m (32 * o.lending.ready.endpoint.queue) member streams ends parts now order (order_lent o.lending.ready o.from order) out (out_lent o.lending.ready out)
queues_lent {d = d} {m = m} {b = b} {words = words} {parts = parts} {now = now} {order = order} {out = out} member streams ends o lent driven runs queues fronts most sorted head head_now =
    let l = o.lending in
    let k = l.ready in
    let y = y_of k in
    let x = x_of k in
    let n = 32 * k.endpoint.queue in
    let slot = slot_of (lent_driver d m).book.slots in
    let f = queue_order k o.from order in
    let more = out n ++ new_out d y k.further in
    record {
      queues = record {
        met = met_on d m member queues.met;
        streams_are = streams_on d m streams ends queues.streams_are;
        fed = queues_fed d m b words parts now l;
        last = all_last o;
        out_are = all_out o;
      };
      fronts = fronts_stand o head fronts most;
      runs = runs_lent l lent driven runs;
      sorted = in_order o sorted;
      part = head_now;
      reaches = λ e z c here kept tail r. reaches_on o head e z c here kept tail r;
      rising = queues_rise o head;
      tails = λ tails e z here met.
          reaches_on o head e z (tail_of d e z) here met.there.kept (tail_stands d m b words parts e z k l.has lent l.asynchronous queues.fed here met.there.kept)
          (tails e z here (record { there = is_there d m b words z k met.there.kept; near = met.near }));
      behind = record {
        number = k.number;
        newest = k.newest;
        transfer = y;
        endpoint = x;
        stage = k.stage;
        further = k.further;
        awaits = k.awaits;
        pieces = l.pieces;
        last = first_last o;
        place = o.from;
        above = o.above;
        order_is = at_here order n f;
        out_is = at_here out n more;
        order_beside = λ i differs. at_else order n f i differs;
        out_beside = λ i differs. at_else out n more i differs;
      };
      still = l.pieces.still;
      heads = λ i. spares_heads d y x k.stage k.further slot parts now i l.pieces;
      elements = λ i a u there. record {
        element = λ z here. l.pieces.still i a (Element z) here;
        bytes = λ z here. buffers_same d slot parts now y x k.stage k.further i a z l.pieces here;
      };
    }

-- ---- the lend, with new numbers that are above any number

module _ (d : DriverContent) (m : Mem) (b : ℕ) (words : List ℕ) (parts : StructureSets) (order : ℕ → ℕ → ℕ) (out : ℕ → List ℕ) (k : IsToBeLent d m b words) (has : HasOwners d) (stands : Stands (holding d.book m)) (shape : IsShaped m) (only : OnlyAsynchronous d) (turns : AreInTurn d) (driven : IsDriven (views_of d) (sorts_of parts))
    (fed : AreFed d parts) (last : AreLast d parts order) (out_are : AreStillOut d out) where
  abbrev n : ℕ
  n = 32 * k.endpoint.queue

  abbrev now : StructureSets
  now = parts_with k parts

  pub both : HasPieces d (slot_of (lent_driver d m).book.slots) parts now (y_of k) (x_of k) k.stage k.further × (IsQueuePart n (parts n) → IsQueuePart n (now n))
  both = lent_pieces d m k.number (y_of k) (x_of k) k.stage k.further parts k.awaits has stands shape driven (names_lent d m b words parts n k fed driven)

  abbrev from_above : ℕ → ℕ
  from_above least = suc (least + order (32 * k.endpoint.queue) (32 * k.transfer.first))

  abbrev pub ordering : (least : ℕ) → IsSorted (order n) (out n) → IsOrdering d m b words parts now order out
  ordering least sorted = record {
    lending = record { ready = k; has = has; stands = stands; shape = shape; asynchronous = only; fed = fed; pieces = both.0 };
    turns = turns;
    last = last;
    still_out = out_are;
    sorted = sorted;
    from = from_above least;
    above = omega arith;
  }

  pub head_now : IsQueuePart n (parts n) → IsQueuePart n (now n)
  head_now = both.1

pub lend_stands : LendStands
lend_stands d m b words member streams ends parts order out k has stands shape only turns lent driven runs queues fronts sorted head =
    let met = it_is_met d m b words only k in
    let least = (fronts k.transfer.endpoint k.endpoint k.here met).front in
    let o : IsOrdering d m b words parts (parts_with k parts) order out =
    ordering d m b words parts order out k has stands shape only turns driven queues.fed queues.last queues.out_are least (sorted k.transfer.endpoint k.endpoint k.here met) in
    record {
      order = order_lent k o.from order;
      out = out_lent k out;
      stands = queues_lent member streams ends o lent driven runs queues fronts (let e : least ≤ o.from = omega arith in e) sorted head (head_now d m b words parts order out k has stands shape only turns driven queues.fed queues.last queues.out_are head);
    }

pub lend_is_asked : LendIsAsked
lend_is_asked d m b words parts k fed driven = (k.awaits, names_lent d m b words parts (32 * k.endpoint.queue) k fed driven)

pub lend_is_made : LendIsMade
lend_is_made p b words k = lend_is p b words k

-- ---- beside the ring

pub lend_row_leaves_fronts : {W : Type 0} (sender : W → ℕ → ℕ → Option Sender) → LendRowLeavesFronts sender
lend_row_leaves_fronts sender base stream packets member streams heads ends acc reported hand wire parts order out w p b words k has stands only turns drives piped reports queues fronts lent runs kept_sorted apart =
    let d = p.driver in
    let m = p.memory in
    let n = 32 * k.endpoint.queue in
    let now = parts_with k parts in
    let shape = drives.ring.tells.shape in
    let driven = drives.driven in
    let met = it_is_met d m b words only k in
    let on = drives.ring.members n (queues.met.each k.transfer.endpoint k.endpoint k.here met) in
    let sorted : AreSorted d order out = λ e z here is. sorted_by reports (32 * z.queue) (kept_sorted e z here is) in
    let front = (fronts k.transfer.endpoint k.endpoint k.here met).front in
    let least = place_by reports n (heads n) refl in
    let o : IsOrdering d m b words parts now order out =
    ordering d m b words parts order out k has stands shape only turns driven queues.fed queues.last queues.out_are (front + least) (sorted k.transfer.endpoint k.endpoint k.here met) in
    let s = queues_lent member streams ends o lent driven runs queues fronts (let e : front ≤ o.from = omega arith in e) sorted (member_head member n (parts n) on)
    (head_now d m b words parts order out k has stands shape only turns driven queues.fed queues.last queues.out_are (member_head member n (parts n) on)) in
    let ring = (lend_drives base member parts hand w p.registers m d k.number (y_of k) (x_of k) k.stage k.further k.awaits has stands drives (names_lent d m b words parts n k queues.fed driven)).0 in
    subst (GoesOnWhole sender base stream packets member streams heads ends acc reported hand wire p.driver p.memory parts order out w) (sym (after_is p b words k))
    (record {
      parts = now;
      order = order_lent k o.from order;
      out = out_lent k out;
      drives = subst (DrivesRing base member now hand (place w p.registers (lent_memory d m))) (advance_is d m b words k) ring;
      piped = lend_leaves_pipes sender d m k.number (y_of k) (x_of k) k.stage k.further (slot_of (lent_driver d m).book.slots) parts now stream packets member streams ends acc hand wire k.awaits o.lending.pieces (its_asks stream only k queues.streams_are apart) piped;
      reports = all_reported heads hand acc reported o (member_part member n (parts n) on) (reported_below reports n (heads n) refl o.from (let e : least ≤ o.from = omega arith in e)) reports;
      queues = s.queues;
      fronts = s.fronts;
      runs = s.runs;
      reaches = s.reaches;
      behind = s.behind;
      still = s.still;
      heads = s.heads;
      elements = s.elements;
    })
