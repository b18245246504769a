-- The harvest of a control request that halted.
use Rattle.std.proofs.Common.{◌≡◌, ◌≢◌, ℕ, zero, suc, ◌+◌, ◌-◌, ◌*◌, ◌<◌, Bool, true, false, ◌||◌, not, cond, if◌then◌else◌, List, [], ◌∷◌, ◌++◌, length, take, drop, slice_get, Option, Some, None, option_map, ap, refl, sym, subst, ◌∙◌, arith}
use Rattle.std.specs.Prelude.{nat_le, count_by}
use Rattle.std.proofs.lemmas.Bool.{false≢true}
use Rattle.std.proofs.lemmas.List.{append-nil, append_assoc, take_all}
use Rattle.std.proofs.lemmas.Option.{same_Some}
use Rattle.std.proofs.Math.ListN.{drop_of_length-le}
use Rattle.std.proofs.lemmas.List.Sums.{sum_by-cons}
use Rattle.law_controller.proofs.Common.{here_among}
use Rattle.law_reports.proofs.Common.{told_by, either_way, less_one}
use Rattle.law_driver.proofs.Common.{waits_is}
use Rattle.usb_base.specs.declared.endpoints.EndCause.{EndCause}
use Rattle.usb_base.specs.declared.endpoints.EpName.{EpName}
use Rattle.usb_base.specs.declared.reports.Report.{Report}
use Rattle.usb_base.specs.declared.reports.What.{What}
use Rattle.claims_base.specs.Prefix.{IsPrefix}
use Rattle.qh_qtd.specs.declared.token.Token.{Token}
use Rattle.bus_wire.specs.Bus.{Fixed}
use Rattle.drv_table.specs.declared.content.Endpoint.{Endpoint}
use Rattle.drv_table.specs.declared.content.QtdNote.{QtdNote}
use Rattle.drv_table.specs.declared.content.Transfer.{Transfer}
use Rattle.drv_table.specs.declared.rows.Found.{Found}
use Rattle.drv_table.specs.DriverContent.{DriverContent, waits_for}
use Rattle.drv_table.specs.Harvests.{note_at, noted, token_in, done_of, moved_of, halt_of, end_of, is_stall}
use Rattle.drv_table.specs.Harvesting.{behind_one, behind as ended_behind, told_with, after_end}
use Rattle.drv_table.specs.Releases.{ended_by_cancel}
use Rattle.law_driver.specs.endpoint_lives.Lives.{told_end}
use Rattle.law_driver.specs.run_owners.Due.{IsHarvestDue}
use Rattle.law_driver.specs.chained_transfers.Out.{out_now}
use Rattle.law_driver.specs.chained_transfers.Turns.{turn_of, turn_in, IsNext, AreReportedTo}
use Rattle.law_driver_ring.proofs.lemmas.harvested_streams.Harvesting.{token_is_read}
use Rattle.law_queues.proofs.lemmas.fed_harvests.Harvests.{unstalled_stands}
use Rattle.law_queues.proofs.lemmas.fed_harvests.Stalls.{stall_stands}
use Rattle.law_queues.specs.mended_heads.Stalling.{IsStall}
use Rattle.claims_report.specs.Requests.{Request}
use Rattle.law_queues.specs.told_endpoints.Telling.{lines_in}
use Rattle.law_reports.specs.requests.told_requests.Told.{has_cancel}
use Rattle.law_reports.specs.requests.told_requests.Rows.{bytes_with}
use Rattle.law_request.specs.Windows.{data_of}
use Rattle.law_ring.specs.Halted.{IsHalted}
use Rattle.law_ring.specs.Order.{IsAmong}
use Rattle.law_devices.specs.ring_requests.Runs.{first_of}
use Rattle.law_devices.specs.ring_requests.Resting.{IsStopped}
use Rattle.law_devices.specs.ring_requests.Windows.{Queue, Lines}
use Rattle.law_devices.specs.Controls.{control_of}
use Rattle.bus_world.specs.World.{World, driver_parts, controller_parts}
use Rattle.hc_core.specs.Controller.{walk_place}
use Rattle.law_world.specs.steps.Streaming.{Streams, Standing}
use Rattle.claims_world.specs.Requests.{wired, Windows}
use Rattle.law_reports.specs.requests.Courses.{Course, Asks, Rests, IsAsking, IsCourse, queue_in, tail_in}
use Rattle.law_reports.specs.requests.QueueChanges.{without_requests}
use Rattle.law_reports.proofs.lemmas.requests.QueueEnding.{request_halts}
use Rattle.law_reports.specs.requests.Records.{Numbers, IsRecord}
use Rattle.law_reports.specs.requests.TransferChanges.{all_closed}
use Rattle.law_reports.proofs.lemmas.requests.TransferChanging.{course_is_recorded, all_are_closed}
use Rattle.law_reports.specs.requests.Telling.{IsTelling, behind}
use Rattle.law_reports.proofs.lemmas.requests.Telling.{harvest_tells, stall_tells}
use Rattle.law_reports.specs.requests.Asking.{Sides, Asking, has_left, HasTelling, IsAskingWorld}
use Rattle.law_reports.specs.requests.Reading.{AreSilent, IsAtRequest}
use Rattle.law_reports.specs.requests.Ended.{ReadsFirst, ended_driver, RequestEnds, HaltEnds}
use Rattle.law_reports.proofs.lemmas.requests.Reading.{found_is, read_is_moved, moved_begin}
use Rattle.law_reports.proofs.lemmas.requests.Ended.{uncancelled_more, met, has, going, on, tells, piece_here, qtd_here, off, reads, uncancelled, kept, new_is, whole_is, tell, telling_first, closed_is}
use Rattle.law_reports.specs.requests.Footing.{IsFooting}
use Rattle.usb_base.specs.declared.endpoints.EndCause.TheVariants as causes
use Rattle.usb_base.specs.declared.reports.What.TheVariants as lines
use Rattle.drv_table.specs.declared.rows.Found.TheVariants as founds

-- ---- lists

count_cons : (e : ℕ) (y : Transfer) (ys : List Transfer)
    → count_by (waits_for e) (y ∷ ys) ≡ cond (waits_for e y) 1 0 + count_by (waits_for e) ys
count_cons e y ys = sum_by-cons (λ z. cond (waits_for e z) 1 0) y ys

-- where none before it waits
count_front : (e : ℕ) (ts : List Transfer) (t : ℕ) (y : Transfer) → slice_get ts t ≡ Some y → waits_for e y ≡ true
    → ((i : ℕ) (z : Transfer) → i < t → slice_get ts i ≡ Some z → waits_for e z ≡ false)
    → count_by (waits_for e) ts ≡ suc (count_by (waits_for e) (drop (suc t) ts))
count_front e [] t y here waits none = absurd cc
count_front e (z ∷ ts) zero y here waits none =
    let on : waits_for e z ≡ true = ap (waits_for e) (same_Some z y here) ∙ waits in
    let first : count_by (waits_for e) (z ∷ ts) ≡ 1 + count_by (waits_for e) ts = count_cons e z ts ∙ ap (λ (b : Bool). cond b 1 0 + count_by (waits_for e) ts) on in
    omega (arith, first)
count_front e (z ∷ ts) (suc t) y here waits none =
    let off : waits_for e z ≡ false = none 0 z (omega arith) refl in
    let first : count_by (waits_for e) (z ∷ ts) ≡ 0 + count_by (waits_for e) ts = count_cons e z ts ∙ ap (λ (b : Bool). cond b 1 0 + count_by (waits_for e) ts) off in
    let later = count_front e ts t y here waits (λ i u less at. none (suc i) u (omega (arith, less)) at) in
    omega (arith, first, later)

-- ---- lines of those behind a stalled one

one_behind : (d : DriverContent) (e : ℕ) (name : EpName) (k : ℕ) (o : Option Transfer) → has_cancel (lines_in name d.reports) ≡ false
    → has_cancel (lines_in name (behind_one d e name k o).reports) ≡ false
one_behind d e name k None before = before
one_behind d e name k (Some y) before =
    either_way (λ (z : DriverContent). has_cancel (lines_in name z.reports) ≡ false) (waits_for e y) _ d
    (uncancelled_more name d.reports (record { name = name; what = lines.Halt causes.Stall; from = length d.store; len = length {A = ℕ} [] }) refl before) before

all_behind : (d : DriverContent) (e : ℕ) (name : EpName) (k n : ℕ) → has_cancel (lines_in name d.reports) ≡ false
    → has_cancel (lines_in name (ended_behind d e name k n).reports) ≡ false
unfolding ended_behind
all_behind d e name k zero before = before
all_behind d e name k (suc n) before = all_behind (behind_one d e name k (slice_get d.transfers k)) e name (suc k) n (one_behind d e name k (slice_get d.transfers k) before)

-- ---- what is found

abbrev what_in : Found → What
what_in (founds.Ended n what) = what
what_in _ = lines.Done

abbrev is_done : What → Bool
is_done lines.Done = true
is_done _ = false

halted_by : (active halted last : Bool) (note : QtdNote) (t : Token)
    → false ≡ is_done (what_in (if active then founds.Active else if halted then founds.Ended (moved_of note.told t.total) (halt_of t) else done_of (last || false) (moved_of note.told t.total)))
    → halted ≡ true
halted_by true halted last note t is = absurd cc
halted_by false true last note t is = refl
halted_by false false true note t is = absurd cc
halted_by false false false note t is = absurd cc

-- ---- an endpoint that ended

pub told_ended : (z : Endpoint) (c : EndCause) → z.cancelled ≡ false → z.ended ≡ Some c → told_end z ≡ Some c
told_ended z c on ends = told_by (ended_by_cancel z.ended) z.cancelled (not z.gone) z.ended on ∙ ends

-- ---- the row

module _ (g : Sides) (fixed : Fixed) (member : ℕ → Bool) (x : Streams) (s : Standing) (a : Asking) (v : Windows) (asks : ℕ → Request)
    (w : World) (e t m : ℕ) (cause : EndCause)
    (due : IsHarvestDue (driver_parts w) e t (founds.Ended m (lines.Halt cause))) (control : g.asks due.endpoint.desc ≡ true) (k : IsFooting member x s w) (silent : AreSilent w.driver) (j : IsAskingWorld g fixed member s a v asks w) where
  abbrev place : ℕ
  place = 32 * due.endpoint.queue

  abbrev its_numbers : Numbers
  its_numbers = a.numbers (32 * due.endpoint.queue)

  abbrev as_halted : Found
  as_halted = founds.Ended m (lines.Halt cause)

  abbrev new : DriverContent
  new = ended_driver w e t (founds.Ended m (lines.Halt cause))

  ended_active : as_halted ≢ founds.Active
  ended_active same = cc

  first : ReadsFirst member s a w e t as_halted due
  first = reads g fixed member x s a v asks w e t as_halted due control k silent j ended_active

  is_off : (token_in w.memory due.transfer.place).active ≡ false
  is_off = off g fixed member x s a v asks w e t as_halted due control k silent j ended_active

  is_halted : (token_in w.memory due.transfer.place).halted ≡ true
  is_halted =
      let found = found_is member (driver_parts w) e t m as_halted due s.parts s.hand (first.queue.requests 0) (first.queue.places 0) refl first.at in
      halted_by (token_in w.memory due.transfer.place).active (token_in w.memory due.transfer.place).halted (nat_le due.transfer.left 1) (note_at w.driver.notes due.transfer.place) (token_in w.memory due.transfer.place)
      (ap (λ (z : Found). is_done (what_in z)) found)

  -- the qTD was halted
  halt : IsHalted (piece_here g fixed member x s a v asks w e t as_halted due control k silent j).qtd
  halt =
      let u = (piece_here g fixed member x s a v asks w e t as_halted due control k silent j).qtd in
      let same : token_in w.memory due.transfer.place ≡ u.token =
      token_is_read w.memory s.parts place due.transfer.place u (tells g fixed member x s a v asks w e t as_halted due control k silent j) (qtd_here g fixed member x s a v asks w e t as_halted due control k silent j) in
      record { done = ap (λ (z : Token). z.active) (sym same) ∙ is_off; halted = ap (λ (z : Token). z.halted) (sym same) ∙ is_halted }

  among_by : (b : Bool) → is_stall (lines.Halt cause) ≡ b → IsAmong (32 * due.transfer.place) (out_now w.driver e)
  among_by true is =
      let stall : IsStall due.endpoint.desc.kind as_halted = (is, stall_goes cause is) in
      let l = stall_stands (driver_parts w) e t as_halted member x.streams x.endpoint s.parts s.order s.out due stall k.owners k.turns k.queues in
      subst (IsAmong (32 * due.transfer.place)) (sym l.stalled.was) (here_among (32 * due.transfer.place) l.stalled.before l.stalled.behind)
    where
      stall_goes : (c : EndCause) → is_stall (lines.Halt c) ≡ true → end_of due.endpoint.desc.kind (lines.Halt c) ≡ None
      stall_goes causes.Stall is = ap (λ (b : Bool). if b then None else Some causes.Stall) (g.controls due.endpoint.desc control)
      stall_goes causes.Error is = absurd cc
      stall_goes causes.Babble is = absurd cc
      stall_goes causes.Miss is = absurd cc
      stall_goes causes.Cancel is = absurd cc
  among_by false is =
      let l = unstalled_stands (driver_parts w) e t as_halted member x.streams x.endpoint s.parts s.order s.out due ended_active (λ stall. false≢true (sym is ∙ stall.0)) k.owners k.turns k.queues in
      subst (IsAmong (32 * due.transfer.place)) (sym l.harvested.was) (here_among (32 * due.transfer.place) l.harvested.before l.harvested.behind)

  stopped : IsStopped s.parts place
  stopped =
      let onto = on g fixed member x s a v asks w e t as_halted due control k silent j in
      let meets = met g fixed member x s a v asks w e t as_halted due control k silent j in
      let among : IsAmong (32 * due.transfer.place) (s.out place) =
      subst (IsAmong (32 * due.transfer.place)) (sym (k.queues.out_are e due.endpoint due.here meets.there)) (among_by (is_stall (lines.Halt cause)) refl) in
      record {
        queue = onto.queue;
        head = onto.here;
        halted = (k.controls.stops e due.endpoint due.here meets).head (32 * due.transfer.place) (piece_here g fixed member x s a v asks w e t as_halted due control k silent j).qtd onto.queue among
            (qtd_here g fixed member x s a v asks w e t as_halted due control k silent j) halt onto.here;
      }

  abbrev rest_of : List ℕ
  rest_of = first_of (λ i. (a.numbers (32 * due.endpoint.queue)).number (suc i)) ((a.numbers (32 * due.endpoint.queue)).requests.count - 1)

  abbrev before_told : HasTelling w.driver asks e due.endpoint g.whole v its_numbers
  before_told = tell g fixed member x s a v asks w e t as_halted due control k silent j

  all_are : its_numbers.closed ++ first_of its_numbers.number its_numbers.requests.count ≡ before_told.reported ++ t ∷ rest_of
  all_are =
      let more : 0 < its_numbers.requests.count = let c = first.count in let some = first.some in omega (arith, c, some) in
      ap (λ (ts : List ℕ). ts ++ first_of its_numbers.number its_numbers.requests.count) (closed_is g fixed member x s a v asks w e t as_halted due control k silent j)
      ∙ ap (λ (ts : List ℕ). before_told.reported ++ ts) (less_one its_numbers.number its_numbers.requests.count more ∙ ap (λ (i : ℕ). i ∷ rest_of) first.number)

  module _ (q : Queue) (b : ℕ) (l : Lines) (asked : a.courses (32 * due.endpoint.queue) ≡ Asks q b l)
      (at : IsAtRequest member (driver_parts w) e t as_halted due s.parts s.hand (q.requests 0) (q.places 0)) where
    stands : IsAsking q b l s.hand s.parts place (control_of (wired fixed w) q.endpoint.addr q.endpoint.num)
    stands = subst (IsCourse control_of s.parts s.hand (wired fixed w) place) asked (j.stand.each place)

    was : IsRecord new asks place (Asks q b l) its_numbers v
    was = subst (λ (c : Course). IsRecord new asks place c its_numbers v) asked
        ((kept g fixed member x s a v asks w e t as_halted due control k silent j).each place (has g fixed member x s a v asks w e t as_halted due control k silent j).queue)

    begins : IsPrefix (bytes_with (driver_parts w) due.transfer m) (g.whole due.endpoint.desc.name (asks t))
    begins =
        let whole : g.whole due.endpoint.desc.name (asks t) ≡ data_of q.endpoint (q.requests 0) =
        whole_is g fixed member x s a v asks w e t as_halted due control k silent j ∙ ap (λ (z : Queue). data_of z.endpoint (z.requests 0)) (ap queue_in asked) in
        subst (IsPrefix (bytes_with (driver_parts w) due.transfer m)) (sym whole)
        (moved_begin q l s.hand s.parts place due.transfer.left (control_of (wired fixed w) q.endpoint.addr q.endpoint.num) (bytes_with (driver_parts w) due.transfer m) stands.queue
        (read_is_moved member (driver_parts w) e t m (lines.Halt cause) due s.parts s.hand (q.requests 0) (q.places 0) at))

    pub halts : (c : Option EndCause) → HasTelling new asks e (record due.endpoint { ended = c }) g.whole v (all_closed its_numbers)
        → RequestEnds g fixed member s a v asks w new e (record due.endpoint { ended = c }) (all_closed (a.numbers (32 * due.endpoint.queue)))
    halts c told = record {
      course = Rests (without_requests q) b (l.line l.under).device;
      queue = refl;
      endpoint = ap (λ (z : Course). (queue_in z).endpoint) (sym asked);
      tail = ap tail_in (sym asked);
      count = refl;
      rests = λ none. refl;
      stand = request_halts control_of member a.courses s.parts s.hand (walk_place (controller_parts w)).walk.reply (wired fixed w) place b q l asked at.on k.in_hand stopped j.stand;
      records = course_is_recorded new asks a.courses a.numbers (has_left g w.driver) v place (Rests (without_requests q) b (l.line l.under).device) (all_closed its_numbers)
          (all_are_closed new asks place b q l (l.line l.under).device its_numbers v s.hand s.parts (control_of (wired fixed w) q.endpoint.addr q.endpoint.num) stands.queue was)
          (kept g fixed member x s a v asks w e t as_halted due control k silent j);
      telling = told;
    }

  begins_whole : IsPrefix (bytes_with (driver_parts w) due.transfer m) (g.whole due.endpoint.desc.name (asks t))
  begins_whole = begins first.queue first.tail first.lines first.asked first.at

  pub halt_leaves : (c : Option EndCause) → HasTelling new asks e (record due.endpoint { ended = c }) g.whole v (all_closed its_numbers)
      → RequestEnds g fixed member s a v asks w new e (record due.endpoint { ended = c }) (all_closed (a.numbers (32 * due.endpoint.queue)))
  halt_leaves c told = halts first.queue first.tail first.lines first.asked first.at c told

  abbrev line : Report
  line = record { name = due.endpoint.desc.name; what = lines.Halt cause; from = length w.driver.store; len = length (bytes_with (driver_parts w) due.transfer m) }

  abbrev told_driver : DriverContent
  told_driver = told_with w.driver w.memory t due.transfer (lines.Halt cause) due.endpoint.desc.name (noted w.driver.notes due.transfer.place m)

  one_told : has_cancel (lines_in due.endpoint.desc.name told_driver.reports) ≡ false
  one_told = uncancelled_more due.endpoint.desc.name w.driver.reports line refl before_told.uncancelled

  -- by an error
  pub error_told : is_stall (lines.Halt cause) ≡ false → end_of due.endpoint.desc.kind (lines.Halt cause) ≡ Some cause
      → HasTelling new asks e (record due.endpoint { ended = end_of due.endpoint.desc.kind (lines.Halt cause) }) g.whole v (all_closed its_numbers)
  error_told no_stall ends = record {
    reported = before_told.reported ++ t ∷ [];
    untold = rest_of;
    closed = all_are ∙ sym (append_assoc before_told.reported (t ∷ []) rest_of);
    going = λ goes. absurd (some_end (sym (told_ended (record due.endpoint { ended = end_of due.endpoint.desc.kind (lines.Halt cause) }) cause (uncancelled g fixed member x s a v asks w e t as_halted due control k silent j) ends) ∙ goes));
    uncancelled = subst (λ (d : DriverContent). has_cancel (lines_in due.endpoint.desc.name d.reports) ≡ false) (sym (new_is g fixed member x s a v asks w e t as_halted due control k silent j))
        (subst (λ (o : Option EndCause). has_cancel (lines_in due.endpoint.desc.name (after_end told_driver e t due.endpoint (is_stall (lines.Halt cause)) o).reports) ≡ false) (sym ends) one_told);
    telling = subst (IsTelling new asks e due.endpoint.desc.name (g.whole due.endpoint.desc.name) v (before_told.reported ++ t ∷ [])) (sym (append-nil rest_of))
        (harvest_tells (driver_parts w) t m (lines.Halt cause) due.endpoint due.transfer asks e t (g.whole due.endpoint.desc.name) v before_told.reported rest_of
        (record { here = due.here; there = due.there; waits = due.waits }) no_stall refl refl begins_whole (telling_first g fixed member x s a v asks w e t as_halted due control k silent j));
  }
    where
      some_end : Some cause ≡ None → ⊥
      some_end same = cc

  -- none of its requests before it waits
  none_before : (i : ℕ) (z : Transfer) → i < t → slice_get w.driver.transfers i ≡ Some z → waits_for e z ≡ false
  none_before i z less there = by (waits_for e z) refl
    where
      next : IsNext (turn_in w.driver.transfers) e t
      next =
          subst (λ (o : Option ℕ). AreReportedTo (turn_in w.driver.transfers) e o) due.next
          (k.turns.turns.turns.next e due.endpoint due.here (going g fixed member x s a v asks w e t as_halted due control k silent j))

      by : (b : Bool) → waits_for e z ≡ b → b ≡ false
      by true waits = let both = waits_is e z waits in absurd (false≢true (sym both.1 ∙ next.before i (turn_of z) less (ap (option_map turn_of) there) both.0))
      by false waits = refl

  behind_is : length rest_of ≡ behind (driver_parts w) e t
  behind_is =
      let first_told = telling_first g fixed member x s a v asks w e t as_halted due control k silent j in
      let waits = first_told.wait in
      let front = count_front e w.driver.transfers t due.transfer due.there due.waits none_before in
      omega (arith, waits, front)

-- ---- a STALL

module _ (g : Sides) (fixed : Fixed) (member : ℕ → Bool) (x : Streams) (s : Standing) (a : Asking) (v : Windows) (asks : ℕ → Request)
    (w : World) (e t m : ℕ)
    (due : IsHarvestDue (driver_parts w) e t (founds.Ended m (lines.Halt causes.Stall))) (control : g.asks due.endpoint.desc ≡ true) (k : IsFooting member x s w) (silent : AreSilent w.driver) (j : IsAskingWorld g fixed member s a v asks w) where
  abbrev stalled_found : Found
  stalled_found = founds.Ended m (lines.Halt causes.Stall)

  abbrev left : List ℕ
  left = first_of (λ i. (a.numbers (32 * due.endpoint.queue)).number (suc i)) ((a.numbers (32 * due.endpoint.queue)).requests.count - 1)

  goes : end_of due.endpoint.desc.kind (lines.Halt causes.Stall) ≡ None
  goes = ap (λ (b : Bool). if b then None else Some causes.Stall) (g.controls due.endpoint.desc control)

  abbrev was_told : HasTelling w.driver asks e due.endpoint g.whole v (a.numbers (32 * due.endpoint.queue))
  was_told = before_told g fixed member x s a v asks w e t m causes.Stall due control k silent j

  size : length left ≡ behind (driver_parts w) e t
  size = behind_is g fixed member x s a v asks w e t m causes.Stall due control k silent j

  pub stall_told_all : HasTelling (ended_driver w e t (founds.Ended m (lines.Halt causes.Stall))) asks e (record due.endpoint { ended = end_of due.endpoint.desc.kind (lines.Halt causes.Stall) }) g.whole v (all_closed (a.numbers (32 * due.endpoint.queue)))
  stall_told_all =
      let b : ℕ = behind (driver_parts w) e t in
      let all : take b left ≡ left = let is = size in take_all b left (omega (arith, is)) in
      let none : drop b left ≡ [] = let is = size in drop_of_length-le left (omega (arith, is)) in
      record {
        reported = was_told.reported ++ t ∷ left;
        untold = [];
        closed = all_are g fixed member x s a v asks w e t m causes.Stall due control k silent j ∙ sym (append-nil (was_told.reported ++ t ∷ left));
        going = λ is. refl;
        uncancelled = subst (λ (d : DriverContent). has_cancel (lines_in due.endpoint.desc.name d.reports) ≡ false) (sym (new_is g fixed member x s a v asks w e t stalled_found due control k silent j))
            (subst (λ (o : Option EndCause). has_cancel (lines_in due.endpoint.desc.name (after_end (told_driver g fixed member x s a v asks w e t m causes.Stall due control k silent j) e t due.endpoint true o).reports) ≡ false) (sym goes)
            (all_behind _ e due.endpoint.desc.name (suc t) _ (one_told g fixed member x s a v asks w e t m causes.Stall due control k silent j)));
        telling = subst (λ (ts : List ℕ). IsTelling (ended_driver w e t stalled_found) asks e due.endpoint.desc.name (g.whole due.endpoint.desc.name) v (was_told.reported ++ t ∷ ts) []) all
            (subst (IsTelling (ended_driver w e t stalled_found) asks e due.endpoint.desc.name (g.whole due.endpoint.desc.name) v (was_told.reported ++ t ∷ take b left)) none
            (stall_tells (driver_parts w) t m due.endpoint due.transfer asks e t (g.whole due.endpoint.desc.name) v was_told.reported left (record { here = due.here; there = due.there; waits = due.waits })
            (g.controls due.endpoint.desc control) (begins_whole g fixed member x s a v asks w e t m causes.Stall due control k silent j) (telling_first g fixed member x s a v asks w e t stalled_found due control k silent j)));
      }

pub halt_ends : HaltEnds
halt_ends g fixed member x s a v asks w e t m causes.Stall due control k silent j =
    halt_leaves g fixed member x s a v asks w e t m causes.Stall due control k silent j (end_of due.endpoint.desc.kind (lines.Halt causes.Stall)) (stall_told_all g fixed member x s a v asks w e t m due control k silent j)
halt_ends g fixed member x s a v asks w e t m causes.Error due control k silent j =
    halt_leaves g fixed member x s a v asks w e t m causes.Error due control k silent j (Some causes.Error) (error_told g fixed member x s a v asks w e t m causes.Error due control k silent j refl refl)
halt_ends g fixed member x s a v asks w e t m causes.Babble due control k silent j =
    halt_leaves g fixed member x s a v asks w e t m causes.Babble due control k silent j (Some causes.Babble) (error_told g fixed member x s a v asks w e t m causes.Babble due control k silent j refl refl)
halt_ends g fixed member x s a v asks w e t m causes.Miss due control k silent j =
    halt_leaves g fixed member x s a v asks w e t m causes.Miss due control k silent j (Some causes.Miss) (error_told g fixed member x s a v asks w e t m causes.Miss due control k silent j refl refl)
halt_ends g fixed member x s a v asks w e t m causes.Cancel due control k silent j =
    halt_leaves g fixed member x s a v asks w e t m causes.Cancel due control k silent j (Some causes.Cancel) (error_told g fixed member x s a v asks w e t m causes.Cancel due control k silent j refl refl)
