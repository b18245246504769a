-- The harvest of a control request.
use Rattle.std.proofs.Common.{◌≡◌, ◌≢◌, ℕ, zero, suc, ◌-◌, ◌*◌, ◌<◌, ◌≤◌, Bool, true, false, ◌||◌, if◌then◌else◌, List, [], ◌∷◌, ◌++◌, length, slice_get, Option, Some, None, ap, refl, sym, subst, ◌∙◌, ⊎_elim, arith}
use Rattle.std.specs.Prelude.{nat_le, nat_eq}
use Rattle.std.proofs.lemmas.Bool.{cases_eq, leb-true, false≢true}
use Rattle.std.proofs.lemmas.List.{append-nil}
use Rattle.std.proofs.lemmas.Option.{same_Some}
use Rattle.law_common.proofs.Booleans.{or_both}
use Rattle.law_queues.proofs.Common.{none_unpublished, after_is}
use Rattle.law_reports.proofs.Common.{less_one}
use Rattle.law_driver.proofs.Common.{waits_is}
use Rattle.usb_base.specs.declared.endpoints.EpName.{EpName}
use Rattle.usb_base.specs.declared.endpoints.EndCause.TheVariants as causes
use Rattle.usb_base.specs.declared.reports.Report.{Report}
use Rattle.usb_base.specs.declared.reports.What.{What}
use Rattle.usb_base.specs.declared.reports.What.TheVariants as lines
use Rattle.qh_qtd.specs.declared.qtd.Qtd.{Qtd}
use Rattle.qh_qtd.specs.declared.token.Token.{Token}
use Rattle.toggle_error.specs.declared.host.HostSide.{HostSide}
use Rattle.bus_wire.specs.Bus.{Fixed}
use Rattle.drv_table.specs.declared.content.Command.{Command}
use Rattle.drv_table.specs.declared.content.Command.TheVariants as unfinished
use Rattle.drv_table.specs.declared.content.Endpoint.{Endpoint}
use Rattle.drv_table.specs.declared.content.QtdNote.{QtdNote}
use Rattle.drv_table.specs.declared.content.Sort.TheVariants as sorts
use Rattle.drv_table.specs.declared.content.Transfer.{Transfer}
use Rattle.drv_table.specs.declared.rows.DriverRow.TheVariants as rows
use Rattle.drv_table.specs.declared.rows.Found.{Found}
use Rattle.drv_table.specs.declared.rows.Found.TheVariants as founds
use Rattle.drv_table.specs.DriverContent.{DriverContent}
use Rattle.drv_table.specs.Harvests.{note_at, token_in, done_of, moved_of, halt_of}
use Rattle.drv_table.specs.Words.{request_stages}
use Rattle.drv_table.specs.Harvesting.{harvested_as, served}
use Rattle.law_driver.specs.endpoint_lives.Lives.{told_end}
use Rattle.law_driver.proofs.lemmas.endpoint_lives.Lives.{none_told}
use Rattle.law_driver.specs.run_owners.Due.{IsHarvestDue}
use Rattle.claims_driver.specs.Leaving.{HasOwners}
use Rattle.claims_driver.specs.Owners.{note_in}
use Rattle.law_driver.specs.chained_transfers.Chains.{piece_at}
use Rattle.law_driver.specs.chained_transfers.Turns.{IsAtPlace}
use Rattle.law_structures.specs.lent_structures.Structures.{Element, Tells}
use Rattle.law_structures.specs.lent_structures.Sound.{IsMember}
use Rattle.law_structures.proofs.lemmas.lent_structures.Altering.{found_element}
use Rattle.law_driver_ring.specs.fed_queues.Fed.{IsPieceFed, sized}
use Rattle.law_driver_ring.specs.fed_queues.Places.{IsMet}
use Rattle.law_driver_ring.proofs.lemmas.fed_queues.Places.{stands_met}
use Rattle.law_driver_ring.proofs.lemmas.harvested_streams.Harvesting.{token_is_read}
use Rattle.law_driver_ring.specs.told_harvests.Held.{IsRead}
use Rattle.law_queues.proofs.lemmas.harvest_laws.ReadRows.{not_active}
use Rattle.claims_report.specs.Reports.{is_line_of}
use Rattle.claims_report.specs.Requests.{Request}
use Rattle.law_queues.specs.told_endpoints.Telling.{lines_in}
use Rattle.claims_world.specs.Pending.{is_cancel}
use Rattle.law_reports.specs.requests.told_requests.Told.{has_cancel}
use Rattle.law_reports.specs.requests.told_requests.Rows.{bytes_with}
use Rattle.law_request.specs.Host.{Endpoint as Characteristics, Stage, Setup, Data, Status, has_data, side_at}
use Rattle.law_request.specs.Windows.{data_of}
use Rattle.law_reports.specs.requests.request_bytes.Fresh.{next_of}
use Rattle.law_devices.specs.ring_requests.Laid.{Places, place_at, comes, IsFresh}
use Rattle.law_devices.specs.ring_requests.Runs.{first_of}
use Rattle.law_devices.specs.ring_requests.Windows.{Queue, Lines, Sent, sent_at, HasEnded, IsActedOnce, IsBehind}
use Rattle.law_devices.specs.request_stores.Published.{without_first}
use Rattle.law_devices.specs.Controls.{control_of}
use Rattle.law_reports.specs.requests.driver_requests.Requests.{IsOfTransfer, IsLaidOut}
use Rattle.law_reports.proofs.lemmas.requests.lemmas.driver_requests.Owning.{qtds_case, places_with_data, places_without}
use Rattle.bus_world.specs.World.{World, driver_parts, controller_parts}
use Rattle.law_world.specs.steps.Streaming.{Streams, Standing}
use Rattle.claims_world.specs.Requests.{wired, Windows}
use Rattle.law_reports.specs.requests.Courses.{Course, NoQueue, Asks, Rests, IsAsking, IsResting, IsCourse, has_queue, queue_in, tail_in}
use Rattle.law_reports.specs.requests.QueueChanges.{lines_behind, FirstHasGone}
use Rattle.law_reports.proofs.lemmas.requests.QueueEnding.{first_goes, last_goes}
use Rattle.law_reports.specs.requests.Records.{Numbers, IsRecord, AreRecords}
use Rattle.law_reports.specs.requests.TransferChanges.{first_closed}
use Rattle.law_reports.proofs.lemmas.requests.TransferChanging.{course_is_recorded, first_is_closed, last_is_closed}
use Rattle.law_reports.proofs.lemmas.requests.TransferHarvests.{done_is_ended}
use Rattle.law_reports.proofs.lemmas.requests.Rows.{row_keeps_records}
use Rattle.law_reports.specs.requests.Telling.{IsTelling, IsUncancelled}
use Rattle.law_reports.proofs.lemmas.requests.Telling.{harvest_tells}
use Rattle.hc_core.specs.Controller.{walk_place}
use Rattle.law_reports.specs.requests.Asking.{Sides, Asking, has_left, is_next_of, is_publishing, next_with, HasCourse, HasTelling, IsMetControl, IsReadTo, IsAskingWorld}
use Rattle.law_reports.specs.requests.Reading.{AreSilent, IsAtRequest}
use Rattle.law_reports.specs.requests.Ended.{ReadsFirst, HarvestReadsFirst, ended_driver, RequestEnds, DoneEnds}
use Rattle.law_reports.proofs.lemmas.requests.Reading.{found_is, read_is_moved, moved_are_all}
use Rattle.law_reports.specs.requests.Footing.{IsFooting}

-- ---- lists

one_line : (name : EpName) (line : Report) → is_cancel line.what ≡ false → has_cancel (lines_in name (line ∷ [])) ≡ false
one_line name line none = by (is_line_of name line)
  where
    by : (b : Bool) → has_cancel (if b then line ∷ [] else []) ≡ false
    by true = ap (λ (c : Bool). c || false) none
    by false = refl

-- a line more that isn't that of a cancel
pub uncancelled_more : (name : EpName) (reports : List Report) (line : Report) → is_cancel line.what ≡ false
    → has_cancel (lines_in name reports) ≡ false → has_cancel (lines_in name (reports ++ line ∷ [])) ≡ false
uncancelled_more name [] line none before = one_line name line none
uncancelled_more name (r ∷ rest) line none before = by (is_line_of name r) (λ is. uncancelled_more name rest line none is) before
  where
    by : (b : Bool) → (has_cancel (lines_in name rest) ≡ false → has_cancel (lines_in name (rest ++ line ∷ [])) ≡ false)
        → has_cancel (if b then r ∷ lines_in name rest else lines_in name rest) ≡ false
        → has_cancel (if b then r ∷ lines_in name (rest ++ line ∷ []) else lines_in name (rest ++ line ∷ [])) ≡ false
    by true later is =
        let both = or_both (is_cancel r.what) (has_cancel (lines_in name rest)) is in
        ap (λ (c : Bool). c || has_cancel (lines_in name (rest ++ line ∷ []))) both.0 ∙ later both.1
    by false later is = later is

-- ---- which qTD is read

pub record IsStageRead (r : Request) (x : Places) (y : Transfer) : Type 0 where
  pub stage : Stage
  pub later : comes r Setup stage ≡ true
  pub is : place_at x stage ≡ 32 * y.place
  pub last : y.left ≤ 1 → x.status ≡ 32 * y.place

module _ (d : DriverContent) (t : ℕ) (r : Request) (x : Places) (y : Transfer) (k : IsLaidOut d t r x) (own : k.own ≡ y)
    (at : IsAtPlace (note_in d.notes) y) where
  index : (i : ℕ) → y.qtds - y.left ≡ i → 32 * piece_at (note_in d.notes) y.first i ≡ 32 * y.place
  index i is = sym (ap (λ (b : ℕ). 32 * b) (at.place ∙ ap (piece_at (note_in d.notes) y.first) is))

  count_of : (i : ℕ) → length (request_stages r.setup) ≡ i → y.qtds ≡ i
  count_of i is = ap (λ (z : Transfer). z.qtds) (sym own) ∙ k.qtds ∙ is

  first_is : k.own.first ≡ y.first
  first_is = ap (λ (z : Transfer). z.first) own

  without : has_data r ≡ false → y.qtds ≡ 2 → IsStageRead r x y
  without none many =
      ⊎_elim {C = IsStageRead r x y}
      (λ (left : y.left ≡ 2). record {
        stage = Setup;
        later = refl;
        is = ap (λ (p : Places). p.setup) (places_without d t r x k none) ∙ ap (λ (b : ℕ). 32 * b) first_is ∙ index 0 (omega (arith, left, many));
        last = λ last. absurd (omega (arith, left, last));
      })
      (λ (differs : y.left ≢ 2).
      let some = at.some in
      let most = at.most in
      let is : x.status ≡ 32 * y.place = ap (λ (p : Places). p.status) (places_without d t r x k none) ∙ ap (λ (b : ℕ). 32 * next_of d.notes b) first_is ∙ index 1 (omega (arith, some, most, many, differs)) in
      record { stage = Status; later = refl; is = is; last = λ last. is }) (cases_eq y.left 2)

  with_data : has_data r ≡ true → y.qtds ≡ 3 → IsStageRead r x y
  with_data has many =
      ⊎_elim {C = IsStageRead r x y}
      (λ (left : y.left ≡ 3). record {
        stage = Setup;
        later = refl;
        is = ap (λ (p : Places). p.setup) (places_with_data d t r x k has) ∙ ap (λ (b : ℕ). 32 * b) first_is ∙ index 0 (omega (arith, left, many));
        last = λ last. absurd (omega (arith, left, last));
      })
      (λ (fewer : y.left ≢ 3).
      ⊎_elim {C = IsStageRead r x y}
      (λ (left : y.left ≡ 2). record {
        stage = Data;
        later = has;
        is = ap (λ (p : Places). p.data_at) (places_with_data d t r x k has) ∙ ap (λ (b : ℕ). 32 * next_of d.notes b) first_is ∙ index 1 (omega (arith, left, many));
        last = λ last. absurd (omega (arith, left, last));
      })
      (λ (differs : y.left ≢ 2).
      let some = at.some in
      let most = at.most in
      let is : x.status ≡ 32 * y.place = ap (λ (p : Places). p.status) (places_with_data d t r x k has) ∙ ap (λ (b : ℕ). 32 * next_of d.notes (next_of d.notes b)) first_is ∙ index 2 (omega (arith, some, most, many, fewer, differs)) in
      record { stage = Status; later = refl; is = is; last = λ last. is }) (cases_eq y.left 2)) (cases_eq y.left 3)

  pub stage_read : IsStageRead r x y
  stage_read = ⊎_elim {C = IsStageRead r x y} (λ none. without none.0 (count_of 2 none.1)) (λ some. with_data some.0 (count_of 3 some.1)) (qtds_case r)

side_active : (r : Request) (max : ℕ) (s : Stage) → (side_at r max true s).active ≡ true
side_active r max Setup = refl
side_active r max _ = refl

-- ---- the request that is read

module _ (g : Sides) (fixed : Fixed) (member : ℕ → Bool) (x : Streams) (s : Standing) (a : Asking) (v : Windows) (asks : ℕ → Request)
    (w : World) (e t : ℕ) (found : Found)
    (due : IsHarvestDue (driver_parts w) e t found) (control : g.asks due.endpoint.desc ≡ true) (k : IsFooting member x s w) (silent : AreSilent w.driver) (j : IsAskingWorld g fixed member s a v asks w) where
  abbrev ep : Endpoint
  ep = due.endpoint

  abbrev y : Transfer
  y = due.transfer

  abbrev n : ℕ
  n = 32 * due.endpoint.queue

  abbrev own_numbers : Numbers
  own_numbers = a.numbers (32 * due.endpoint.queue)

  no_open : (b : ℕ) → ◌≡◌ {A = Option Command} None (Some (unfinished.Open b)) → ⊥
  no_open b same = cc

  pub met : IsMet w.driver e due.endpoint
  met = stands_met w.driver e due.endpoint (k.turns.asynchronous.endpoints e due.endpoint due.here) due.goes_on (λ is. no_open due.endpoint.queue (sym due.idle ∙ is))

  pub its : IsMetControl g w.driver e due.endpoint
  its = record { is = record { here = due.here; control = control }; met = met }

  pub has : HasCourse g w.driver e due.endpoint (a.courses n) own_numbers
  has = j.each e due.endpoint its

  pub going : told_end due.endpoint ≡ None
  going = none_told due.endpoint due.goes_on

  pub rec : IsRecord w.driver asks n (a.courses n) own_numbers v
  rec = j.records.each n has.queue

  next_is : (own_numbers.number 0 ≡ t) × (0 < own_numbers.requests.count)
  next_is = by own_numbers.requests.count refl (sym due.next ∙ has.next going)
    where
      by : (i : ℕ) → own_numbers.requests.count ≡ i → Some t ≡ next_with i (own_numbers.number 0)
          → (own_numbers.number 0 ≡ t) × (0 < own_numbers.requests.count)
      by zero is none = absurd cc
      by (suc i) is some = (sym (same_Some t (own_numbers.number 0) some), omega (arith, is))

  not_publishing : is_next_of w.driver e ≡ false
  not_publishing = ap (λ (c : Option Command). is_publishing c (slice_get w.driver.transfers (length w.driver.transfers - 1)) e) due.idle

  pub count_is : own_numbers.requests.count ≡ (queue_in (a.courses n)).count
  count_is = has.count ∙ ap (λ (b : Bool). if b then suc (queue_in (a.courses n)).count else (queue_in (a.courses n)).count) not_publishing

  pub some : 0 < (queue_in (a.courses n)).count
  some = let more = next_is.1 in let same = count_is in omega (arith, more, same)

  pub same_sent : sent_at own_numbers.requests 0 ≡ sent_at (queue_in (a.courses n)) 0
  same_sent = rec.numbered.ahead.same 0 some

  pub laid : IsLaidOut w.driver t ((queue_in (a.courses n)).requests 0) ((queue_in (a.courses n)).places 0)
  laid =
      subst (λ (i : ℕ). IsLaidOut w.driver i ((queue_in (a.courses n)).requests 0) ((queue_in (a.courses n)).places 0)) next_is.0
      (subst (λ (z : Sent). IsLaidOut w.driver (own_numbers.number 0) z.request z.places) same_sent (rec.numbered.own.laid 0 (omega arith) next_is.1))

  own_is : laid.own ≡ y
  own_is = same_Some laid.own y (sym laid.here ∙ due.there)

  of_it : IsOfTransfer w.driver own_numbers.endpoint (own_numbers.number 0)
  of_it = rec.numbered.own.transfers 0 next_is.1

  sort : y.sort ≡ sorts.Request
  sort =
      let same : of_it.own ≡ y = same_Some of_it.own y (sym of_it.here ∙ ap (slice_get w.driver.transfers) next_is.0 ∙ due.there) in
      ap (λ (z : Transfer). z.sort) (sym same) ∙ of_it.sort

  held : y.released ≡ false
  held = ap (λ (z : Transfer). z.released) (sym own_is) ∙ laid.held

  at_place : IsAtPlace (note_in w.driver.notes) y
  at_place = k.turns.turns.places t y due.there held

  its_end : slice_get w.driver.endpoints y.endpoint ≡ Some due.endpoint
  its_end = ap (slice_get w.driver.endpoints) (waits_is e y due.waits).0 ∙ due.here

  pub tells : Tells w.memory s.parts
  tells = k.tells

  pub on : IsMember member n (s.parts n)
  on = k.members e due.endpoint due.here (g.controls due.endpoint.desc control) met

  owners : HasOwners w.driver
  owners = k.owners

  pub fed_at : (i : ℕ) → i < y.qtds
      → IsPieceFed y.sort (s.parts n) (sized y.sort i (note_at w.driver.notes (piece_at (note_in w.driver.notes) y.first i))) (piece_at (note_in w.driver.notes) y.first i) (piece_at (note_in w.driver.notes) y.first y.qtds)
  fed_at i below = let none = none_unpublished w.driver t y due.idle in k.queues.fed.pieces t i y due.endpoint due.there held its_end (omega (arith, none)) below

  -- the qTD that is read
  pub piece_here : IsPieceFed y.sort (s.parts n) (sized y.sort (y.qtds - y.left) (note_at w.driver.notes (piece_at (note_in w.driver.notes) y.first (y.qtds - y.left)))) (piece_at (note_in w.driver.notes) y.first (y.qtds - y.left)) (piece_at (note_in w.driver.notes) y.first y.qtds)
  piece_here = let least = at_place.some in let most = at_place.most in fed_at (y.qtds - y.left) (omega (arith, least, most))

  pub qtd_here : s.parts n (32 * y.place) ≡ Some (Element piece_here.qtd)
  qtd_here = ap (λ (b : ℕ). s.parts n (32 * b)) at_place.place ∙ piece_here.here

  stage_here : IsStageRead ((queue_in (a.courses n)).requests 0) ((queue_in (a.courses n)).places 0) y
  stage_here = stage_read w.driver t ((queue_in (a.courses n)).requests 0) ((queue_in (a.courses n)).places 0) y laid own_is at_place

  so_far : IsReadTo s.hand s.parts n (note_at w.driver.notes) y ((queue_in (a.courses n)).requests 0)
  so_far =
      subst (λ (z : Sent). IsReadTo s.hand s.parts n (note_at w.driver.notes) y z.request) same_sent
      (j.read e t due.endpoint y its going due.next due.there)

  noted_data : has_data ((queue_in (a.courses n)).requests 0) ≡ true
      → IsRead (s.parts n) (note_at w.driver.notes (next_of w.driver.notes y.first)) (next_of w.driver.notes y.first)
  noted_data carries =
      let r : Request = (queue_in (a.courses n)).requests 0 in
      let many : y.qtds ≡ length (request_stages r.setup) = ap (λ (z : Transfer). z.qtds) (sym own_is) ∙ laid.qtds in
      let three : y.qtds ≡ 3 = many ∙ ⊎_elim {C = length (request_stages r.setup) ≡ 3} (λ none. absurd (false≢true (sym none.0 ∙ carries))) (λ more. more.1) (qtds_case r) in
      let piece = fed_at 1 (omega (arith, three)) in
      record { qtd = piece.qtd; here = piece.here; long = piece.long; buffer = piece.buffer; places = piece.places }

  -- its place is in a queue that is asked
  module _ (done : found ≢ founds.Active) where
    pub off : (token_in w.memory y.place).active ≡ false
    off = not_active (driver_parts w) e t found due owners k.turns done

    qtd_off : piece_here.qtd.token.active ≡ false
    qtd_off = ap (λ (z : Token). z.active) (sym (token_is_read w.memory s.parts n y.place piece_here.qtd tells qtd_here)) ∙ off

    -- one that waits isn't begun
    none_waits : IsBehind (sent_at (queue_in (a.courses n)) 0) s.hand s.parts n → ⊥
    none_waits waits =
        let r : Request = (queue_in (a.courses n)).requests 0 in
        let z : IsFresh (queue_in (a.courses n)).endpoint r ((queue_in (a.courses n)).places 0) (s.parts n) stage_here.stage = waits.fresh stage_here.stage stage_here.later in
        let same : piece_here.qtd ≡ z.stage.qtd = found_element (s.parts n (32 * y.place)) piece_here.qtd z.stage.qtd qtd_here (ap (s.parts n) (sym stage_here.is) ∙ z.stage.here) in
        let on : z.stage.qtd.token.active ≡ true = ap (λ (h : HostSide). h.active) (z.begins true) ∙ side_active r (queue_in (a.courses n)).endpoint.max stage_here.stage in
        false≢true (sym qtd_off ∙ ap (λ (u : Qtd). u.token.active) same ∙ on)

    asked_with : (q : Queue) (b : ℕ) (l : Lines) → a.courses n ≡ Asks q b l → ReadsFirst member s a w e t found due
    asked_with q b l is =
        let stands : IsAsking q b l s.hand s.parts n (control_of (wired fixed w) q.endpoint.addr q.endpoint.num) = subst (IsCourse control_of s.parts s.hand (wired fixed w) n) is (j.stand.each n) in
        let queue : queue_in (a.courses n) ≡ q = ap queue_in is in
        let few : 0 < q.count = subst (λ (z : Queue). 0 < z.count) queue some in
        let place : IsLaidOut w.driver t (q.requests 0) (q.places 0) = subst (λ (z : Queue). IsLaidOut w.driver t (z.requests 0) (z.places 0)) queue laid in
        record {
          queue = q;
          tail = b;
          lines = l;
          asked = is;
          some = few;
          count = count_is ∙ ap (λ (z : Queue). z.count) queue;
          number = next_is.0;
          at = record {
            laid = place;
            apart = stands.line.places 0 few;
            sort = sort;
            at = at_place;
            silent = silent t y due.there sort held;
            so_far = subst (λ (z : Queue). IsReadTo s.hand s.parts n (note_at w.driver.notes) y (z.requests 0)) queue so_far;
            within = k.within t y due.there held;
            tells = tells;
            on = on;
            noted = subst (λ (z : Queue). has_data (z.requests 0) ≡ true → IsRead (s.parts n) (note_at w.driver.notes (next_of w.driver.notes y.first)) (next_of w.driver.notes y.first)) queue noted_data;
          };
        }

    pub reads : ReadsFirst member s a w e t found due
    reads = by (a.courses n) refl
      where
        by : (c : Course) → a.courses n ≡ c → ReadsFirst member s a w e t found due
        by NoQueue is = absurd (false≢true (sym (ap has_queue is) ∙ has.queue))
        by (Asks q b l) is = asked_with q b l is
        by (Rests q b c) is =
            let stands : IsResting q b c s.hand s.parts n (control_of (wired fixed w) q.endpoint.addr q.endpoint.num) = subst (IsCourse control_of s.parts s.hand (wired fixed w) n) is (j.stand.each n) in
            let queue : queue_in (a.courses n) ≡ q = ap queue_in is in
            absurd (none_waits (subst (λ (z : Queue). IsBehind (sent_at z 0) s.hand s.parts n) (sym queue) (stands.behind 0 (subst (λ (z : Queue). 0 < z.count) queue some))))

  -- ---- what stays

  pub uncancelled : due.endpoint.cancelled ≡ false
  uncancelled = by due.endpoint.cancelled refl
    where
      by : (b : Bool) → due.endpoint.cancelled ≡ b → b ≡ false
      by true is = absurd ((k.turns.asynchronous.endpoints e due.endpoint due.here).ended is due.goes_on)
      by false is = refl

  pub kept : AreRecords (ended_driver w e t found) asks a.courses a.numbers (has_left g w.driver) v
  kept =
      row_keeps_records (driver_parts w) (rows.Harvest e t found) asks a.courses a.numbers (has_left g w.driver) v (λ i has. tt)
      (λ i m has few is. let bad : ◌≡◌ {A = Option ℕ} None (Some ((a.numbers i).number m)) = is in cc) j.records

  pub new_is : ended_driver w e t found ≡ served (harvested_as w.driver w.memory e t due.endpoint y found) e
  new_is =
      after_is (driver_parts w) e t found due
      ∙ ap (λ (b : Bool). if b then served (harvested_as w.driver w.memory e t due.endpoint y found) e else w.driver) due.waits

  -- its data
  pub whole_is : g.whole due.endpoint.desc.name (asks t) ≡ data_of (queue_in (a.courses n)).endpoint ((queue_in (a.courses n)).requests 0)
  whole_is =
      let asked : asks t ≡ (queue_in (a.courses n)).requests 0 = ap asks (sym next_is.0) ∙ rec.numbered.order.requests 0 next_is.1 ∙ ap (λ (z : Sent). z.request) same_sent in
      ap (g.whole due.endpoint.desc.name) asked ∙ (j.given e due.endpoint its.is).replies ((queue_in (a.courses n)).requests 0)
      ∙ ap (λ (z : Characteristics). data_of z ((queue_in (a.courses n)).requests 0)) (sym has.endpoint)

  pub asked_is : asks t ≡ (queue_in (a.courses n)).requests 0
  asked_is = ap asks (sym next_is.0) ∙ rec.numbered.order.requests 0 next_is.1 ∙ ap (λ (z : Sent). z.request) same_sent

  pub tell : HasTelling w.driver asks e due.endpoint g.whole v own_numbers
  tell = j.telling e due.endpoint its

  rest_of : List ℕ
  rest_of = first_of (λ i. own_numbers.number (suc i)) (own_numbers.requests.count - 1)

  pub telling_first : IsTelling w.driver asks e due.endpoint.desc.name (g.whole due.endpoint.desc.name) v tell.reported (t ∷ first_of (λ i. own_numbers.number (suc i)) (own_numbers.requests.count - 1))
  telling_first =
      let are : tell.untold ++ first_of own_numbers.number own_numbers.requests.count ≡ t ∷ first_of (λ i. own_numbers.number (suc i)) (own_numbers.requests.count - 1) =
      ap (λ (ts : List ℕ). ts ++ first_of own_numbers.number own_numbers.requests.count) (tell.going going) ∙ less_one own_numbers.number own_numbers.requests.count next_is.1
      ∙ ap (λ (i : ℕ). i ∷ first_of (λ i. own_numbers.number (suc i)) (own_numbers.requests.count - 1)) next_is.0 in
      subst (IsTelling w.driver asks e due.endpoint.desc.name (g.whole due.endpoint.desc.name) v tell.reported) are tell.telling

  pub closed_is : own_numbers.closed ≡ tell.reported
  closed_is = tell.closed ∙ ap (λ (ts : List ℕ). tell.reported ++ ts) (tell.going going) ∙ append-nil tell.reported

pub harvest_reads_first : HarvestReadsFirst
harvest_reads_first g fixed member x s a v asks w e t found due control done k silent j = reads g fixed member x s a v asks w e t found due control k silent j done

-- ---- it is found done

abbrev what_in : Found → What
what_in (founds.Ended n what) = what
what_in _ = lines.Miss

abbrev is_done : What → Bool
is_done lines.Done = true
is_done _ = false

halts_by : (missed babble error : Bool)
    → is_done (if missed then lines.Miss else if babble then lines.Halt causes.Babble else if error then lines.Halt causes.Error else lines.Halt causes.Stall) ≡ false
halts_by true babble error = refl
halts_by false true error = refl
halts_by false false true = refl
halts_by false false false = refl

last_by : (active halted last : Bool) (note : QtdNote) (t : Token)
    → true ≡ is_done (what_in (if active then founds.Active else if halted then founds.Ended (moved_of note.told t.total) (halt_of t) else done_of (last || false) (moved_of note.told t.total)))
    → last ≡ true
last_by true halted last note t is = absurd cc
last_by false true last note t is = absurd (false≢true (sym (halts_by t.missed t.babble (nat_eq t.cerr 0)) ∙ sym is))
last_by false false true note t is = refl
last_by false false false note t is = absurd cc

module _ (g : Sides) (fixed : Fixed) (member : ℕ → Bool) (x : Streams) (s : Standing) (a : Asking) (v : Windows) (asks : ℕ → Request)
    (w : World) (e t m : ℕ)
    (due : IsHarvestDue (driver_parts w) e t (founds.Ended m lines.Done)) (control : g.asks due.endpoint.desc ≡ true) (k : IsFooting member x s w) (silent : AreSilent w.driver) (j : IsAskingWorld g fixed member s a v asks w) where
  abbrev place : ℕ
  place = 32 * due.endpoint.queue

  abbrev its_numbers : Numbers
  its_numbers = a.numbers (32 * due.endpoint.queue)

  abbrev as_done : Found
  as_done = founds.Ended m lines.Done

  ended_active : as_done ≢ founds.Active
  ended_active same = cc

  abbrev new : DriverContent
  new = ended_driver w e t (founds.Ended m lines.Done)

  is_first : ReadsFirst member s a w e t (founds.Ended m lines.Done) due
  is_first = reads g fixed member x s a v asks w e t (founds.Ended m lines.Done) due control k silent j ended_active

  last : due.transfer.left ≤ 1
  last =
      let found = found_is member (driver_parts w) e t m (founds.Ended m lines.Done) due s.parts s.hand (is_first.queue.requests 0) (is_first.queue.places 0) refl is_first.at in
      leb-true due.transfer.left 1 (last_by (token_in w.memory due.transfer.place).active (token_in w.memory due.transfer.place).halted (nat_le due.transfer.left 1) (note_at w.driver.notes due.transfer.place) (token_in w.memory due.transfer.place)
      (ap (λ (z : Found). is_done (what_in z)) found))

  module _ (q : Queue) (b : ℕ) (l : Lines) (asked : a.courses (32 * due.endpoint.queue) ≡ Asks q b l) (some : 0 < q.count)
      (at : IsAtRequest member (driver_parts w) e t (founds.Ended m lines.Done) due s.parts s.hand (q.requests 0) (q.places 0)) where
    queue : queue_in (a.courses place) ≡ q
    queue = ap queue_in asked

    stands : IsAsking q b l s.hand s.parts place (control_of (wired fixed w) q.endpoint.addr q.endpoint.num)
    stands = subst (IsCourse control_of s.parts s.hand (wired fixed w) place) asked (j.stand.each place)

    ended : HasEnded (sent_at q 0) s.parts place
    ended =
        let own : at.laid.own ≡ due.transfer = same_Some at.laid.own due.transfer (sym at.laid.here ∙ due.there) in
        let stage = stage_read w.driver t (q.requests 0) (q.places 0) due.transfer at.laid own at.at in
        done_is_ended (driver_parts w) e t m s.parts q.endpoint (q.requests 0) (q.places 0) (piece_here g fixed member x s a v asks w e t as_done due control k silent j).qtd due at.laid at.sort at.at at.tells
        (ap (s.parts place) (stage.last last) ∙ qtd_here g fixed member x s a v asks w e t as_done due control k silent j)

    was : IsRecord new asks place (Asks q b l) its_numbers v
    was = subst (λ (c : Course). IsRecord new asks place c its_numbers v) asked
        ((kept g fixed member x s a v asks w e t as_done due control k silent j).each place (has g fixed member x s a v asks w e t as_done due control k silent j).queue)

    -- what the lines tell
    module _ (once : IsActedOnce (sent_at q 0) (l.line 0) s.hand s.parts place) where
      bytes_are : bytes_with (driver_parts w) due.transfer m ≡ g.whole due.endpoint.desc.name (asks t)
      bytes_are =
          moved_are_all q (l.line 0) s.hand s.parts place due.transfer.left (bytes_with (driver_parts w) due.transfer m) (stands.line.requests 0 some) once last
          (read_is_moved member (driver_parts w) e t m lines.Done due s.parts s.hand (q.requests 0) (q.places 0) at)
          ∙ ap (λ (z : Queue). data_of z.endpoint (z.requests 0)) (sym queue) ∙ sym (whole_is g fixed member x s a v asks w e t as_done due control k silent j)

      acted : v.acts t ≡ (asks t).setup ∷ []
      acted =
          ap v.acts (sym is_first.number) ∙ was.acts.begun 0 (omega arith) ∙ once.acts
          ∙ ap (λ (r : Request). r.setup ∷ []) (ap (λ (z : Queue). z.requests 0) (sym queue) ∙ sym (asked_is g fixed member x s a v asks w e t as_done due control k silent j))

      new_reports : IsUncancelled due.endpoint.desc.name new
      new_reports =
          subst (λ (d : DriverContent). has_cancel (lines_in due.endpoint.desc.name d.reports) ≡ false) (sym (new_is g fixed member x s a v asks w e t as_done due control k silent j))
          (uncancelled_more due.endpoint.desc.name w.driver.reports
          (record { name = due.endpoint.desc.name; what = lines.Done; from = length w.driver.store; len = length (bytes_with (driver_parts w) due.transfer m) }) refl
          (tell g fixed member x s a v asks w e t as_done due control k silent j).uncancelled)

      told : HasTelling new asks e due.endpoint g.whole v (first_closed its_numbers)
      told =
          let before = tell g fixed member x s a v asks w e t as_done due control k silent j in
          record {
            reported = before.reported ++ t ∷ [];
            untold = [];
            closed = ap (λ (ts : List ℕ). ts ++ its_numbers.number 0 ∷ []) (closed_is g fixed member x s a v asks w e t as_done due control k silent j)
                ∙ ap (λ (i : ℕ). before.reported ++ i ∷ []) is_first.number ∙ sym (append-nil (before.reported ++ t ∷ []));
            going = λ goes. refl;
            uncancelled = new_reports;
            telling = harvest_tells (driver_parts w) t m lines.Done due.endpoint due.transfer asks e t (g.whole due.endpoint.desc.name) v before.reported (first_of (λ i. its_numbers.number (suc i)) (its_numbers.requests.count - 1))
                (record { here = due.here; there = due.there; waits = due.waits }) refl refl refl (acted, bytes_are) (telling_first g fixed member x s a v asks w e t as_done due control k silent j);
          }

    -- ---- others are behind it, or none is

    many : its_numbers.requests.count ≡ q.count
    many = count_is g fixed member x s a v asks w e t as_done due control k silent j ∙ ap (λ (z : Queue). z.count) queue

    goes_on : 1 < q.count → RequestEnds g fixed member s a v asks w new e due.endpoint (first_closed (a.numbers (32 * due.endpoint.queue)))
    goes_on more =
        let gone : FirstHasGone control_of member a.courses s.parts s.hand (wired fixed w) place q l (Asks (without_first q) b (lines_behind q l)) =
        first_goes control_of member a.courses s.parts s.hand (walk_place (controller_parts w)).walk.reply (wired fixed w) place b q l asked more at.on k.in_hand ended j.stand in
        record {
          course = Asks (without_first q) b (lines_behind q l);
          queue = refl;
          endpoint = ap (λ (z : Course). (queue_in z).endpoint) (sym asked);
          tail = ap tail_in (sym asked);
          count = ap (λ (i : ℕ). i - 1) many;
          rests = λ none. let same = many in absurd (omega (arith, more, none, same));
          stand = gone.stand;
          records = course_is_recorded new asks a.courses a.numbers (has_left g w.driver) v place (Asks (without_first q) b (lines_behind q l)) (first_closed its_numbers)
              (first_is_closed new asks place b q l its_numbers v more gone.once.acts was) (kept g fixed member x s a v asks w e t as_done due control k silent j);
          telling = told gone.once;
        }

    goes_last : q.count ≡ 1
        → RequestEnds g fixed member s a v asks w new e due.endpoint (first_closed (a.numbers (32 * due.endpoint.queue)))
    goes_last one =
        let gone : FirstHasGone control_of member a.courses s.parts s.hand (wired fixed w) place q l (Rests (without_first q) b (l.line 0).device) =
        last_goes control_of member a.courses s.parts s.hand (walk_place (controller_parts w)).walk.reply (wired fixed w) place b q l asked one at.on k.in_hand ended j.stand in
        record {
          course = Rests (without_first q) b (l.line 0).device;
          queue = refl;
          endpoint = ap (λ (z : Course). (queue_in z).endpoint) (sym asked);
          tail = ap tail_in (sym asked);
          count = ap (λ (i : ℕ). i - 1) many;
          rests = λ none. refl;
          stand = gone.stand;
          records = course_is_recorded new asks a.courses a.numbers (has_left g w.driver) v place (Rests (without_first q) b (l.line 0).device) (first_closed its_numbers)
              (last_is_closed new asks place b q l (l.line 0).device its_numbers v one stands.queue.within gone.once.acts was) (kept g fixed member x s a v asks w e t as_done due control k silent j);
          telling = told gone.once;
        }

    ends : RequestEnds g fixed member s a v asks w new e due.endpoint (first_closed (a.numbers (32 * due.endpoint.queue)))
    ends =
        ⊎_elim {C = RequestEnds g fixed member s a v asks w new e due.endpoint (first_closed (a.numbers (32 * due.endpoint.queue)))} (λ (one : q.count ≡ 1). goes_last one) (λ (differs : q.count ≢ 1). goes_on (omega (arith, some, differs))) (cases_eq q.count 1)

  pub done_leaves : RequestEnds g fixed member s a v asks w new e due.endpoint (first_closed (a.numbers (32 * due.endpoint.queue)))
  done_leaves = ends is_first.queue is_first.tail is_first.lines is_first.asked is_first.some is_first.at

pub done_ends : DoneEnds
done_ends g fixed member x s a v asks w e t m due control k silent j = done_leaves g fixed member x s a v asks w e t m due control k silent j
