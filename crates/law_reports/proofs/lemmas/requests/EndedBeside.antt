-- A harvest that ends a transfer: what it leaves of the requests of all control endpoints, beside those of its own endpoint.
use Rattle.std.proofs.Common.{[], ◌≡◌, ◌≢◌, ℕ, zero, suc, ◌-◌, ◌*◌, ◌<◌, Bool, true, false, not, ◌&&◌, ◌||◌, if◌then◌else◌, List, ◌++◌, length, slice_get, slice_set, Option, Some, None, option_map, ap, refl, sym, subst, ◌∙◌, ⊎_elim, arith}
use Rattle.std.proofs.lemmas.Bool.{cases_eq, false≢true}
use Rattle.std.proofs.lemmas.Option.{same_Some}
use Rattle.law_common.proofs.Lists.{set_here, set_there}
use Rattle.law_queues.proofs.Common.{after_is}
use Rattle.law_common.proofs.Numbers.{same_blocks}
use Rattle.law_reports.proofs.Common.{regone}
use Rattle.law_driver_ring.proofs.Common.{set_else}
use Rattle.usb_base.specs.declared.endpoints.EpDesc.{EpDesc}
use Rattle.usb_base.specs.declared.endpoints.EpName.{EpName}
use Rattle.usb_base.specs.declared.reports.What.{What}
use Rattle.bus_wire.specs.Bus.{Fixed}
use Rattle.bus_wire.specs.Fates.{is_same_name}
use Rattle.drv_table.specs.declared.content.Command.{Command}
use Rattle.drv_table.specs.declared.content.Endpoint.{Endpoint}
use Rattle.drv_table.specs.declared.content.Mend.{Mend}
use Rattle.drv_table.specs.declared.content.QtdNote.{QtdNote}
use Rattle.drv_table.specs.declared.content.Transfer.{Transfer}
use Rattle.drv_table.specs.declared.rows.Found.{Found}
use Rattle.drv_table.specs.DriverContent.{DriverContent}
use Rattle.drv_table.specs.Harvests.{note_at, end_of, is_stall}
use Rattle.drv_table.specs.Harvesting.{served, harvested_as}
use Rattle.drv_table.specs.Words.{request_stages}
use Rattle.law_driver.specs.endpoint_lives.Lives.{told_end, may_meet, is_one_of}
use Rattle.law_driver_ring.specs.fed_queues.Places.{IsMet}
use Rattle.law_driver_ring.proofs.lemmas.fed_queues.Places.{stands_met}
use Rattle.law_driver.specs.run_owners.Due.{IsHarvestDue}
use Rattle.claims_driver.specs.Owners.{note_in}
use Rattle.law_driver.specs.chained_transfers.AsynchronousTurns.{AsynchronousTakesTurns}
use Rattle.law_driver.specs.chained_transfers.Turns.{Turn, turn_of, turn_in, IsNext, AreReportedTo, IsAtPlace}
use Rattle.law_driver_ring.specs.told_harvests.Held.{IsOneFrom}
use Rattle.law_queues.specs.harvest_laws.RowLaws.{IsReadNext}
use Rattle.law_queues.proofs.lemmas.harvest_laws.Places.{unmoved_noted, one_later}
use Rattle.law_queues.proofs.lemmas.harvest_laws.ReadRows.{read_next}
use Rattle.claims_report.specs.Requests.{Request}
use Rattle.law_request.specs.Host.{has_data}
use Rattle.law_devices.specs.ring_requests.Laid.{Places}
use Rattle.law_devices.specs.ring_requests.Runs.{first_of}
use Rattle.law_queues.specs.told_endpoints.Telling.{lines_in}
use Rattle.law_queues.proofs.lemmas.told_endpoints.Names.{same_name_is}
use Rattle.law_reports.specs.requests.told_requests.Told.{has_cancel}
use Rattle.law_devices.specs.Controls.{control_of}
use Rattle.bus_world.specs.World.{World, driver_parts}
use Rattle.law_world.specs.steps.Streaming.{Streams, Standing}
use Rattle.claims_world.specs.Requests.{wired, Windows, numbers_of, opens, is_opening}
use Rattle.law_reports.specs.requests.driver_requests.Requests.{IsLaidOut}
use Rattle.law_reports.proofs.lemmas.requests.lemmas.driver_requests.Owning.{qtds_case}
use Rattle.law_reports.proofs.lemmas.requests.lemmas.driver_requests.RowOrder.{row_numbers}
use Rattle.law_reports.specs.requests.Courses.{Course, queue_in, CoursesStand, have_queues}
use Rattle.law_reports.specs.requests.Counts.{counted_all}
use Rattle.law_reports.specs.requests.Records.{Numbers, AreRecords}
use Rattle.law_reports.proofs.lemmas.requests.Rows.{row_keeps_records}
use Rattle.law_reports.proofs.lemmas.requests.Telling.{other_harvest_keeps_telling}
use Rattle.law_reports.specs.requests.Asking.{IsUnheard, Sides, IsGiven, Asking, has_left, left_with, next_with, DataIsRead, HasCourse, HasTelling, IsCounted, IsUnopened, IsControlOf, IsMetControl, IsReadTo, IsAskingWorld}
use Rattle.law_reports.specs.requests.Ended.{ended_driver}
use Rattle.law_reports.proofs.lemmas.requests.Beside.{one_queue}
use Rattle.law_reports.proofs.lemmas.requests.Ending.{TransferEnds, end_with, stall_owes, ends_so, IsSameBut, end_same, WasEndpoint, owed_at, appended_at}
use Rattle.law_reports.proofs.lemmas.requests.Leaving.{IsQuiet, idle_quiet, IsEndpointStill}
use Rattle.law_reports.proofs.lemmas.requests.Moves.{first_one, second_one}
use Rattle.law_reports.proofs.lemmas.requests.Missed.{narrow_unmissed, narrow_misses, none_published}
use Rattle.law_reports.specs.requests.Footing.{IsFooting}
use Rattle.drv_table.specs.declared.content.Command.TheVariants as unfinished
use Rattle.drv_table.specs.declared.rows.DriverRow.TheVariants as rows
use Rattle.drv_table.specs.declared.rows.Found.TheVariants as founds

-- ---- the qTDs of a request with data

pub data_three : (d : DriverContent) (u : ℕ) (r : Request) (x : Places) (y : Transfer) → IsLaidOut d u r x
    → slice_get d.transfers u ≡ Some y → has_data r ≡ true → y.qtds ≡ 3
data_three d u r x y laid there carries =
    let own : laid.own ≡ y = same_Some laid.own y (sym laid.here ∙ there) in
    ap (λ (z : Transfer). z.qtds) (sym own) ∙ laid.qtds
    ∙ ⊎_elim {C = length (request_stages r.setup) ≡ 3} (λ none. absurd (false≢true (sym none.0 ∙ carries))) (λ more. more.1) (qtds_case r)

pub is_number : (u m c : ℕ) → Some u ≡ next_with m c → (c ≡ u) × (0 < m)
is_number u zero c none = absurd cc
is_number u (suc m) c some = (sym (same_Some u c some), omega arith)

module _ (g : Sides) (fixed : Fixed) (member : ℕ → Bool) (x : Streams) (s : Standing) (a : Asking) (v : Windows) (asks : ℕ → Request)
    (w : World) (e t m : ℕ) (what : What)
    (is_due : IsHarvestDue (driver_parts w) e t (founds.Ended m what)) (turns_now : AsynchronousTakesTurns (ended_driver w e t (founds.Ended m what))) (k : IsFooting member x s w) (q : IsAskingWorld g fixed member s a v asks w) where
  abbrev as_ended : Found
  as_ended = founds.Ended m what

  abbrev new : DriverContent
  new = ended_driver w e t (founds.Ended m what)

  new_is : ended_driver w e t (founds.Ended m what) ≡ served (harvested_as w.driver w.memory e t is_due.endpoint is_due.transfer (founds.Ended m what)) e
  new_is = after_is (driver_parts w) e t as_ended is_due
      ∙ ap (λ (b : Bool). if b then served (harvested_as w.driver w.memory e t is_due.endpoint is_due.transfer (founds.Ended m what)) e else w.driver) is_due.waits

  pub ends : TransferEnds w.driver (ended_driver w e t (founds.Ended m what)) e t m is_due.endpoint is_due.transfer what
  ends =
      let z = ends_so w.driver w.memory e t m is_due.endpoint is_due.transfer what is_due.there in
      subst (λ (d : DriverContent). TransferEnds w.driver d e t m is_due.endpoint is_due.transfer what) (sym new_is)
      (record { endpoints = z.endpoints; transfers = z.transfers; told = z.told; notes = z.notes; command = z.command; waiting = z.waiting; rung = z.rung; mends = z.mends; lines = z.lines; one = z.one })

  abbrev now : Endpoint
  now = end_with (slice_set w.driver.transfers t (record is_due.transfer { reported = true })) e t is_due.endpoint (is_stall what) (end_of is_due.endpoint.desc.kind what)

  pub same_but : IsSameBut is_due.endpoint now
  same_but = end_same (slice_set w.driver.transfers t (record is_due.transfer { reported = true })) e t is_due.endpoint (is_stall what) (end_of is_due.endpoint.desc.kind what)

  pub own_now : slice_get new.endpoints e ≡ Some now
  own_now = ap (λ (xs : List Endpoint). slice_get xs e) ends.endpoints ∙ set_here w.driver.endpoints e is_due.endpoint now is_due.here

  other_now : (i : ℕ) → i ≢ e → slice_get new.endpoints i ≡ slice_get w.driver.endpoints i
  other_now i differs = ap (λ (xs : List Endpoint). slice_get xs i) ends.endpoints ∙ set_there w.driver.endpoints e i now differs

  pub was_of : (i : ℕ) (z : Endpoint) → slice_get new.endpoints i ≡ Some z → WasEndpoint w.driver e now i z
  was_of i z here =
      ⊎_elim {C = WasEndpoint w.driver e now i z}
      (λ (at : i ≡ e).
      let is : now ≡ z = same_Some now z (sym own_now ∙ ap (slice_get new.endpoints) (sym at) ∙ here) in
      record {
        was = is_due.endpoint;
        here = ap (slice_get w.driver.endpoints) at ∙ is_due.here;
        same = subst (IsSameBut is_due.endpoint) is same_but;
        beside = λ differs. absurd (differs at);
        its = λ at. sym is;
      })
      (λ (differs : i ≢ e). record {
        was = z;
        here = sym (other_now i differs) ∙ here;
        same = record { desc = refl; queue = refl; dummy = refl; gone = refl; linked = refl; cancelled = refl };
        beside = λ differs. refl;
        its = λ at. absurd (differs at);
      }) (cases_eq i e)

  still : (i : ℕ) (z : Endpoint) → slice_get w.driver.endpoints i ≡ Some z → IsEndpointStill new i z
  still i z here =
      ⊎_elim {C = IsEndpointStill new i z}
      (λ (at : i ≡ e).
      let is : is_due.endpoint ≡ z = same_Some is_due.endpoint z (sym is_due.here ∙ ap (slice_get w.driver.endpoints) (sym at) ∙ here) in
      record { now = now; here = ap (slice_get new.endpoints) at ∙ own_now; desc = same_but.desc ∙ ap (λ (y : Endpoint). y.desc) is; queue = same_but.queue ∙ ap (λ (y : Endpoint). y.queue) is })
      (λ (differs : i ≢ e). record { now = z; here = other_now i differs ∙ here; desc = refl; queue = refl }) (cases_eq i e)

  idle_now : new.command ≡ None
  idle_now = ends.command ∙ is_due.idle

  pub quiet : IsQuiet w.driver
  quiet = idle_quiet w.driver is_due.idle

  pub quiet_now : IsQuiet (ended_driver w e t (founds.Ended m what))
  quiet_now = idle_quiet new idle_now

  no_open : (b : ℕ) → ◌≡◌ {A = Option Command} None (Some (unfinished.Open b)) → ⊥
  no_open b same = cc

  pub due_met : IsMet w.driver e is_due.endpoint
  due_met = stands_met w.driver e is_due.endpoint (k.turns.asynchronous.endpoints e is_due.endpoint is_due.here) is_due.goes_on (λ is. no_open is_due.endpoint.queue (sym is_due.idle ∙ is))

  near_same : (i : ℕ) (z y : Endpoint) → IsSameBut y z → may_meet new i z ≡ may_meet w.driver i y
  near_same i z y same =
      ap (λ (b : Bool). b || (is_one_of i new.waiting || is_one_of i new.rung)) same.linked
      ∙ ap (λ (ws : List ℕ). y.linked || (is_one_of i ws || is_one_of i new.rung)) ends.waiting
      ∙ ap (λ (ws : List ℕ). y.linked || (is_one_of i w.driver.waiting || is_one_of i ws)) ends.rung

  pub was_control : (i : ℕ) (z : Endpoint) → (is : IsControlOf g new i z) → IsControlOf g w.driver i (was_of i z is.here).was
  was_control i z is = let u = was_of i z is.here in record { here = u.here; control = ap (λ (d : EpDesc). g.asks d) (sym u.same.desc) ∙ is.control }

  pub was_met : (i : ℕ) (z : Endpoint) → (is : IsMetControl g new i z) → IsMetControl g w.driver i (was_of i z is.is.here).was
  was_met i z is =
      let u = was_of i z is.is.here in
      record {
        is = was_control i z is.is;
        met = record {
          there = record { linked = λ opening. no_open u.was.queue (sym is_due.idle ∙ opening); kept = sym u.same.gone ∙ is.met.there.kept };
          near = sym (near_same i z u.was u.same) ∙ is.met.near;
        };
      }

  fewer : (i : ℕ) → has_left g new i ≡ true → has_left g w.driver i ≡ true
  fewer i on = by (slice_get new.endpoints i) refl on
    where
      by : (o : Option Endpoint) → slice_get new.endpoints i ≡ o → left_with g new i o ≡ true → has_left g w.driver i ≡ true
      by None is on = absurd (false≢true on)
      by (Some z) is on =
          let u = was_of i z is in
          ap (left_with g w.driver i) u.here
          ∙ ap (λ (d : EpDesc). g.asks d && not (may_meet w.driver i u.was)) (sym u.same.desc)
          ∙ ap (λ (b : Bool). g.asks z.desc && not b) (sym (near_same i z u.was u.same)) ∙ on

  numbers_now : (i : ℕ) → numbers_of new i ≡ numbers_of w.driver i
  numbers_now i = row_numbers (driver_parts w) (rows.Harvest e t (founds.Ended m what)) i

  pub next_now : (i u : ℕ) (z : Endpoint) (y : Transfer) → slice_get new.endpoints i ≡ Some z → told_end z ≡ None → z.next ≡ Some u
      → slice_get new.transfers u ≡ Some y → (y.endpoint ≡ i) × (y.reported ≡ false)
  next_now i u z y here going next there =
      let n : IsNext (turn_in new.transfers) i u = subst (λ (o : Option ℕ). AreReportedTo (turn_in new.transfers) i o) next (turns_now.turns.turns.next i z here going) in
      let same : n.transfer ≡ turn_of y = same_Some n.transfer (turn_of y) (sym n.here ∙ ap (option_map turn_of) there) in
      (ap (λ (r : Turn). r.endpoint) (sym same) ∙ n.endpoint, ap (λ (r : Turn). r.reported) (sym same) ∙ n.waits)

  pub transfer_was : (u : ℕ) (y : Transfer) → slice_get new.transfers u ≡ Some y → y.reported ≡ false
      → (slice_get w.driver.transfers u ≡ Some y) × (u ≢ t)
  transfer_was u y there waits =
      let told = ends.transfers u y there in
      let off : told.one.reported ≡ false = by told.one.reported told.told in
      let same : y ≡ told.one = told.is ∙ ap (λ (b : Bool). record told.one { reported = b }) (waits ∙ sym off) in
      (told.here ∙ ap Some (sym same), λ at. absurd (false≢true (sym waits ∙ ends.told y (ap (slice_get new.transfers) (sym at) ∙ there))))
    where
      by : (b : Bool) → (b ≡ true → y.reported ≡ true) → b ≡ false
      by true told = absurd (false≢true (sym waits ∙ told refl))
      by false told = refl

  -- ---- what is read of others

  pub next_read : IsReadNext w.driver e t is_due.endpoint is_due.transfer
  next_read = read_next (driver_parts w) e t as_ended is_due k.owners k.turns

  module _ (u : ℕ) (y : Transfer) (there : slice_get w.driver.transfers u ≡ Some y) (waits : y.reported ≡ false) (kept : y.released ≡ false)
      (differs : u ≢ t) where
    pub note_kept : (b : ℕ) → IsOneFrom (note_at w.driver.notes) y.first y.qtds b → note_at new.notes b ≡ note_at w.driver.notes b
    note_kept b one =
        ap (λ (ns : List QtdNote). note_at ns b) ends.notes
        ∙ set_else w.driver.notes is_due.transfer.place b (record (note_at w.driver.notes is_due.transfer.place) { moved = m })
        (λ bad. next_read.others u y there waits kept differs (subst (IsOneFrom (note_at w.driver.notes) y.first y.qtds) bad one))

    pub placed : IsAtPlace (note_in w.driver.notes) y
    placed = next_read.places u y there waits kept

    pub read_kept : (n : ℕ) (r : Request) → (has_data r ≡ true → y.qtds ≡ 3) → IsReadTo s.hand s.parts n (note_at w.driver.notes) y r
        → IsReadTo s.hand s.parts n (note_at new.notes) y r
    read_kept n r three was =
        let least = placed.some in
        let most = placed.most in
        let first : note_at new.notes y.first ≡ note_at w.driver.notes y.first = note_kept y.first (first_one (note_at w.driver.notes) y.first y.qtds (omega (arith, least, most))) in
        record {
          setup = ap (λ (d : QtdNote). d.moved) first ∙ was.setup;
          data_at = λ carries last.
              let size = three carries in
              let later : note_at new.notes (note_at w.driver.notes y.first).next ≡ note_at w.driver.notes (note_at w.driver.notes y.first).next =
              note_kept (note_at w.driver.notes y.first).next (second_one (note_at w.driver.notes) y.first y.qtds (omega (arith, size))) in
              subst (λ (b : ℕ). DataIsRead s.hand s.parts n b (note_at new.notes b)) (sym (ap (λ (d : QtdNote). d.next) first))
              (subst (DataIsRead s.hand s.parts n (note_at w.driver.notes y.first).next) (sym later) (was.data_at carries last));
          rest = unmoved_noted (note_at w.driver.notes) (note_at new.notes) y.place y.left
              (λ c one. note_kept c (one_later w.driver.notes y.first (y.qtds - y.left) y.left y.qtds c (omega (arith, most)) (subst (λ (b : ℕ). IsOneFrom (note_at w.driver.notes) b y.left c) placed.place one))) was.rest;
        }

  -- ---- other endpoints

  module _ (i : ℕ) (z : Endpoint) (is : IsMetControl g new i z) (differs : i ≢ e) where
    old : IsMetControl g w.driver i z
    old = subst (IsMetControl g w.driver i) ((was_of i z is.is.here).beside differs) (was_met i z is)

    pub queues_apart : is_due.endpoint.queue ≢ z.queue
    queues_apart same = differs (sym (one_queue g fixed member x s a v asks w k q e i is_due.endpoint z is_due.here old.is.here due_met.there.kept old.met.there.kept same))

    course_beside : HasCourse g new i z (a.courses (32 * z.queue)) (a.numbers (32 * z.queue))
    course_beside =
        let h = q.each i z old in
        let n : ℕ = (queue_in (a.courses (32 * z.queue))).count in
        record {
          queue = h.queue;
          endpoint = h.endpoint;
          number = h.number;
          tail = h.tail ∙ quiet.tail i z ∙ sym (quiet_now.tail i z);
          count = h.count ∙ ap (λ (b : Bool). if b then suc n else n) (quiet.none i ∙ sym (quiet_now.none i));
          newest = λ on. absurd (false≢true (sym (quiet_now.none i) ∙ on));
          next = h.next;
          ended = h.ended;
          owed = λ j p at same.
              ⊎_elim (λ before. h.owed j p before same)
              (λ more. absurd (queues_apart (sym (owed_at (is_stall what) (end_of is_due.endpoint.desc.kind what) is_due.endpoint more.0 p more.1) ∙ same)))
              (appended_at w.driver.mends (stall_owes (is_stall what) (end_of is_due.endpoint.desc.kind what) is_due.endpoint) j p (sym (ap (λ (ms : List Mend). slice_get ms j) ends.mends) ∙ at));
        }

    unlike : is_same_name is_due.endpoint.desc.name z.desc.name ≡ false
    unlike = by (is_same_name is_due.endpoint.desc.name z.desc.name) refl
      where
        by : (b : Bool) → is_same_name is_due.endpoint.desc.name z.desc.name ≡ b → b ≡ false
        by true one =
            let same : is_due.endpoint.desc.name ≡ z.desc.name = same_name_is is_due.endpoint.desc.name z.desc.name one in
            absurd (differs (k.apart i e z is_due.endpoint old.is.here (g.controls z.desc old.is.control) is_due.here (ap (λ (n : EpName). n.addr) same) (ap (λ (n : EpName). n.num) same)))
        by false one = refl

    telling_beside : HasTelling new asks i z g.whole v (a.numbers (32 * z.queue))
    telling_beside =
        let h = q.telling i z old in
        record {
          reported = h.reported;
          untold = h.untold;
          closed = h.closed;
          going = h.going;
          uncancelled = ap has_cancel (ends.lines z.desc.name unlike) ∙ h.uncancelled;
          telling = other_harvest_keeps_telling (driver_parts w) e t as_ended asks i z.desc.name (g.whole z.desc.name) v h.reported (h.untold ++ first_of (a.numbers (32 * z.queue)).number (a.numbers (32 * z.queue)).requests.count)
              (λ same. differs (sym same))
              (λ y here. subst (λ (r : Endpoint). is_same_name r.desc.name z.desc.name ≡ false) (same_Some is_due.endpoint y (sym is_due.here ∙ here)) unlike) h.telling;
        }

    read_beside : (u : ℕ) (y : Transfer) → told_end z ≡ None → z.next ≡ Some u → slice_get new.transfers u ≡ Some y
        → IsReadTo s.hand s.parts (32 * z.queue) (note_at new.notes) y ((a.numbers (32 * z.queue)).requests.requests 0)
    read_beside u y going next there =
        let turn = next_now i u z y is.is.here going next there in
        let before = transfer_was u y there turn.1 in
        let c = q.each i z old in
        let rec = q.records.each (32 * z.queue) c.queue in
        let first = is_number u (a.numbers (32 * z.queue)).requests.count ((a.numbers (32 * z.queue)).number 0) (sym next ∙ c.next going) in
        let laid = rec.numbered.own.laid 0 (omega arith) first.1 in
        let kept : y.released ≡ false = next_read.unreleased u y z before.0 (ap (slice_get w.driver.endpoints) turn.0 ∙ old.is.here) going turn.1 in
        read_kept u y before.0 turn.1 kept before.1 (32 * z.queue) ((a.numbers (32 * z.queue)).requests.requests 0)
        (data_three w.driver ((a.numbers (32 * z.queue)).number 0) ((a.numbers (32 * z.queue)).requests.requests 0) ((a.numbers (32 * z.queue)).requests.places 0) y laid (ap (slice_get w.driver.transfers) first.0 ∙ before.0))
        (q.read i u z y old going next before.0)

  -- ---- the world

  -- no open is unfinished
  none_opens : (z : Endpoint) → is_opening w.driver z ≡ false
  none_opens z = ap (λ (o : Option Command). opens o z.queue && not z.gone) is_due.idle

  none_opens_now : (z : Endpoint) → is_opening new z ≡ false
  none_opens_now z = ap (λ (o : Option Command). opens o z.queue && not z.gone) idle_now

  unopened_was : (addr num : ℕ) → IsUnopened new addr num → IsUnopened w.driver addr num
  unopened_was addr num none f z here same one =
      let y = still f z here in
      absurd (false≢true (sym (none_opens_now y.now) ∙ none f y.now y.here (ap (λ (d : EpDesc). d.name.addr) y.desc ∙ same) (ap (λ (d : EpDesc). d.name.num) y.desc ∙ one)))

  unheard_was : (name : EpName) → IsUnheard new name → IsUnheard w.driver name
  unheard_was name none f z here same =
      let y = still f z here in
      absurd (false≢true (sym (none_opens_now y.now) ∙ none f y.now y.here (ap (λ (d : EpDesc). d.name) y.desc ∙ same)))

  untold_now : (name : EpName) → IsUnheard new name → lines_in name new.reports ≡ []
  untold_now name none = ends.lines name (by (is_same_name is_due.endpoint.desc.name name) refl) ∙ q.untold name (unheard_was name none)
    where
      by : (b : Bool) → is_same_name is_due.endpoint.desc.name name ≡ b → b ≡ false
      by true one =
          absurd (false≢true (sym (none_opens is_due.endpoint) ∙ unheard_was name none e is_due.endpoint is_due.here (same_name_is is_due.endpoint.desc.name name one)))
      by false one = refl

  counts_now : (i : ℕ) (z : Endpoint) → IsControlOf g new i z → is_opening new z ≡ false → IsCounted fixed (record w { driver = new }) v i z
  counts_now i z is off =
      let u = was_of i z is.here in
      let h = q.counts i u.was (was_control i z is) (none_opens u.was) in
      record {
        device = h.device;
        is = ap (λ (d : EpDesc). control_of (wired fixed w) d.name.addr d.name.num) u.same.desc ∙ h.is;
        acted = h.acted ∙ ap (λ (ts : List ℕ). counted_all v ts 0) (sym (numbers_now i));
      }

  pub records_kept : AreRecords (ended_driver w e t (founds.Ended m what)) asks a.courses a.numbers (has_left g w.driver) v
  records_kept =
      row_keeps_records (driver_parts w) (rows.Harvest e t (founds.Ended m what)) asks a.courses a.numbers (has_left g w.driver) v
      (λ i has. tt)
      (λ i j has few is. let bad : ◌≡◌ {A = Option ℕ} None (Some ((a.numbers i).number j)) = is in cc) q.records

  module _ (b : Asking) (beside : (n : ℕ) → n ≢ 32 * is_due.endpoint.queue → (b.courses n ≡ a.courses n) × (b.numbers n ≡ a.numbers n))
      (stand : CoursesStand control_of member b.courses s.parts s.hand (wired fixed w)) (records : AreRecords new asks b.courses b.numbers (has_left g w.driver) v)
      (fields : (n : ℕ) → (b.numbers n).endpoint ≡ (a.numbers n).endpoint) (queues : (n : ℕ) → have_queues b.courses n ≡ true → have_queues a.courses n ≡ true)
      (own_each : (z : Endpoint) → IsMetControl g new e z → HasCourse g new e z (b.courses (32 * z.queue)) (b.numbers (32 * z.queue)))
      (own_read : (u : ℕ) (z : Endpoint) (y : Transfer) → IsMetControl g new e z → told_end z ≡ None → z.next ≡ Some u → slice_get new.transfers u ≡ Some y
      → IsReadTo s.hand s.parts (32 * z.queue) (note_at new.notes) y ((b.numbers (32 * z.queue)).requests.requests 0))
      (own_telling : (z : Endpoint) → IsMetControl g new e z → HasTelling new asks e z g.whole v (b.numbers (32 * z.queue))) where
    -- what holds of the endpoint and of the others
    of_each : (P : ℕ → Endpoint → Course → Numbers → Type 0)
        → ((z : Endpoint) → IsMetControl g new e z → P e z (b.courses (32 * z.queue)) (b.numbers (32 * z.queue)))
        → ((i : ℕ) (z : Endpoint) → IsMetControl g new i z → i ≢ e → P i z (a.courses (32 * z.queue)) (a.numbers (32 * z.queue)))
        → (i : ℕ) (z : Endpoint) → IsMetControl g new i z → P i z (b.courses (32 * z.queue)) (b.numbers (32 * z.queue))
    of_each P mine others i z is =
        ⊎_elim {C = P i z (b.courses (32 * z.queue)) (b.numbers (32 * z.queue))}
        (λ (at : i ≡ e). subst (λ (j : ℕ). P j z (b.courses (32 * z.queue)) (b.numbers (32 * z.queue))) (sym at) (mine z (subst (λ (j : ℕ). IsMetControl g new j z) at is)))
        (λ (differs : i ≢ e).
        let apart : 32 * z.queue ≢ 32 * is_due.endpoint.queue = λ same. queues_apart i z is differs (sym (same_blocks z.queue is_due.endpoint.queue same)) in
        let same = beside (32 * z.queue) apart in
        subst (λ (c : Course). P i z c (b.numbers (32 * z.queue))) (sym same.0) (subst (P i z (a.courses (32 * z.queue))) (sym same.1) (others i z is differs))) (cases_eq i e)

    asked_then : (n : ℕ) (z : Endpoint) → have_queues b.courses n ≡ true → slice_get new.endpoints (b.numbers n).endpoint ≡ Some z
        → g.asks z.desc ≡ true
    asked_then n z has there =
        let u = was_of (a.numbers n).endpoint z (ap (slice_get new.endpoints) (sym (fields n)) ∙ there) in
        ap (λ (d : EpDesc). g.asks d) u.same.desc ∙ q.asked n u.was (queues n has) u.here

    pub asking_new : IsAskingWorld g fixed member s b v asks (record w { driver = ended_driver w e t (founds.Ended m what) })
    asking_new = record {
      stand = stand;
      records = regone new asks b.courses b.numbers (has_left g w.driver) (has_left g new) v fewer records;
      each = of_each (λ i z c n. HasCourse g new i z c n) own_each course_beside;
      asked = asked_then;
      publishing = λ i z is on. absurd (false≢true (sym (quiet_now.none i) ∙ on));
      read = λ i u z y is going next there.
          of_each (λ i z c n. told_end z ≡ None → z.next ≡ Some u → IsReadTo s.hand s.parts (32 * z.queue) (note_at new.notes) y (n.requests.requests 0))
          (λ z is going next. own_read u z y is going next there) (λ i z is differs going next. read_beside i z is differs u y going next there) i z is going next;
      telling = λ i z is.
          of_each (λ i z c n. HasTelling new asks i z g.whole v n) own_telling telling_beside i z is;
      given = λ i z is. subst (IsGiven g) (sym (was_of i z is.here).same.desc) (q.given i (was_of i z is.here).was (was_control i z is));
      counts = counts_now;
      unopened = λ addr num c some none first. q.unopened addr num c some (unopened_was addr num none) first;
      untold = untold_now;
      unmissed = record {
        structures = narrow_unmissed (have_queues a.courses) (have_queues b.courses) s.parts queues q.unmissed.structures;
        in_hand = narrow_misses (have_queues a.courses) (have_queues b.courses) s.hand queues q.unmissed.in_hand;
        first = none_published new idle_now;
      };
    }

  none_ends : ((z : Endpoint) → slice_get w.driver.endpoints e ≡ Some z → g.asks z.desc ≡ false) → (z : Endpoint) → IsMetControl g new e z
      → ⊥
  none_ends other z is = let u = was_control e z is.is in false≢true (sym (other _ u.here) ∙ u.control)

  -- of an endpoint that isn't asked
  pub beside_asks : ((z : Endpoint) → slice_get w.driver.endpoints e ≡ Some z → g.asks z.desc ≡ false)
      → IsAskingWorld g fixed member s a v asks (record w { driver = ended_driver w e t (founds.Ended m what) })
  beside_asks other =
      asking_new a (λ n differs. (refl, refl)) q.stand records_kept (λ n. refl) (λ n has. has) (λ z is. absurd (none_ends other z is)) (λ u z y is going next there. absurd (none_ends other z is))
      (λ z is. absurd (none_ends other z is))

-- ---- the row of a world of bulk and control endpoints
