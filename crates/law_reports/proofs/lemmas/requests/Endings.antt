-- A harvest that ends a control request, in a world with the requests of its control endpoints.
use Rattle.std.proofs.Common.{[], ◌≡◌, ◌≢◌, ℕ, zero, suc, ◌+◌, ◌-◌, ◌*◌, ◌<◌, ◌≤◌, Bool, true, false, if◌then◌else◌, List, ◌∷◌, ◌++◌, slice_get, slice_set, Option, Some, None, option_map, ap, refl, sym, subst, ◌∙◌, ⊎_elim, ◌⊎◌, inl, inr, arith}
use Rattle.std.proofs.lemmas.Bool.{cases_eq, cases_lt, eq-eqb, false≢true}
use Rattle.std.proofs.lemmas.Option.{same_Some}
use Rattle.law_reports.proofs.Common.{first_unmoved, less_one}
use Rattle.law_common.proofs.Numbers.{other_number}
use Rattle.law_common.proofs.Lists.{set_there}
use Rattle.law_driver.proofs.Common.{waits_is}
use Rattle.usb_base.specs.declared.endpoints.EndCause.{EndCause}
use Rattle.usb_base.specs.declared.endpoints.EpDesc.{EpDesc}
use Rattle.usb_base.specs.declared.reports.What.{What}
use Rattle.bus_wire.specs.Bus.{Fixed}
use Rattle.drv_table.specs.declared.content.Endpoint.{Endpoint}
use Rattle.drv_table.specs.declared.content.Mend.{Mend}
use Rattle.drv_table.specs.declared.content.Transfer.{Transfer}
use Rattle.drv_table.specs.DriverContent.{DriverContent}
use Rattle.drv_table.specs.Harvests.{note_at, end_of, is_stall}
use Rattle.law_driver.specs.endpoint_lives.Lives.{told_end}
use Rattle.law_driver.proofs.lemmas.endpoint_lives.Lives.{none_told}
use Rattle.law_driver.specs.run_owners.Due.{IsHarvestDue}
use Rattle.law_driver.specs.chained_transfers.Turns.{Turn, turn_of, turn_in, IsNext, AreReportedTo}
use Rattle.law_driver.proofs.lemmas.chained_transfers.Harvesting.{turn_at}
use Rattle.law_driver_ring.specs.told_harvests.Held.{AreUnmoved}
use Rattle.law_queues.specs.harvest_laws.Holds.{IsToCome}
use Rattle.law_queues.proofs.lemmas.harvest_laws.Places.{unmoved_noted}
use Rattle.claims_report.specs.Requests.{Request}
use Rattle.law_devices.specs.ring_requests.Runs.{first_of}
use Rattle.law_queues.specs.told_endpoints.Telling.{lines_in}
use Rattle.law_reports.specs.requests.told_requests.Told.{has_cancel}
use Rattle.bus_world.specs.World.{World, driver_parts}
use Rattle.law_world.specs.steps.Streaming.{Streams, Standing}
use Rattle.claims_world.specs.Requests.{Windows, numbers_of, wired}
use Rattle.law_reports.specs.requests.driver_requests.Requests.{IsOfTransfer}
use Rattle.law_reports.specs.requests.Courses.{Course, queue_in, is_asking, with_course}
use Rattle.law_reports.specs.requests.Records.{Numbers, IsRecord}
use Rattle.law_reports.specs.requests.TransferChanges.{with_numbers, first_closed, all_closed}
use Rattle.law_reports.specs.requests.Telling.{IsTelling}
use Rattle.law_reports.specs.requests.Asking.{Sides, Asking, next_with, next_in, HasCourse, HasTelling, IsMetControl, IsReadTo, IsAskingWorld, HasAsks}
use Rattle.law_reports.specs.requests.Reading.{AreSilent}
use Rattle.law_reports.specs.requests.Ended.{ReadsFirst, ended_driver, RequestEnds}
use Rattle.law_reports.proofs.lemmas.requests.Ended.{has, rec, reads, uncancelled, done_ends}
use Rattle.law_reports.proofs.lemmas.requests.Halted.{halt_ends}
use Rattle.law_reports.proofs.lemmas.requests.Ending.{end_with, stall_owes, appended_at, end_told, halted_next, IsHeadWithin, next_within}
use Rattle.law_reports.proofs.lemmas.requests.EndedBeside.{data_three, is_number, ends, same_but, own_now, was_of, quiet, quiet_now, due_met, next_now, transfer_was, next_read, note_kept, placed, asking_new}
use Rattle.law_reports.specs.requests.Footing.{IsFooting}
use Rattle.law_reports.proofs.lemmas.requests.Courses.{has_with}
use Rattle.law_driver.specs.chained_transfers.AsynchronousTurns.{AsynchronousTakesTurns}
use Rattle.usb_base.specs.declared.reports.What.TheVariants as lines
use Rattle.drv_table.specs.declared.rows.Found.TheVariants as founds

-- at one queue head, and at the others
changed_at : (courses : ℕ → Course) (numbers : ℕ → Numbers) (n : ℕ) (c : Course) (u : Numbers) (P : Course → Numbers → Type 0) (k : ℕ)
    → k ≡ n → P c u → P (with_course courses n c k) (with_numbers numbers n u k)
changed_at courses numbers n c u P k at mine = subst (λ (z : Bool). P (if z then c else courses k) (if z then u else numbers k)) (sym (eq-eqb k n at)) mine

told_again : (d : DriverContent) (asks : ℕ → Request) (e : ℕ) (x y : Endpoint) (g : Sides) (v : Windows) (a : Numbers) → x.desc ≡ y.desc
    → told_end x ≡ told_end y → HasTelling d asks e y g.whole v a → HasTelling d asks e x g.whole v a
told_again d asks e x y g v a same ends h = record {
  reported = h.reported;
  untold = h.untold;
  closed = h.closed;
  going = λ goes. h.going (sym ends ∙ goes);
  uncancelled = ap (λ (z : EpDesc). has_cancel (lines_in z.name d.reports)) same ∙ h.uncancelled;
  telling = subst (λ (z : EpDesc). IsTelling d asks e z.name (g.whole z.name) v h.reported (h.untold ++ first_of a.number a.requests.count)) (sym same) h.telling;
}

module _ (g : Sides) (fixed : Fixed) (member : ℕ → Bool) (x : Streams) (s : Standing) (a : Asking) (v : Windows) (asks : ℕ → Request)
    (w : World) (e t m : ℕ) (what : What)
    (this : IsHarvestDue (driver_parts w) e t (founds.Ended m what)) (turns_then : AsynchronousTakesTurns (ended_driver w e t (founds.Ended m what))) (k : IsFooting member x s w) (q : IsAskingWorld g fixed member s a v asks w) where
  abbrev new : DriverContent
  new = ended_driver w e t (founds.Ended m what)

  abbrev now : Endpoint
  now = end_with (slice_set w.driver.transfers t (record this.transfer { reported = true })) e t this.endpoint (is_stall what) (end_of this.endpoint.desc.kind what)

  abbrev its_numbers : Numbers
  its_numbers = a.numbers (32 * this.endpoint.queue)

  module _ (control : g.asks this.endpoint.desc ≡ true) (o : Option EndCause) (numbers : Numbers)
      (r : RequestEnds g fixed member s a v asks w new e (record this.endpoint { ended = o }) numbers)
      (number : numbers.endpoint ≡ (a.numbers (32 * this.endpoint.queue)).endpoint) (asked : is_asking (a.courses (32 * this.endpoint.queue)) ≡ true) (told : told_end now ≡ told_end (record this.endpoint { ended = o }))
      (next : told_end now ≡ None → now.next ≡ next_in numbers) (none : (cause : EndCause) → told_end now ≡ Some cause → numbers.requests.count ≡ 0)
      (owes : (numbers.requests.count ≡ 0) ⊎ (stall_owes (is_stall what) (end_of this.endpoint.desc.kind what) this.endpoint ≡ []))
      (read : (u : ℕ) (y : Transfer) → told_end now ≡ None → now.next ≡ Some u → slice_get new.transfers u ≡ Some y
      → IsReadTo s.hand s.parts (32 * this.endpoint.queue) (note_at new.notes) y (numbers.requests.requests 0)) where
    abbrev later : Asking
    later = record { courses = with_course a.courses (32 * this.endpoint.queue) r.course; numbers = with_numbers a.numbers (32 * this.endpoint.queue) numbers }

    abbrev its : IsMetControl g w.driver e this.endpoint
    its = record { is = record { here = this.here; control = control }; met = due_met g fixed member x s a v asks w e t m what this turns_then k q }

    h : HasCourse g w.driver e this.endpoint (a.courses (32 * this.endpoint.queue)) its_numbers
    h = q.each e this.endpoint its

    course : HasCourse g new e now r.course numbers
    course =
        let same = same_but g fixed member x s a v asks w e t m what this turns_then k q in
        let was_quiet = quiet g fixed member x s a v asks w e t m what this turns_then k q in
        let is_quiet = quiet_now g fixed member x s a v asks w e t m what this turns_then k q in
        let l = ends g fixed member x s a v asks w e t m what this turns_then k q in
        let n : ℕ = (queue_in r.course).count in
        record {
          queue = r.queue;
          endpoint = r.endpoint ∙ h.endpoint ∙ ap g.endpoint (sym same.desc);
          number = number ∙ h.number;
          tail = r.tail ∙ h.tail ∙ was_quiet.tail e this.endpoint ∙ ap (λ (b : ℕ). 32 * b) (sym same.dummy) ∙ sym (is_quiet.tail e now);
          count = r.count ∙ ap (λ (b : Bool). if b then suc n else n) (sym (is_quiet.none e));
          newest = λ on. absurd (false≢true (sym (is_quiet.none e) ∙ on));
          next = next;
          ended = λ cause is. let zero_left = none cause is in (zero_left, r.rests zero_left);
          owed = λ i p at own.
              ⊎_elim {C = is_asking r.course ≡ false} (λ (empty : numbers.requests.count ≡ 0). r.rests empty)
              (λ (less : stall_owes (is_stall what) (end_of this.endpoint.desc.kind what) this.endpoint ≡ []).
              ⊎_elim {C = is_asking r.course ≡ false} (λ before. absurd (false≢true (sym (h.owed i p before (own ∙ same.queue)) ∙ asked)))
              (λ more. absurd (none_there more.0 p (sym (ap (λ (ms : List Mend). slice_get ms more.0) less) ∙ more.1)))
              (appended_at w.driver.mends (stall_owes (is_stall what) (end_of this.endpoint.desc.kind what) this.endpoint) i p (sym (ap (λ (ms : List Mend). slice_get ms i) l.mends) ∙ at))) owes;
        }
      where
        none_there : (i : ℕ) (p : Mend) → slice_get [] i ≡ Some p → ⊥
        none_there i p bad = cc

    place_of : (z : Endpoint) → z ≡ now → 32 * z.queue ≡ 32 * this.endpoint.queue
    place_of z same = ap (λ (y : Endpoint). 32 * y.queue) same ∙ ap (λ (b : ℕ). 32 * b) (same_but g fixed member x s a v asks w e t m what this turns_then k q).queue

    is_now : (z : Endpoint) → IsMetControl g new e z → z ≡ now
    is_now z is = (was_of g fixed member x s a v asks w e t m what this turns_then k q e z is.is.here).its refl

    abbrev Of : (Endpoint → Course → Numbers → Type 0) → Endpoint → Type 0
    Of P z = P z (with_course a.courses (32 * this.endpoint.queue) r.course (32 * z.queue)) (with_numbers a.numbers (32 * this.endpoint.queue) numbers (32 * z.queue))

    own_of : (P : Endpoint → Course → Numbers → Type 0) → P now r.course numbers → (z : Endpoint) → IsMetControl g new e z → Of P z
    own_of P mine z is =
        changed_at a.courses a.numbers (32 * this.endpoint.queue) r.course numbers (P z) (32 * z.queue) (place_of z (is_now z is)) (subst (λ (y : Endpoint). P y r.course numbers) (sym (is_now z is)) mine)

    read_at : (u : ℕ) (y : Transfer) → slice_get new.transfers u ≡ Some y → told_end now ≡ None → now.next ≡ Some u
        → IsReadTo s.hand s.parts (32 * now.queue) (note_at new.notes) y (numbers.requests.requests 0)
    read_at u y there goes is = subst (λ (b : ℕ). IsReadTo s.hand s.parts (32 * b) (note_at new.notes) y (numbers.requests.requests 0)) (sym (same_but g fixed member x s a v asks w e t m what this turns_then k q).queue) (read u y goes is there)

    telling : HasTelling new asks e now g.whole v numbers
    telling = told_again new asks e now (record this.endpoint { ended = o }) g v numbers (same_but g fixed member x s a v asks w e t m what this turns_then k q).desc told r.telling

    beside : (n : ℕ) → n ≢ 32 * this.endpoint.queue → (later.courses n ≡ a.courses n) × (later.numbers n ≡ a.numbers n)
    beside n differs =
        let off = other_number n (32 * this.endpoint.queue) differs in
        (ap (λ (b : Bool). if b then r.course else a.courses n) off, ap (λ (b : Bool). if b then numbers else a.numbers n) off)

    fields : (n : ℕ) → (later.numbers n).endpoint ≡ (a.numbers n).endpoint
    fields n =
        ⊎_elim {C = (later.numbers n).endpoint ≡ (a.numbers n).endpoint}
        (λ (at : n ≡ 32 * this.endpoint.queue). ap (λ (b : Bool). (if b then numbers else a.numbers n).endpoint) (eq-eqb n (32 * this.endpoint.queue) at) ∙ number ∙ ap (λ (i : ℕ). (a.numbers i).endpoint) (sym at))
        (λ (differs : n ≢ 32 * this.endpoint.queue). ap (λ (u : Numbers). u.endpoint) (beside n differs).1) (cases_eq n (32 * this.endpoint.queue))

    pub ended_asks : IsAskingWorld g fixed member s (record { courses = with_course a.courses (32 * this.endpoint.queue) r.course; numbers = with_numbers a.numbers (32 * this.endpoint.queue) numbers }) v asks
        (record w { driver = ended_driver w e t (founds.Ended m what) })
    ended_asks =
        asking_new g fixed member x s a v asks w e t m what this turns_then k q later beside r.stand r.records fields (has_with a.courses (32 * this.endpoint.queue) r.course h.queue)
        (own_of (λ z c n. HasCourse g new e z c n) course)
        (λ u z y is goes goes_to there. own_of (λ z c n. told_end z ≡ None → z.next ≡ Some u → IsReadTo s.hand s.parts (32 * z.queue) (note_at new.notes) y (n.requests.requests 0)) (read_at u y there) z is goes goes_to)
        (λ z is. own_of (λ z c n. HasTelling new asks e z g.whole v n) telling z is)

  going : told_end this.endpoint ≡ None
  going = none_told this.endpoint this.goes_on

-- ---- it halted

module _ (g : Sides) (fixed : Fixed) (member : ℕ → Bool) (x : Streams) (s : Standing) (a : Asking) (v : Windows) (asks : ℕ → Request)
    (w : World) (e t m : ℕ) (cause : EndCause)
    (due : IsHarvestDue (driver_parts w) e t (founds.Ended m (lines.Halt cause))) (turns_then : AsynchronousTakesTurns (ended_driver w e t (founds.Ended m (lines.Halt cause)))) (k : IsFooting member x s w) (silent : AreSilent w.driver)
    (q : IsAskingWorld g fixed member s a v asks w) (control : g.asks due.endpoint.desc ≡ true) where
  halt_active : founds.Ended m (lines.Halt cause) ≢ founds.Active
  halt_active same = cc

  halt_first : ReadsFirst member s a w e t (founds.Ended m (lines.Halt cause)) due
  halt_first = reads g fixed member x s a v asks w e t (founds.Ended m (lines.Halt cause)) due control k silent q halt_active

  stops : told_end (end_with (slice_set w.driver.transfers t (record due.transfer { reported = true })) e t due.endpoint (is_stall (lines.Halt cause)) (end_of due.endpoint.desc.kind (lines.Halt cause))) ≡ None
      → (end_with (slice_set w.driver.transfers t (record due.transfer { reported = true })) e t due.endpoint (is_stall (lines.Halt cause)) (end_of due.endpoint.desc.kind (lines.Halt cause))).next ≡ None
  stops goes = halted_next (slice_set w.driver.transfers t (record due.transfer { reported = true })) e t due.endpoint cause
      (uncancelled g fixed member x s a v asks w e t (founds.Ended m (lines.Halt cause)) due control k silent q) goes

  no_next : (u : ℕ) → ◌≡◌ {A = Option ℕ} None (Some u) → ⊥
  no_next u bad = cc

  halt_end : RequestEnds g fixed member s a v asks w (ended_driver w e t (founds.Ended m (lines.Halt cause))) e (record due.endpoint { ended = end_of due.endpoint.desc.kind (lines.Halt cause) }) (all_closed (a.numbers (32 * due.endpoint.queue)))
  halt_end = halt_ends g fixed member x s a v asks w e t m cause due control k silent q

  pub halt_asks : HasAsks g member s.parts s.hand v asks (ended_driver w e t (founds.Ended m (lines.Halt cause))) w.memory (wired fixed w)
  halt_asks = record {
    asking = _;
    world = ended_asks g fixed member x s a v asks w e t m (lines.Halt cause) due turns_then k q control (end_of due.endpoint.desc.kind (lines.Halt cause)) (all_closed (a.numbers (32 * due.endpoint.queue)))
        halt_end refl (ap is_asking halt_first.asked)
        (end_told _ e t due.endpoint (is_stall (lines.Halt cause)) (end_of due.endpoint.desc.kind (lines.Halt cause)) due.goes_on)
        stops (λ cause is. refl) (inl refl) (λ u y goes next there. absurd (no_next u (sym (stops goes) ∙ next)));
  }

-- ---- it is done

record IsWaiting (d : DriverContent) (e u : ℕ) : Type 0 where
  own : Transfer
  here : slice_get d.transfers u ≡ Some own
  endpoint : own.endpoint ≡ e
  waits : own.reported ≡ false

module _ (g : Sides) (fixed : Fixed) (member : ℕ → Bool) (x : Streams) (s : Standing) (a : Asking) (v : Windows) (asks : ℕ → Request)
    (w : World) (e t m : ℕ)
    (done_due : IsHarvestDue (driver_parts w) e t (founds.Ended m lines.Done)) (turns_then : AsynchronousTakesTurns (ended_driver w e t (founds.Ended m lines.Done))) (k : IsFooting member x s w) (silent : AreSilent w.driver)
    (q : IsAskingWorld g fixed member s a v asks w) (control : g.asks done_due.endpoint.desc ≡ true) where
  abbrev after : DriverContent
  after = ended_driver w e t (founds.Ended m lines.Done)

  abbrev ended_transfers : List Transfer
  ended_transfers = slice_set w.driver.transfers t (record done_due.transfer { reported = true })

  abbrev goes_to : Endpoint
  goes_to = end_with ended_transfers e t done_due.endpoint false None

  abbrev own : Numbers
  own = a.numbers (32 * done_due.endpoint.queue)

  active : founds.Ended m lines.Done ≢ founds.Active
  active same = cc

  first : ReadsFirst member s a w e t (founds.Ended m lines.Done) done_due
  first = reads g fixed member x s a v asks w e t (founds.Ended m lines.Done) done_due control k silent q active

  its_course : HasCourse g w.driver e done_due.endpoint (a.courses (32 * done_due.endpoint.queue)) own
  its_course = has g fixed member x s a v asks w e t (founds.Ended m lines.Done) done_due control k silent q

  its_record : IsRecord w.driver asks (32 * done_due.endpoint.queue) (a.courses (32 * done_due.endpoint.queue)) own v
  its_record = rec g fixed member x s a v asks w e t (founds.Ended m lines.Done) done_due control k silent q

  was_going : told_end done_due.endpoint ≡ None
  was_going = none_told done_due.endpoint done_due.goes_on

  listed : numbers_of w.driver e ≡ own.closed ++ t ∷ first_of (λ i. own.number (suc i)) (own.requests.count - 1)
  listed =
      let c = first.count in
      let some = first.some in
      ap (numbers_of w.driver) (sym its_course.number) ∙ its_record.numbered.order.numbers
      ∙ ap (λ (ts : List ℕ). own.closed ++ ts) (less_one own.number own.requests.count (omega (arith, c, some)) ∙ ap (λ (i : ℕ). i ∷ first_of (λ i. own.number (suc i)) (own.requests.count - 1)) first.number)

  second_later : 1 < own.requests.count → t < own.number 1
  second_later more = let less = its_record.numbered.own.rising 0 1 (omega arith) more in let same = first.number in omega (arith, less, same)

  -- the next request waits
  second : 1 < own.requests.count → IsWaiting w.driver e (own.number 1)
  second more = record { own = of_it.own; here = of_it.here; endpoint = of_it.endpoint ∙ its_course.number; waits = by of_it.own.reported refl }
    where
      of_it : IsOfTransfer w.driver own.endpoint (own.number 1)
      of_it = its_record.numbered.own.transfers 1 more

      by : (b : Bool) → of_it.own.reported ≡ b → b ≡ false
      by true is =
          let waits = waits_is e done_due.transfer done_due.waits in
          absurd (false≢true (sym waits.1 ∙ k.turns.turns.turns.reported t (own.number 1) (turn_of done_due.transfer) (turn_of of_it.own) (second_later more)
          (ap (option_map turn_of) done_due.there) (ap (option_map turn_of) of_it.here) (of_it.endpoint ∙ its_course.number ∙ sym waits.0) is))
      by false is = refl

  -- .. and so it does then
  second_now : (more : 1 < own.requests.count) → turn_in after.transfers (own.number 1) ≡ Some (turn_of (second more).own)
  second_now more =
      let less = second_later more in
      ap (option_map turn_of) (ap (λ (ts : List Transfer). slice_get ts (own.number 1)) ((ends g fixed member x s a v asks w e t m lines.Done done_due turns_then k q).one refl)
      ∙ set_there w.driver.transfers t (own.number 1) (record done_due.transfer { reported = true }) (λ same. omega (arith, same, less)) ∙ (second more).here)

  none_next : AreReportedTo (turn_in after.transfers) e None → None ≡ next_in (first_closed own)
  none_next all = by (own.requests.count - 1) refl
    where
      by : (c : ℕ) → own.requests.count - 1 ≡ c → None ≡ next_with c (own.number 1)
      by zero is = refl
      by (suc c) is =
          let more : 1 < own.requests.count = omega (arith, is) in
          absurd (false≢true (sym (second more).waits ∙ all (own.number 1) (turn_of (second more).own) (second_now more) (second more).endpoint))

  some_next : (u : ℕ) → IsNext (turn_in after.transfers) e u → Some u ≡ next_in (first_closed own)
  some_next u n = by (own.requests.count - 1) refl within
    where
      at : (y : Transfer) × (slice_get after.transfers u ≡ Some y) × (n.transfer ≡ turn_of y)
      at = turn_at after.transfers u n.transfer n.here

      waits : at.0.reported ≡ false
      waits = ap (λ (r : Turn). r.reported) (sym at.2) ∙ n.waits

      of : at.0.endpoint ≡ e
      of = ap (λ (r : Turn). r.endpoint) (sym at.2) ∙ n.endpoint

      before : (slice_get w.driver.transfers u ≡ Some at.0) × (u ≢ t)
      before = transfer_was g fixed member x s a v asks w e t m lines.Done done_due turns_then k q u at.0 at.1 waits

      was_next : IsNext (turn_in w.driver.transfers) e t
      was_next = subst (λ (o : Option ℕ). AreReportedTo (turn_in w.driver.transfers) e o) done_due.next (k.turns.turns.turns.next e done_due.endpoint done_due.here was_going)

      later : t < u
      later =
          let differs = before.1 in
          ⊎_elim {C = t < u} (λ (less : u < t). absurd (false≢true (sym waits ∙ was_next.before u (turn_of at.0) less (ap (option_map turn_of) before.0) of)))
          (λ (most : t ≤ u). omega (arith, most, differs)) (cases_lt u t)

      within : IsHeadWithin (first_of (λ i. own.number (suc i)) (own.requests.count - 1)) u
      within =
          let sum : 0 + u ≡ u = omega arith in
          let less = later in
          subst (IsHeadWithin (first_of (λ i. own.number (suc i)) (own.requests.count - 1))) sum
          (next_within e 0 u t w.driver.transfers own.closed (first_of (λ i. own.number (suc i)) (own.requests.count - 1)) at.0 listed before.0 of (omega (arith, less)))

      by : (c : ℕ) → own.requests.count - 1 ≡ c → IsHeadWithin (first_of (λ i. own.number (suc i)) c) u
          → Some u ≡ next_with c (own.number 1)
      by zero is bad = absurd bad
      by (suc c) is near =
          let more : 1 < own.requests.count = omega (arith, is) in
          let least : own.number 1 ≤ u = subst (λ (l : List ℕ). IsHeadWithin l u) (less_one (λ i. own.number (suc i)) (suc c) (omega arith)) near in
          ⊎_elim {C = Some u ≡ Some (own.number 1)} (λ (same : u ≡ own.number 1). ap Some same)
          (λ (differs : u ≢ own.number 1). absurd (false≢true (sym (second more).waits ∙ n.before (own.number 1) (turn_of (second more).own) (omega (arith, least, differs)) (second_now more) (second more).endpoint)))
          (cases_eq u (own.number 1))

  next_by : (o : Option ℕ) → AreReportedTo (turn_in after.transfers) e o → o ≡ next_in (first_closed own)
  next_by None all = none_next all
  next_by (Some u) n = some_next u n

  goes_on : told_end goes_to ≡ None → goes_to.next ≡ next_in (first_closed own)
  goes_on goes =
      next_by goes_to.next (turns_then.turns.turns.next e goes_to (own_now g fixed member x s a v asks w e t m lines.Done done_due turns_then k q) goes)

  -- nothing of it is read yet
  reads_none : (u : ℕ) (y : Transfer) → told_end goes_to ≡ None → goes_to.next ≡ Some u → slice_get after.transfers u ≡ Some y
      → IsReadTo s.hand s.parts (32 * done_due.endpoint.queue) (note_at after.notes) y (own.requests.requests 1)
  reads_none u y goes next there =
      let turn = next_now g fixed member x s a v asks w e t m lines.Done done_due turns_then k q e u goes_to y (own_now g fixed member x s a v asks w e t m lines.Done done_due turns_then k q) goes next there in
      let before = transfer_was g fixed member x s a v asks w e t m lines.Done done_due turns_then k q u y there turn.1 in
      let which = is_number u (own.requests.count - 1) (own.number 1) (sym next ∙ goes_on goes) in
      let more : 1 < own.requests.count = let few = which.1 in omega (arith, few) in
      let read = next_read g fixed member x s a v asks w e t m lines.Done done_due turns_then k q in
      let kept : y.released ≡ false = read.unreleased u y done_due.endpoint before.0 (ap (slice_get w.driver.endpoints) turn.0 ∙ done_due.here) was_going turn.1 in
      let come : IsToCome (note_at w.driver.notes) y = k.to_come u y before.0 turn.1 kept
      (λ z here its. before.1 (same_Some u t (sym its ∙ ap (λ (r : Endpoint). r.next) (same_Some z done_due.endpoint (sym here ∙ ap (slice_get w.driver.endpoints) turn.0 ∙ done_due.here)) ∙ done_due.next))) in
      let unmoved : AreUnmoved (note_at after.notes) y.first y.qtds = unmoved_noted (note_at w.driver.notes) (note_at after.notes) y.first y.qtds
      (note_kept g fixed member x s a v asks w e t m lines.Done done_due turns_then k q u y before.0 turn.1 kept before.1) come.rest in
      let at = placed g fixed member x s a v asks w e t m lines.Done done_due turns_then k q u y before.0 turn.1 kept before.1 in
      let least = at.some in
      let most = at.most in
      let whole = come.left in
      record {
        setup = first_unmoved (note_at after.notes) y.first y.qtds (omega (arith, least, most)) unmoved;
        data_at = λ carries last.
            let three = data_three w.driver (own.number 1) (own.requests.requests 1) (own.requests.places 1) y (its_record.numbered.own.laid 1 (omega arith) more) (ap (slice_get w.driver.transfers) which.0 ∙ before.0) carries in
            absurd (omega (arith, last, whole, three));
        rest = subst (λ (b : ℕ). AreUnmoved (note_at after.notes) b y.left) (sym come.place) (subst (AreUnmoved (note_at after.notes) y.first) (sym come.left) unmoved);
      }

  goes_still : (cause : EndCause) → told_end goes_to ≡ Some cause → own.requests.count - 1 ≡ 0
  goes_still cause is = let bad : ◌≡◌ {A = Option EndCause} None (Some cause) = sym was_going ∙ is in absurd cc

  pub done_asks : HasAsks g member s.parts s.hand v asks (ended_driver w e t (founds.Ended m lines.Done)) w.memory (wired fixed w)
  done_asks = record {
    asking = _;
    world = ended_asks g fixed member x s a v asks w e t m lines.Done done_due turns_then k q control done_due.endpoint.ended (first_closed own)
        (done_ends g fixed member x s a v asks w e t m done_due control k silent q) refl (ap is_asking first.asked) refl goes_on goes_still (inr refl) reads_none;
  }
