-- Of any request of a queue that waits the bytes moved of its data begin them; and those that wait are those that no line tells of.
use Rattle.std.proofs.Common.{◌≡◌, ◌≢◌, ℕ, suc, ◌+◌, ◌*◌, ◌<◌, ◌≤◌, ◌==◌, ◌&&◌, not, Bool, true, false, if◌then◌else◌, List, [], ◌∷◌, ◌++◌}
use Rattle.std.proofs.Common.{length, drop, slice_get, Option, Some, cond, ap, refl, sym, subst, ◌∙◌, ⊎_elim, arith}
use Rattle.std.specs.Prelude.{count_by, option_map}
use Rattle.std.proofs.lemmas.Bool.{cases_eq, cases_lt, eqb-true, true≢false}
use Rattle.std.proofs.lemmas.List.{length-append}
use Rattle.std.proofs.lemmas.List.Sums.{sum_by-cons}
use Rattle.law_driver_ring.proofs.Common.{one_told}
use Rattle.claims_base.specs.Prefix.{IsPrefix}
use Rattle.law_devices.specs.Controls.{control_of}
use Rattle.claims_report.specs.ControlSides.{Device}
use Rattle.claims_world.specs.Requests.{numbers_from, numbers_of}
use Rattle.drv_table.specs.declared.content.Transfer.{Transfer}
use Rattle.drv_table.specs.DriverContent.{DriverContent, waits_for}
use Rattle.law_driver.specs.chained_transfers.Turns.{AreInTurn}
use Rattle.law_reports.specs.requests.told_requests.Waiting.{waiting}
use Rattle.law_driver.specs.chained_transfers.Turns.{turn_of}
use Rattle.law_request.specs.Host.{Endpoint, has_data}
use Rattle.law_request.specs.Line.{Line}
use Rattle.law_request.specs.Windows.{IsRight, data_of}
use Rattle.law_request.proofs.Steps.{window_is_right}
use Rattle.law_ring.specs.Hand.{Hand}
use Rattle.law_ring.specs.Told.{Told}
use Rattle.law_structures.specs.lent_structures.Structures.{StructureSets}
use Rattle.law_devices.specs.ring_requests.Windows.{Queue, Lines, sent_at, IsWindow, IsFinished, IsBehind, IsQueue}
use Rattle.law_reports.specs.requests.CancelLine.{waiting_from, CourseBegins, MetBegins, WaitsAreUnreported}
use Rattle.law_reports.specs.requests.Courses.{Course, queue_in, NoQueue, Asks, Rests}

-- ---- of a queue

module _ (v : Queue) (hand : Hand) (parts : StructureSets) (n i : ℕ) (bytes : List ℕ) (some : has_data (v.requests i) ≡ true)
    (told : Told hand parts n (v.places i).data_at bytes) where
  abbrev Begins : Type 0
  Begins = IsPrefix bytes (data_of v.endpoint (v.requests i))

  of_line : (l : Line) → Told hand parts n (v.places i).data_at l.host.moved → IsRight v.endpoint (v.requests i) l → Begins
  of_line l moved is =
      subst (λ (xs : List ℕ). IsPrefix xs (data_of v.endpoint (v.requests i)))
      (one_told hand parts n (v.places i).data_at l.host.moved bytes moved told) is.begins

  -- of one that isn't begun none were moved
  of_behind : IsBehind (sent_at v i) hand parts n → Begins
  of_behind b = (
    data_of v.endpoint (v.requests i),
    ap (λ (xs : List ℕ). xs ++ data_of v.endpoint (v.requests i))
        (one_told hand parts n (v.places i).data_at bytes [] told (b.none_told some)),
  )

  of_queue : (l : Lines) (o : Option Device) → IsQueue v l hand parts n o → i < v.count → Begins
  of_queue l o k within =
      ⊎_elim
      (λ (done : i < l.under).
      let f : IsFinished (sent_at v i) (l.line i) hand parts n = k.finished i done in
      of_line (l.line i) (f.moved some) (window_is_right v.endpoint (v.requests i) (l.line i) f.stands))
      (λ (most : l.under ≤ i).
      ⊎_elim
      (λ (same : l.under ≡ i).
      let u : IsWindow (sent_at v i) (l.line i) hand parts n o =
      subst (λ (j : ℕ). IsWindow (sent_at v j) (l.line j) hand parts n o) same k.window in
      of_line (l.line i) (u.moved some) (window_is_right v.endpoint (v.requests i) (l.line i) u.stands))
      (λ (differs : l.under ≢ i). of_behind (k.behind i (omega (arith, most, differs)) within)) (cases_eq l.under i)) (cases_lt i l.under)

pub course_begins : {W : Type 0} (device : W → ℕ → ℕ → Option Device) → CourseBegins device
course_begins device NoQueue hand parts wire n i bytes k within some told = absurd (omega (arith, within))
course_begins device (Asks v b l) hand parts wire n i bytes k within some told =
    of_queue v hand parts n i bytes some told l (device wire v.endpoint.addr v.endpoint.num) k.queue within
course_begins device (Rests v b c) hand parts wire n i bytes k within some told =
    of_behind v hand parts n i bytes some told (k.behind i within)

-- .. of an endpoint that the walk may meet
pub met_begins : MetBegins
met_begins g member parts hand a v asks d m wire q e i x bytes k within some told =
    let c : Course = a.courses (32 * x.queue) in
    subst (IsPrefix bytes) (sym ((q.given e x k.is).replies ((queue_in c).requests i)))
    (subst (λ (o : Endpoint). IsPrefix bytes (data_of o ((queue_in c).requests i))) (q.each e x k).endpoint
    (course_begins control_of c hand parts wire (32 * x.queue) i bytes (q.stand.each (32 * x.queue)) within some told))

-- ---- who waits

-- lists with the same end, which is as long in both
same_end : (xs us ys vs : List ℕ) → xs ++ ys ≡ us ++ vs → length ys ≡ length vs → ys ≡ vs
same_end [] [] ys vs is long = is
same_end [] (u ∷ us) ys vs is long =
    let all = ap length is in
    let more = length-append us vs in
    absurd (omega (arith, all, more, long))
same_end (x ∷ xs) [] ys vs is long =
    let all = ap length is in
    let more = length-append xs ys in
    absurd (omega (arith, all, more, long))
same_end (x ∷ xs) (u ∷ us) ys vs is long = same_end xs us ys vs (ap (drop 1) is) long

module _ (e : ℕ) where
  -- a reported one of the endpoint comes before those that aren't
  abbrev AreInOrder : List Transfer → Type 0
  AreInOrder ts = (t u : ℕ) (y z : Transfer) → t < u → slice_get ts t ≡ Some y → slice_get ts u ≡ Some z → y.endpoint ≡ e
      → z.endpoint ≡ e → z.reported ≡ true → y.reported ≡ true

  abbrev AllWait : List Transfer → Type 0
  AllWait ts = (u : ℕ) (z : Transfer) → slice_get ts u ≡ Some z → z.endpoint ≡ e → z.reported ≡ false

  is_not : (b : Bool) → (b ≡ true → ⊥) → b ≡ false
  is_not false never = refl
  is_not true never = absurd (never refl)

  one_waits : (k : ℕ) (y : Transfer) (ys : List Transfer) → AllWait (y ∷ ys)
      → numbers_from e (suc k) ys ≡ waiting_from e (suc k) ys → (b : Bool) → (y.endpoint == e) ≡ b
      → (if b then k ∷ numbers_from e (suc k) ys else numbers_from e (suc k) ys)
      ≡ (if b && not y.reported then k ∷ waiting_from e (suc k) ys else waiting_from e (suc k) ys)
  one_waits k y ys all rest true is =
      ap (λ (ns : List ℕ). k ∷ ns) rest
      ∙ ap (λ (b : Bool). if not b then k ∷ waiting_from e (suc k) ys else waiting_from e (suc k) ys)
      (sym (all 0 y refl (eqb-true y.endpoint e is)))
  one_waits k y ys all rest false is = rest

  all_wait : (k : ℕ) (ts : List Transfer) → AllWait ts → numbers_from e k ts ≡ waiting_from e k ts
  all_wait k [] all = refl
  all_wait k (y ∷ ys) all =
      one_waits k y ys all (all_wait (suc k) ys (λ u z at of. all (suc u) z at of)) (y.endpoint == e) refl

  record EndsWaiting (k : ℕ) (ts : List Transfer) : Type 0 where
    before : List ℕ
    are : numbers_from e k ts ≡ before ++ waiting_from e k ts

  record EndsBy (k : ℕ) (ys : List Transfer) (b r : Bool) : Type 0 where
    before : List ℕ
    are : (if b then k ∷ numbers_from e (suc k) ys else numbers_from e (suc k) ys)
        ≡ before ++ (if b && not r then k ∷ waiting_from e (suc k) ys else waiting_from e (suc k) ys)

  one_ends : (k : ℕ) (y : Transfer) (ys : List Transfer) → AreInOrder (y ∷ ys) → EndsWaiting (suc k) ys → (b r : Bool)
      → (y.endpoint == e) ≡ b → y.reported ≡ r → EndsBy k ys b r
  one_ends k y ys order rest false r is told = record { before = rest.before; are = rest.are }
  one_ends k y ys order rest true true is told =
      record { before = k ∷ rest.before; are = ap (λ (ns : List ℕ). k ∷ ns) rest.are }
  one_ends k y ys order rest true false is told = record {
    before = [];
    are = ap (λ (ns : List ℕ). k ∷ ns)
        (all_wait (suc k) ys (λ u z at also.
        is_not z.reported (λ (done : z.reported ≡ true).
        true≢false (sym (order 0 (suc u) y z (omega arith) refl at (eqb-true y.endpoint e is) also done) ∙ told))));
  }

  ends : (k : ℕ) (ts : List Transfer) → AreInOrder ts → EndsWaiting k ts
  ends k [] order = record { before = []; are = refl }
  ends k (y ∷ ys) order =
      let rest : EndsWaiting (suc k) ys =
      ends (suc k) ys (λ t u x z less at there of also. order (suc t) (suc u) x z (omega (arith, less)) at there of also) in
      let all : EndsBy k ys (y.endpoint == e) y.reported = one_ends k y ys order rest (y.endpoint == e) y.reported refl refl in
      record { before = all.before; are = all.are }

  one_counted : (k : ℕ) (y : Transfer) (ys : List Transfer)
      → length (waiting_from e (suc k) ys) ≡ count_by (waits_for e) ys → (b : Bool)
      → length (if b then k ∷ waiting_from e (suc k) ys else waiting_from e (suc k) ys)
      ≡ cond b 1 0 + count_by (waits_for e) ys
  one_counted k y ys rest true = let one = rest in omega (arith, one)
  one_counted k y ys rest false = let one = rest in omega (arith, one)

  count_waiting : (k : ℕ) (ts : List Transfer) → length (waiting_from e k ts) ≡ count_by (waits_for e) ts
  count_waiting k [] = refl
  count_waiting k (y ∷ ys) =
      one_counted k y ys (count_waiting (suc k) ys) (waits_for e y)
      ∙ sym (sum_by-cons (λ (z : Transfer). cond (waits_for e z) 1 0) y ys)

pub waits_left : (d : DriverContent) (e : ℕ) (reported waits : List ℕ) → AreInTurn d → numbers_of d e ≡ reported ++ waits
    → length waits ≡ waiting d e → waits ≡ waiting_from e 0 d.transfers
waits_left d e reported waits turns numbers wait =
    let order : AreInOrder e d.transfers = λ t u y z less at there of also told.
    turns.turns.reported t u (turn_of y) (turn_of z) less (ap (option_map turn_of) at) (ap (option_map turn_of) there)
    (also ∙ sym of) told in
    let w : EndsWaiting e 0 d.transfers = ends e 0 d.transfers order in
    same_end reported w.before waits (waiting_from e 0 d.transfers) (sym numbers ∙ w.are)
    (wait ∙ sym (count_waiting e 0 d.transfers))

pub waits_are_unreported : WaitsAreUnreported
waits_are_unreported d asks e name whole v reported waits turns k = waits_left d e reported waits turns k.numbers k.wait
