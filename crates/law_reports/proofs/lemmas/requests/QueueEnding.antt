-- The first request of a queue has ended, or its queue head is halted.
use Rattle.std.proofs.Common.{◌≡◌, ℕ, suc, ◌-◌, Bool, true, Option, ap, refl, sym, subst, ◌∙◌, arith}
use Rattle.law_structures.specs.lent_structures.Structures.{StructureSets}
use Rattle.claims_report.specs.ControlSides.{Device}
use Rattle.law_ring.specs.Hand.{Hand}
use Rattle.law_devices.specs.ring_requests.Windows.{Queue, Lines}
use Rattle.law_devices.specs.ring_requests.Resting.{IsAtRest, HasRest}
use Rattle.law_devices.proofs.lemmas.ring_requests.RestingEnded.{queue_done, queue_halted}
use Rattle.law_devices.specs.request_stores.Published.{without_first}
use Rattle.law_reports.specs.requests.Courses.{Course, Asks, Rests, has_queue, queue_in, AreInLine, IsAsking, IsResting, IsCourse, CoursesStand, with_course}
use Rattle.law_reports.specs.requests.QueueChanges.{without_requests, lines_behind, IsFirstDone, FirstGoes, LastGoes, RequestHalts}
use Rattle.law_reports.proofs.lemmas.requests.QueueChanging.{one_changes}
use Rattle.law_reports.proofs.lemmas.requests.Gone.{first_ends}

line_first : (v : Queue) (b : ℕ) → AreInLine v b → AreInLine (without_first v) b
line_first v b line = record {
  requests = λ i few. line.requests (suc i) (omega (arith, few));
  whole = line.whole;
  places = λ i few. line.places (suc i) (omega (arith, few));
  others = λ i k few less differs. line.others (suc i) (suc k) (omega (arith, few)) (omega (arith, less)) (λ same. differs (let is : i ≡ k = omega (arith, same) in is));
  chained = λ i few. line.chained (suc i) (omega (arith, few));
  last = λ i last. line.last (suc i) (omega (arith, last));
}

line_none : (v : Queue) (b : ℕ) → AreInLine v b → AreInLine (without_requests v) b
line_none v b line = record {
  requests = λ i few. absurd (omega (arith, few));
  whole = line.whole;
  places = λ i few. absurd (omega (arith, few));
  others = λ i k few less differs. absurd (omega (arith, few));
  chained = λ i few. absurd (omega (arith, few));
  last = λ i last. absurd (omega (arith, last));
}

module _ {W : Type 0} (device : W → ℕ → ℕ → Option Device) (member : ℕ → Bool) (courses : ℕ → Course) (parts : StructureSets) (hand : Hand) (wire : W) (stand : CoursesStand device member courses parts hand wire) (n b : ℕ) (v : Queue) (l : Lines) (is : courses n ≡ Asks v b l) where
  asking : IsAsking v b l hand parts n (device wire v.endpoint.addr v.endpoint.num)
  asking = subst (IsCourse device parts hand wire n) is (stand.each n)

  goes_on : (c : Course) → IsCourse device parts hand wire n c → has_queue c ≡ true → (queue_in c).endpoint ≡ v.endpoint → CoursesStand device member (with_course courses n c) parts hand wire
  goes_on c mine has same =
      one_changes courses n c device member parts parts hand hand wire stand (λ k own met has. has) (λ k differs z. z) mine (ap has_queue is) has (same ∙ ap (λ (u : Course). (queue_in u).endpoint) (sym is))

pub first_goes : {W : Type 0} (device : W → ℕ → ℕ → Option Device) → FirstGoes device
first_goes device member courses parts hand reply wire n b v l is some m in_hand ended stand =
    let k : IsAsking v b l hand parts n (device wire v.endpoint.addr v.endpoint.num) = asking device member courses parts hand wire stand n b v l is in
    let done : IsFirstDone v l hand parts n (device wire v.endpoint.addr v.endpoint.num) = first_ends member parts hand reply n b v l (device wire v.endpoint.addr v.endpoint.num) m in_hand k.line k.queue some ended in
    record { once = done.once; stand = goes_on device member courses parts hand wire stand n b v l is (Asks (without_first v) b (lines_behind v l)) (record { line = line_first v b k.line; queue = done.queue }) refl refl }

pub last_goes : {W : Type 0} (device : W → ℕ → ℕ → Option Device) → LastGoes device
last_goes device member courses parts hand reply wire n b v l is one m in_hand ended stand =
    let k : IsAsking v b l hand parts n (device wire v.endpoint.addr v.endpoint.num) = asking device member courses parts hand wire stand n b v l is in
    let z : HasRest v l b 0 hand parts n (device wire v.endpoint.addr v.endpoint.num) = queue_done member parts hand reply n 0 b v l (device wire v.endpoint.addr v.endpoint.num) m in_hand k.queue (sym one) (k.line.last 0 (sym one)) ended in
    let rests : IsResting (without_first v) b (l.line 0).device hand parts n (device wire v.endpoint.addr v.endpoint.num) = record {
      line = line_first v b k.line;
      rest = z.rest;
      wait = λ some. absurd (omega (arith, some, one));
      behind = λ i few. absurd (omega (arith, few, one));
    } in
    record { once = z.once; stand = goes_on device member courses parts hand wire stand n b v l is (Rests (without_first v) b (l.line 0).device) rests refl refl }

pub request_halts : {W : Type 0} (device : W → ℕ → ℕ → Option Device) → RequestHalts device
request_halts device member courses parts hand reply wire n b v l is m in_hand stopped stand =
    let k : IsAsking v b l hand parts n (device wire v.endpoint.addr v.endpoint.num) = asking device member courses parts hand wire stand n b v l is in
    let within = k.queue.within in
    let last : suc (v.count - 1) ≡ v.count = omega (arith, within) in
    let rest : IsAtRest v.endpoint (l.line l.under).device b hand parts n (device wire v.endpoint.addr v.endpoint.num) =
    queue_halted member parts hand reply n (v.count - 1) b v l (device wire v.endpoint.addr v.endpoint.num) m in_hand k.queue last (k.line.last (v.count - 1) last) stopped in
    let rests : IsResting (without_requests v) b (l.line l.under).device hand parts n (device wire v.endpoint.addr v.endpoint.num) = record {
      line = line_none v b k.line;
      rest = rest;
      wait = λ some. absurd (omega (arith, some));
      behind = λ i few. absurd (omega (arith, few));
    } in
    goes_on device member courses parts hand wire stand n b v l is (Rests (without_requests v) b (l.line l.under).device) rests refl refl
