-- A request is published at the end of a queue: behind those that are asked, as the first one, or behind those that wait until the queue head is mended.
use Rattle.std.proofs.Common.{◌≡◌, ◌≢◌, ℕ, suc, ◌-◌, ◌<◌, Bool, true, false, if◌then◌else◌, List, [], length, take, Option, Some, ap, refl, sym, subst, ◌∙◌, ⊎_elim, arith}
use Rattle.std.proofs.lemmas.Bool.{cases_eq, eq-eqb, false≢true}
use Rattle.law_controller.proofs.Common.{same_hand}
use Rattle.qh_qtd.specs.declared.qtd.Qtd.{Qtd}
use Rattle.qh_qtd.specs.declared.queue_head.Qh.{Qh}
use Rattle.law_structures.specs.lent_structures.Structures.{QueueHead, Element, Structures, StructureSets, put}
use Rattle.law_structures.specs.lent_structures.Sound.{HasBuffer}
use Rattle.law_structures.proofs.lemmas.lent_structures.Names.{put_beside}
use Rattle.law_structures.proofs.lemmas.lent_structures.Altering.{found_queue}
use Rattle.dev_control.specs.Stages.{Stages}
use Rattle.claims_report.specs.Requests.{Request}
use Rattle.law_request.specs.Host.{Setup, Data, Stage, has_data}
use Rattle.claims_report.specs.ControlSides.{Device}
use Rattle.law_ring.specs.Hand.{Hand}
use Rattle.law_ring.specs.Effects.{bytes_in, buffer_of}
use Rattle.law_ring.specs.Told.{Told}
use Rattle.law_ring.proofs.Ordering.{not_worked, works_by}
use Rattle.law_devices.specs.ring_requests.Laid.{Places, place_at, IsFresh, IsIdle}
use Rattle.law_devices.specs.ring_requests.Shown.{AreFresh}
use Rattle.law_devices.specs.ring_requests.Windows.{Sent, Queue, sent_at, lines_at, IsBehind, IsQueue}
use Rattle.law_devices.specs.ring_requests.Resting.{IsStopped, IsFirstStore}
use Rattle.law_devices.proofs.lemmas.ring_requests.RestingGrows.{queue_grows}
use Rattle.law_devices.specs.request_stores.Published.{IsNextRequest, with_request, new_sent, sent_with}
use Rattle.law_devices.proofs.lemmas.request_stores.Publishing.{with_old, with_new, good_with, last_windows}
use Rattle.law_reports.specs.requests.Courses.{Course, Asks, Rests, has_queue, is_asking, queue_in, lines_in, AreInLine, IsAsking, IsResting, IsCourse, queues, have_queues, are_asking, all_lines, CoursesStand, with_course}
use Rattle.law_reports.specs.requests.QueueChanges.{IsPublishedAt, AskedStore, RestStore, HaltedStore}
use Rattle.law_reports.proofs.lemmas.requests.Courses.{sent_are, windows_are}
use Rattle.law_reports.proofs.lemmas.requests.QueueChanging.{one_changes}
use Rattle.law_reports.proofs.lemmas.requests.Keeping.{behind_idle}
use Rattle.law_reports.proofs.lemmas.requests.Writing.{tail_of, same_kept, same_side, endpoints_still, store_head, store_qtds}

-- ---- the requests with it

line_with : (v : Queue) (b d : ℕ) (r : Request) (x : Places) (part : Structures) → AreInLine v b → IsNextRequest v r x part → x.behind ≡ Some d → AreInLine (with_request v r x) d
line_with v b d r x part line next behind =
    let good = good_with v r x part next (record { requests = line.requests; whole = line.whole; places = line.places; others = line.others; chained = line.chained }) in
    record {
      requests = good.requests;
      whole = good.whole;
      places = good.places;
      others = good.others;
      chained = good.chained;
      last = λ i last. ap (λ (s : Sent). s.places.behind) (with_new v r x i (let same : i ≡ v.count = omega (arith, last) in same)) ∙ behind;
    }

module _ {W : Type 0} (device : W → ℕ → ℕ → Option Device) (member : ℕ → Bool) (courses : ℕ → Course) (parts : StructureSets) (hand : Hand) (wire : W) (stand : CoursesStand device member courses parts hand wire) (n b : ℕ) (new : Qtd) (tail : IsIdle (parts n) b) where
  abbrev now : StructureSets
  now = put parts n b (Element new)

  others_kept : (k : ℕ) → k ≢ n → IsCourse device parts hand wire k (courses k) → IsCourse device (put parts n b (Element new)) hand wire k (courses k)
  others_kept k differs = same_kept device parts now hand hand wire k (same_side hand k) (same_hand hand) (put_beside parts n b (Element new) k differs) (courses k)

  stored : (c : Course) → IsCourse device (put parts n b (Element new)) hand wire n c → have_queues courses n ≡ true → has_queue c ≡ true → (queue_in c).endpoint ≡ (queues courses n).endpoint
      → CoursesStand device member (with_course courses n c) (put parts n b (Element new)) hand wire
  stored c mine before has same =
      one_changes courses n c device member parts now hand hand wire stand (endpoints_still member parts now (store_head parts n b tail.qtd new tail.here)) others_kept mine before has same

-- ---- behind those that are asked

pub asked_store : {W : Type 0} (device : W → ℕ → ℕ → Option Device) → AskedStore device
asked_store device member courses parts hand wire n b d v l r x new is p stand =
    let k : IsAsking v b l hand parts n (device wire v.endpoint.addr v.endpoint.num) = subst (IsCourse device parts hand wire n) is (stand.each n) in
    let on : are_asking courses n ≡ true = ap is_asking is in
    let next : IsNextRequest (queues courses n) r x (put parts n x.setup (Element new) n) =
    subst (λ (a : ℕ). IsNextRequest (queues courses n) r x (put parts n a (Element new) n)) (sym p.setup) (subst (λ (u : Course). IsNextRequest (queue_in u) r x (put parts n b (Element new) n)) (sym is) p.next) in
    let whole = last_windows device member (are_asking courses) (queues courses) (all_lines courses) parts hand wire n r x new (sent_are device member courses parts hand wire stand) on next (windows_are device member courses parts hand wire stand) in
    let first : IsQueue (sent_with (queues courses) n r x n) (all_lines courses n) hand (put parts n x.setup (Element new)) n (device wire (sent_with (queues courses) n r x n).endpoint.addr (sent_with (queues courses) n r x n).endpoint.num) =
    whole.windows_are.each n on in
    let second : IsQueue (with_request (queues courses n) r x) (all_lines courses n) hand (put parts n x.setup (Element new)) n (device wire (queues courses n).endpoint.addr (queues courses n).endpoint.num) =
    subst (λ (u : Queue). IsQueue u (all_lines courses n) hand (put parts n x.setup (Element new)) n (device wire u.endpoint.addr u.endpoint.num)) (ap (λ (y : Bool). if y then with_request (queues courses n) r x else queues courses n) (eq-eqb n n refl)) first in
    let third : IsQueue (with_request v r x) l hand (put parts n x.setup (Element new)) n (device wire v.endpoint.addr v.endpoint.num) =
    subst (λ (u : Course). IsQueue (with_request (queue_in u) r x) (lines_in u) hand (put parts n x.setup (Element new)) n (device wire (queue_in u).endpoint.addr (queue_in u).endpoint.num)) is second in
    let mine : IsAsking (with_request v r x) d l hand (put parts n b (Element new)) n (device wire v.endpoint.addr v.endpoint.num) = record {
      line = line_with v b d r x (put parts n b (Element new) n) k.line p.next p.behind;
      queue = subst (λ (a : ℕ). IsQueue (with_request v r x) l hand (put parts n a (Element new)) n (device wire v.endpoint.addr v.endpoint.num)) p.setup third;
    } in
    stored device member courses parts hand wire stand n b new (tail_of device parts hand wire n (Asks v b l) refl k) (Asks (with_request v r x) d l) mine (ap has_queue is) refl (ap (λ (u : Course). (queue_in u).endpoint) (sym is))

-- ---- as the first one

pub rest_store : {W : Type 0} (device : W → ℕ → ℕ → Option Device) → RestStore device
rest_store device member courses parts hand wire n b d v c q r x new is none head goes_on p stand =
    let k : IsResting v b c hand parts n (device wire v.endpoint.addr v.endpoint.num) = subst (IsCourse device parts hand wire n) is (stand.each n) in
    let same : k.rest.queue ≡ q = found_queue (parts n n) k.rest.queue q k.rest.head head in
    let it : sent_at (with_request v r x) 0 ≡ new_sent v r x = with_new v r x 0 (sym none) in
    let store : IsFirstStore (with_request v r x) b (put parts n b (Element new) n) = record {
      one = ap suc none;
      setup = ap (λ (s : Sent). s.places.setup) it ∙ p.setup;
      fresh = subst (λ (s : Sent). AreFresh s.endpoint s.request s.places (put parts n b (Element new) n) Setup) (sym it) p.next.fresh;
      buffer = subst (λ (s : Sent). has_data s.request ≡ true → (t : Qtd) → put parts n b (Element new) n s.places.data_at ≡ Some (Element t) → HasBuffer (put parts n b (Element new) n) t t.token.total) (sym it) p.next.buffer;
      tail = subst (λ (s : Sent). (a : ℕ) → s.places.behind ≡ Some a → IsIdle (put parts n b (Element new) n) a) (sym it) p.next.tail;
    } in
    let begun = queue_grows (with_request v r x) c b n hand parts (device wire v.endpoint.addr v.endpoint.num) new k.rest (ap (λ (z : Qh). z.token.halted) same ∙ goes_on) store in
    let mine : IsAsking (with_request v r x) d (lines_at (with_request v r x) q.token.ping c) hand (put parts n b (Element new)) n (device wire v.endpoint.addr v.endpoint.num) = record {
      line = line_with v b d r x (put parts n b (Element new) n) k.line p.next p.behind;
      queue = subst (λ (z : Qh). IsQueue (with_request v r x) (lines_at (with_request v r x) z.token.ping c) hand (put parts n b (Element new)) n (device wire v.endpoint.addr v.endpoint.num)) same begun.asks;
    } in
    stored device member courses parts hand wire stand n b new k.rest.tail (Asks (with_request v r x) d (lines_at (with_request v r x) q.token.ping c)) mine (ap has_queue is) refl (ap (λ (u : Course). (queue_in u).endpoint) (sym is))

-- ---- behind those that wait

module _ (v : Queue) (b d n : ℕ) (c : Stages) (hand : Hand) (parts : StructureSets) (o : Option Device) (r : Request) (x : Places) (new : Qtd) (k : IsResting v b c hand parts n o) (stopped : IsStopped parts n) (p : IsPublishedAt v r x b d parts n new) where
  abbrev stored_parts : StructureSets
  stored_parts = put parts n b (Element new)

  halted : k.rest.queue.token.halted ≡ true
  halted = ap (λ (q : Qh). q.token.halted) (found_queue (parts n n) k.rest.queue stopped.queue k.rest.head stopped.head) ∙ stopped.halted

  head_now : put parts n b (Element new) n n ≡ Some (QueueHead k.rest.queue)
  head_now = store_head parts n b k.rest.tail.qtd new k.rest.tail.here n k.rest.queue k.rest.head

  -- nothing is told of it yet
  none_told : has_data r ≡ true → Told hand (put parts n b (Element new)) n x.data_at []
  none_told some =
      let f : IsFresh v.endpoint r x (stored_parts n) Data = p.next.fresh Data some in
      let has : HasBuffer (stored_parts n) f.stage.qtd f.stage.qtd.token.total = p.next.buffer some f.stage.qtd f.stage.here in
      let bs : List ℕ = buffer_of (stored_parts n) f.stage.qtd in
      let size = ap length (ap bytes_in has.here) ∙ has.size in
      let none : length bs - f.stage.qtd.token.total ≡ 0 = omega (arith, size) in
      record {
        queue = k.rest.queue;
        head = head_now;
        qtd = f.stage.qtd;
        here = f.stage.here;
        are = sym (not_worked hand n k.rest.queue x.data_at f.stage.qtd bs (works_by k.rest.queue x.data_at false k.rest.idle (λ on. absurd (false≢true on))) ∙ ap (λ (i : ℕ). take i bs) none);
      }

  apart : (i : ℕ) (s : Stage) → i < v.count → place_at (v.places i) s ≢ b
  apart i s few same = p.next.others i few s Setup (same ∙ sym p.setup)

  behind_by : (i : ℕ) → i < suc v.count → IsBehind (sent_at (with_request v r x) i) hand (put parts n b (Element new)) n
  behind_by i few =
      ⊎_elim {C = IsBehind (sent_at (with_request v r x) i) hand stored_parts n}
      (λ (same : i ≡ v.count). subst (λ (s : Sent). IsBehind s hand stored_parts n) (sym (with_new v r x i same)) (record { fresh = p.next.fresh; none_told = none_told }))
      (λ (differs : i ≢ v.count).
      let less : i < v.count = omega (arith, few, differs) in
      subst (λ (s : Sent). IsBehind s hand stored_parts n) (sym (with_old v r x i less))
      (behind_idle v b parts stored_parts n k.line (store_qtds parts n b k.rest.tail.qtd new k.rest.tail.here v n (λ same. apart)) hand hand k.rest.queue k.rest.queue k.rest.head k.rest.idle head_now k.rest.idle i less (k.behind i less)))
      (cases_eq i v.count)

  waiting : IsResting (with_request v r x) d c hand (put parts n b (Element new)) n o
  waiting = record {
    line = line_with v b d r x (stored_parts n) k.line p.next p.behind;
    rest = record {
      queue = k.rest.queue;
      head = head_now;
      control = k.rest.control;
      idle = k.rest.idle;
      unsettled = k.rest.unsettled;
      leads = λ goes_on. absurd (false≢true (sym goes_on ∙ halted));
      tail = p.next.tail d p.behind;
      max = k.rest.max;
      device = k.rest.device;
    };
    wait = λ some. halted;
    behind = behind_by;
  }

pub halted_store : {W : Type 0} (device : W → ℕ → ℕ → Option Device) → HaltedStore device
halted_store device member courses parts hand wire n b d v c r x new is stopped p stand =
    let k : IsResting v b c hand parts n (device wire v.endpoint.addr v.endpoint.num) = subst (IsCourse device parts hand wire n) is (stand.each n) in
    stored device member courses parts hand wire stand n b new k.rest.tail (Rests (with_request v r x) d c)
    (waiting v b d n c hand parts (device wire v.endpoint.addr v.endpoint.num) r x new k stopped p) (ap has_queue is) refl (ap (λ (u : Course). (queue_in u).endpoint) (sym is))
