-- The queues of the endpoints that are still met stand, once others have left the ring.
use Rattle.std.proofs.Common.{◌≡◌, ℕ, ◌==◌, ◌&&◌, ◌||◌, Bool, true, false, if◌then◌else◌, Option, ap, refl, sym, subst, ◌∙◌, ⊎_elim}
use Rattle.std.specs.List.{AllByRecursion}
use Rattle.std.proofs.lemmas.Bool.{eq-eqb, false≢true}
use Rattle.drv_table.specs.DriverContent.{DriverContent}
use Rattle.law_structures.specs.lent_structures.Structures.{StructureSets}
use Rattle.claims_report.specs.Requests.{Request}
use Rattle.law_request.specs.Host.{Endpoint}
use Rattle.claims_report.specs.ControlSides.{Device}
use Rattle.law_ring.specs.Hand.{Hand}
use Rattle.law_ring.specs.Stores.{IsWider}
use Rattle.law_devices.specs.ring_requests.Windows.{Queue, Lines, IsQueue, IsElsewhere}
use Rattle.claims_world.specs.Requests.{Windows, numbers_of}
use Rattle.law_reports.specs.requests.Courses.{Course, NoQueue, Asks, has_queue, queue_in, IsCourse, queues, have_queues, CoursesStand}
use Rattle.law_reports.specs.requests.Records.{Numbers, IsOnceAt, IsRecord, AreRecords}
use Rattle.law_reports.proofs.lemmas.requests.TransferChanging.{course_is_gone}
use Rattle.law_reports.specs.requests.Narrowing.{courses_met, CoursesAreMet, HadQueue, HaveGone, RecordsAreMet}

met_by : (b : Bool) (c : Course) → has_queue (if b then c else NoQueue) ≡ true → (b ≡ true) × ((if b then c else NoQueue) ≡ c)
met_by true c on = (refl, refl)
met_by false c on = absurd (false≢true on)

module _ (narrow : ℕ → Bool) (courses : ℕ → Course) where
  pub met_was : (n : ℕ) → have_queues (courses_met narrow courses) n ≡ true → (narrow n ≡ true) × (courses_met narrow courses n ≡ courses n)
  met_was n on = met_by (narrow n) (courses n) on

  pub had : (n : ℕ) → have_queues (courses_met narrow courses) n ≡ true → have_queues courses n ≡ true
  had n on = sym (ap has_queue (met_was n on).1) ∙ on

  endpoint_was : (n : ℕ) → have_queues (courses_met narrow courses) n ≡ true → (queues (courses_met narrow courses) n).endpoint ≡ (queues courses n).endpoint
  endpoint_was n on = ap (λ (c : Course). (queue_in c).endpoint) (met_was n on).1

  module _ {W : Type 0} (device : W → ℕ → ℕ → Option Device) (member : ℕ → Bool) (parts : StructureSets) (hand : Hand) (wire : W) (wider : IsWider narrow member) (stand : CoursesStand device member courses parts hand wire) where
    each_by : (n : ℕ) (b : Bool) → IsCourse device parts hand wire n (courses n) → IsCourse device parts hand wire n (if b then courses n else NoQueue)
    each_by n true k = k
    each_by n false k = tt

    pub courses_stand_met : CoursesStand device narrow (courses_met narrow courses) parts hand wire
    courses_stand_met = record {
      each = λ n. each_by n (narrow n) (stand.each n);
      members = λ n on. (met_was n on).0;
      apart = λ n k on one addr num.
          stand.apart n k (had n on) (had k one)
          (ap (λ (e : Endpoint). e.addr) (sym (endpoint_was n on)) ∙ addr ∙ ap (λ (e : Endpoint). e.addr) (endpoint_was k one))
          (ap (λ (e : Endpoint). e.num) (sym (endpoint_was n on)) ∙ num ∙ ap (λ (e : Endpoint). e.num) (endpoint_was k one));
      others = λ n near off.
          let o : IsElsewhere (have_queues courses) (queues courses) parts n =
          stand.others n (wider n near) (ap (λ (b : Bool). has_queue (if b then courses n else NoQueue)) (sym near) ∙ off) in
          record {
            own = o.own;
            has = o.has;
            other = λ k one addr num.
                o.other k (had k one) (ap (λ (e : Endpoint). e.addr) (sym (endpoint_was k one)) ∙ addr) (ap (λ (e : Endpoint). e.num) (sym (endpoint_was k one)) ∙ num);
          };
    }

pub courses_are_met : {W : Type 0} (device : W → ℕ → ℕ → Option Device) → CoursesAreMet device
courses_are_met device member narrow courses parts hand wire wider stand = courses_stand_met narrow courses device member parts hand wire wider stand

-- ---- what is recorded

module _ {W : Type 0} (device : W → ℕ → ℕ → Option Device) (member : ℕ → Bool) (courses : ℕ → Course) (parts : StructureSets) (hand : Hand) (wire : W) (stand : CoursesStand device member courses parts hand wire) where
  pub asked_at : (n : ℕ) (q : Queue) (b : ℕ) (l : Lines) → courses n ≡ Asks q b l → (o : Option Device) × IsQueue q l hand parts n o
  asked_at n q b l is = (device wire q.endpoint.addr q.endpoint.num, (subst (IsCourse device parts hand wire n) is (stand.each n)).queue)

  module _ (d : DriverContent) (asks : ℕ → Request) (narrow : ℕ → Bool) (numbers : ℕ → Numbers) (gone now : ℕ → Bool) (v : Windows) (leave : HaveGone gone courses numbers now) (rec : AreRecords d asks courses numbers gone v) where
    of_queue : (e : ℕ) → HadQueue courses numbers e → AllByRecursion (IsOnceAt asks v) (numbers_of d e)
    of_queue e h =
        (course_is_gone d asks courses numbers gone v h.queue hand parts (asked_at h.queue) rec).left e
        (ap (λ (b : Bool). (b && e == (numbers h.queue).endpoint) || gone e) h.has ∙ ap (λ (b : Bool). (true && b) || gone e) (eq-eqb e (numbers h.queue).endpoint (sym h.is)))

    pub records_met : AreRecords d asks (courses_met narrow courses) numbers now v
    records_met = record {
      each = λ n on. subst (λ (c : Course). IsRecord d asks n c (numbers n) v) (sym (met_was narrow courses n on).1) (rec.each n (had narrow courses n on));
      left = λ e on.
          ⊎_elim {C = AllByRecursion (IsOnceAt asks v) (numbers_of d e)} (λ (was : gone e ≡ true). rec.left e was) (λ (h : HadQueue courses numbers e). of_queue e h) (leave e on);
      none = rec.none;
    }

pub records_are_met : {W : Type 0} (device : W → ℕ → ℕ → Option Device) → RecordsAreMet device
records_are_met device d asks member narrow courses numbers gone now v parts hand wire leave stand rec = records_met device member courses parts hand wire stand d asks narrow numbers gone now v leave rec
