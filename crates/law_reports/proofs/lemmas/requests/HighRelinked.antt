-- Where links of queue heads alone are stored, and no transfer is being published, the requests of control endpoints stand as they did; the
-- driver may have the
-- same queues by another content.
use Rattle.std.proofs.Common.{◌≡◌, ℕ, ◌*◌, Bool, true, slice_get, Some, None, ap, refl, sym, subst, ◌∙◌}
use Rattle.usb_base.specs.declared.endpoints.EpName.{EpName}
use Rattle.bus_wire.specs.Bus.{Fixed}
use Rattle.drv_table.specs.declared.content.Endpoint.{Endpoint}
use Rattle.drv_table.specs.declared.content.Transfer.{Transfer}
use Rattle.drv_table.specs.DriverContent.{DriverContent}
use Rattle.drv_table.specs.Harvests.{note_at}
use Rattle.drv_table.specs.Parts.{Parts}
use Rattle.law_driver.specs.endpoint_lives.Lives.{told_end}
use Rattle.law_driver.specs.queued_drivers.Rows.{QueuesAlike}
use Rattle.law_driver_ring.proofs.lemmas.told_harvests.Keeping.{spared_is_done}
use Rattle.law_queues.specs.told_endpoints.Telling.{lines_in}
use Rattle.law_structures.specs.lent_structures.Structures.{StructureSets}
use Rattle.law_devices.specs.Controls.{control_of}
use Rattle.claims_report.specs.Requests.{Request}
use Rattle.law_ring.specs.Hand.{Hand}
use Rattle.bus_world.specs.World.{World}
use Rattle.law_world.specs.steps.Streaming.{Standing}
use Rattle.law_world.specs.memory.Steps.{HandStays, same_hand, linked_hand}
use Rattle.law_world.specs.memory.SameQueues.{IsRelinked, IsSameQueue}
use Rattle.law_world.proofs.Common.{hand_tells}
use Rattle.law_reports.proofs.Common.{regone}
use Rattle.law_reports.specs.requests.Records.{AreRecords}
use Rattle.law_reports.proofs.lemmas.lines.Same.{relinked_head, relinked_element}
use Rattle.claims_world.specs.Requests.{wired, Windows}
use Rattle.law_reports.specs.requests.Asking.{Sides, Asking, has_left, IsMetControl, IsReadTo, IsUnheard, IsAskingWorld, AsksIn}
use Rattle.law_reports.specs.requests.Courses.{have_queues, CoursesStand}
use Rattle.law_reports.specs.requests.Missed.{NoneMissed, MissesNone}
use Rattle.law_reports.proofs.lemmas.requests.HighAlike.{alike_in, is_alike_in}
use Rattle.law_reports.proofs.lemmas.requests.Leaving.{IsQuiet, RowLeaves, LinesLeave, was_met, each_still, world_left}
use Rattle.law_reports.proofs.lemmas.requests.Missed.{linked_unmissed}
use Rattle.law_reports.proofs.lemmas.requests.Relinking.{relinked_courses}
use Rattle.law_reports.proofs.lemmas.requests.Rows.{accepted_keeps_records}
use Rattle.law_reports.specs.requests.driver_requests.Rows.{KeepsRequests}

-- ---- the same queues

alike_leaves : (d h : DriverContent) → IsQuiet d → RowLeaves d (alike_in d h)
alike_leaves d h quiet = record {
  quiet = quiet;
  quiet_now = record { none = quiet.none; tail = quiet.tail; first = quiet.first };
  was = λ e x here. record {
    was = x;
    here = here;
    desc = refl;
    queue = refl;
    dummy = refl;
    next = refl;
    cancelled = refl;
    ended = λ held. refl;
    kept = λ is. is;
  };
  still = λ e x here. record { now = x; here = here; desc = refl; queue = refl };
  opening = λ e x here. refl;
  linked = λ b other is. other is;
  near = λ e x here on. on;
  mends = λ i m at. (i, at);
  numbers = λ e. refl;
}

pub leaves_alike : (d f : DriverContent) → QueuesAlike d f → IsQuiet d → RowLeaves d f
leaves_alike d f k quiet = subst (RowLeaves d) (sym (is_alike_in d f k)) (alike_leaves d f quiet)

-- ---- no microframe is missed

stays_unmissed : (asked : ℕ → Bool) (hand held : Hand) → HandStays hand held → MissesNone asked hand → MissesNone asked held
stays_unmissed asked hand _ same_hand none = none
stays_unmissed asked hand _ (linked_hand n l) none = linked_unmissed asked n l hand none

relinked_unmissed : (asked : ℕ → Bool) (parts now : StructureSets) → ((n : ℕ) → IsSameQueue n (parts n) (now n)) → NoneMissed asked parts
    → NoneMissed asked now
relinked_unmissed asked parts now same none = record {
  heads = λ n q on here. let h : IsRelinked (parts n) n q = (same n).head_was q here in none.heads n (record q { link = h.link }) on h.here;
  elements = λ n a t on here. none.elements n a t on ((same n).elements_were a t here);
}

-- ---- the requests

module _ (g : Sides) (fixed : Fixed) (member : ℕ → Bool) (s : Standing) (a : Asking) (v : Windows) (asks : ℕ → Request) (w : World)
    (z : IsAskingWorld g fixed member s a v asks w)
    (now : StructureSets) (held : Hand) (same : (n : ℕ) → IsSameQueue n (s.parts n) (now n)) (stays : HandStays s.hand held)
    (q : Parts) (leaves : RowLeaves w.driver q.driver)
    (transfers : q.driver.transfers ≡ w.driver.transfers) (notes : q.driver.notes ≡ w.driver.notes)
    (keeps : (i : ℕ) → KeepsRequests None w.driver q.driver i)
    (fewer : (e : ℕ) → has_left g q.driver e ≡ true → has_left g w.driver e ≡ true)
    (tells : (e : ℕ) (x : Endpoint) → IsMetControl g q.driver e x → LinesLeave w.driver q.driver asks v e x.desc.name (g.whole x.desc.name))
    (lines : (name : EpName) → IsUnheard q.driver name → lines_in name q.driver.reports ≡ lines_in name w.driver.reports) where
  abbrev later : Standing
  later = record s { parts = now; hand = held }

  stand : CoursesStand control_of member a.courses now held (wired fixed w)
  stand = relinked_courses s.parts now s.hand held stays same control_of member a.courses (wired fixed w) z.stand

  read_still : (b : ℕ) (y : Transfer) (r : Request) → IsReadTo s.hand s.parts (32 * b) (note_at w.driver.notes) y r
      → IsReadTo held now (32 * b) (note_at w.driver.notes) y r
  read_still b y r k = record {
    setup = k.setup;
    data_at = λ has one.
        let f = k.data_at has one in
        record {
          bytes = f.bytes;
          done = spared_is_done s.hand held s.parts now (32 * b) _ _ f.bytes (hand_tells s.hand held stays)
              (relinked_head s.parts now (32 * b) (same (32 * b))) (relinked_element s.parts now (32 * b) (same (32 * b)) _) f.done;
        };
    rest = k.rest;
  }

  reads : (e t : ℕ) (x : Endpoint) (y : Transfer) → IsMetControl g q.driver e x → told_end x ≡ None → x.next ≡ Some t
      → slice_get q.driver.transfers t ≡ Some y
      → IsReadTo held now (32 * x.queue) (note_at q.driver.notes) y ((a.numbers (32 * x.queue)).requests.requests 0)
  reads e t x y m going next there =
      let u = leaves.was e x m.is.here in
      let k : IsReadTo s.hand s.parts (32 * x.queue) (note_at w.driver.notes) y ((a.numbers (32 * x.queue)).requests.requests 0) =
      subst (λ (b : ℕ). IsReadTo s.hand s.parts (32 * b) (note_at w.driver.notes) y ((a.numbers (32 * b)).requests.requests 0)) u.queue
      (z.read e t u.was y (was_met g w.driver q.driver leaves e x m) (u.ended m.met.there.kept ∙ going) (u.next ∙ next)
      (ap (λ (ts : _). slice_get ts t) (sym transfers) ∙ there)) in
      subst (λ (ns : _). IsReadTo held now (32 * x.queue) (note_at ns) y ((a.numbers (32 * x.queue)).requests.requests 0)) (sym notes)
      (read_still x.queue y _ k)

  recorded : AreRecords q.driver asks a.courses a.numbers (has_left g q.driver) v
  recorded =
      regone q.driver asks a.courses a.numbers (has_left g w.driver) (has_left g q.driver) v fewer
      (accepted_keeps_records w.driver q.driver asks a.courses a.numbers (has_left g w.driver) v keeps transfers z.records)

  pub relinked_asks : AsksIn g member now held a v asks q.driver q.memory (wired fixed w)
  relinked_asks =
      world_left g fixed member s a v asks w q leaves z tells lines member later a.courses (λ n has. has)
      (relinked_unmissed (have_queues a.courses) s.parts now same z.unmissed.structures)
      (stays_unmissed (have_queues a.courses) s.hand held stays z.unmissed.in_hand) stand recorded
      (each_still g fixed member s a v asks w q leaves z) reads
