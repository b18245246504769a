-- A harvest that finds a qTD not done yet.
use Rattle.std.proofs.Common.{◌≡◌, ℕ, ◌*◌, Bool, if◌then◌else◌, List, Option, None, ap, refl, sym, subst, ◌∙◌}
use Rattle.law_queues.proofs.Common.{after_is}
use Rattle.bus_wire.specs.Bus.{Fixed}
use Rattle.drv_table.specs.declared.content.Command.{Command}
use Rattle.drv_table.specs.declared.content.Endpoint.{Endpoint}
use Rattle.drv_table.specs.declared.rows.DriverRow.TheVariants as rows
use Rattle.drv_table.specs.declared.rows.Found.TheVariants as founds
use Rattle.drv_table.specs.DriverContent.{DriverContent}
use Rattle.drv_table.specs.Rows.{after_driver_row}
use Rattle.drv_table.specs.Harvesting.{served}
use Rattle.law_driver.specs.run_owners.Due.{IsHarvestDue}
use Rattle.claims_report.specs.Requests.{Request}
use Rattle.bus_world.specs.World.{World, driver_parts}
use Rattle.law_world.specs.steps.Streaming.{Standing}
use Rattle.claims_world.specs.Requests.{Windows}
use Rattle.law_reports.specs.requests.driver_requests.Rows.{KeepsRequests}
use Rattle.law_reports.specs.requests.Records.{AreRecords}
use Rattle.law_reports.proofs.lemmas.requests.Rows.{accepted_keeps_records}
use Rattle.law_reports.specs.requests.Asking.{Sides, Asking, has_left, IsPublishingBy, IsMetControl, IsAskingWorld}
use Rattle.law_reports.proofs.lemmas.requests.Missed.{idle_misses}
use Rattle.law_reports.specs.requests.Courses.{have_queues}

module _ (g : Sides) (fixed : Fixed) (member : ℕ → Bool) (s : Standing) (a : Asking) (v : Windows) (asks : ℕ → Request) (w : World)
    (q : IsAskingWorld g fixed member s a v asks w) (idle : w.driver.command ≡ None) (e : ℕ) (out : ℕ → List ℕ)
    (reported : ℕ → List ℕ) where
  abbrev f : DriverContent
  f = served w.driver e

  was_met : (i : ℕ) (z : Endpoint) → IsMetControl g (served w.driver e) i z → IsMetControl g w.driver i z
  was_met i z is = record {
    is = record { here = is.is.here; control = is.is.control };
    met = record { there = record { linked = is.met.there.linked; kept = is.met.there.kept }; near = is.met.near };
  }

  keeps : (i : ℕ) → KeepsRequests None w.driver (served w.driver e) i
  keeps i = record {
    endpoint = λ z here. record { own = z; here = here; desc = refl; queue = refl; gone = refl };
    transfers = λ t y here of. record { own = y; here = here; endpoint = refl; sort = refl; first = refl; qtds = refl; held = λ none. refl };
    notes = λ t b y here of held piece. refl;
  }

  records_then : AreRecords (served w.driver e) asks a.courses a.numbers (has_left g (served w.driver e)) v
  records_then = let k = accepted_keeps_records w.driver f asks a.courses a.numbers (has_left g w.driver) v keeps refl q.records in record { each = k.each; left = λ i left. k.left i left; none = k.none }

  pub asking_served : IsAskingWorld g fixed member (record s { out = out; reported = reported }) a v asks (record w { driver = served w.driver e })
  asking_served = record {
    stand = q.stand;
    records = records_then;
    each = λ i z is.
        let h = q.each i z (was_met i z is) in
        record { queue = h.queue; endpoint = h.endpoint; number = h.number; tail = h.tail; count = h.count; newest = h.newest; next = h.next; ended = h.ended; owed = h.owed };
    asked = q.asked;
    publishing = λ i z is on. subst (λ (o : Option Command). IsPublishingBy f w.memory z (s.parts (32 * z.queue)) (a.courses (32 * z.queue)) (a.numbers (32 * z.queue)) o) (sym idle) tt;
    read = λ i t z y is going next here. q.read i t z y (was_met i z is) going next here;
    telling = λ i z is.
        let h = q.telling i z (was_met i z is) in
        record {
          reported = h.reported;
          untold = h.untold;
          closed = h.closed;
          going = h.going;
          uncancelled = h.uncancelled;
          telling = record { numbers = h.telling.numbers; told = h.telling.told; wait = h.telling.wait };
        };
    given = λ i z is. q.given i z (record { here = is.here; control = is.control });
    counts = λ i z is off.
        let h = q.counts i z (record { here = is.here; control = is.control }) off in
        record { device = h.device; is = h.is; acted = h.acted };
    unopened = q.unopened;
    untold = q.untold;
    unmissed = idle_misses (have_queues a.courses) w.driver f s.parts s.hand idle q.unmissed;
  }

module _ (g : Sides) (fixed : Fixed) (member : ℕ → Bool) (s : Standing) (a : Asking) (v : Windows) (asks : ℕ → Request) (w : World)
    (e t : ℕ) (reads : IsHarvestDue (driver_parts w) e t founds.Active)
    (q : IsAskingWorld g fixed member s a v asks w) where
  pub waits_asks : IsAskingWorld g fixed member s a v asks (record w { driver = (after_driver_row (rows.Harvest e t founds.Active) (driver_parts w)).driver })
  waits_asks =
      let new_is : (after_driver_row (rows.Harvest e t founds.Active) (driver_parts w)).driver ≡ served w.driver e =
      after_is (driver_parts w) e t founds.Active reads ∙ ap (λ (b : Bool). if b then served w.driver e else w.driver) reads.waits in
      subst (λ (d : DriverContent). IsAskingWorld g fixed member s a v asks (record w { driver = d })) (sym new_is) (asking_served g fixed member s a v asks w q reads.idle e s.out s.reported)
