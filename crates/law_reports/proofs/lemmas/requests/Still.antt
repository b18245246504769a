-- Rows of the driver that store no word and read no token leave the requests of a world as they must stand.
use Rattle.std.proofs.Common.{[], ◌≡◌, ℕ, ◌*◌, Bool, true, false, not, ◌&&◌, List, ◌++◌, slice_get, Option, Some, None, refl, sym, subst, ◌∙◌}
use Rattle.std.proofs.lemmas.Bool.{false≢true}
use Rattle.bus_wire.specs.Bus.{Fixed}
use Rattle.op_registers.specs.RegisterFile.{RegisterFile}
use Rattle.op_registers.specs.Table.{after_write}
use Rattle.drv_periodic_table.specs.declared.content.Removal.{Removal}
use Rattle.drv_periodic_table.specs.Periodic.{read_again}
use Rattle.drv_table.specs.declared.content.Bell.{Bell}
use Rattle.drv_table.specs.declared.content.Bell.TheVariants as bells
use Rattle.drv_table.specs.declared.content.Command.{Command}
use Rattle.drv_table.specs.declared.content.Endpoint.{Endpoint as DriverEndpoint}
use Rattle.drv_table.specs.declared.content.Turn.{Turn}
use Rattle.drv_table.specs.declared.content.Turn.TheVariants as turns
use Rattle.drv_table.specs.declared.rows.DriverRow.{DriverRow}
use Rattle.drv_table.specs.declared.rows.DriverRow.TheVariants as rows
use Rattle.drv_table.specs.DriverContent.{DriverContent}
use Rattle.drv_table.specs.Rows.{after_driver_row}
use Rattle.drv_table.specs.Leaving.{doorbell_command, bell_after}
use Rattle.law_driver.specs.run_owners.Due.{IsDue}
use Rattle.law_queues.specs.leaving_drivers.Before.{NearSame}
use Rattle.law_queues.proofs.lemmas.leaving_drivers.Leaving.{bell_is_as_before, status_is_as_before, frame_is_as_before}
use Rattle.claims_report.specs.Requests.{Request}
use Rattle.law_reports.specs.requests.driver_requests.Rows.{KeepsRequests}
use Rattle.bus_world.specs.World.{World, driver_parts, with_parts}
use Rattle.law_world.specs.steps.Streaming.{Standing}
use Rattle.claims_world.specs.Requests.{Windows}
use Rattle.law_world.specs.streams.FeedingLaws.{is_still}
use Rattle.law_reports.specs.requests.Records.{AreRecords}
use Rattle.law_reports.proofs.lemmas.requests.Rows.{accepted_keeps_records}
use Rattle.law_reports.specs.requests.Asking.{Sides, Asking, has_left, left_with, IsPublishingBy, IsMetControl, IsAskingWorld}
use Rattle.law_reports.proofs.lemmas.requests.Missed.{idle_misses}
use Rattle.law_reports.specs.requests.Courses.{have_queues}

-- what such a row changes of the driver's content
abbrev stilled : DriverContent → List ℕ → List ℕ → List ℕ → Bell → Turn → Bool → List Removal → DriverContent
stilled d cleared rung waiting bell turn status_next removals =
    record d { cleared = cleared; rung = rung; waiting = waiting; bell = bell; turn = turn; periodic = record d.periodic { status_next = status_next; removals = removals } }

module _ (g : Sides) (fixed : Fixed) (member : ℕ → Bool) (s : Standing) (a : Asking) (v : Windows) (asks : ℕ → Request) (w : World)
    (q : IsAskingWorld g fixed member s a v asks w) where
  module _ (cleared rung waiting : List ℕ) (bell : Bell) (turn : Turn) (status_next : Bool) (removals : List Removal)
      (registers : RegisterFile) (idle : w.driver.command ≡ None)
      (near : NearSame w.driver (stilled w.driver cleared rung waiting bell turn status_next removals)) where
    abbrev d : DriverContent
    d = w.driver

    abbrev f : DriverContent
    f = stilled w.driver cleared rung waiting bell turn status_next removals

    left_before : (e : ℕ) (o : Option DriverEndpoint) → slice_get w.driver.endpoints e ≡ o
        → left_with g (stilled w.driver cleared rung waiting bell turn status_next removals) e o ≡ true → left_with g w.driver e o ≡ true
    left_before e None here on = absurd (false≢true on)
    left_before e (Some z) here on = subst (λ (b : Bool). (g.asks z.desc && not b) ≡ true) (near e z z here here) on

    was_met : (e : ℕ) (z : DriverEndpoint) → IsMetControl g (stilled w.driver cleared rung waiting bell turn status_next removals) e z
        → IsMetControl g w.driver e z
    was_met e z is = record {
      is = record { here = is.is.here; control = is.is.control };
      met = record { there = record { linked = is.met.there.linked; kept = is.met.there.kept }; near = sym (near e z z is.is.here is.is.here) ∙ is.met.near };
    }

    keeps : (i : ℕ) → KeepsRequests None w.driver (stilled w.driver cleared rung waiting bell turn status_next removals) i
    keeps i = record {
      endpoint = λ z here. record { own = z; here = here; desc = refl; queue = refl; gone = refl };
      transfers = λ t y here of. record { own = y; here = here; endpoint = refl; sort = refl; first = refl; qtds = refl; held = λ none. refl };
      notes = λ t b y here of held piece. refl;
    }

    records_then : AreRecords (stilled w.driver cleared rung waiting bell turn status_next removals) asks a.courses a.numbers (has_left g (stilled w.driver cleared rung waiting bell turn status_next removals)) v
    records_then =
        let k = accepted_keeps_records d f asks a.courses a.numbers (has_left g d) v keeps refl q.records in
        record { each = k.each; left = λ e left. k.left e (left_before e (slice_get w.driver.endpoints e) refl left); none = k.none }

    pub asking_stilled : IsAskingWorld g fixed member s a v asks (record w { driver = stilled w.driver cleared rung waiting bell turn status_next removals; registers = registers })
    asking_stilled = record {
      stand = q.stand;
      records = records_then;
      each = λ e z is.
          let h = q.each e z (was_met e z is) in
          record { queue = h.queue; endpoint = h.endpoint; number = h.number; tail = h.tail; count = h.count; newest = h.newest; next = h.next; ended = h.ended; owed = h.owed };
      asked = q.asked;
      publishing = λ e z is on. subst (λ (o : Option Command). IsPublishingBy f w.memory z (s.parts (32 * z.queue)) (a.courses (32 * z.queue)) (a.numbers (32 * z.queue)) o) (sym idle) tt;
      read = λ e t z y is going next here. q.read e t z y (was_met e z is) going next here;
      telling = λ e z is.
          let h = q.telling e z (was_met e z is) in
          record {
            reported = h.reported;
            untold = h.untold;
            closed = h.closed;
            going = h.going;
            uncancelled = h.uncancelled;
            telling = record { numbers = h.telling.numbers; told = h.telling.told; wait = h.telling.wait };
          };
      given = λ e z is. q.given e z (record { here = is.here; control = is.control });
      counts = λ e z is off.
          let h = q.counts e z (record { here = is.here; control = is.control }) off in
          record { device = h.device; is = h.is; acted = h.acted };
      unopened = q.unopened;
      untold = q.untold;
      unmissed = idle_misses (have_queues a.courses) w.driver f s.parts s.hand idle q.unmissed;
    }

  abbrev after_row : DriverRow → World
  after_row row = with_parts w (after_driver_row row (driver_parts w))

  pub still_row : (row : DriverRow) → IsDue (driver_parts w) row → is_still row ≡ true
      → IsAskingWorld g fixed member s a v asks (with_parts w (after_driver_row row (driver_parts w)))
  still_row rows.RingBell due still =
      asking_stilled w.driver.cleared (w.driver.rung ++ w.driver.waiting) [] bells.Rung turns.Harvest w.driver.periodic.status_next w.driver.periodic.removals
      (after_write w.registers 0x00 doorbell_command) due.0 (bell_is_as_before (driver_parts w) due.0).1
  still_row (rows.ReadStatus heard) due still =
      asking_stilled w.driver.cleared w.driver.rung w.driver.waiting (bell_after heard) turns.Harvest false w.driver.periodic.removals
      w.registers due.0 (status_is_as_before (driver_parts w) heard due.0).1
  still_row (rows.ReadFrame n) due still =
      asking_stilled w.driver.cleared w.driver.rung w.driver.waiting w.driver.bell turns.Harvest true (read_again n w.driver.periodic.removals)
      w.registers due.0 (frame_is_as_before (driver_parts w) n due.0).1
  still_row rows.Rest due still = q
  still_row _ due still = absurd (false≢true still)
