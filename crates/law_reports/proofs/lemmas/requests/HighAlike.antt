-- Where a driver's content has the same queues, and the lines of its control endpoints, their requests stand as they did.
use Rattle.std.proofs.Common.{◌≡◌, ℕ, ◌*◌, ◌++◌, Bool, true, slice_get, Some, None, refl, ap, ◌∙◌}
use Rattle.word_mem.specs.Memory.{Mem}
use Rattle.usb_base.specs.declared.endpoints.EpName.{EpName}
use Rattle.bus_wire.specs.Bus.{Wired}
use Rattle.drv_table.specs.declared.content.Endpoint.{Endpoint}
use Rattle.drv_table.specs.declared.content.Transfer.{Transfer}
use Rattle.drv_table.specs.DriverContent.{DriverContent}
use Rattle.drv_table.specs.Harvests.{note_at}
use Rattle.law_driver.specs.endpoint_lives.Lives.{told_end}
use Rattle.law_driver.specs.queued_drivers.Rows.{QueuesAlike}
use Rattle.law_queues.specs.told_endpoints.Telling.{lines_in}
use Rattle.law_structures.specs.lent_structures.Structures.{StructureSets}
use Rattle.claims_report.specs.Requests.{Request}
use Rattle.law_devices.specs.Controls.{control_of}
use Rattle.law_ring.specs.Hand.{Hand}
use Rattle.law_devices.specs.ring_requests.Runs.{first_of}
use Rattle.claims_world.specs.Requests.{Windows}
use Rattle.law_reports.specs.requests.driver_requests.Rows.{KeepsRequests}
use Rattle.law_reports.specs.requests.Courses.{CoursesStand, have_queues}
use Rattle.law_reports.proofs.lemmas.requests.Rows.{accepted_keeps_records}
use Rattle.law_reports.specs.requests.Asking.{Sides, Asking, has_left, is_next_of, IsPublishing, IsReadTo, IsMetControl, IsUnheard, AsksIn}
use Rattle.law_reports.specs.requests.Missed.{MissNone}
use Rattle.law_reports.specs.requests.told_requests.Told.{has_cancel}
use Rattle.law_reports.proofs.lemmas.requests.Leaving.{LinesLeave}

-- h, with all of d's queues
abbrev pub alike_in : DriverContent → DriverContent → DriverContent
alike_in d h = record h {
  endpoints = d.endpoints;
  transfers = d.transfers;
  notes = d.notes;
  command = d.command;
  made = d.made;
  mends = d.mends;
  waiting = d.waiting;
  rung = d.rung;
}

pub is_alike_in : (d f : DriverContent) → QueuesAlike d f → f ≡ alike_in d f
is_alike_in d f k = λ i. record f {
  endpoints = k.endpoints i;
  transfers = k.transfers i;
  notes = k.notes i;
  command = k.command i;
  made = k.made i;
  mends = k.mends i;
  waiting = k.waiting i;
  rung = k.rung i;
}

module _ (g : Sides) (member : ℕ → Bool) (parts now : StructureSets) (hand later : Hand) (a : Asking) (v : Windows) (asks : ℕ → Request)
    (d h : DriverContent) (m new : Mem) (wire : Wired)
    (q : AsksIn g member parts hand a v asks d m wire) where
  abbrev f : DriverContent
  f = alike_in d h

  met_was : (e : ℕ) (x : Endpoint) → IsMetControl g (alike_in d h) e x → IsMetControl g d e x
  met_was e x k = record {
    is = record { here = k.is.here; control = k.is.control };
    met = record { there = record { linked = k.met.there.linked; kept = k.met.there.kept }; near = k.met.near };
  }

  keeps : (i : ℕ) → KeepsRequests None d (alike_in d h) i
  keeps i = record {
    endpoint = λ x here. record { own = x; here = here; desc = refl; queue = refl; gone = refl };
    transfers = λ t y here of. record
        { own = y; here = here; endpoint = refl; sort = refl; first = refl; qtds = refl; held = λ other. refl };
    notes = λ t b y here of held piece. refl;
  }

  pub alike_asks : MissNone (have_queues a.courses) (alike_in d h) now later
      → CoursesStand control_of member a.courses now later wire
      → ((e : ℕ) (x : Endpoint) → IsMetControl g d e x → is_next_of d e ≡ true
      → IsPublishing (alike_in d h) new x (now (32 * x.queue)) (a.courses (32 * x.queue)) (a.numbers (32 * x.queue)))
      → ((e t : ℕ) (x : Endpoint) (y : Transfer) → IsMetControl g d e x → told_end x ≡ None → x.next ≡ Some t
      → slice_get d.transfers t ≡ Some y
      → IsReadTo later now (32 * x.queue) (note_at d.notes) y ((a.numbers (32 * x.queue)).requests.requests 0))
      → ((e : ℕ) (x : Endpoint) → IsMetControl g d e x → LinesLeave d (alike_in d h) asks v e x.desc.name (g.whole x.desc.name))
      → ((name : EpName) → IsUnheard d name → lines_in name h.reports ≡ lines_in name d.reports)
      → AsksIn g member now later a v asks (alike_in d h) new wire
  alike_asks unmissed stand publishing read tells lines = record {
    stand = stand;
    records = accepted_keeps_records d f asks a.courses a.numbers (has_left g d) v keeps refl q.records;
    each = λ e x is.
        let k = q.each e x (met_was e x is) in
        record {
          queue = k.queue;
          endpoint = k.endpoint;
          number = k.number;
          tail = k.tail;
          count = k.count;
          newest = k.newest;
          next =
              k.next;
          ended = k.ended;
          owed = k.owed;
        };
    asked = q.asked;
    publishing = λ e x is next. publishing e x (met_was e x is) next;
    read = λ e t x y is. read e t x y (met_was e x is);
    telling = λ e x is.
        let k = q.telling e x (met_was e x is) in
        let l : LinesLeave d f asks v e x.desc.name (g.whole x.desc.name) = tells e x (met_was e x is) in
        record {
          reported = k.reported;
          untold = k.untold;
          closed = k.closed;
          going = k.going;
          uncancelled = ap has_cancel l.lines ∙ k.uncancelled;
          telling = l.telling k.reported
              (k.untold ++ first_of (a.numbers (32 * x.queue)).number (a.numbers (32 * x.queue)).requests.count) k.telling;
        };
    given = λ e x is. q.given e x (record { here = is.here; control = is.control });
    counts = λ e x is off. let k = q.counts e x (record { here = is.here; control = is.control }) off in
        record { device = k.device; is = k.is; acted = k.acted };
    unopened = q.unopened;
    untold = λ name none. lines name none ∙ q.untold name none;
    unmissed = unmissed;
  }
