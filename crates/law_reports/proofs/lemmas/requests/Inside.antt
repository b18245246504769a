-- What is asked stays where the driver goes on with its unfinished command.
use Rattle.std.proofs.Common.{◌≡◌, ℕ, ◌*◌, Bool, true, slice_get, Option, Some, None, refl}
use Rattle.word_mem.specs.Memory.{Mem}
use Rattle.mem_runs.specs.Book.{Book}
use Rattle.bus_wire.specs.Bus.{Wired}
use Rattle.drv_table.specs.declared.content.Command.{Command}
use Rattle.drv_table.specs.declared.content.Endpoint.{Endpoint}
use Rattle.drv_table.specs.declared.content.Transfer.{Transfer}
use Rattle.drv_table.specs.DriverContent.{DriverContent}
use Rattle.drv_table.specs.Harvests.{note_at}
use Rattle.law_driver.specs.endpoint_lives.Lives.{told_end}
use Rattle.law_structures.specs.lent_structures.Structures.{StructureSets}
use Rattle.claims_report.specs.Requests.{Request}
use Rattle.law_ring.specs.Hand.{Hand}
use Rattle.law_devices.specs.Controls.{control_of}
use Rattle.claims_world.specs.Requests.{Windows}
use Rattle.law_reports.specs.requests.driver_requests.Rows.{KeepsRequests}
use Rattle.law_reports.specs.requests.Courses.{CoursesStand, have_queues}
use Rattle.law_reports.proofs.lemmas.requests.Rows.{accepted_keeps_records}
use Rattle.law_reports.specs.requests.Asking.{Sides, Asking, has_left, is_next_of, IsPublishing, IsReadTo, IsMetControl, AsksIn}
use Rattle.law_reports.specs.requests.Missed.{MissNone}

-- ---- the driver goes on with its command

-- what it has of endpoints, transfers and notes stays
pub same_requests : (d : DriverContent) (book : Book) (made : ℕ) (command : Option Command) (i : ℕ)
    → KeepsRequests None d (record d { book = book; made = made; command = command }) i
same_requests d book made command i = record {
  endpoint = λ x here. record { own = x; here = here; desc = refl; queue = refl; gone = refl };
  transfers = λ t y here of. record { own = y; here = here; endpoint = refl; sort = refl; first = refl; qtds = refl; held = λ other. refl };
  notes = λ t b y here of held piece. refl;
}

module _ (g : Sides) (member : ℕ → Bool) (parts now : StructureSets) (hand : Hand) (a : Asking) (v : Windows) (asks : ℕ → Request)
    (d : DriverContent) (m new : Mem) (wire : Wired) (book : Book) (made : ℕ)
    (q : AsksIn g member parts hand a v asks d m wire) where
  abbrev pub onward : DriverContent
  onward = record d { book = book; made = made }

  pub met_before : (e : ℕ) (x : Endpoint) → IsMetControl g onward e x → IsMetControl g d e x
  met_before e x k = record {
    is = record { here = k.is.here; control = k.is.control };
    met = record { there = record { linked = k.met.there.linked; kept = k.met.there.kept }; near = k.met.near };
  }

  pub goes_on : MissNone (have_queues a.courses) (record d { book = book; made = made }) now hand
      → CoursesStand control_of member a.courses now hand wire
      → ((e : ℕ) (x : Endpoint) → IsMetControl g d e x → is_next_of d e ≡ true → IsPublishing onward new x (now (32 * x.queue)) (a.courses (32 * x.queue)) (a.numbers (32 * x.queue)))
      → ((e t : ℕ) (x : Endpoint) (y : Transfer) → IsMetControl g d e x → told_end x ≡ None → x.next ≡ Some t → slice_get d.transfers t ≡ Some y
      → IsReadTo hand now (32 * x.queue) (note_at d.notes) y ((a.numbers (32 * x.queue)).requests.requests 0))
      → AsksIn g member now hand a v asks onward new wire
  goes_on unmissed stand publishing read = record {
    stand = stand;
    records = accepted_keeps_records d onward asks a.courses a.numbers (has_left g d) v (same_requests d book made d.command) refl
        q.records;
    each = λ e x is.
        let k = q.each e x (met_before e x is) in
        record { queue = k.queue; endpoint = k.endpoint; number = k.number; tail = k.tail; count = k.count; newest = k.newest; next = k.next; ended = k.ended; owed = k.owed };
    asked = q.asked;
    publishing = λ e x is next. publishing e x (met_before e x is) next;
    read = λ e t x y is. read e t x y (met_before e x is);
    telling = λ e x is.
        let k = q.telling e x (met_before e x is) in
        record { reported = k.reported; untold = k.untold; closed = k.closed; going = k.going; uncancelled = k.uncancelled; telling = record { numbers = k.telling.numbers; told = k.telling.told; wait = k.telling.wait } };
    given = λ e x is. q.given e x (record { here = is.here; control = is.control });
    counts = λ e x is off. let k = q.counts e x (record { here = is.here; control = is.control }) off in record { device = k.device; is = k.is; acted = k.acted };
    unopened = q.unopened;
    untold = q.untold;
    unmissed = unmissed;
  }
