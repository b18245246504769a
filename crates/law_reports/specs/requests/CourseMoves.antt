-- How an event of the driver, or a command, moves the queue of a control endpoint and the numbers of its transfers (EHCI 1.0, 3.5, 4.8 and
-- 4.10; USB 2.0, 8.5.3).
--     CourseMoves ended c a d b
--                     the queue stood as c with the numbers a, and stands as d with the numbers b, when its endpoint has ended or not: it
--                     stays; a request is accepted; one is published, behind others, as the first one, or while the queue head is halted;
--                     the first one is done, with others behind it or none; the queue head is halted, or mended; the endpoint comes or goes
use Rattle.std.specs.Prelude.{◌≡◌, ◌<◌, ℕ, Bool, true}
use Rattle.usb_base.specs.declared.endpoints.EndCause.TheVariants as Causes
use Rattle.dev_control.specs.Stages.{Stages}
use Rattle.claims_report.specs.Requests.{Request}
use Rattle.law_request.specs.Host.{Done, Halted, is_over}
use Rattle.law_devices.specs.ring_requests.Laid.{Places}
use Rattle.law_devices.specs.ring_requests.Windows.{Queue, Lines, lines_at, stage_of}
use Rattle.law_devices.specs.request_stores.Published.{with_request, without_first}
use Rattle.law_reports.specs.requests.Courses.{Course, NoQueue, Asks, Rests}
use Rattle.law_reports.specs.requests.QueueChanges.{without_requests, lines_behind, mended_course}
use Rattle.law_reports.specs.requests.Records.{Numbers}
use Rattle.law_reports.specs.requests.TransferChanges.{accepted_in, first_closed, all_closed}

pub data CourseMoves (ended : Bool) (c : Course) (a : Numbers) (d : Course) (b : Numbers) : Type 0 where
  is_same : d ≡ c → b ≡ a → CourseMoves ended c a d b
  -- it isn't published yet
  accepts : (t : ℕ) (r : Request) (x : Places) → d ≡ c → b ≡ accepted_in a t r x → CourseMoves ended c a d b
  is_behind : (v : Queue) (m k : ℕ) (l : Lines) (r : Request) (x : Places) → c ≡ Asks v m l → d ≡ Asks (with_request v r x) k l → b ≡ a
      → CourseMoves ended c a d b
  is_first : (v : Queue) (m k : ℕ) (s : Stages) (ping : Bool) (r : Request) (x : Places) → c ≡ Rests v m s → v.count ≡ 0
      → d ≡ Asks (with_request v r x) k (lines_at (with_request v r x) ping s) → b ≡ a → CourseMoves ended c a d b
  is_waiting : (v : Queue) (m k : ℕ) (s : Stages) (r : Request) (x : Places) → c ≡ Rests v m s → d ≡ Rests (with_request v r x) k s → b ≡ a
      → CourseMoves ended c a d b
  first_done : (v : Queue) (m : ℕ) (l : Lines) → c ≡ Asks v m l → 1 < v.count → (l.under ≡ 0 → stage_of l ≡ Done)
      → d ≡ Asks (without_first v) m (lines_behind v l) → b ≡ first_closed a → CourseMoves ended c a d b
  last_done : (v : Queue) (m : ℕ) (l : Lines) → c ≡ Asks v m l → v.count ≡ 1 → stage_of l ≡ Done
      → d ≡ Rests (without_first v) m (l.line 0).device → b ≡ first_closed a → CourseMoves ended c a d b
  -- where errors halted it the endpoint has ended
  halts : (v : Queue) (m : ℕ) (l : Lines) → c ≡ Asks v m l → is_over (stage_of l) ≡ true
      → (stage_of l ≡ Halted Causes.Error → ended ≡ true) → d ≡ Rests (without_requests v) m (l.line l.under).device → b ≡ all_closed a
      → CourseMoves ended c a d b
  mends : (v : Queue) (m : ℕ) (s : Stages) (ping : Bool) → c ≡ Rests v m s → d ≡ mended_course v m ping s → b ≡ a
      → CourseMoves ended c a d b
  opens : (v : Queue) (m : ℕ) (s : Stages) → c ≡ NoQueue → v.count ≡ 0 → d ≡ Rests v m s → b.requests.count ≡ 0
      → CourseMoves ended c a d b
  leaves : d ≡ NoQueue → CourseMoves ended c a d b
