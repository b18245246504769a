-- What an event of a driver at work keeps: each line of the report has its bytes, the budgets, the room for the job's line, and the room to
-- mark resets.
use Rattle.std.proofs.Common.{◌≡◌, ℕ, zero, suc, ◌+◌, ◌-◌, ◌≤◌, Bool, true, false, [], length, slice_get, Option, Some, None}
use Rattle.std.proofs.Common.{refl, ap, sym, subst, ◌∙◌, arith}
use Rattle.std.specs.Prelude.{if◌then◌else◌, ◌==◌}
use Rattle.usb_base.specs.declared.endpoints.EndCause.{EndCause}
use Rattle.usb_base.specs.declared.reports.What.{What}
use Rattle.usb_base.specs.declared.reports.What.TheVariants as lines
use Rattle.report_text.specs.ReportText.{AreStored}
use Rattle.drv_chains.specs.declared.boundary.Boundary.{Boundary}
use Rattle.drv_chains.specs.Boundary.{after_reading, is_seen}
use Rattle.usb_base.specs.declared.endpoints.EpName.{EpName}
use Rattle.drv_periodic_table.specs.Periodic.{PeriodicContent}
use Rattle.drv_table.specs.declared.content.Endpoint.{Endpoint}
use Rattle.drv_table.specs.declared.content.Mend.{Mend}
use Rattle.drv_table.specs.declared.content.Reserve.{Reserve}
use Rattle.drv_table.specs.declared.content.Transfer.{Transfer}
use Rattle.drv_table.specs.declared.rows.DriverRow.{DriverRow}
use Rattle.drv_table.specs.declared.rows.DriverRow.TheVariants as plain
use Rattle.drv_table.specs.declared.rows.Found.TheVariants as founds
use Rattle.drv_table.specs.DriverContent.{DriverContent, busy, waits_for}
use Rattle.drv_table.specs.Parts.{Parts}
use Rattle.drv_table.specs.Rows.{driver_row, after_driver_row}
use Rattle.drv_jobs.specs.declared.jobs.Job.{Job}
use Rattle.drv_jobs.specs.declared.jobs.Job.TheVariants as jobs
use Rattle.drv_jobs.specs.declared.jobs.JobRow.{JobRow}
use Rattle.drv_jobs.specs.declared.jobs.JobRow.TheVariants as rows
use Rattle.drv_jobs.specs.declared.jobs.OverlayWord.{OverlayWord}
use Rattle.drv_jobs.specs.declared.jobs.OverlayWord.TheVariants as words
use Rattle.drv_jobs.specs.AtWork.{DriverAtWork, PartsAtWork, owed_lines, free_room}
use Rattle.drv_jobs.specs.Clearing.{mend_of, given_back, reopened, released_from, released_one, still_has}
use Rattle.drv_jobs.specs.HubRequests.{untold, request_failed, cause_of, name_at}
use Rattle.drv_jobs.specs.Jobs.{row_of, parted, stage_row, row_for, job_row, stage_after, stage_read}
use Rattle.drv_jobs.specs.Jobs.{request_ended, ended_for, after_job_row}
use Rattle.law_admission.specs.Budgets.{account_of, KeepsBudgets}
use Rattle.law_admission.proofs.Budgets.{events_keep_budgets, event_rules}
use Rattle.bus_world.specs.Sound.{line_to_come}
use Rattle.bus_world.proofs.Kept.{Keeps, row_keeps, reported_keeps}

abbrev pub work_of : PartsAtWork → DriverAtWork
work_of p = record { driver = p.parts.driver; job = p.job }

-- how many endpoints a row resets
abbrev pub resets : JobRow → ℕ
resets (rows.Resets name) = 1
resets row = 0

pub record KeepsWork (row : JobRow) (p q : PartsAtWork) : Type 0 where
  pub stored : AreStored p.parts.driver.reports (length p.parts.driver.store)
      → AreStored q.parts.driver.reports (length q.parts.driver.store)
  pub budgets : KeepsBudgets (account_of p.parts.driver) → KeepsBudgets (account_of q.parts.driver)
  pub owed : owed_lines p.job ≤ p.parts.driver.room.reports → owed_lines q.job ≤ q.parts.driver.room.reports
  pub marks : (n capacity : ℕ) → owed_lines p.job ≤ p.parts.driver.room.reports
      → n + p.parts.driver.room.reports ≤ capacity + line_to_come p.job
      → n + resets row + q.parts.driver.room.reports ≤ capacity + line_to_come q.job
  pub room : free_room (work_of q) ≡ free_room (work_of p)
  pub rules : q.parts.driver.periodic.plan.rules ≡ p.parts.driver.periodic.plan.rules

-- with the same room, and a job whose line is as far
room_is : (r : Reserve) (m n : ℕ) → m ≡ n → record r { reports = r.reports - m } ≡ record r { reports = r.reports - n }
room_is r m n e = ap (λ (k : ℕ). record r { reports = r.reports - k }) e

same_work : (row : JobRow) (p q : PartsAtWork)
    → (AreStored p.parts.driver.reports (length p.parts.driver.store) → AreStored q.parts.driver.reports (length q.parts.driver.store))
    → (KeepsBudgets (account_of p.parts.driver) → KeepsBudgets (account_of q.parts.driver)) → q.parts.driver.room ≡ p.parts.driver.room
    → owed_lines q.job ≡ owed_lines p.job
    → resets row ≡ 0 → line_to_come p.job ≡ line_to_come q.job → q.parts.driver.periodic.plan.rules ≡ p.parts.driver.periodic.plan.rules
    → KeepsWork row p q
same_work row p q stored budgets room owed none line rules =
    let reports : q.parts.driver.room.reports ≡ p.parts.driver.room.reports = ap (λ (r : Reserve). r.reports) room in
    record {
      stored = stored;
      budgets = budgets;
      owed = λ h. omega (arith, h, reports, owed);
      marks = λ n capacity h k. omega (arith, k, reports, none, line);
      room = ap (λ (r : Reserve). record r { reports = r.reports - owed_lines q.job }) room
          ∙ room_is p.parts.driver.room (owed_lines q.job) (owed_lines p.job) owed;
      rules = rules;
    }

plain_keeps : (p : PartsAtWork) (row : DriverRow) → row ≡ driver_row p.parts
    → KeepsWork (rows.Plain row) p (after_job_row (rows.Plain row) p)
plain_keeps p row e =
    let k : Keeps p.parts.driver (after_driver_row row p.parts).driver = row_keeps row p.parts in
    same_work (rows.Plain row) p (after_job_row (rows.Plain row) p) k.stored
    (λ h. subst (λ (r : DriverRow). KeepsBudgets (account_of (after_driver_row r p.parts).driver)) (sym e) (events_keep_budgets p.parts h))
    k.room refl refl refl
    (ap (λ (r : DriverRow). (after_driver_row r p.parts).driver.periodic.plan.rules) e ∙ event_rules p.parts)

-- the line of a job was written
one_less : (r : Reserve) (n : ℕ) → n ≡ 1 → record r { reports = r.reports - 1 - 0 } ≡ record r { reports = r.reports - n }
one_less r n e =
    let less : r.reports - 1 - 0 ≡ r.reports - n = omega (arith, e) in
    ap (λ (k : ℕ). record r { reports = k }) less

-- ---- the end of the hub's request

done_keeps : (p : PartsAtWork) (e h t n u : ℕ) (x : Endpoint) (y : Transfer) (what : What) → p.job ≡ Some (jobs.Asks e u)
    → KeepsWork (rows.EndsRequest h t n what) p (request_ended p e h t n x y lines.Done)
done_keeps p e h t n u x y what is = record {
  stored = λ s. s;
  budgets = λ b. b;
  owed = λ o. rw is at o;
  marks = λ m capacity o k. let line : line_to_come p.job ≡ 0 = ap line_to_come is in omega (arith, k, line);
  room = room_is p.parts.driver.room 1 (owed_lines p.job) (sym (ap owed_lines is));
  rules = refl;
}

failed_keeps : (p : PartsAtWork) (e h t n u : ℕ) (x : Endpoint) (y : Transfer) (what : What) (cause : EndCause)
    → p.job ≡ Some (jobs.Asks e u)
    → KeepsWork (rows.EndsRequest h t n what) p
    (record { parts = record p.parts { driver = request_failed p.parts.driver e h t n x y cause }; job = None })
failed_keeps p e h t n u x y what cause is = record {
  stored = (reported_keeps (untold p.parts.driver t n y) (lines.ClearFailed cause) (name_at (untold p.parts.driver t n y) e) []).stored;
  budgets = λ b. record { fits = b.fits; room = b.room };
  owed = λ o. omega arith;
  marks = λ m capacity o k. let line : line_to_come p.job ≡ 0 = ap line_to_come is in omega (arith, k, line);
  room = one_less p.parts.driver.room (owed_lines p.job) (ap owed_lines is);
  rules = refl;
}

ended_keeps : (p : PartsAtWork) (e h t n u : ℕ) (x : Endpoint) (y : Transfer) (what : What) → p.job ≡ Some (jobs.Asks e u)
    → KeepsWork (rows.EndsRequest h t n what) p (request_ended p e h t n x y what)
ended_keeps p e h t n u x y lines.Done is = done_keeps p e h t n u x y lines.Done is
ended_keeps p e h t n u x y (lines.Halt cause) is = failed_keeps p e h t n u x y (lines.Halt cause) cause is
ended_keeps p e h t n u x y lines.Miss is = failed_keeps p e h t n u x y lines.Miss (cause_of lines.Miss) is
ended_keeps p e h t n u x y lines.Cancel is = failed_keeps p e h t n u x y lines.Cancel (cause_of lines.Cancel) is
ended_keeps p e h t n u x y (lines.Iso errors) is = failed_keeps p e h t n u x y (lines.Iso errors) (cause_of (lines.Iso errors)) is
ended_keeps p e h t n u x y (lines.Refused line why) is =
    failed_keeps p e h t n u x y (lines.Refused line why) (cause_of (lines.Refused line why)) is
ended_keeps p e h t n u x y lines.Clear is = failed_keeps p e h t n u x y lines.Clear (cause_of lines.Clear) is
ended_keeps p e h t n u x y (lines.ClearFailed cause) is =
    failed_keeps p e h t n u x y (lines.ClearFailed cause) (cause_of (lines.ClearFailed cause)) is
ended_keeps p e h t n u x y (lines.Port port value) is =
    failed_keeps p e h t n u x y (lines.Port port value) (cause_of (lines.Port port value)) is
ended_keeps p e h t n u x y (lines.Disk tag passed) is =
    failed_keeps p e h t n u x y (lines.Disk tag passed) (cause_of (lines.Disk tag passed)) is
ended_keeps p e h t n u x y lines.DiskReset is = failed_keeps p e h t n u x y lines.DiskReset (cause_of lines.DiskReset) is

nothing_keeps : (p : PartsAtWork) (h t n : ℕ) (what : What) → KeepsWork (rows.EndsRequest h t n what) p p
nothing_keeps p h t n what = same_work (rows.EndsRequest h t n what) p p (λ s. s) (λ b. b) refl refl refl refl refl

if_keeps : (b : Bool) (p x : PartsAtWork) (h t n : ℕ) (what : What) → KeepsWork (rows.EndsRequest h t n what) p x
    → KeepsWork (rows.EndsRequest h t n what) p (if b then x else p)
if_keeps true p x h t n what k = k
if_keeps false p x h t n what k = nothing_keeps p h t n what

found_ends : (p : PartsAtWork) (e u h t n : ℕ) (what : What) (x : Option Endpoint) (y : Option Transfer) → p.job ≡ Some (jobs.Asks e u)
    → KeepsWork (rows.EndsRequest h t n what) p (ended_for p (Some (jobs.Asks e u)) h t n what x y)
found_ends p e u h t n what None y is = nothing_keeps p h t n what
found_ends p e u h t n what (Some x) None is = nothing_keeps p h t n what
found_ends p e u h t n what (Some x) (Some y) is =
    if_keeps (waits_for h y) p (request_ended p e h t n x y what) h t n what (ended_keeps p e h t n u x y what is)

request_keeps : (p : PartsAtWork) (e u h t n : ℕ) (what : What) → p.job ≡ Some (jobs.Asks e u)
    → KeepsWork (rows.EndsRequest h t n what) p (after_job_row (rows.EndsRequest h t n what) p)
request_keeps p e u h t n what is =
    subst (λ (job : Option Job). KeepsWork (rows.EndsRequest h t n what) p
    (ended_for p job h t n what (slice_get p.parts.driver.endpoints h) (slice_get p.parts.driver.transfers t))) (sym is)
    (found_ends p e u h t n what (slice_get p.parts.driver.endpoints h) (slice_get p.parts.driver.transfers t) is)

-- ---- the other stages

-- what is given back leaves the report, the plan and the room as they were
record Same (d e : DriverContent) : Type 0 where
  reports : e.reports ≡ d.reports
  store : e.store ≡ d.store
  plan : e.periodic ≡ d.periodic
  room : e.room ≡ d.room

same_all : (d : DriverContent) → Same d d
same_all d = record { reports = refl; store = refl; plan = refl; room = refl }

same_join : (a b c : DriverContent) → Same a b → Same b c → Same a c
same_join a b c h k = record {
  reports = k.reports ∙ h.reports;
  store = k.store ∙ h.store;
  plan = k.plan ∙ h.plan;
  room = k.room ∙ h.room;
}

same_if : (b : Bool) (d : DriverContent) (x y : Parts) → Same d x.driver → Same d y.driver → Same d (if b then x else y).driver
same_if true d x y h k = h
same_if false d x y h k = k

one_same : (p : Parts) (e t : ℕ) (x : Option Transfer) → Same p.driver (released_one p e t x).driver
one_same p e t None = same_all p.driver
one_same p e t (Some x) =
    same_if (still_has p.driver e t x) p.driver _ p (record { reports = refl; store = refl; plan = refl; room = refl }) (same_all p.driver)

from_same : (p : Parts) (e t n : ℕ) → Same p.driver (released_from p e t n).driver
unfolding released_from
from_same p e t zero = same_all p.driver
from_same p e t (suc n) =
    let q : Parts = released_one p e t (slice_get p.driver.transfers t) in
    same_join p.driver q.driver (released_from q e (suc t) n).driver (one_same p e t (slice_get p.driver.transfers t))
    (from_same q e (suc t) n)

stored_as : (d e : DriverContent) → Same d e → AreStored d.reports (length d.store) → AreStored e.reports (length e.store)
stored_as d e same h = rw (same.reports, same.store) h

budgets_as : (d e : DriverContent) → Same d e → KeepsBudgets (account_of d) → KeepsBudgets (account_of e)
budgets_as d e same h = rw (same.plan, same.room) h

reopens_keeps : (p : PartsAtWork) (e : ℕ) (x : Endpoint) → p.job ≡ Some (jobs.Reopens e)
    → KeepsWork (rows.Reopens e) p (record { parts = reopened p.parts e (Some x); job = stage_after p.job })
reopens_keeps p e x is =
    let back : Same p.parts.driver (given_back p.parts e).driver = from_same p.parts e 0 (length p.parts.driver.transfers) in
    let b : DriverContent = (given_back p.parts e).driver in
    let after : stage_after p.job ≡ None = ap stage_after is in
    record {
      stored = λ h. (reported_keeps b lines.Clear x.desc.name []).stored (stored_as p.parts.driver b back h);
      budgets = λ h. let k : KeepsBudgets (account_of b) = budgets_as p.parts.driver b back h in record { fits = k.fits; room = k.room };
      owed = λ o. let z : owed_lines (stage_after p.job) ≡ 0 = ap owed_lines after in omega (arith, z);
      marks = λ m capacity o k.
          let one : 1 ≤ p.parts.driver.room.reports = rw is at o in
          let line : line_to_come p.job ≡ 1 = ap line_to_come is in
          let z : line_to_come (stage_after p.job) ≡ 0 = ap line_to_come after in
          let r : b.room.reports ≡ p.parts.driver.room.reports = ap (λ (x : Reserve). x.reports) back.room in
          omega (arith, k, one, line, z, r);
      room =
          let z : owed_lines (stage_after p.job) ≡ 0 = ap owed_lines after in
          room_is (record b.room { reports = b.room.reports - 1 }) (owed_lines (stage_after p.job)) 0 z
          ∙ ap (λ (x : Reserve). record x { reports = x.reports - 1 - 0 }) back.room
          ∙ one_less p.parts.driver.room (owed_lines p.job) (ap owed_lines is);
      rules = ap (λ (x : PeriodicContent). x.plan.rules) back.plan;
    }

mends_keeps : (p : PartsAtWork) (e : ℕ) (word : OverlayWord) (w : Mend) → p.job ≡ Some (jobs.Mends e word)
    → KeepsWork (rows.Mends w) p (after_job_row (rows.Mends w) p)
mends_keeps p e words.Next w is =
    same_work (rows.Mends w) p (after_job_row (rows.Mends w) p) (λ s. s) (λ b. b) refl
    (ap (λ j. owed_lines (stage_after j)) is ∙ sym (ap owed_lines is)) refl
    (ap line_to_come is ∙ sym (ap (λ j. line_to_come (stage_after j)) is)) refl
mends_keeps p e words.Alternate w is =
    same_work (rows.Mends w) p (after_job_row (rows.Mends w) p) (λ s. s) (λ b. b) refl
    (ap (λ j. owed_lines (stage_after j)) is ∙ sym (ap owed_lines is)) refl
    (ap line_to_come is ∙ sym (ap (λ j. line_to_come (stage_after j)) is)) refl
mends_keeps p e words.Token w is =
    same_work (rows.Mends w) p (after_job_row (rows.Mends w) p) (λ s. s) (λ b. b) refl
    (ap (λ j. owed_lines (stage_after j)) is ∙ sym (ap owed_lines is)) refl
    (ap line_to_come is ∙ sym (ap (λ j. line_to_come (stage_after j)) is)) refl

read_owed : (e : ℕ) (boundary : Boundary) (seen : Bool) → owed_lines (Some (if seen then jobs.Resets e else jobs.Reads e boundary)) ≡ 1
read_owed e boundary true = refl
read_owed e boundary false = refl

read_line : (e : ℕ) (boundary : Boundary) (seen : Bool) → line_to_come (Some (if seen then jobs.Resets e else jobs.Reads e boundary)) ≡ 0
read_line e boundary true = refl
read_line e boundary false = refl

reads_keeps : (p : PartsAtWork) (e n : ℕ) (boundary : Boundary) → p.job ≡ Some (jobs.Reads e boundary)
    → KeepsWork (rows.ReadsFrame n) p (after_job_row (rows.ReadsFrame n) p)
reads_keeps p e n boundary is =
    same_work (rows.ReadsFrame n) p (after_job_row (rows.ReadsFrame n) p) (λ s. s) (λ b. b) refl
    (ap (λ j. owed_lines (stage_read n j)) is
    ∙ read_owed e (after_reading n boundary) (is_seen (after_reading n boundary))
    ∙ sym (ap owed_lines is)) refl
    (ap line_to_come is
    ∙ sym (ap (λ j. line_to_come (stage_read n j)) is ∙ read_line e (after_reading n boundary) (is_seen (after_reading n boundary)))) refl

resets_keeps : (p : PartsAtWork) (e : ℕ) (name : EpName) → p.job ≡ Some (jobs.Resets e)
    → KeepsWork (rows.Resets name) p (after_job_row (rows.Resets name) p)
resets_keeps p e name is = record {
  stored = λ s. s;
  budgets = λ b. b;
  owed = λ o. let one : owed_lines p.job ≡ 1 = ap owed_lines is in let z : owed_lines (stage_after p.job) ≡ 1 = ap
      (λ j. owed_lines (stage_after j)) is in omega (arith, o, one, z);
  marks = λ m capacity o k.
      let line : line_to_come p.job ≡ 0 = ap line_to_come is in
      let z : line_to_come (stage_after p.job) ≡ 1 = ap (λ j. line_to_come (stage_after j)) is in
      omega (arith, k, line, z);
  room = room_is p.parts.driver.room (owed_lines (stage_after p.job)) (owed_lines p.job)
      (ap (λ j. owed_lines (stage_after j)) is ∙ sym (ap owed_lines is));
  rules = refl;
}

-- ---- any row

abbrev KeepsRow : PartsAtWork → JobRow → Type 0
KeepsRow p row = KeepsWork row p (after_job_row row p)

row_if : (p : PartsAtWork) (b : Bool) (x y : JobRow) → KeepsRow p x → KeepsRow p y → KeepsRow p (if b then x else y)
row_if p true x y h k = h
row_if p false x y h k = k

parted_keeps : (p : PartsAtWork) (e t : ℕ) (row : DriverRow) → p.job ≡ Some (jobs.Asks e t) → row ≡ driver_row p.parts
    → KeepsRow p (parted t row)
parted_keeps p e t (plain.Harvest h u (founds.Ended n what)) is same =
    row_if p (u == t) (rows.EndsRequest h u n what) (rows.Plain (plain.Harvest h u (founds.Ended n what)))
    (request_keeps p e t h u n what is)
    (plain_keeps p (plain.Harvest h u (founds.Ended n what)) same)
parted_keeps p e t row is same = plain_keeps p row same

rest_keeps : (p : PartsAtWork) → KeepsRow p (rows.Plain plain.Rest)
rest_keeps p = same_work (rows.Plain plain.Rest) p (after_job_row (rows.Plain plain.Rest) p) (λ s. s) (λ b. b) refl refl refl refl refl

endpoint_keeps : (p : PartsAtWork) (o : Option Endpoint) (row : Endpoint → JobRow) → ((x : Endpoint) → o ≡ Some x → KeepsRow p (row x))
    → KeepsRow p (row_of o row)
endpoint_keeps p None row k = rest_keeps p
endpoint_keeps p (Some x) row k = k x refl

stage_keeps : (p : PartsAtWork) (job : Job) → p.job ≡ Some job → KeepsRow p (stage_row p.parts job)
stage_keeps p (jobs.Asks e t) is = parted_keeps p e t (driver_row p.parts) is refl
stage_keeps p (jobs.Reads e boundary) is = reads_keeps p e p.parts.registers.frame_index boundary is
stage_keeps p (jobs.Resets e) is =
    endpoint_keeps p (slice_get p.parts.driver.endpoints e) (λ x. rows.Resets x.desc.name) (λ x _. resets_keeps p e x.desc.name is)
stage_keeps p (jobs.Mends e word) is =
    endpoint_keeps p (slice_get p.parts.driver.endpoints e) (λ x. rows.Mends (mend_of x word))
    (λ x _. mends_keeps p e word (mend_of x word) is)
stage_keeps p (jobs.Reopens e) is =
    endpoint_keeps p (slice_get p.parts.driver.endpoints e) (λ x. rows.Reopens e)
    (λ x there.
    subst (λ (o : Option Endpoint). KeepsWork (rows.Reopens e) p (record { parts = reopened p.parts e o; job = stage_after p.job }))
    (sym there) (reopens_keeps p e x is))

job_keeps : (p : PartsAtWork) (job : Option Job) → p.job ≡ job → KeepsRow p (row_for p.parts job)
job_keeps p None is = plain_keeps p (driver_row p.parts) refl
job_keeps p (Some job) is =
    row_if p (busy p.parts.driver) (rows.Plain (driver_row p.parts)) (stage_row p.parts job) (plain_keeps p (driver_row p.parts) refl)
    (stage_keeps p job is)

pub work_keeps : (p : PartsAtWork) → KeepsRow p (job_row p)
work_keeps p = job_keeps p p.job refl
