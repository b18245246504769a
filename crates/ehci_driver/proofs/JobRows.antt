-- What each event of the driver with its job leaves: an endpoint is opened again where its job is at that, and the room that isn't used
-- nor to be used by the job stays.
use Rattle.std.proofs.Common.{◌≡◌, ℕ, zero, suc, ◌-◌, ◌==◌, ◌≤◌, nat_lt, Bool, true, false, cond, length, slice_get, Option, Some, None, unwrap_or, Result, Ok, Err, refl, ap, sym, ◌∙◌, arith}
use Rattle.usb_base.specs.Limits.{longest_qtd}
use Rattle.usb_base.specs.declared.endpoints.EndCause.{EndCause}
use Rattle.usb_base.specs.declared.endpoints.EpName.{EpName}
use Rattle.usb_base.specs.declared.reports.OfferError.{OfferError}
use Rattle.usb_base.specs.declared.reports.OfferError.TheVariants as errors
use Rattle.usb_base.specs.declared.reports.What.{What}
use Rattle.usb_base.specs.declared.reports.What.TheVariants as lines
use Rattle.mem_runs.specs.Book.{Holding, holding}
use Rattle.word_mem.specs.Memory.{Mem}
use Rattle.drv_chains.specs.declared.boundary.Boundary.{Boundary}
use Rattle.drv_chains.specs.Boundary.{after_reading, is_seen}
use Rattle.drv_table.specs.declared.content.Endpoint.{Endpoint}
use Rattle.drv_table.specs.declared.content.Transfer.{Transfer}
use Rattle.drv_table.specs.declared.content.Reserve.{Reserve}
use Rattle.drv_table.specs.declared.rows.DriverRow.{DriverRow}
use Rattle.drv_table.specs.declared.rows.DriverRow.TheVariants as rows
use Rattle.drv_table.specs.declared.rows.Found.TheVariants as founds
use Rattle.drv_table.specs.Accepting.{Offered, take_runs}
use Rattle.drv_table.specs.DriverContent.{DriverContent, busy, waits_for, endpoint_of, endpoint_named}
use Rattle.drv_table.specs.Offers.{Asked, with_transfer, taken_transfer, open_transfer, found_transfer, offered_transfer}
use Rattle.drv_table.specs.Parts.{Parts}
use Rattle.drv_table.specs.Words.{needs}
use Rattle.drv_table.specs.Rows.{driver_row}
use Rattle.drv_jobs.specs.declared.jobs.Job.{Job}
use Rattle.drv_jobs.specs.declared.jobs.Job.TheVariants as jobs
use Rattle.drv_jobs.specs.declared.jobs.JobRow.{JobRow}
use Rattle.drv_jobs.specs.declared.jobs.JobRow.TheVariants as works
use Rattle.drv_jobs.specs.declared.jobs.OverlayWord.{OverlayWord}
use Rattle.drv_jobs.specs.declared.jobs.OverlayWord.TheVariants as words
use Rattle.drv_jobs.specs.AtWork.{DriverAtWork, PartsAtWork, owed_lines}
use Rattle.drv_jobs.specs.Clearing.{mend_of, still_has, released_one, released_from, reopened}
use Rattle.drv_jobs.specs.Jobs.{job_row, row_for, row_of, stage_row, parted, after_job_row, ended_for, request_ended, stage_after, stage_read}
use Rattle.ehci_driver.specs.JobEvents.{CanWork}
use Rattle.ehci_driver.specs.Makes.{CanMake}
use Rattle.ehci_driver.proofs.Makes.{row_can}
use Rattle.ehci_driver.proofs.Kept.{row_room}

-- ---- what can be made

abbrev work_of : PartsAtWork → DriverAtWork
work_of p = record { driver = p.parts.driver; job = p.job }

either_work : (w : DriverAtWork) (b : Bool) (x y : JobRow) → CanWork w x → CanWork w y → CanWork w (cond b x y)
either_work w true x y one other = one
either_work w false x y one other = other

parted_can : (w : DriverAtWork) (t : ℕ) (row : DriverRow) → CanMake w.driver row → CanWork w (parted t row)
parted_can w t (rows.Harvest h u (founds.Ended n what)) can =
    either_work w (u == t) (works.EndsRequest h u n what) (works.Plain (rows.Harvest h u (founds.Ended n what))) tt tt
parted_can w t _ can = can

row_of_can : (w : DriverAtWork) (o : Option Endpoint) (f : Endpoint → JobRow) → ((x : Endpoint) → CanWork w (f x)) → CanWork w
    (row_of o f)
row_of_can w None f can = tt
row_of_can w (Some x) f can = can x

stage_can : (p : Parts) (job : Job) → CanWork (record { driver = p.driver; job = Some job }) (stage_row p job)
stage_can p (jobs.Asks e t) = parted_can (record { driver = p.driver; job = Some (jobs.Asks e t) }) t (driver_row p) (row_can p)
stage_can p (jobs.Reads e b) = tt
stage_can p (jobs.Resets e) = row_of_can (record { driver = p.driver; job = Some (jobs.Resets e) }) (slice_get p.driver.endpoints e)
    (λ x. works.Resets x.desc.name) (λ x. tt)
stage_can p (jobs.Mends e word) = row_of_can (record { driver = p.driver; job = Some (jobs.Mends e word) }) (slice_get
    p.driver.endpoints e) (λ x. works.Mends (mend_of x word)) (λ x. tt)
stage_can p (jobs.Reopens e) = row_of_can (record { driver = p.driver; job = Some (jobs.Reopens e) }) (slice_get p.driver.endpoints
    e) (λ x. works.Reopens e) (λ x. refl)

for_can : (p : Parts) (job : Option Job) → CanWork (record { driver = p.driver; job = job }) (row_for p job)
for_can p None = row_can p
for_can p (Some job) = either_work (record { driver = p.driver; job = Some job }) (busy p.driver) (works.Plain (driver_row p))
    (stage_row p job) (row_can p) (stage_can p job)

pub work_can : (p : PartsAtWork) → CanWork (record { driver = p.parts.driver; job = p.job }) (job_row p)
work_can p = for_can p.parts p.job

-- ---- the room

abbrev pub left_in : Reserve → Option Job → Reserve
left_in room job = record room { reports = room.reports - owed_lines job }

abbrev pub room_of : PartsAtWork → Reserve
room_of p = left_in p.parts.driver.room p.job

nothing_off : (n : ℕ) → n - 0 ≡ n
nothing_off n = omega arith

none_left : (room : Reserve) → left_in room None ≡ room
none_left room = ap (λ (n : ℕ). record room { reports = n }) (nothing_off room.reports)

either_room : (p : PartsAtWork) (b : Bool) (x y : JobRow) → room_of (after_job_row x p) ≡ room_of p
    → room_of (after_job_row y p) ≡ room_of p → room_of (after_job_row (cond b x y) p) ≡ room_of p
either_room p true x y one other = one
either_room p false x y one other = other

own_room : (p : PartsAtWork) (row : DriverRow) → room_of (after_job_row (works.Plain row) p) ≡ room_of p
own_room p row = ap (λ (r : Reserve). left_in r p.job) (row_room row p.parts)

request_room : (p : Parts) (e a h t n : ℕ) (x : Endpoint) (y : Transfer) (what : What)
    → room_of (request_ended (record { parts = p; job = Some (jobs.Asks e a) }) e h t n x y what) ≡ left_in p.driver.room (Some
    (jobs.Asks e a))
request_room p e a h t n x y lines.Done = refl
request_room p e a h t n x y _ = none_left (record p.driver.room { reports = p.driver.room.reports - 1 })

waiting_room : (p : Parts) (e a h t n : ℕ) (x : Endpoint) (y : Transfer) (what : What) (b : Bool)
    → room_of (cond b (request_ended (record { parts = p; job = Some (jobs.Asks e a) }) e h t n x y what) (record {
      parts = p;
      job =
          Some (jobs.Asks e a);
    })) ≡ left_in p.driver.room (Some (jobs.Asks e a))
waiting_room p e a h t n x y what true = request_room p e a h t n x y what
waiting_room p e a h t n x y what false = refl

ended_room : (p : Parts) (e a h t n : ℕ) (what : What) (ox : Option Endpoint) (oy : Option Transfer)
    → room_of (ended_for (record { parts = p; job = Some (jobs.Asks e a) }) (Some (jobs.Asks e a)) h t n what ox oy) ≡ left_in
    p.driver.room (Some (jobs.Asks e a))
ended_room p e a h t n what (Some x) (Some y) = waiting_room p e a h t n x y what (waits_for h y)
ended_room p e a h t n what None oy = refl
ended_room p e a h t n what (Some x) None = refl

parted_room : (p : Parts) (e a t : ℕ) (row : DriverRow)
    → room_of (after_job_row (parted t row) (record { parts = p; job = Some (jobs.Asks e a) })) ≡ left_in p.driver.room (Some
    (jobs.Asks e a))
parted_room p e a t (rows.Harvest h u (founds.Ended n what)) =
    either_room (record { parts = p; job = Some (jobs.Asks e a) }) (u == t) (works.EndsRequest h u n what) (works.Plain (rows.Harvest
    h u (founds.Ended n what)))
    (ended_room p e a h u n what (slice_get p.driver.endpoints h) (slice_get p.driver.transfers u))
    (own_room (record { parts = p; job = Some (jobs.Asks e a) }) (rows.Harvest h u (founds.Ended n what)))
parted_room p e a t (rows.Harvest h u found) = own_room (record { parts = p; job = Some (jobs.Asks e a) }) (rows.Harvest h u found)
parted_room p e a t row = own_room (record { parts = p; job = Some (jobs.Asks e a) }) row

reading_room : (p : Parts) (e : ℕ) (b : Boundary) (seen : Bool)
    → left_in p.driver.room (Some (cond seen (jobs.Resets e) (jobs.Reads e b))) ≡ left_in p.driver.room (Some (jobs.Resets e))
reading_room p e b true = refl
reading_room p e b false = refl

-- what is given back leaves the room as it is
given_room : (d : DriverContent) (b : Bool) (p q : Parts) → p.driver.room ≡ d.room → q.driver.room ≡ d.room
    → (cond b p q).driver.room ≡ d.room
given_room d true p q one other = one
given_room d false p q one other = other

one_room : (p : Parts) (e t : ℕ) (o : Option Transfer) → (released_one p e t o).driver.room ≡ p.driver.room
one_room p e t None = refl
one_room p e t (Some x) = given_room p.driver (still_has p.driver e t x) _ p refl refl

released_room : (p : Parts) (e t n : ℕ) → (released_from p e t n).driver.room ≡ p.driver.room
unfolding released_from
released_room p e t zero = refl
released_room p e t (suc n) = released_room (released_one p e t (slice_get p.driver.transfers t)) e (suc t) n ∙ one_room p e t
    (slice_get p.driver.transfers t)

reopened_room : (p : Parts) (e : ℕ) (x : Endpoint)
    → left_in (reopened p e (Some x)).driver.room None ≡ left_in p.driver.room (Some (jobs.Reopens e))
reopened_room p e x = none_left _ ∙ ap (λ (r : Reserve). record r { reports = r.reports - 1 }) (released_room p e 0 (length
    p.driver.transfers))

reopens_room : (p : Parts) (e : ℕ) (o : Option Endpoint) → slice_get p.driver.endpoints e ≡ o
    → room_of (after_job_row (row_of o (λ x. works.Reopens e)) (record { parts = p; job = Some (jobs.Reopens e) })) ≡ left_in
    p.driver.room (Some (jobs.Reopens e))
reopens_room p e None there = refl
reopens_room p e (Some x) there = ap (λ o. left_in (reopened p e o).driver.room None) there ∙ reopened_room p e x

resets_room : (p : Parts) (e : ℕ) (o : Option Endpoint)
    → room_of (after_job_row (row_of o (λ x. works.Resets x.desc.name)) (record { parts = p; job = Some (jobs.Resets e) })) ≡ left_in
    p.driver.room (Some (jobs.Resets e))
resets_room p e None = refl
resets_room p e (Some x) = refl

mended_room : (p : Parts) (e : ℕ) (word : OverlayWord) (o : Option Endpoint)
    → room_of (after_job_row (row_of o (λ x. works.Mends (mend_of x word))) (record { parts = p; job = Some (jobs.Mends e word) })) ≡
    left_in p.driver.room (Some (jobs.Mends e word))
mended_room p e word None = refl
mended_room p e words.Next (Some x) = refl
mended_room p e words.Alternate (Some x) = refl
mended_room p e words.Token (Some x) = refl

stage_room : (p : Parts) (job : Job)
    → room_of (after_job_row (stage_row p job) (record { parts = p; job = Some job })) ≡ left_in p.driver.room (Some job)
stage_room p (jobs.Asks e t) = parted_room p e t t (driver_row p)
stage_room p (jobs.Reads e b) = reading_room p e (after_reading p.registers.frame_index b) (is_seen (after_reading
    p.registers.frame_index b))
stage_room p (jobs.Resets e) = resets_room p e (slice_get p.driver.endpoints e)
stage_room p (jobs.Mends e word) = mended_room p e word (slice_get p.driver.endpoints e)
stage_room p (jobs.Reopens e) = reopens_room p e (slice_get p.driver.endpoints e) refl

for_room : (p : Parts) (job : Option Job)
    → room_of (after_job_row (row_for p job) (record { parts = p; job = job })) ≡ left_in p.driver.room job
for_room p None = own_room (record { parts = p; job = None }) (driver_row p)
for_room p (Some job) = either_room (record { parts = p; job = Some job }) (busy p.driver) (works.Plain (driver_row p)) (stage_row p
    job) (own_room (record { parts = p; job = Some job }) (driver_row p)) (stage_room p job)

pub work_room : (p : PartsAtWork) → room_of (after_job_row (job_row p) p) ≡ room_of p
work_room p = for_room p.parts p.job

-- ---- what is owed

pub next_owed : (job : Option Job) → owed_lines (stage_after job) ≤ owed_lines job
next_owed None = omega arith
next_owed (Some (jobs.Asks e t)) = omega arith
next_owed (Some (jobs.Reads e b)) = omega arith
next_owed (Some (jobs.Resets e)) = omega arith
next_owed (Some (jobs.Mends e words.Next)) = omega arith
next_owed (Some (jobs.Mends e words.Alternate)) = omega arith
next_owed (Some (jobs.Mends e words.Token)) = omega arith
next_owed (Some (jobs.Reopens e)) = omega arith

pub read_owed : (n : ℕ) (job : Option Job) → owed_lines (stage_read n job) ≤ owed_lines job
read_owed n None = omega arith
read_owed n (Some (jobs.Reads e b)) = omega arith
read_owed n (Some (jobs.Asks e t)) = omega arith
read_owed n (Some (jobs.Resets e)) = omega arith
read_owed n (Some (jobs.Mends e word)) = omega arith
read_owed n (Some (jobs.Reopens e)) = omega arith

-- ---- the room behind an accepted request

same_offer : (a b : Offered) → ◌≡◌ {A = Result Offered OfferError} (Ok a) (Ok b) → a ≡ b
same_offer a b e = cc

taken_left : (d : DriverContent) (e : ℕ) (x : Endpoint) (a : Asked) (r : Result Holding OfferError) (o : Offered)
    → taken_transfer d e x a r ≡ Ok o → o.driver.room ≡ with_transfer d.room a.most
taken_left d e x a (Ok h) o is = sym (ap (λ (v : Offered). v.driver.room) (same_offer _ _ is))
taken_left d e x a (Err why) o is = absurd cc

long_left : (d : DriverContent) (m : Mem) (e : ℕ) (x : Endpoint) (a : Asked) (b : Bool) (o : Offered)
    → cond b (Err errors.TooLong) (taken_transfer d e x a (take_runs (holding d.book m) (needs a.stages))) ≡ Ok o
    → o.driver.room ≡ with_transfer d.room a.most
long_left d m e x a true o is = absurd cc
long_left d m e x a false o is = taken_left d e x a (take_runs (holding d.book m) (needs a.stages)) o is

open_left : (d : DriverContent) (m : Mem) (e : ℕ) (x : Endpoint) (a : Asked) (c : Option EndCause) (o : Offered)
    → open_transfer d m e x a c ≡ Ok o → o.driver.room ≡ with_transfer d.room a.most
open_left d m e x a None o is = long_left d m e x a (nat_lt longest_qtd a.most) o is
open_left d m e x a (Some cause) o is = absurd cc

takes_left : (d : DriverContent) (m : Mem) (e : ℕ) (x : Endpoint) (a : Asked) (b : Bool) (o : Offered)
    → cond b (open_transfer d m e x a x.ended) (Err errors.NoEndpoint) ≡ Ok o → o.driver.room ≡ with_transfer d.room a.most
takes_left d m e x a true o is = open_left d m e x a x.ended o is
takes_left d m e x a false o is = absurd cc

found_left : (d : DriverContent) (m : Mem) (takes : Endpoint → Bool) (a : Asked) (e : ℕ) (x : Option Endpoint) (o : Offered)
    → found_transfer d m takes a e x ≡ Ok o → o.driver.room ≡ with_transfer d.room a.most
found_left d m takes a e None o is = absurd cc
found_left d m takes a e (Some x) o is = takes_left d m e x a (takes x) o is

pub asked_left : (d : DriverContent) (m : Mem) (name : EpName) (takes : Endpoint → Bool) (a : Asked) (o : Offered)
    → offered_transfer d m name takes a ≡ Ok o → o.driver.room ≡ with_transfer d.room a.most
asked_left d m name takes a o is = found_left d m takes a (unwrap_or (endpoint_of d name) 0) (endpoint_named d name) o is
