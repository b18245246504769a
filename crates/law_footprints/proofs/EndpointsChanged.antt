-- Each row changes the list of endpoints in one of the ways of specs/Changes.antt.
use Rattle.std.proofs.Common.{◌≡◌, ℕ, suc, ◌-◌, Bool, true, false, cond, nat_lt, is_none, length, set, slice_get, Option, Some, None, refl, sym, subst}
use Rattle.usb_base.specs.declared.endpoints.EndCause.{EndCause}
use Rattle.word_mem.specs.Memory.{Mem}
use Rattle.mem_runs.specs.Book.{holding, lend_taken}
use Rattle.drv_periodic_table.specs.declared.content.Removed.TheVariants as removed
use Rattle.drv_table.specs.declared.content.Command.{Command}
use Rattle.drv_table.specs.declared.content.Command.TheVariants as unfinished
use Rattle.drv_table.specs.declared.content.Endpoint.{Endpoint}
use Rattle.drv_table.specs.declared.content.Transfer.{Transfer}
use Rattle.drv_table.specs.declared.rows.DriverRow.{DriverRow}
use Rattle.drv_table.specs.declared.rows.DriverRow.TheVariants as rows
use Rattle.drv_table.specs.declared.rows.Found.{Found}
use Rattle.drv_table.specs.declared.rows.Found.TheVariants as founds
use Rattle.drv_table.specs.Commands.{no_command, leave_ring, leave_frames, finished, linked_on, advanced_by}
use Rattle.drv_table.specs.DriverContent.{DriverContent, waits_for}
use Rattle.drv_table.specs.FrameChoice.{linked_by}
use Rattle.drv_table.specs.Harvests.{noted, end_of, is_stall}
use Rattle.drv_table.specs.Harvesting.{told_with, after_end, harvested_as, served, after_harvest}
use Rattle.drv_table.specs.Parts.{Parts}
use Rattle.drv_table.specs.Releases.{after_endpoint}
use Rattle.drv_table.specs.Removals.{after_placed}
use Rattle.drv_table.specs.Rows.{after_driver_row}
use Rattle.law_footprints.specs.Changes.{EndpointsStep, off_ring, off_frames, let_go, over, onward, same, one}
use Rattle.law_footprints.proofs.Frame.{listed, frame, advanced_stays, cancel_stays, all_behind}

abbrev Goes : DriverContent → DriverContent → Type 0
Goes d new = EndpointsStep d.endpoints new.endpoints

either : (d x y : DriverContent) (b : Bool) → Goes d x → Goes d y → Goes d (cond b x y)
either d x y true this that = this
either d x y false this that = that

ring_left : (d : DriverContent) (e : ℕ) (o : Option Endpoint) → slice_get d.endpoints e ≡ o → Goes d (leave_ring d e o)
ring_left d e None here = same
ring_left d e (Some x) here = either d _ d x.linked (one e x _ here off_ring) same

frames_left : (d : DriverContent) (e : ℕ) (o : Option Endpoint) → slice_get d.endpoints e ≡ o → Goes d (leave_frames d e o)
frames_left d e None here = same
frames_left d e (Some x) here = either d _ d x.chained (one e x _ here off_frames) same

went_on : (d : DriverContent) (o : Option Command) → Goes d (advanced_by d o)
went_on d (Some (unfinished.Unlink e b link)) =
    either d (record d { made = suc d.made }) (leave_ring (no_command d) e (slice_get d.endpoints e)) (nat_lt (suc d.made) 1) same
    (ring_left (no_command d) e (slice_get d.endpoints e) refl)
went_on d (Some (unfinished.Unchain e)) =
    let l = listed d (unfinished.Unchain e) in
    either d (record d { made = suc d.made }) (linked_on d (unfinished.Unchain e)) (nat_lt (suc d.made) 0) same
    (either d (finished l (unfinished.Unchain e)) l (is_none l.periodic.list.work)
    (frames_left (no_command l) e (slice_get d.endpoints e) refl) same)
went_on d o = subst (Goes d) (sym (advanced_stays d o)) same

-- ---- what is given back

abbrev Gone : DriverContent → ℕ → Endpoint → DriverContent → Type 0
Gone old e x d = EndpointsStep old.endpoints (set d.endpoints e (record x { gone = true }))

endpoint_gone : (p : Parts) (e : ℕ) (o : Option Endpoint) → slice_get p.driver.endpoints e ≡ o → Goes p.driver (after_endpoint p e o).driver
endpoint_gone p e None here = same
endpoint_gone p e (Some x) here = subst (Gone p.driver e x) (sym (cancel_stays p.driver p.memory e x)) (one e x _ here let_go)

placed_gone : (p : Parts) (e : ℕ) (o : Option Endpoint) → slice_get p.driver.endpoints e ≡ o → Goes p.driver (after_placed p e o).driver
placed_gone p e None here = same
placed_gone p e (Some x) here = subst (Gone p.driver e x) (sym (cancel_stays p.driver p.memory e x)) (one e x _ here let_go)

-- ---- a harvest

ends : (d : DriverContent) (e t : ℕ) (x : Endpoint) (stall : Bool) (o : Option EndCause) → slice_get d.endpoints e ≡ Some x
    → Goes d (after_end d e t x stall o)
ends d e t x stall (Some cause) here = one e x _ here (over cause)
ends d e t x true None here =
    subst (λ (f : DriverContent). EndpointsStep d.endpoints f.endpoints)
    (sym (all_behind _ e x.desc.name (suc t) (length d.transfers - suc t))) (one e x _ here (onward None))
ends d e t x false None here = one e x _ here (onward _)

read : (d : DriverContent) (m : Mem) (e t : ℕ) (x : Endpoint) (y : Transfer) (found : Found) → slice_get d.endpoints e ≡ Some x
    → Goes d (harvested_as d m e t x y found)
read d m e t x y (founds.Served errors) here = one e x _ here (onward _)
read d m e t x y (founds.Ended n what) here =
    ends (told_with d m t y what x.desc.name (noted d.notes y.place n)) e t x (is_stall what) (end_of x.desc.kind what) here
read d m e t x y found here = same

harvested : (d : DriverContent) (m : Mem) (e t : ℕ) (found : Found) (o : Option Endpoint) (q : Option Transfer)
    → slice_get d.endpoints e ≡ o → Goes d (after_harvest d m e t found o q)
harvested d m e t found (Some x) (Some y) here =
    either d (served (harvested_as d m e t x y found) e) d (waits_for e y) (read d m e t x y found here) same
harvested d m e t found o q here = same

-- ---- any event

pub endpoints_step : (row : DriverRow) (p : Parts) (o : Option Command) → p.driver.command ≡ o
    → EndpointsStep p.driver.endpoints (after_driver_row row p).driver.endpoints
endpoints_step (rows.Harvest e t found) p o is =
    harvested p.driver p.memory e t found (slice_get p.driver.endpoints e) (slice_get p.driver.transfers t) refl
endpoints_step (rows.ReleaseEndpoint e) p o is = endpoint_gone p e (slice_get p.driver.endpoints e) refl
endpoints_step (rows.ReleaseRemoved (removed.Endpoint e)) p o is = placed_gone p e (slice_get p.driver.endpoints e) refl
endpoints_step rows.Lend p o is =
    went_on (record p.driver { book = (lend_taken (holding p.driver.book p.memory)).book }) p.driver.command
endpoints_step (rows.Store b at v) p o is = went_on p.driver p.driver.command
endpoints_step rows.LendDescriptors p o is =
    let h = lend_taken (holding p.driver.book (linked_by p.driver p.memory p.driver.command)) in
    went_on (record p.driver { book = h.book }) p.driver.command
endpoints_step row p o is = subst (λ (q : Parts). EndpointsStep p.driver.endpoints q.driver.endpoints) (sym (frame row p o is)) same
