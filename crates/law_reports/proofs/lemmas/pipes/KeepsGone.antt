-- Which endpoints an event of the driver gives back: none, but those of the two events that give an endpoint back.
use Rattle.std.proofs.Common.{◌≡◌, ◌≢◌, ℕ, suc, ◌-◌, Bool, true, false, cond, nat_lt, is_none, length, set, slice_get, Option, Some, None}
use Rattle.std.proofs.Common.{ap}
use Rattle.std.proofs.Common.{refl, sym, subst, ◌∙◌, ⊎_elim, List}
use Rattle.std.proofs.lemmas.Option.{same_Some}
use Rattle.law_queues.proofs.Common.{set_which}
use Rattle.usb_base.specs.declared.endpoints.EndCause.{EndCause}
use Rattle.word_mem.specs.Memory.{Mem}
use Rattle.mem_runs.specs.Book.{holding, lend_taken}
use Rattle.drv_periodic_table.specs.declared.content.Removed.TheVariants as removed
use Rattle.drv_table.specs.declared.content.Command.{Command}
use Rattle.drv_table.specs.declared.content.Command.TheVariants as unfinished
use Rattle.drv_table.specs.declared.content.Endpoint.{Endpoint}
use Rattle.drv_table.specs.declared.content.Transfer.{Transfer}
use Rattle.drv_table.specs.declared.rows.DriverRow.{DriverRow}
use Rattle.drv_table.specs.declared.rows.DriverRow.TheVariants as rows
use Rattle.drv_table.specs.declared.rows.Found.{Found}
use Rattle.drv_table.specs.declared.rows.Found.TheVariants as founds
use Rattle.drv_table.specs.Commands.{no_command, leave_ring, leave_frames, finished, linked_on, advanced_by}
use Rattle.drv_table.specs.DriverContent.{DriverContent, waits_for}
use Rattle.drv_table.specs.FrameChoice.{linked_by}
use Rattle.drv_table.specs.Harvests.{noted, end_of, is_stall}
use Rattle.drv_table.specs.Harvesting.{told_with, after_end, harvested_as, served, after_harvest}
use Rattle.drv_table.specs.Parts.{Parts}
use Rattle.drv_table.specs.Rows.{after_driver_row}
use Rattle.law_footprints.proofs.Fields.{endpoints_stays}
use Rattle.law_footprints.proofs.Frame.{listed, advanced_stays, all_behind}

-- who is given back was so
abbrev pub KeepsGone : List Endpoint → List Endpoint → Type 0
KeepsGone old new = (i : ℕ) (y z : Endpoint) → slice_get old i ≡ Some y → slice_get new i ≡ Some z → z.gone ≡ true → y.gone ≡ true

abbrev Goes : DriverContent → DriverContent → Type 0
Goes d new = KeepsGone d.endpoints new.endpoints

pub same : (xs ys : List Endpoint) → ys ≡ xs → KeepsGone xs ys
same xs ys is i y z here there gone =
    ap (λ (v : Endpoint). v.gone) (same_Some y z (sym here ∙ ap (λ (vs : List Endpoint). slice_get vs i) (sym is) ∙ there)) ∙ gone

pub one : (xs : List Endpoint) (e : ℕ) (x z : Endpoint) → slice_get xs e ≡ Some x → z.gone ≡ x.gone → KeepsGone xs (set xs e z)
one xs e x z at kept i y v here there gone =
    ⊎_elim
    (λ (own : (i ≡ e) × (v ≡ z)).
    ap (λ (u : Endpoint). u.gone) (same_Some y x (sym here ∙ ap (slice_get xs) own.0 ∙ at)) ∙ sym kept
    ∙ ap (λ (u : Endpoint). u.gone) (sym own.1) ∙ gone)
    (λ (other : (i ≢ e) × (slice_get xs i ≡ Some v)). ap (λ (u : Endpoint). u.gone) (same_Some y v (sym here ∙ other.1)) ∙ gone)
    (set_which xs e i x z v at there)

either : (d x y : DriverContent) (b : Bool) → Goes d x → Goes d y → Goes d (cond b x y)
either d x y true this that = this
either d x y false this that = that

unchanged : (d : DriverContent) → Goes d d
unchanged d = same d.endpoints d.endpoints refl

ring_left : (d : DriverContent) (e : ℕ) (o : Option Endpoint) → slice_get d.endpoints e ≡ o → Goes d (leave_ring d e o)
ring_left d e None here = unchanged d
ring_left d e (Some x) here = either d _ d x.linked (one d.endpoints e x _ here refl) (unchanged d)

frames_left : (d : DriverContent) (e : ℕ) (o : Option Endpoint) → slice_get d.endpoints e ≡ o → Goes d (leave_frames d e o)
frames_left d e None here = unchanged d
frames_left d e (Some x) here = either d _ d x.chained (one d.endpoints e x _ here refl) (unchanged d)

went_on : (d : DriverContent) (o : Option Command) → Goes d (advanced_by d o)
went_on d (Some (unfinished.Unlink e b link)) =
    either d (record d { made = suc d.made }) (leave_ring (no_command d) e (slice_get d.endpoints e)) (nat_lt (suc d.made) 1) (unchanged d)
    (ring_left (no_command d) e (slice_get d.endpoints e) refl)
went_on d (Some (unfinished.Unchain e)) =
    let l = listed d (unfinished.Unchain e) in
    either d (record d { made = suc d.made }) (linked_on d (unfinished.Unchain e)) (nat_lt (suc d.made) 0) (unchanged d)
    (either d (finished l (unfinished.Unchain e)) l (is_none l.periodic.list.work)
    (frames_left (no_command l) e (slice_get d.endpoints e) refl) (unchanged d))
went_on d o = subst (Goes d) (sym (advanced_stays d o)) (unchanged d)

-- ---- a harvest

ends : (d : DriverContent) (e t : ℕ) (x : Endpoint) (stall : Bool) (o : Option EndCause) → slice_get d.endpoints e ≡ Some x
    → Goes d (after_end d e t x stall o)
ends d e t x stall (Some cause) here = one d.endpoints e x _ here refl
ends d e t x true None here =
    subst (λ (f : DriverContent). KeepsGone d.endpoints f.endpoints)
    (sym (all_behind _ e x.desc.name (suc t) (length d.transfers - suc t))) (one d.endpoints e x _ here refl)
ends d e t x false None here = one d.endpoints e x _ here refl

read : (d : DriverContent) (m : Mem) (e t : ℕ) (x : Endpoint) (y : Transfer) (found : Found) → slice_get d.endpoints e ≡ Some x
    → Goes d (harvested_as d m e t x y found)
read d m e t x y (founds.Served errors) here = one d.endpoints e x _ here refl
read d m e t x y (founds.Ended n what) here =
    ends (told_with d m t y what x.desc.name (noted d.notes y.place n)) e t x (is_stall what) (end_of x.desc.kind what) here
read d m e t x y found here = unchanged d

harvested : (d : DriverContent) (m : Mem) (e t : ℕ) (found : Found) (o : Option Endpoint) (q : Option Transfer)
    → slice_get d.endpoints e ≡ o → Goes d (after_harvest d m e t found o q)
harvested d m e t found (Some x) (Some y) here =
    either d (served (harvested_as d m e t x y found) e) d (waits_for e y) (read d m e t x y found here) (unchanged d)
harvested d m e t found o q here = unchanged d

-- ---- any event

abbrev pub IsNoRelease : DriverRow → Type 0
IsNoRelease (rows.ReleaseEndpoint e) = ⊥
IsNoRelease (rows.ReleaseRemoved (removed.Endpoint e)) = ⊥
IsNoRelease _ = Unit {0}

pub row_keeps : (row : DriverRow) (p : Parts) → IsNoRelease row → KeepsGone p.driver.endpoints (after_driver_row row p).driver.endpoints
row_keeps (rows.Harvest e t found) p other =
    harvested p.driver p.memory e t found (slice_get p.driver.endpoints e) (slice_get p.driver.transfers t) refl
row_keeps (rows.ReleaseEndpoint e) p other = absurd other
row_keeps (rows.ReleaseRemoved (removed.Endpoint e)) p other = absurd other
row_keeps (rows.ReleaseRemoved (removed.Descriptor t)) p other =
    same p.driver.endpoints (after_driver_row (rows.ReleaseRemoved (removed.Descriptor t)) p).driver.endpoints
    (endpoints_stays (rows.ReleaseRemoved (removed.Descriptor t)) p p.driver.command refl refl)
row_keeps rows.Lend p other =
    went_on (record p.driver { book = (lend_taken (holding p.driver.book p.memory)).book }) p.driver.command
row_keeps (rows.Store b at v) p other = went_on p.driver p.driver.command
row_keeps rows.LendDescriptors p other =
    let h = lend_taken (holding p.driver.book (linked_by p.driver p.memory p.driver.command)) in
    went_on (record p.driver { book = h.book }) p.driver.command
row_keeps row p other = same p.driver.endpoints (after_driver_row row p).driver.endpoints (endpoints_stays row p p.driver.command refl refl)
