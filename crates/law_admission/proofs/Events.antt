-- What each event does to the plan.
use Rattle.std.proofs.Common.{◌≡◌, ℕ, zero, suc, Bool, true, false, List, [], ◌∷◌, slice_get, Option, Some, None, ◌∙◌, refl, ap}
use Rattle.std.specs.Prelude.{◌-◌, nat_lt, is_none, length, take, drop, if◌then◌else◌}
use Rattle.usb_base.specs.declared.endpoints.EndCause.{EndCause}
use Rattle.usb_base.specs.declared.endpoints.EpName.{EpName}
use Rattle.word_mem.specs.Memory.{Mem}
use Rattle.mem_runs.specs.Book.{Holding, holding, lend_taken}
use Rattle.drv_chains.specs.declared.members.Member.{Member}
use Rattle.bandwidth.specs.Admission.{Admissions}
use Rattle.drv_periodic_table.specs.declared.content.Removed.{Removed}
use Rattle.drv_periodic_table.specs.declared.content.Removed.TheVariants as removed
use Rattle.drv_periodic_table.specs.Periodic.{PeriodicContent}
use Rattle.drv_periodic_table.specs.Linking.{with_first, begun_next}
use Rattle.drv_table.specs.declared.content.Endpoint.{Endpoint}
use Rattle.drv_table.specs.declared.content.Transfer.{Transfer}
use Rattle.drv_table.specs.declared.content.Command.{Command}
use Rattle.drv_table.specs.declared.content.Command.TheVariants as unfinished
use Rattle.drv_table.specs.declared.rows.DriverRow.{DriverRow}
use Rattle.drv_table.specs.declared.rows.DriverRow.TheVariants as rows
use Rattle.drv_table.specs.declared.rows.Found.{Found}
use Rattle.drv_table.specs.declared.rows.Found.TheVariants as founds
use Rattle.drv_table.specs.DriverContent.{DriverContent, waits_for}
use Rattle.drv_table.specs.Harvests.{is_stall, noted, end_of}
use Rattle.drv_table.specs.Parts.{Parts}
use Rattle.drv_table.specs.Commands.{events_of, links, removes_members, no_command, leave_ring, leave_frames, finished, list_after, or_finished, linked_on, advanced_by, advance}
use Rattle.drv_table.specs.FrameChoice.{framed_by, with_notes, framed_notes, placement_at, linked_by}
use Rattle.drv_table.specs.Rows.{after_driver_row}
use Rattle.drv_table.specs.Releases.{after_transfer, is_told, cancel_told, after_endpoint}
use Rattle.drv_table.specs.Removals.{after_unlink, after_descriptor, after_placed, after_removed}
use Rattle.drv_table.specs.Harvesting.{told_with, behind_one, behind, stalled, after_end, harvested_as, served, after_harvest}
use Rattle.law_admission.specs.Budgets.{Account, account_of, taken_out, account_after}

-- either way the same
pub either : {A B : Type 0} (f : A → B) (b : Bool) (x y : A) (z : B) → f x ≡ z → f y ≡ z → f (if b then x else y) ≡ z
either f true x y z one two = one
either f false x y z one two = two

abbrev pub with_plan : ℕ → Admissions → Account
with_plan n plan = record { plan = plan; endpoints = n }

-- ---- a command

first_begun : (r : Bool) (q : PeriodicContent) (ms : List Member) → (with_first r q ms).plan ≡ q.plan
first_begun r q [] = refl
first_begun r q (m ∷ ms) = refl

pub next_begun : (r : Bool) (q : PeriodicContent) → (begun_next r q).plan ≡ q.plan
next_begun r q = either (λ (s : PeriodicContent). s.plan) (is_none q.list.work) (with_first r q q.queued) q q.plan (first_begun r q q.queued) refl

ring_left : (d : DriverContent) (e : ℕ) (o : Option Endpoint) → account_of (leave_ring d e o) ≡ account_of d
ring_left d e None = refl
ring_left d e (Some x) = either account_of x.linked _ d (account_of d) refl refl

frames_left : (d : DriverContent) (e : ℕ) (o : Option Endpoint) → account_of (leave_frames d e o) ≡ account_of d
frames_left d e None = refl
frames_left d e (Some x) = either account_of x.chained _ d (account_of d) refl refl

done : (d : DriverContent) (c : Command) → account_of (finished d c) ≡ account_of d
done d (unfinished.Unlink e b link) = ring_left (no_command d) e (slice_get d.endpoints e)
done d (unfinished.Unchain e) = frames_left (no_command d) e (slice_get d.endpoints e)
done d _ = refl

pub or_done : (d : DriverContent) (c : Command) → account_of (or_finished d c) ≡ account_of d
or_done d c = either account_of (is_none d.periodic.list.work) (finished d c) d (account_of d) (done d c) refl

linked : (d : DriverContent) (c : Command) → account_of (linked_on d c) ≡ account_of d
linked d c =
    or_done (record d { made = length (events_of c); periodic = begun_next (removes_members c) (record d.periodic { list = list_after d c }) }) c
    ∙ ap (with_plan d.room.endpoints) (next_begun (removes_members c) (record d.periodic { list = list_after d c }))

went_on : (d : DriverContent) (c : Option Command) → account_of (advanced_by d c) ≡ account_of d
went_on d None = refl
went_on d (Some c) =
    either account_of (nat_lt (suc d.made) (length (events_of c))) (record d { made = suc d.made }) (if links c then linked_on d c else finished d c) (account_of d) refl
    (either account_of (links c) (linked_on d c) (finished d c) (account_of d) (linked d c) (done d c))

advanced : (d : DriverContent) → account_of (advance d) ≡ account_of d
advanced d = went_on d d.command

framed : (d : DriverContent) (n : ℕ) (c : Option Command) → account_of (framed_by d n c) ≡ account_of d
framed d n (Some (unfinished.Iso e t count)) =
    advanced (with_notes d n (take count (drop t d.transfers)) (framed_notes d n e t count (placement_at d e)))
framed d n _ = refl

-- ---- a release

transfer_let_go : (p : Parts) (t : ℕ) (o : Option Transfer) (h : Holding) → account_of (after_transfer p t o h).driver ≡ account_of p.driver
transfer_let_go p t None h = refl
transfer_let_go p t (Some x) h = refl

told : (d : DriverContent) (m : Mem) (e : ℕ) (x : Endpoint) → account_of (cancel_told d m e x) ≡ account_of d
told d m e x = either account_of (is_told x) _ d (account_of d) refl refl

endpoint_let_go : (p : Parts) (e : ℕ) (o : Option Endpoint) → account_of (after_endpoint p e o).driver ≡ account_of p.driver
endpoint_let_go p e None = refl
endpoint_let_go p e (Some x) = told p.driver p.memory e x

unlinked : (p : Parts) (t : ℕ) (o : Option Transfer) → account_of (after_unlink p t o).driver ≡ account_of p.driver
unlinked p t None = refl
unlinked p t (Some x) = refl

descriptor_let_go : (p : Parts) (t : ℕ) (o : Option Transfer) → account_of (after_descriptor p t o).driver ≡ account_of p.driver
descriptor_let_go p t None = refl
descriptor_let_go p t (Some x) = refl

placed_let_go : (p : Parts) (e : ℕ) (o : Option Endpoint) → account_of (after_placed p e o).driver ≡ taken_out (account_of p.driver) e o
placed_let_go p e None = refl
placed_let_go p e (Some x) = ap (λ (a : Account). taken_out a e (Some x)) (told p.driver p.memory e x)

removed_let_go : (p : Parts) (what : Removed) → account_of (after_removed p what).driver ≡ account_after (rows.ReleaseRemoved what) p.driver
removed_let_go p (removed.Descriptor t) = descriptor_let_go p t (slice_get p.driver.transfers t)
removed_let_go p (removed.Endpoint e) = placed_let_go p e (slice_get p.driver.endpoints e)

-- ---- a harvest

one_behind : (d : DriverContent) (e : ℕ) (name : EpName) (k : ℕ) (o : Option Transfer) → account_of (behind_one d e name k o) ≡ account_of d
one_behind d e name k None = refl
one_behind d e name k (Some x) = either account_of (waits_for e x) _ d (account_of d) refl refl

all_behind : (d : DriverContent) (e : ℕ) (name : EpName) (k n : ℕ) → account_of (behind d e name k n) ≡ account_of d
unfolding behind
all_behind d e name k zero = refl
all_behind d e name k (suc n) =
    all_behind (behind_one d e name k (slice_get d.transfers k)) e name (suc k) n ∙ one_behind d e name k (slice_get d.transfers k)

halted : (d : DriverContent) (e t : ℕ) (x : Endpoint) → account_of (stalled d e t x) ≡ account_of d
halted d e t x = all_behind _ e x.desc.name (suc t) (length d.transfers - suc t)

over : (d : DriverContent) (e t : ℕ) (x : Endpoint) (stall : Bool) (cause : Option EndCause) → account_of (after_end d e t x stall cause) ≡ account_of d
over d e t x stall (Some cause) = refl
over d e t x true None = halted d e t x
over d e t x false None = refl

read : (d : DriverContent) (m : Mem) (e t : ℕ) (x : Endpoint) (y : Transfer) (found : Found) → account_of (harvested_as d m e t x y found) ≡ account_of d
read d m e t x y (founds.Ended n what) =
    over (told_with d m t y what x.desc.name (noted d.notes y.place n)) e t x (is_stall what) (end_of x.desc.kind what)
read d m e t x y _ = refl

harvested : (d : DriverContent) (m : Mem) (e t : ℕ) (found : Found) (o : Option Endpoint) (q : Option Transfer) → account_of (after_harvest d m e t found o q) ≡ account_of d
harvested d m e t found None q = refl
harvested d m e t found (Some x) None = refl
harvested d m e t found (Some x) (Some y) =
    either account_of (waits_for e y) (served (harvested_as d m e t x y found) e) d (account_of d) (read d m e t x y found) refl

-- ---- any event

pub events_take_out_what_left : (row : DriverRow) (p : Parts) → account_of (after_driver_row row p).driver ≡ account_after row p.driver
events_take_out_what_left rows.Lend p = advanced (record p.driver { book = (lend_taken (holding p.driver.book p.memory)).book })
events_take_out_what_left (rows.Store b at v) p = advanced p.driver
events_take_out_what_left (rows.ReleaseTransfer t) p = transfer_let_go p t (slice_get p.driver.transfers t) _
events_take_out_what_left (rows.ReleaseEndpoint e) p = endpoint_let_go p e (slice_get p.driver.endpoints e)
events_take_out_what_left rows.Frames p = framed p.driver p.registers.frame_index p.driver.command
events_take_out_what_left rows.LendDescriptors p =
    advanced (record p.driver { book = (lend_taken (holding p.driver.book (linked_by p.driver p.memory p.driver.command))).book })
events_take_out_what_left (rows.Unlink t) p = unlinked p t (slice_get p.driver.transfers t)
events_take_out_what_left (rows.ReleaseRemoved what) p = removed_let_go p what
events_take_out_what_left (rows.Harvest e t found) p = harvested p.driver p.memory e t found (slice_get p.driver.endpoints e) (slice_get p.driver.transfers t)
events_take_out_what_left _ p = refl
