-- Each event of the driver leaves its frame list in order.
use Rattle.std.proofs.Common.{◌≡◌, ℕ, zero, suc, ◌-◌, Bool, true, false, length, slice_get, Option, Some, None, refl, ◌∙◌, subst, sym}
use Rattle.std.specs.Prelude.{nat_lt, is_none, take, drop, if◌then◌else◌}
use Rattle.law_common.proofs.Booleans.{either_if}
use Rattle.usb_base.specs.declared.endpoints.EpName.{EpName}
use Rattle.usb_base.specs.declared.endpoints.EndCause.{EndCause}
use Rattle.word_mem.specs.Memory.{Mem}
use Rattle.mem_runs.specs.Book.{Holding, holding, lend_taken}
use Rattle.drv_periodic_table.specs.declared.content.Removed.{Removed}
use Rattle.drv_periodic_table.specs.declared.content.Removed.TheVariants as removed
use Rattle.drv_periodic_table.specs.Linking.{begun_next}
use Rattle.drv_table.specs.declared.content.Endpoint.{Endpoint}
use Rattle.drv_table.specs.declared.content.Transfer.{Transfer}
use Rattle.drv_table.specs.declared.content.Command.{Command}
use Rattle.drv_table.specs.declared.content.Command.TheVariants as unfinished
use Rattle.drv_table.specs.declared.rows.DriverRow.{DriverRow}
use Rattle.drv_table.specs.declared.rows.DriverRow.TheVariants as rows
use Rattle.drv_table.specs.declared.rows.Found.{Found}
use Rattle.drv_table.specs.declared.rows.Found.TheVariants as founds
use Rattle.drv_table.specs.DriverContent.{DriverContent, waits_for}
use Rattle.drv_table.specs.Harvests.{is_stall, noted, end_of}
use Rattle.drv_table.specs.Parts.{Parts}
use Rattle.drv_table.specs.Commands.{events_of, links, removes_members, no_command, leave_ring, leave_frames, finished, list_after, or_finished, linked_on, advanced_by, advance}
use Rattle.drv_table.specs.FrameChoice.{framed_by, with_notes, framed_notes, placement_at, linked_by}
use Rattle.drv_table.specs.Rows.{driver_row, after_driver_row}
use Rattle.drv_table.specs.Releases.{freed_by, after_transfer, is_told, cancel_told, after_endpoint}
use Rattle.drv_table.specs.Removals.{after_unlink, after_descriptor, after_placed, after_removed, descriptor_leaving}
use Rattle.drv_table.specs.Harvesting.{told_with, behind_one, behind, after_end, harvested_as, served, after_harvest}
use Rattle.drv_periodic_table.specs.Periodic.{descriptor_member}
use Rattle.drv_periodic.specs.Periodic.{Periodic, after_store}
use Rattle.law_driver.specs.ordered_list.Ordered.{IsOrdered}
use Rattle.law_driver.proofs.lemmas.ordered_list.Lists.{Ordered, unlinking_kept, store_kept, next_kept}

abbrev pub list_of : DriverContent → Periodic
list_of d = d.periodic.list

-- either way the same list
either : (b : Bool) (x y : DriverContent) (l : Periodic) → list_of x ≡ l → list_of y ≡ l → list_of (if b then x else y) ≡ l
either true x y l one two = one
either false x y l one two = two

pub kept_by : (x y : DriverContent) → list_of x ≡ list_of y → IsOrdered y → IsOrdered x
kept_by x y e h = subst Ordered (sym e) h

-- ---- a command

ring_left : (d : DriverContent) (e : ℕ) (o : Option Endpoint) → list_of (leave_ring d e o) ≡ list_of d
ring_left d e None = refl
ring_left d e (Some x) = either x.linked _ d (list_of d) refl refl

frames_left : (d : DriverContent) (e : ℕ) (o : Option Endpoint) → list_of (leave_frames d e o) ≡ list_of d
frames_left d e None = refl
frames_left d e (Some x) = either x.chained _ d (list_of d) refl refl

done : (d : DriverContent) (c : Command) → list_of (finished d c) ≡ list_of d
done d (unfinished.Unlink e b link) = ring_left (no_command d) e (slice_get d.endpoints e)
done d (unfinished.Unchain e) = frames_left (no_command d) e (slice_get d.endpoints e)
done d _ = refl

pub or_done : (d : DriverContent) (c : Command) → list_of (or_finished d c) ≡ list_of d
or_done d c = either (is_none d.periodic.list.work) (finished d c) d (list_of d) (done d c) refl

linked : (d : DriverContent) (c : Command) → IsOrdered d → IsOrdered (linked_on d c)
linked d c h =
    let stored : Ordered (list_after d c) = either_if Ordered (nat_lt d.made (length (events_of c))) d.periodic.list (after_store d.periodic.list) (λ e. h) (λ e. store_kept d.periodic.list h) in
    let on : DriverContent = record d { made = length (events_of c); periodic = begun_next (removes_members c) (record d.periodic { list = list_after d c }) } in
    kept_by (or_finished on c) on (or_done on c) (next_kept (removes_members c) (record d.periodic { list = list_after d c }) stored)

went_on : (d : DriverContent) (c : Option Command) → IsOrdered d → IsOrdered (advanced_by d c)
went_on d None h = h
went_on d (Some c) h =
    either_if IsOrdered (nat_lt (suc d.made) (length (events_of c))) (record d { made = suc d.made })
    (if links c then linked_on d c else finished d c) (λ e. h)
    (λ e. either_if IsOrdered (links c) (linked_on d c) (finished d c) (λ k. linked d c h) (λ k. kept_by (finished d c) d (done d c) h))

advanced : (d : DriverContent) → IsOrdered d → IsOrdered (advance d)
advanced d h = went_on d d.command h

framed : (d : DriverContent) (n : ℕ) (c : Option Command) → IsOrdered d → IsOrdered (framed_by d n c)
framed d n (Some (unfinished.Iso e t count)) h = advanced (with_notes d n (take count (drop t d.transfers)) (framed_notes d n e t count (placement_at d e))) h
framed d n _ h = h

-- ---- a release

transfer_let_go : (p : Parts) (t : ℕ) (o : Option Transfer) (h : Holding) → list_of (after_transfer p t o h).driver ≡ list_of p.driver
transfer_let_go p t None h = refl
transfer_let_go p t (Some x) h = refl

told : (d : DriverContent) (m : Mem) (e : ℕ) (x : Endpoint) → list_of (cancel_told d m e x) ≡ list_of d
told d m e x = either (is_told x) _ d (list_of d) refl refl

endpoint_let_go : (p : Parts) (e : ℕ) (o : Option Endpoint) → list_of (after_endpoint p e o).driver ≡ list_of p.driver
endpoint_let_go p e None = refl
endpoint_let_go p e (Some x) = told p.driver p.memory e x

unlinked : (p : Parts) (t : ℕ) (o : Option Transfer) → IsOrdered p.driver → IsOrdered (after_unlink p t o).driver
unlinked p t None h = h
unlinked p t (Some x) h = store_kept (descriptor_leaving p.driver x) (unlinking_kept p.driver.periodic.list (descriptor_member p.driver.periodic.notes x.first) h)

descriptor_let_go : (p : Parts) (t : ℕ) (o : Option Transfer) → list_of (after_descriptor p t o).driver ≡ list_of p.driver
descriptor_let_go p t None = refl
descriptor_let_go p t (Some x) = refl

placed_let_go : (p : Parts) (e : ℕ) (o : Option Endpoint) → list_of (after_placed p e o).driver ≡ list_of p.driver
placed_let_go p e None = refl
placed_let_go p e (Some x) = told p.driver p.memory e x

removed_let_go : (p : Parts) (what : Removed) → list_of (after_removed p what).driver ≡ list_of p.driver
removed_let_go p (removed.Descriptor t) = descriptor_let_go p t (slice_get p.driver.transfers t)
removed_let_go p (removed.Endpoint e) = placed_let_go p e (slice_get p.driver.endpoints e)

-- ---- a harvest

one_behind : (d : DriverContent) (e : ℕ) (name : EpName) (k : ℕ) (o : Option Transfer) → list_of (behind_one d e name k o) ≡ list_of d
one_behind d e name k None = refl
one_behind d e name k (Some x) = either (waits_for e x) _ d (list_of d) refl refl

all_behind : (d : DriverContent) (e : ℕ) (name : EpName) (k n : ℕ) → list_of (behind d e name k n) ≡ list_of d
unfolding behind
all_behind d e name k zero = refl
all_behind d e name k (suc n) = all_behind (behind_one d e name k (slice_get d.transfers k)) e name (suc k) n ∙ one_behind d e name k (slice_get d.transfers k)

over : (d : DriverContent) (e t : ℕ) (x : Endpoint) (stall : Bool) (cause : Option EndCause) → list_of (after_end d e t x stall cause) ≡ list_of d
over d e t x stall (Some cause) = refl
over d e t x true None = all_behind _ e x.desc.name (suc t) (length d.transfers - suc t)
over d e t x false None = refl

read : (d : DriverContent) (m : Mem) (e t : ℕ) (x : Endpoint) (y : Transfer) (found : Found) → list_of (harvested_as d m e t x y found) ≡ list_of d
read d m e t x y (founds.Ended n what) =
    over (told_with d m t y what x.desc.name (noted d.notes y.place n)) e t x (is_stall what) (end_of x.desc.kind what)
read d m e t x y _ = refl

harvested : (d : DriverContent) (m : Mem) (e t : ℕ) (found : Found) (o : Option Endpoint) (q : Option Transfer) → list_of (after_harvest d m e t found o q) ≡ list_of d
harvested d m e t found None q = refl
harvested d m e t found (Some x) None = refl
harvested d m e t found (Some x) (Some y) = either (waits_for e y) (served (harvested_as d m e t x y found) e) d (list_of d) (read d m e t x y found) refl

-- ---- any event

row_ordered : (row : DriverRow) (p : Parts) → IsOrdered p.driver → IsOrdered (after_driver_row row p).driver
row_ordered rows.Lend p h = advanced (record p.driver { book = (lend_taken (holding p.driver.book p.memory)).book }) h
row_ordered (rows.Store b at v) p h = advanced p.driver h
row_ordered (rows.ReleaseTransfer t) p h = kept_by (after_driver_row (rows.ReleaseTransfer t) p).driver p.driver (transfer_let_go p t (slice_get p.driver.transfers t) (freed_by p.driver (holding p.driver.book p.memory) (slice_get p.driver.transfers t))) h
row_ordered (rows.ReleaseEndpoint e) p h = kept_by (after_driver_row (rows.ReleaseEndpoint e) p).driver p.driver (endpoint_let_go p e (slice_get p.driver.endpoints e)) h
row_ordered rows.Frames p h = framed p.driver p.registers.frame_index p.driver.command h
row_ordered rows.LendDescriptors p h =
    advanced (record p.driver { book = (lend_taken (holding p.driver.book (linked_by p.driver p.memory p.driver.command))).book }) h
row_ordered (rows.Unlink t) p h = unlinked p t (slice_get p.driver.transfers t) h
row_ordered (rows.ReleaseRemoved what) p h = kept_by (after_removed p what).driver p.driver (removed_let_go p what) h
row_ordered (rows.Harvest e t found) p h =
    kept_by (after_harvest p.driver p.memory e t found (slice_get p.driver.endpoints e) (slice_get p.driver.transfers t)) p.driver
    (harvested p.driver p.memory e t found (slice_get p.driver.endpoints e) (slice_get p.driver.transfers t)) h
row_ordered _ p h = h

pub events_keep_the_order : (p : Parts) → IsOrdered p.driver → IsOrdered (after_driver_row (driver_row p) p).driver
events_keep_the_order p h = row_ordered (driver_row p) p h
