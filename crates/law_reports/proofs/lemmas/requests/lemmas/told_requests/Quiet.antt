-- Rows of the driver that add no line.
use Rattle.std.proofs.Common.{◌≡◌, ℕ, suc, Bool, true, false, if◌then◌else◌, length, take, drop, slice_get, Option, Some, None, refl, ◌∙◌}
use Rattle.std.specs.Prelude.{nat_lt, is_none}
use Rattle.std.proofs.lemmas.Bool.{true≢false}
use Rattle.mem_runs.specs.Book.{Holding, holding, lend_taken}
use Rattle.drv_periodic_table.specs.declared.content.Removed.{Removed}
use Rattle.drv_periodic_table.specs.declared.content.Removed.TheVariants as removed
use Rattle.drv_periodic_table.specs.Linking.{begun_next}
use Rattle.drv_table.specs.declared.content.Endpoint.{Endpoint}
use Rattle.drv_table.specs.declared.content.Transfer.{Transfer}
use Rattle.drv_table.specs.declared.content.Command.{Command}
use Rattle.drv_table.specs.declared.content.Command.TheVariants as unfinished
use Rattle.drv_table.specs.declared.rows.DriverRow.TheVariants as rows
use Rattle.drv_table.specs.DriverContent.{DriverContent}
use Rattle.drv_table.specs.Parts.{Parts}
use Rattle.drv_table.specs.Commands.{advance, advanced_by, finished, no_command, leave_ring, leave_frames, events_of, links, removes_members, list_after, linked_on, or_finished}
use Rattle.drv_table.specs.FrameChoice.{framed_by, with_notes, framed_notes, placement_at, linked_by}
use Rattle.drv_table.specs.Releases.{after_transfer, freed_by}
use Rattle.drv_table.specs.Removals.{after_unlink, after_descriptor, after_removed}
use Rattle.law_reports.specs.requests.told_requests.Rows.{adds_lines, LinesStay, QuietRowsKeepLines}

all_same : (d : DriverContent) → LinesStay d d
all_same d = record { reports = refl; store = refl }

same_lines : (d c : DriverContent) → c.reports ≡ d.reports → c.store ≡ d.store → LinesStay d c
same_lines d c reports store = record { reports = reports; store = store }

both_stay : (a b c : DriverContent) → LinesStay a b → LinesStay b c → LinesStay a c
both_stay a b c h k = record { reports = k.reports ∙ h.reports; store = k.store ∙ h.store }

either_stays : (d : DriverContent) (b : Bool) (x y : DriverContent) → LinesStay d x → LinesStay d y → LinesStay d (if b then x else y)
either_stays d true x y h k = h
either_stays d false x y h k = k

-- ---- commands

left_same : (d : DriverContent) (e : ℕ) (o : Option Endpoint) → LinesStay d (leave_ring d e o)
left_same d e None = all_same d
left_same d e (Some x) = either_stays d x.linked _ d (same_lines d _ refl refl) (all_same d)

frames_same : (d : DriverContent) (e : ℕ) (o : Option Endpoint) → LinesStay d (leave_frames d e o)
frames_same d e None = all_same d
frames_same d e (Some x) = either_stays d x.chained _ d (same_lines d _ refl refl) (all_same d)

finished_same : (d : DriverContent) (c : Command) → LinesStay d (finished d c)
finished_same d (unfinished.Unlink e b link) = both_stay d (no_command d) _ (same_lines d _ refl refl) (left_same (no_command d) e (slice_get d.endpoints e))
finished_same d (unfinished.Unchain e) = both_stay d (no_command d) _ (same_lines d _ refl refl) (frames_same (no_command d) e (slice_get d.endpoints e))
finished_same d _ = same_lines d _ refl refl

or_finished_same : (d : DriverContent) (c : Command) → LinesStay d (or_finished d c)
or_finished_same d c = either_stays d (is_none d.periodic.list.work) (finished d c) d (finished_same d c) (all_same d)

linked_same : (d : DriverContent) (c : Command) → LinesStay d (linked_on d c)
linked_same d c =
    let on : DriverContent = record d { made = length (events_of c); periodic = begun_next (removes_members c) (record d.periodic { list = list_after d c }) } in
    both_stay d on _ (same_lines d on refl refl) (or_finished_same on c)

advanced_same : (d : DriverContent) (c : Option Command) → LinesStay d (advanced_by d c)
advanced_same d None = all_same d
advanced_same d (Some c) =
    either_stays d (nat_lt (suc d.made) (length (events_of c))) _ (if links c then linked_on d c else finished d c) (same_lines d _ refl refl)
    (either_stays d (links c) (linked_on d c) (finished d c) (linked_same d c) (finished_same d c))

advance_same : (d : DriverContent) → LinesStay d (advance d)
advance_same d = advanced_same d d.command

framed_same : (d : DriverContent) (n : ℕ) (c : Option Command) → LinesStay d (framed_by d n c)
framed_same d n (Some (unfinished.Iso e t count)) =
    let with : DriverContent = with_notes d n (take count (drop t d.transfers)) (framed_notes d n e t count (placement_at d e)) in
    both_stay d with _ (same_lines d with refl refl) (advance_same with)
framed_same d n _ = all_same d

-- ---- leaving work

transfer_same : (p : Parts) (t : ℕ) (o : Option Transfer) (h : Holding) → LinesStay p.driver (after_transfer p t o h).driver
transfer_same p t None h = all_same p.driver
transfer_same p t (Some y) h = same_lines p.driver _ refl refl

unlink_same : (p : Parts) (t : ℕ) (o : Option Transfer) → LinesStay p.driver (after_unlink p t o).driver
unlink_same p t None = all_same p.driver
unlink_same p t (Some y) = same_lines p.driver _ refl refl

descriptor_same : (p : Parts) (t : ℕ) (o : Option Transfer) → LinesStay p.driver (after_descriptor p t o).driver
descriptor_same p t None = all_same p.driver
descriptor_same p t (Some y) = same_lines p.driver _ refl refl

removed_same : (p : Parts) (what : Removed) → adds_lines (rows.ReleaseRemoved what) ≡ false → LinesStay p.driver (after_removed p what).driver
removed_same p (removed.Descriptor t) quiet = descriptor_same p t (slice_get p.driver.transfers t)
removed_same p (removed.Endpoint e) quiet = absurd (true≢false quiet)

-- ---- any row

pub quiet_rows_keep_lines : QuietRowsKeepLines
quiet_rows_keep_lines rows.Lend p quiet =
    let lent : DriverContent = record p.driver { book = (lend_taken (holding p.driver.book p.memory)).book } in
    both_stay p.driver lent _ (same_lines p.driver lent refl refl) (advance_same lent)
quiet_rows_keep_lines (rows.Store b at v) p quiet = advance_same p.driver
quiet_rows_keep_lines (rows.ReleaseTransfer t) p quiet = transfer_same p t (slice_get p.driver.transfers t) (freed_by p.driver (holding p.driver.book p.memory) (slice_get p.driver.transfers t))
quiet_rows_keep_lines (rows.ReleaseEndpoint e) p quiet = absurd (true≢false quiet)
quiet_rows_keep_lines rows.Frames p quiet = framed_same p.driver p.registers.frame_index p.driver.command
quiet_rows_keep_lines rows.LendDescriptors p quiet =
    let lent : DriverContent = record p.driver { book = (lend_taken (holding p.driver.book (linked_by p.driver p.memory p.driver.command))).book } in
    both_stay p.driver lent _ (same_lines p.driver lent refl refl) (advance_same lent)
quiet_rows_keep_lines (rows.Unlink t) p quiet = unlink_same p t (slice_get p.driver.transfers t)
quiet_rows_keep_lines (rows.ReleaseRemoved what) p quiet = removed_same p what quiet
quiet_rows_keep_lines (rows.Harvest e t found) p quiet = absurd (true≢false quiet)
quiet_rows_keep_lines rows.Rest p quiet = all_same p.driver
quiet_rows_keep_lines _ p quiet = same_lines p.driver _ refl refl
