-- A command that is unfinished after an event was so before it: an event ends a command, and begins none.
use Rattle.std.proofs.Common.{◌≡◌, ℕ, suc, false, if◌then◌else◌, length, take, drop, slice_get, Option, Some, None, ap, refl, sym, ◌∙◌}
use Rattle.std.specs.Prelude.{is_none, is_some, nat_lt}
use Rattle.std.proofs.lemmas.Bool.{false≢true}
use Rattle.law_common.proofs.Booleans.{either}
use Rattle.law_footprints.proofs.Fields.{command_stays}
use Rattle.mem_runs.specs.Book.{holding, lend_taken}
use Rattle.drv_periodic_table.specs.Linking.{begun_next}
use Rattle.drv_table.specs.declared.content.Endpoint.{Endpoint}
use Rattle.drv_table.specs.declared.content.Command.{Command}
use Rattle.drv_table.specs.declared.content.Command.TheVariants as unfinished
use Rattle.drv_table.specs.declared.rows.DriverRow.{DriverRow}
use Rattle.drv_table.specs.declared.rows.DriverRow.TheVariants as rows
use Rattle.drv_table.specs.DriverContent.{DriverContent}
use Rattle.drv_table.specs.Parts.{Parts}
use Rattle.drv_table.specs.Rows.{after_driver_row}
use Rattle.drv_table.specs.Commands.{events_of, links, removes_members, advanced_by, linked_on, list_after, or_finished, finished, no_command, leave_ring, leave_frames}
use Rattle.drv_table.specs.FrameChoice.{framed_by, framed_notes, placement_at, with_notes, linked_by}

abbrev Comes : Option Command → DriverContent → Type 0
Comes o f = (c : Command) → f.command ≡ Some c → o ≡ Some c

ends : (o : Option Command) (f : DriverContent) → f.command ≡ None → Comes o f
ends o f none c is = absurd (false≢true (ap is_some (sym none) ∙ ap is_some is))

-- ---- the command goes on

pub frames_none : (d : DriverContent) (e : ℕ) (o : Option Endpoint) → (leave_frames (no_command d) e o).command ≡ None
frames_none d e None = refl
frames_none d e (Some x) = either (λ (f : DriverContent). f.command ≡ None) x.chained _ (no_command d) refl refl

ring_none : (d : DriverContent) (e : ℕ) (o : Option Endpoint) → (leave_ring (no_command d) e o).command ≡ None
ring_none d e None = refl
ring_none d e (Some x) = either (λ (f : DriverContent). f.command ≡ None) x.linked _ (no_command d) refl refl

finished_none : (d : DriverContent) (c : Command) → (finished d c).command ≡ None
finished_none d (unfinished.Unlink e b link) = ring_none d e (slice_get d.endpoints e)
finished_none d (unfinished.Unchain e) = frames_none d e (slice_get d.endpoints e)
finished_none d _ = refl

ended_comes : (d : DriverContent) (c : Command) → Comes d.command (or_finished d c)
ended_comes d c = either (Comes d.command) (is_none d.periodic.list.work) (finished d c) d
    (ends d.command (finished d c) (finished_none d c)) (λ f is. is)

goes_on : (d : DriverContent) (o : Option Command) → Comes d.command (advanced_by d o)
goes_on d None = λ f is. is
goes_on d (Some c) =
    either (Comes d.command) (nat_lt (suc d.made) (length (events_of c))) (record d { made = suc d.made })
    (if links c then linked_on d c else finished d c) (λ f is. is)
    (either (Comes d.command) (links c) (linked_on d c) (finished d c)
    (ended_comes (record d { made = length (events_of c); periodic = begun_next (removes_members c) (record d.periodic { list = list_after d c }) }) c)
    (ends d.command (finished d c) (finished_none d c)))

framed_comes : (d : DriverContent) (n : ℕ) (o : Option Command) → Comes d.command (framed_by d n o)
framed_comes d n (Some (unfinished.Iso e t count)) = goes_on (with_notes d n (take count (drop t d.transfers)) (framed_notes d n e t count (placement_at d e))) d.command
framed_comes d n _ = λ f is. is

-- ---- any event

same : {o now : Option Command} → now ≡ o → (c : Command) → now ≡ Some c → o ≡ Some c
same e c is = sym e ∙ is

pub row_comes : (row : DriverRow) (p : Parts) → Comes p.driver.command (after_driver_row row p).driver
row_comes rows.Lend p = goes_on (record p.driver { book = (lend_taken (holding p.driver.book p.memory)).book }) p.driver.command
row_comes (rows.Store b at v) p = goes_on p.driver p.driver.command
row_comes rows.Frames p = framed_comes p.driver p.registers.frame_index p.driver.command
row_comes rows.LendDescriptors p = goes_on (record p.driver { book = (lend_taken (holding p.driver.book (linked_by p.driver p.memory p.driver.command))).book }) p.driver.command
row_comes row p = same (command_stays row p p.driver.command refl refl)
