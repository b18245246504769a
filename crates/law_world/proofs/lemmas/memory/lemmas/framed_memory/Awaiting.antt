-- The descriptors of the unfinished command are as they were written, from their acceptance to their lend.
use Rattle.std.proofs.Common.{◌≡◌, ℕ, zero, suc, ◌≤◌, Bool, true, false, cond, List, drop, take, slice_get, Option, Some, None, ap, refl, sym, subst, ◌∙◌, arith}
use Rattle.std.specs.Prelude.{is_none, nat_le, nat_lt, if◌then◌else◌}
use Rattle.std.proofs.lemmas.Bool.Decides.{nat_tests}
use Rattle.law_world.proofs.Common.{none_some}
use Rattle.law_frame_list.proofs.Common.{row_is}
use Rattle.mem_runs.specs.Book.{Book, holding, lend_taken}
use Rattle.drv_periodic.specs.declared.work.Store.{Store}
use Rattle.drv_periodic.specs.Periodic.{next_store}
use Rattle.drv_periodic_table.specs.Linking.{begun_next}
use Rattle.drv_table.specs.declared.content.Endpoint.{Endpoint}
use Rattle.drv_table.specs.declared.content.Command.{Command}
use Rattle.drv_table.specs.declared.content.Command.TheVariants as unfinished
use Rattle.drv_table.specs.declared.rows.DriverRow.{DriverRow}
use Rattle.drv_table.specs.declared.rows.DriverRow.TheVariants as rows
use Rattle.drv_table.specs.DriverContent.{DriverContent}
use Rattle.drv_table.specs.Parts.{Parts}
use Rattle.drv_table.specs.Commands.{command_row, link_row, no_command, list_after, or_finished, linked_on, advanced_by}
use Rattle.drv_table.specs.Rows.{row_for, driver_row, after_driver_row}
use Rattle.drv_table.specs.FrameChoice.{framed_notes, with_notes, placement_at, framed_by, linked_by}
use Rattle.law_frame_list.proofs.lemmas.list_driver.Coming.{row_comes}
use Rattle.law_descriptors.proofs.LendStaying.{written_stay, frames_await_lend}
use Rattle.law_world.specs.memory.framed_memory.Isochronous.{AwaitsLend}
use Rattle.law_world.specs.memory.framed_memory.IsochronousLaws.{NewAwaitsNothing, EventsKeepAwaiting, WritesKeepAwaiting}

-- ---- a driver that was just built

pub new_awaits_nothing : NewAwaitsNothing
new_awaits_nothing n room m e t count is few = absurd (none_some (unfinished.Iso e t count) is)

-- ---- the controller

pub writes_keep_awaiting : WritesKeepAwaiting
writes_keep_awaiting d m new stands same old e t count is few =
    let a : AwaitsLend d m e t = old e t count is few in
    record { endpoint = a.endpoint; here = a.here; await = written_stay d m new t a.endpoint.desc a.await stands same }

-- ---- the second of the command's own events, and its stores

-- nothing of it is left to lend
abbrev IsLate : DriverContent → Type 0
IsLate f = (e t count : ℕ) → f.command ≡ Some (unfinished.Iso e t count) → 2 ≤ f.made

none_late : (f : DriverContent) → f.command ≡ None → IsLate f
none_late f none e t count is = absurd (none_some (unfinished.Iso e t count) (sym none ∙ is))

ended_late : (d : DriverContent) (e t count : ℕ) → 2 ≤ d.made → IsLate (or_finished d (unfinished.Iso e t count))
ended_late d e t count late = by (is_none d.periodic.list.work)
  where
    by : (b : Bool) → IsLate (cond b (no_command d) d)
    by true = none_late (no_command d) refl
    by false = λ f u n is. late

advanced_late : (d : DriverContent) (e t count : ℕ) → 1 ≤ d.made → IsLate (advanced_by d (Some (unfinished.Iso e t count)))
advanced_late d e t count made = by (nat_lt (suc d.made) 2) refl
  where
    c : Command
    c = unfinished.Iso e t count

    g : DriverContent
    g = record d { made = 2; periodic = begun_next false (record d.periodic { list = list_after d c }) }

    by : (b : Bool) → nat_lt (suc d.made) 2 ≡ b → IsLate (cond b (record d { made = suc d.made }) (or_finished g c))
    by true early = absurd (grind (arith, nat_tests))
    by false early = ended_late g e t count (omega arith)

lend_late : (p : Parts) (k : Book) (e t count : ℕ) → p.driver.command ≡ Some (unfinished.Iso e t count) → 1 ≤ p.driver.made → IsLate (advanced_by (record p.driver { book = k }) p.driver.command)
lend_late p k e t count is made =
    let d : DriverContent = record p.driver { book = k } in
    subst (λ (o : Option Command). IsLate (advanced_by d o)) (sym is) (advanced_late d e t count made)

link_late : (p : Parts) (e t count : ℕ) (o : Option Store) → p.driver.command ≡ Some (unfinished.Iso e t count) → 2 ≤ p.driver.made → IsLate (after_driver_row (link_row o) p).driver
link_late p e t count None is late = λ f u n now. late
link_late p e t count (Some s) is late = subst (λ (o : Option Command). IsLate (advanced_by p.driver o)) (sym is) (advanced_late p.driver e t count (omega (arith, late)))

-- ---- which row it is

first_row : (p : Parts) (e t count : ℕ) → p.driver.command ≡ Some (unfinished.Iso e t count) → p.driver.made ≡ 0 → driver_row p ≡ rows.Frames
first_row p e t count is at =
    ap (row_for p) is ∙ ap (λ (n : ℕ). if nat_le 2 n then link_row (next_store p.driver.periodic.list) else command_row (unfinished.Iso e t count) n) at

second_row : (p : Parts) (e t count : ℕ) → p.driver.command ≡ Some (unfinished.Iso e t count) → p.driver.made ≡ 1 → driver_row p ≡ rows.LendDescriptors
second_row p e t count is at =
    ap (row_for p) is ∙ ap (λ (n : ℕ). if nat_le 2 n then link_row (next_store p.driver.periodic.list) else command_row (unfinished.Iso e t count) n) at

row_late : (p : Parts) (e t count n : ℕ) → p.driver.command ≡ Some (unfinished.Iso e t count) → p.driver.made ≡ suc n → IsLate (after_driver_row (driver_row p) p).driver
row_late p e t count zero is at =
    subst (λ (r : DriverRow). IsLate (after_driver_row r p).driver) (sym (second_row p e t count is at))
    (lend_late p (lend_taken (holding p.driver.book (linked_by p.driver p.memory p.driver.command))).book e t count is (omega (arith, at)))
row_late p e t count (suc n) is at =
    let late : 2 ≤ p.driver.made = omega (arith, at) in
    subst (λ (r : DriverRow). IsLate (after_driver_row r p).driver) (sym (row_is p e t count is late)) (link_late p e t count (next_store p.driver.periodic.list) is late)

-- ---- the first of its own events

framed_endpoints : (d : DriverContent) (n e t count : ℕ) → d.command ≡ Some (unfinished.Iso e t count) → d.made ≡ 0 → (framed_by d n d.command).endpoints ≡ d.endpoints
framed_endpoints d n e t count is at =
    ap (λ (o : Option Command). (framed_by d n o).endpoints) is
    ∙ ap (λ (o : Option Command). (advanced_by f o).endpoints) is
    ∙ ap (λ (k : ℕ). (if nat_lt (suc k) 2 then record f { made = suc d.made } else linked_on f (unfinished.Iso e t count)).endpoints) at
  where
    f : DriverContent
    f = with_notes d n (take count (drop t d.transfers)) (framed_notes d n e t count (placement_at d e))

frames_wait : (p : Parts) (e t count : ℕ) → p.driver.command ≡ Some (unfinished.Iso e t count) → p.driver.made ≡ 0 → AwaitsLend p.driver p.memory e t
    → AwaitsLend (after_driver_row rows.Frames p).driver (after_driver_row rows.Frames p).memory e t
frames_wait p e t count is at a = record {
  endpoint = a.endpoint;
  here = ap (λ (xs : List Endpoint). slice_get xs e) (framed_endpoints p.driver p.registers.frame_index e t count is at) ∙ a.here;
  await = frames_await_lend p t a.endpoint.desc a.await at;
}

-- ---- any event

pub events_keep_awaiting : EventsKeepAwaiting
events_keep_awaiting p old e t count is few = by p.driver.made refl
  where
    was : p.driver.command ≡ Some (unfinished.Iso e t count)
    was = row_comes (driver_row p) p (unfinished.Iso e t count) is

    by : (n : ℕ) → p.driver.made ≡ n → AwaitsLend (after_driver_row (driver_row p) p).driver (after_driver_row (driver_row p) p).memory e t
    by zero at =
        subst (λ (r : DriverRow). AwaitsLend (after_driver_row r p).driver (after_driver_row r p).memory e t) (sym (first_row p e t count was at))
        (frames_wait p e t count was at (old e t count was (omega (arith, at))))
    by (suc n) at = let late = row_late p e t count n was at e t count is in absurd (omega (arith, late, few))
