-- The endpoint whose members a command unlinks is in its frames, after each event of the driver and each accepted command.
use Rattle.std.proofs.Common.{◌≡◌, ℕ, suc, Bool, true, false, cond, nat_lt, List, [], ◌∷◌, ◌++◌, length, take, drop, set, slice_get, Option, Some, None, Ok, ap, sym, subst, ◌∙◌, refl}
use Rattle.std.specs.Prelude.{is_some, is_none}
use Rattle.std.proofs.lemmas.Option.{same_Some}
use Rattle.law_common.proofs.Lists.{set_here}
use Rattle.usb_base.specs.declared.commands.Cmd.{Cmd}
use Rattle.word_mem.specs.Memory.{Mem}
use Rattle.mem_runs.specs.Book.{holding, lend_taken}
use Rattle.drv_periodic_table.specs.Periodic.{is_periodic}
use Rattle.drv_periodic_table.specs.declared.content.Removed.TheVariants as removed
use Rattle.drv_chains.specs.declared.members.Member.{Member}
use Rattle.drv_table.specs.declared.content.Reserve.{Reserve}
use Rattle.drv_table.specs.declared.content.Endpoint.{Endpoint}
use Rattle.drv_table.specs.declared.content.Command.{Command}
use Rattle.drv_table.specs.declared.content.Command.TheVariants as unfinished
use Rattle.drv_table.specs.declared.rows.DriverRow.{DriverRow}
use Rattle.drv_table.specs.declared.rows.DriverRow.TheVariants as rows
use Rattle.drv_table.specs.DriverContent.{DriverContent}
use Rattle.drv_table.specs.Opening.{opening}
use Rattle.drv_table.specs.Accepting.{Offered}
use Rattle.drv_table.specs.Offers.{offered}
use Rattle.drv_table.specs.CancelOffers.{first_end, endpoint_members, with_cancel}
use Rattle.drv_table.specs.Parts.{Parts}
use Rattle.drv_table.specs.Commands.{events_of, links, leave_ring, leave_frames, no_command, removal_of, finished, or_finished, linked_on, advanced_by}
use Rattle.drv_table.specs.FrameChoice.{framed_by, framed_notes, with_notes, placement_at, linked_by}
use Rattle.drv_table.specs.Rows.{driver_row, after_driver_row}
use Rattle.law_driver.specs.run_owners.Accepts.{Accepts, opens, chains, places, transfers, describes, cancels, unchains, Unchains}
use Rattle.law_driver.specs.run_owners.Due.{IsDue}
use Rattle.claims_driver.specs.Leaving.{HasOwners}
use Rattle.law_driver.proofs.lemmas.run_owners.Commands.{each_command_has_its_reason}
use Rattle.law_driver.proofs.lemmas.run_owners.Reasons.{each_event_is_due, stays_idle}
use Rattle.law_driver.specs.listed_members.Members.{IsListed}
use Rattle.law_descriptors.specs.ListRows.{LeavesChained}

-- ---- where no command unlinks members

none_chained : (d : DriverContent) → d.command ≡ None → LeavesChained d
none_chained d none e x is here = let no : ◌≡◌ {A = Option Command} None (Some (unfinished.Unchain e)) = sym none ∙ is in absurd (cc)

either : (d f : DriverContent) (b : Bool) → LeavesChained d → LeavesChained f → LeavesChained (cond b d f)
either d f true one two = one
either d f false one two = two

-- ---- the command goes on

pub out_of_ring : (d : DriverContent) (e : ℕ) (o : Option Endpoint) → d.command ≡ None → (leave_ring d e o).command ≡ None
out_of_ring d e None none = none
out_of_ring d e (Some x) none = by x.linked
  where
    by : (b : Bool) → (cond b (record d { waiting = d.waiting ++ e ∷ []; endpoints = set d.endpoints e (record x { linked = false }) }) d).command ≡ None
    by true = none
    by false = none

out_of_frames : (d : DriverContent) (e : ℕ) (o : Option Endpoint) → d.command ≡ None → LeavesChained (leave_frames d e o)
out_of_frames d e None none = none_chained d none
out_of_frames d e (Some x) none = either f d x.chained (none_chained f none) (none_chained d none)
  where
    f : DriverContent
    f = record d { endpoints = set d.endpoints e (record x { chained = false }); periodic = record d.periodic { removals = d.periodic.removals ++ removal_of (removed.Endpoint e) ∷ [] } }

done_chained : (d : DriverContent) (c : Command) → LeavesChained (finished d c)
done_chained d (unfinished.Unlink e b link) =
    none_chained (leave_ring (no_command d) e (slice_get d.endpoints e)) (out_of_ring (no_command d) e (slice_get d.endpoints e) refl)
done_chained d (unfinished.Unchain e) = out_of_frames (no_command d) e (slice_get d.endpoints e) refl
done_chained d _ = none_chained (no_command d) refl

or_done : (d : DriverContent) (c : Command) → LeavesChained d → LeavesChained (or_finished d c)
or_done d c old = either (finished d c) d (is_none d.periodic.list.work) (done_chained d c) old

linked_chained : (d : DriverContent) (c : Command) → LeavesChained d → LeavesChained (linked_on d c)
linked_chained d c old = or_done _ c old

advanced_chained : (d : DriverContent) (o : Option Command) → LeavesChained d → LeavesChained (advanced_by d o)
advanced_chained d None old = old
advanced_chained d (Some c) old =
    either (record d { made = suc d.made }) (cond (links c) (linked_on d c) (finished d c)) (nat_lt (suc d.made) (length (events_of c))) old
    (either (linked_on d c) (finished d c) (links c) (linked_chained d c old) (done_chained d c))

framed_chained : (d : DriverContent) (n : ℕ) (o : Option Command) → LeavesChained d → LeavesChained (framed_by d n o)
framed_chained d n (Some (unfinished.Iso e t count)) old =
    let f = with_notes d n (take count (drop t d.transfers)) (framed_notes d n e t count (placement_at d e)) in advanced_chained f f.command old
framed_chained d n _ old = old

-- ---- any event

row_chained : (row : DriverRow) (p : Parts) → IsDue p row → LeavesChained p.driver → LeavesChained (after_driver_row row p).driver
row_chained rows.Lend p due old =
    advanced_chained (record p.driver { book = (lend_taken (holding p.driver.book p.memory)).book }) p.driver.command old
row_chained (rows.Store b at v) p due old = advanced_chained p.driver p.driver.command old
row_chained rows.Frames p due old = framed_chained p.driver p.registers.frame_index p.driver.command old
row_chained rows.LendDescriptors p due old =
    advanced_chained
    (record p.driver { book = (lend_taken (holding p.driver.book (linked_by p.driver p.memory p.driver.command))).book })
    p.driver.command old
row_chained rows.Rest p due old = old
row_chained row p due old = none_chained (after_driver_row row p).driver (stays_idle row p due refl refl)

pub events_leave_chained : (p : Parts) → LeavesChained p.driver → LeavesChained (after_driver_row (driver_row p) p).driver
events_leave_chained p old = row_chained (driver_row p) p (each_event_is_due p) old

-- ---- an accepted command

other_command : (d : DriverContent) (c : Command) → d.command ≡ Some c → ((e : ℕ) → c ≡ unfinished.Unchain e → ⊥) → LeavesChained d
other_command d c is other e x now here = absurd (other e (same_Some c (unfinished.Unchain e) (sym is ∙ now)))

same_endpoint : (e i : ℕ) → ◌≡◌ {A = Option Command} (Some (unfinished.Unchain e)) (Some (unfinished.Unchain i)) → i ≡ e
same_endpoint e i is = cc

cancelled_chained : (d : DriverContent) (e : ℕ) (x : Endpoint) (members : List Member) → slice_get d.endpoints e ≡ Some x → x.chained ≡ true → LeavesChained (with_cancel d e x members)
cancelled_chained d e x members here chained i y is there =
    let z : Endpoint = record x { cancelled = true; ended = first_end x.ended } in
    let at : slice_get (set d.endpoints e z) e ≡ Some z = set_here d.endpoints e x z here in
    let same : z ≡ y = same_Some z y (sym at ∙ ap (slice_get (set d.endpoints e z)) (sym (same_endpoint e i is)) ∙ there) in
    ap (λ (w : Endpoint). w.chained) (sym same) ∙ chained

unchained : (d : DriverContent) (m : Mem) (o : Offered) → HasOwners d → IsListed d → Unchains d m o → LeavesChained o.driver
unchained d m o has listed why =
    let e : ℕ = why.number in
    let x : Endpoint = why.endpoint in
    let ms : List Member = endpoint_members d e x why.placement in
    let periodic : is_periodic x.desc.kind ≡ true = sym (has.orderly.steady e x why.here).placed ∙ ap is_some why.placed in
    subst (λ (f : Offered). LeavesChained f.driver) (sym why.is)
    (or_done (with_cancel d e x ms) (unfinished.Unchain e) (cancelled_chained d e x ms why.here (listed.list.kept e x why.here periodic why.fresh)))

accepted_chained : (d : DriverContent) (m : Mem) (o : Offered) → HasOwners d → IsListed d → Accepts d m o → LeavesChained o.driver
accepted_chained d m o has listed (opens why) = other_command o.driver _ (ap (λ (f : Offered). f.driver.command) why.is) (λ e is. cc)
accepted_chained d m o has listed (chains why) = other_command o.driver _ (ap (λ (f : Offered). f.driver.command) why.is) (λ e is. cc)
accepted_chained d m o has listed (places why) = none_chained o.driver (ap (λ (f : Offered). f.driver.command) why.is ∙ why.idle)
accepted_chained d m o has listed (transfers why) = other_command o.driver _ (ap (λ (f : Offered). f.driver.command) why.is) (λ e is. cc)
accepted_chained d m o has listed (describes why) = other_command o.driver _ (ap (λ (f : Offered). f.driver.command) why.is) (λ e is. cc)
accepted_chained d m o has listed (cancels why) = other_command o.driver _ (ap (λ (f : Offered). f.driver.command) why.is) (λ e is. cc)
accepted_chained d m o has listed (unchains why) = unchained d m o has listed why

pub commands_leave_chained : (d : DriverContent) (m : Mem) (cmd : Cmd) (o : Offered) → HasOwners d → IsListed d → offered d m cmd ≡ Ok o → LeavesChained o.driver
commands_leave_chained d m cmd o has listed is = accepted_chained d m o has listed (each_command_has_its_reason d m cmd o is)

pub new_driver_leaves_chained : (n : ℕ) (room : Reserve) → LeavesChained (opening n room).driver
new_driver_leaves_chained n room = none_chained (opening n room).driver refl
