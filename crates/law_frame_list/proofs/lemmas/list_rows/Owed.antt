-- No store that a stalled endpoint is owed goes into the frame list: only a control endpoint goes on after a stall, and it has a queue head.
use Rattle.std.proofs.Common.{◌≡◌, ◌≢◌, ℕ, zero, suc, ◌-◌, ◌≤◌, Bool, true, false, if◌then◌else◌, List, [], ◌∷◌, ◌++◌, length, take, drop, set, slice_get, Option, Some, None, Ok, ap, refl, sym, subst, ◌∙◌, arith}
use Rattle.std.specs.Prelude.{is_none, nat_lt}
use Rattle.std.specs.List.{AllByRecursion}
use Rattle.std.proofs.lemmas.Bool.{false≢true}
use Rattle.law_driver.proofs.Common.{control_kind}
use Rattle.law_common.proofs.Booleans.{either}
use Rattle.usb_base.specs.declared.commands.Cmd.{Cmd}
use Rattle.usb_base.specs.declared.endpoints.EpName.{EpName}
use Rattle.usb_base.specs.declared.endpoints.EndCause.{EndCause}
use Rattle.usb_base.specs.declared.endpoints.EndCause.TheVariants as causes
use Rattle.usb_base.specs.declared.packets.EpKind.{EpKind}
use Rattle.usb_base.specs.declared.packets.EpKind.TheVariants as kinds
use Rattle.usb_base.specs.declared.reports.What.{What}
use Rattle.usb_base.specs.declared.reports.What.TheVariants as lines
use Rattle.word_mem.specs.Memory.{Mem}
use Rattle.mem_runs.specs.Book.{Holding, holding, lend_taken}
use Rattle.drv_periodic_table.specs.declared.content.Removed.{Removed}
use Rattle.drv_periodic_table.specs.declared.content.Removed.TheVariants as removed
use Rattle.drv_table.specs.declared.content.Endpoint.{Endpoint}
use Rattle.drv_table.specs.declared.content.Transfer.{Transfer}
use Rattle.drv_table.specs.declared.content.Mend.{Mend}
use Rattle.drv_table.specs.declared.content.Reserve.{Reserve}
use Rattle.drv_table.specs.declared.content.Command.{Command}
use Rattle.drv_table.specs.declared.content.Command.TheVariants as unfinished
use Rattle.drv_table.specs.declared.rows.DriverRow.{DriverRow}
use Rattle.drv_table.specs.declared.rows.DriverRow.TheVariants as rows
use Rattle.drv_table.specs.declared.rows.Found.{Found}
use Rattle.drv_table.specs.declared.rows.Found.TheVariants as founds
use Rattle.drv_table.specs.DriverContent.{DriverContent, waits_for}
use Rattle.drv_table.specs.Words.{is_control}
use Rattle.drv_table.specs.Opening.{opening}
use Rattle.drv_table.specs.Harvests.{noted, is_stall, end_of}
use Rattle.drv_table.specs.Accepting.{Offered}
use Rattle.drv_table.specs.Offers.{offered}
use Rattle.drv_table.specs.CancelOffers.{with_cancel, endpoint_members}
use Rattle.drv_table.specs.Parts.{Parts}
use Rattle.drv_table.specs.Rows.{driver_row, after_driver_row}
use Rattle.drv_table.specs.Commands.{events_of, links, advanced_by, linked_on, list_after, or_finished, finished, no_command, leave_ring, leave_frames, removes_members}
use Rattle.drv_table.specs.FrameChoice.{framed_by, framed_notes, placement_at, with_notes, linked_by}
use Rattle.drv_table.specs.Harvesting.{served, told_with, behind_one, behind, mends_of, stalled, after_end, harvested_as, after_harvest}
use Rattle.drv_table.specs.Releases.{freed_by, after_transfer, is_told, cancel_told, after_endpoint}
use Rattle.drv_table.specs.Removals.{after_unlink, after_descriptor, after_placed, after_removed}
use Rattle.drv_periodic_table.specs.Linking.{begun_next}
use Rattle.law_driver.specs.run_owners.Accepts.{Accepts, opens, chains, places, transfers, describes, cancels, unchains}
use Rattle.claims_driver.specs.Owners.{FrameList, QueueHead}
use Rattle.law_driver.specs.run_owners.Due.{IsDue, IsHarvestDue}
use Rattle.claims_driver.specs.Leaving.{HasOwners}
use Rattle.law_driver.proofs.lemmas.run_owners.Commands.{each_command_has_its_reason}
use Rattle.law_driver.proofs.lemmas.run_owners.Reasons.{each_event_is_due}
use Rattle.law_driver.proofs.lemmas.run_owners.Transferred.{goes_on_alive}
use Rattle.law_driver.proofs.lemmas.ring_members.Placed.{has_queue, queue_placed}
use Rattle.law_frame_list.specs.list_driver.Keeping.{MendsAside}

abbrev owed : DriverContent → List Mend
owed d = d.mends

abbrev AreAside : List Mend → Type 0
AreAside ws = AllByRecursion (λ (w : Mend). 1 ≤ w.queue) ws

same_owed : {ws vs : List Mend} → ws ≡ vs → AreAside vs → AreAside ws
same_owed same old = subst AreAside (sym same) old

-- ---- the command goes on

ring_owed : (d : DriverContent) (e : ℕ) (o : Option Endpoint) → owed (leave_ring d e o) ≡ owed d
ring_owed d e None = refl
ring_owed d e (Some x) = either (λ (f : DriverContent). owed f ≡ owed d) x.linked _ d refl refl

frames_owed : (d : DriverContent) (e : ℕ) (o : Option Endpoint) → owed (leave_frames d e o) ≡ owed d
frames_owed d e None = refl
frames_owed d e (Some x) = either (λ (f : DriverContent). owed f ≡ owed d) x.chained _ d refl refl

finished_owed : (d : DriverContent) (c : Command) → owed (finished d c) ≡ owed d
finished_owed d (unfinished.Unlink e b link) = ring_owed (no_command d) e (slice_get d.endpoints e)
finished_owed d (unfinished.Unchain e) = frames_owed (no_command d) e (slice_get d.endpoints e)
finished_owed d _ = refl

ended_owed : (d : DriverContent) (c : Command) → owed (or_finished d c) ≡ owed d
ended_owed d c = either (λ (f : DriverContent). owed f ≡ owed d) (is_none d.periodic.list.work) (finished d c) d (finished_owed d c) refl

goes_on : (d : DriverContent) (o : Option Command) → owed (advanced_by d o) ≡ owed d
goes_on d None = refl
goes_on d (Some c) =
    either (λ (f : DriverContent). owed f ≡ owed d) (nat_lt (suc d.made) (length (events_of c))) (record d { made = suc d.made })
    (if links c then linked_on d c else finished d c) refl
    (either (λ (f : DriverContent). owed f ≡ owed d) (links c) (linked_on d c) (finished d c)
    (ended_owed (record d { made = length (events_of c); periodic = begun_next (removes_members c) (record d.periodic { list = list_after d c }) }) c)
    (finished_owed d c))

framed_owed : (d : DriverContent) (n : ℕ) (o : Option Command) → owed (framed_by d n o) ≡ owed d
framed_owed d n (Some (unfinished.Iso e t count)) = goes_on (with_notes d n (take count (drop t d.transfers)) (framed_notes d n e t count (placement_at d e))) d.command
framed_owed d n _ = refl

-- ---- giving back

told_owed : (d : DriverContent) (m : Mem) (e : ℕ) (x : Endpoint) → owed (cancel_told d m e x) ≡ owed d
told_owed d m e x = either (λ (f : DriverContent). owed f ≡ owed d) (is_told x) _ d refl refl

transfer_owed : (p : Parts) (t : ℕ) (o : Option Transfer) (h : Holding) → owed (after_transfer p t o h).driver ≡ owed p.driver
transfer_owed p t None h = refl
transfer_owed p t (Some x) h = refl

endpoint_owed : (p : Parts) (e : ℕ) (o : Option Endpoint) → owed (after_endpoint p e o).driver ≡ owed p.driver
endpoint_owed p e None = refl
endpoint_owed p e (Some x) = told_owed p.driver p.memory e x

unlink_owed : (p : Parts) (t : ℕ) (o : Option Transfer) → owed (after_unlink p t o).driver ≡ owed p.driver
unlink_owed p t None = refl
unlink_owed p t (Some x) = refl

descriptor_owed : (p : Parts) (t : ℕ) (o : Option Transfer) → owed (after_descriptor p t o).driver ≡ owed p.driver
descriptor_owed p t None = refl
descriptor_owed p t (Some x) = refl

placed_owed : (p : Parts) (e : ℕ) (o : Option Endpoint) → owed (after_placed p e o).driver ≡ owed p.driver
placed_owed p e None = refl
placed_owed p e (Some x) = told_owed p.driver p.memory e x

removed_owed : (p : Parts) (what : Removed) → owed (after_removed p what).driver ≡ owed p.driver
removed_owed p (removed.Descriptor t) = descriptor_owed p t (slice_get p.driver.transfers t)
removed_owed p (removed.Endpoint e) = placed_owed p e (slice_get p.driver.endpoints e)

-- ---- a harvest

behind_one_owed : (d : DriverContent) (e : ℕ) (name : EpName) (k : ℕ) (o : Option Transfer) → owed (behind_one d e name k o) ≡ owed d
behind_one_owed d e name k None = refl
behind_one_owed d e name k (Some x) = either (λ (f : DriverContent). owed f ≡ owed d) (waits_for e x) _ d refl refl

behind_owed : (d : DriverContent) (e : ℕ) (name : EpName) (k n : ℕ) → owed (behind d e name k n) ≡ owed d
unfolding behind
behind_owed d e name k zero = refl
behind_owed d e name k (suc n) = behind_owed (behind_one d e name k (slice_get d.transfers k)) e name (suc k) n ∙ behind_one_owed d e name k (slice_get d.transfers k)

both_aside : (ws vs : List Mend) → AreAside ws → AreAside vs → AreAside (ws ++ vs)
both_aside [] vs one two = two
both_aside (w ∷ ws) vs one two = (one.0, both_aside ws vs one.1 two)

stalled_aside : (d : DriverContent) (e t : ℕ) (x : Endpoint) → 1 ≤ x.queue → MendsAside d → MendsAside (stalled d e t x)
stalled_aside d e t x some old =
    same_owed
    (behind_owed (record d { harvested = d.harvested ++ t ∷ []; endpoints = set d.endpoints e (record x { next = None }); mends = d.mends ++ mends_of x }) e x.desc.name (suc t) (length d.transfers - suc t)) (both_aside d.mends (mends_of x) old (some, (some, (some, tt))))

-- only a control endpoint goes on after a stall (USB 2.0, 8.5.3.4)
controls : (kind : EpKind) (what : What) → is_stall what ≡ true → end_of kind what ≡ None → is_control kind ≡ true
controls kind (lines.Halt causes.Stall) stall on = by kind on
  where
    by : (k : EpKind) → end_of k (lines.Halt causes.Stall) ≡ None → is_control k ≡ true
    by kinds.Control e = refl
    by kinds.Bulk e = absurd (cc)
    by kinds.Interrupt e = absurd (cc)
    by kinds.Iso e = absurd (cc)
controls kind (lines.Halt causes.Error) stall on = absurd (false≢true stall)
controls kind (lines.Halt causes.Babble) stall on = absurd (false≢true stall)
controls kind (lines.Halt causes.Miss) stall on = absurd (false≢true stall)
controls kind (lines.Halt causes.Cancel) stall on = absurd (false≢true stall)
controls kind lines.Done stall on = absurd (false≢true stall)
controls kind lines.Miss stall on = absurd (false≢true stall)
controls kind lines.Cancel stall on = absurd (false≢true stall)
controls kind (lines.Iso errors) stall on = absurd (false≢true stall)
controls kind (lines.Refused line why) stall on = absurd (false≢true stall)
controls kind lines.Clear stall on = absurd (false≢true stall)
controls kind (lines.ClearFailed cause) stall on = absurd (false≢true stall)
controls kind (lines.Port port value) stall on = absurd (false≢true stall)
controls kind (lines.Disk tag passed) stall on = absurd (false≢true stall)
controls kind lines.DiskReset stall on = absurd (false≢true stall)

end_aside : (d : DriverContent) (e t : ℕ) (x : Endpoint) (stall : Bool) (o : Option EndCause) → (stall ≡ true → o ≡ None → 1 ≤ x.queue) → MendsAside d → MendsAside (after_end d e t x stall o)
end_aside d e t x stall (Some cause) some old = old
end_aside d e t x true None some old = stalled_aside d e t x (some refl refl) old
end_aside d e t x false None some old = old

read_aside : (d : DriverContent) (m : Mem) (e t : ℕ) (x : Endpoint) (y : Transfer) (found : Found) → (is_control x.desc.kind ≡ true → 1 ≤ x.queue) → MendsAside d → MendsAside (harvested_as d m e t x y found)
read_aside d m e t x y (founds.Ended n what) some old =
    end_aside (told_with d m t y what x.desc.name (noted d.notes y.place n)) e t x (is_stall what) (end_of x.desc.kind what) (λ stall on. some (controls x.desc.kind what stall on)) old
read_aside d m e t x y _ some old = old

harvest_aside : (d : DriverContent) (m : Mem) (e t : ℕ) (found : Found) (o : Option Endpoint) (q : Option Transfer) → ((x : Endpoint) → o ≡ Some x → is_control x.desc.kind ≡ true → 1 ≤ x.queue) → MendsAside d → MendsAside (after_harvest d m e t found o q)
harvest_aside d m e t found None q some old = old
harvest_aside d m e t found (Some x) None some old = old
harvest_aside d m e t found (Some x) (Some y) some old =
    either MendsAside (waits_for e y) (served (harvested_as d m e t x y found) e) d (read_aside d m e t x y found (some x refl) old) old

some_from : (n : ℕ) → n ≢ 0 → 1 ≤ n
some_from zero differs = absurd (differs refl)
some_from (suc n) differs = omega arith

-- the queue head of a control endpoint that goes on has a run of its own
queue_some : (d : DriverContent) (e : ℕ) (x : Endpoint) → HasOwners d → slice_get d.endpoints e ≡ Some x → x.ended ≡ None → is_control x.desc.kind ≡ true → 1 ≤ x.queue
queue_some d e x has here on control =
    let placed = queue_placed d e x has here (has_queue x (control_kind x.desc.kind control) (goes_on_alive x on (has.orderly.steady e x here))) in
    some_from x.queue (λ same. let one : FrameList ≡ QueueHead e = sym has.owned.each.list.owned ∙ ap has.owner (sym same) ∙ placed.owned in cc)

-- ---- any event

less : (ws : List Mend) → AreAside ws → AreAside (drop 1 ws)
less [] all = tt
less (w ∷ ws) all = all.1

due_harvest : (p : Parts) (e t : ℕ) (found : Found) → IsHarvestDue p e t found → HasOwners p.driver → (x : Endpoint) → slice_get p.driver.endpoints e ≡ Some x → is_control x.desc.kind ≡ true → 1 ≤ x.queue
due_harvest p e t found due has x here control =
    let same : due.endpoint ≡ x = let one : Some due.endpoint ≡ Some x = sym due.here ∙ here in cc in
    queue_some p.driver e x has here (ap (λ (z : Endpoint). z.ended) (sym same) ∙ due.goes_on) control

row_aside : (row : DriverRow) (p : Parts) → IsDue p row → HasOwners p.driver → MendsAside p.driver → MendsAside (after_driver_row row p).driver
row_aside rows.Lend p due has old = same_owed (goes_on (record p.driver { book = (lend_taken (holding p.driver.book p.memory)).book }) p.driver.command) old
row_aside (rows.Store b at v) p due has old = same_owed (goes_on p.driver p.driver.command) old
row_aside (rows.Mend w) p due has old = less p.driver.mends old
row_aside rows.Frames p due has old = same_owed (framed_owed p.driver p.registers.frame_index p.driver.command) old
row_aside rows.LendDescriptors p due has old =
    same_owed (goes_on (record p.driver { book = (lend_taken (holding p.driver.book (linked_by p.driver p.memory p.driver.command))).book }) p.driver.command) old
row_aside (rows.Unlink t) p due has old = same_owed (unlink_owed p t (slice_get p.driver.transfers t)) old
row_aside (rows.ReleaseRemoved what) p due has old = same_owed (removed_owed p what) old
row_aside (rows.ReleaseTransfer t) p due has old =
    same_owed (transfer_owed p t (slice_get p.driver.transfers t) (freed_by p.driver (holding p.driver.book p.memory) (slice_get p.driver.transfers t))) old
row_aside (rows.ReleaseEndpoint e) p due has old = same_owed (endpoint_owed p e (slice_get p.driver.endpoints e)) old
row_aside (rows.Harvest e t found) p due has old =
    harvest_aside p.driver p.memory e t found (slice_get p.driver.endpoints e) (slice_get p.driver.transfers t) (due_harvest p e t found due has) old
row_aside _ p due has old = old

pub event_aside : (p : Parts) → HasOwners p.driver → MendsAside p.driver → MendsAside (after_driver_row (driver_row p) p).driver
event_aside p has old = row_aside (driver_row p) p (each_event_is_due p) has old

-- ---- a command

abbrev made : Offered → List Mend
made o = o.driver.mends

accepted_owed : (d : DriverContent) (m : Mem) (o : Offered) → Accepts d m o → made o ≡ owed d
accepted_owed d m o (opens why) = ap made why.is
accepted_owed d m o (chains why) = ap made why.is
accepted_owed d m o (places why) = ap made why.is
accepted_owed d m o (transfers why) = ap made why.is
accepted_owed d m o (describes why) = ap made why.is
accepted_owed d m o (cancels why) = ap made why.is
accepted_owed d m o (unchains why) =
    ap made why.is ∙ ended_owed (with_cancel d why.number why.endpoint (endpoint_members d why.number why.endpoint why.placement)) (unfinished.Unchain why.number)

pub command_aside : (d : DriverContent) (m : Mem) (cmd : Cmd) (o : Offered) → offered d m cmd ≡ Ok o → MendsAside d → MendsAside o.driver
command_aside d m cmd o is old = same_owed (accepted_owed d m o (each_command_has_its_reason d m cmd o is)) old

-- ---- the opening

pub opening_aside : (n : ℕ) (room : Reserve) → MendsAside (opening n room).driver
opening_aside n room = tt
