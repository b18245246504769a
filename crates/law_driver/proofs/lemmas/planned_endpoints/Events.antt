-- Each event of the driver leaves the placements of its endpoints, but for the one that it gives back.
use Rattle.std.proofs.Common.{◌≡◌, ℕ, zero, suc, ◌-◌, Bool, true, false, List, length, slice_get, slice_set, Option, Some, None, refl, ap, ◌∙◌, arith}
use Rattle.std.specs.Prelude.{nat_lt, is_none, take, drop, filter, if◌then◌else◌}
use Rattle.law_driver.proofs.Common.{one_behind, told_endpoints}
use Rattle.usb_base.specs.declared.endpoints.EpName.{EpName}
use Rattle.usb_base.specs.declared.endpoints.EndCause.{EndCause}
use Rattle.word_mem.specs.Memory.{Mem}
use Rattle.mem_runs.specs.Book.{Holding, holding, lend_taken}
use Rattle.drv_periodic_table.specs.declared.content.Removed.{Removed}
use Rattle.drv_periodic_table.specs.declared.content.Removed.TheVariants as removed
use Rattle.drv_periodic_table.specs.Linking.{begun_next}
use Rattle.drv_table.specs.declared.content.Endpoint.{Endpoint}
use Rattle.drv_table.specs.declared.content.Transfer.{Transfer}
use Rattle.drv_table.specs.declared.content.Command.{Command}
use Rattle.drv_table.specs.declared.content.Command.TheVariants as unfinished
use Rattle.drv_table.specs.declared.rows.DriverRow.{DriverRow}
use Rattle.drv_table.specs.declared.rows.DriverRow.TheVariants as rows
use Rattle.drv_table.specs.declared.rows.Found.{Found}
use Rattle.drv_table.specs.declared.rows.Found.TheVariants as founds
use Rattle.drv_table.specs.DriverContent.{DriverContent, waits_for}
use Rattle.drv_table.specs.Harvests.{is_stall, noted, end_of}
use Rattle.drv_table.specs.Parts.{Parts}
use Rattle.drv_table.specs.Commands.{events_of, links, removes_members, no_command, leave_ring, leave_frames, finished, list_after, or_finished, linked_on, advanced_by, advance}
use Rattle.drv_table.specs.FrameChoice.{framed_by, with_notes, framed_notes, placement_at, linked_by}
use Rattle.drv_table.specs.Rows.{after_driver_row}
use Rattle.drv_table.specs.Releases.{after_transfer, after_endpoint}
use Rattle.drv_table.specs.Removals.{after_unlink, after_descriptor, after_placed, after_removed}
use Rattle.drv_table.specs.Harvesting.{told_with, behind_one, behind, after_end, harvested_as, served, after_harvest}
use Rattle.bandwidth.specs.declared.placements.Placed.{Placed}
use Rattle.law_admission.proofs.Events.{either}
use Rattle.law_driver.specs.planned_endpoints.Planned.{planned}
use Rattle.law_driver.proofs.lemmas.planned_endpoints.Lists.{same_at, other, given_back, unplaced_back}

abbrev pub placements : DriverContent → List Placed
placements d = planned 0 d.endpoints

-- ---- a command

ring_left : (d : DriverContent) (e : ℕ) (o : Option Endpoint) → slice_get d.endpoints e ≡ o → placements (leave_ring d e o) ≡ placements d
ring_left d e None here = refl
ring_left d e (Some x) here = either placements x.linked _ d (placements d) (same_at 0 e d.endpoints x (record x { linked = false }) here refl refl refl) refl

frames_left : (d : DriverContent) (e : ℕ) (o : Option Endpoint) → slice_get d.endpoints e ≡ o → placements (leave_frames d e o) ≡ placements d
frames_left d e None here = refl
frames_left d e (Some x) here = either placements x.chained _ d (placements d) (same_at 0 e d.endpoints x (record x { chained = false }) here refl refl refl) refl

done : (d : DriverContent) (c : Command) → placements (finished d c) ≡ placements d
done d (unfinished.Unlink e b link) = ring_left (no_command d) e (slice_get d.endpoints e) refl
done d (unfinished.Unchain e) = frames_left (no_command d) e (slice_get d.endpoints e) refl
done d _ = refl

pub or_done : (d : DriverContent) (c : Command) → placements (or_finished d c) ≡ placements d
or_done d c = either placements (is_none d.periodic.list.work) (finished d c) d (placements d) (done d c) refl

linked : (d : DriverContent) (c : Command) → placements (linked_on d c) ≡ placements d
linked d c = or_done (record d { made = length (events_of c); periodic = begun_next (removes_members c) (record d.periodic { list = list_after d c }) }) c

went_on : (d : DriverContent) (c : Option Command) → placements (advanced_by d c) ≡ placements d
went_on d None = refl
went_on d (Some c) =
    either placements (nat_lt (suc d.made) (length (events_of c))) (record d { made = suc d.made }) (if links c then linked_on d c else finished d c) (placements d) refl
    (either placements (links c) (linked_on d c) (finished d c) (placements d) (linked d c) (done d c))

advanced : (d : DriverContent) → placements (advance d) ≡ placements d
advanced d = went_on d d.command

framed : (d : DriverContent) (n : ℕ) (c : Option Command) → placements (framed_by d n c) ≡ placements d
framed d n (Some (unfinished.Iso e t count)) = advanced (with_notes d n (take count (drop t d.transfers)) (framed_notes d n e t count (placement_at d e)))
framed d n _ = refl

-- ---- a release

transfer_let_go : (p : Parts) (t : ℕ) (o : Option Transfer) (h : Holding) → placements (after_transfer p t o h).driver ≡ placements p.driver
transfer_let_go p t None h = refl
transfer_let_go p t (Some x) h = refl

endpoint_let_go : (p : Parts) (e : ℕ) (o : Option Endpoint) → slice_get p.driver.endpoints e ≡ o → ((x : Endpoint) → o ≡ Some x → x.placement ≡ None) → placements (after_endpoint p e o).driver ≡ placements p.driver
endpoint_let_go p e None here alone = refl
endpoint_let_go p e (Some x) here alone =
    ap (λ (es : List Endpoint). planned 0 (slice_set es e (record x { gone = true }))) (told_endpoints p.driver p.memory e x)
    ∙ unplaced_back 0 e p.driver.endpoints x here (alone x refl)

unlinked : (p : Parts) (t : ℕ) (o : Option Transfer) → placements (after_unlink p t o).driver ≡ placements p.driver
unlinked p t None = refl
unlinked p t (Some x) = refl

descriptor_let_go : (p : Parts) (t : ℕ) (o : Option Transfer) → placements (after_descriptor p t o).driver ≡ placements p.driver
descriptor_let_go p t None = refl
descriptor_let_go p t (Some x) = refl

-- the placements without that of an endpoint
abbrev pub without_one : List Placed → ℕ → Option Endpoint → List Placed
without_one ps e None = ps
without_one ps e (Some x) = filter (other e) ps

placed_let_go : (p : Parts) (e : ℕ) (o : Option Endpoint) → slice_get p.driver.endpoints e ≡ o → placements (after_placed p e o).driver ≡ without_one (placements p.driver) e o
placed_let_go p e None here = refl
placed_let_go p e (Some x) here =
    ap (λ (es : List Endpoint). planned 0 (slice_set es e (record x { gone = true }))) (told_endpoints p.driver p.memory e x)
    ∙ given_back 0 e e p.driver.endpoints x (omega arith) here

-- ---- a harvest

all_behind : (d : DriverContent) (e : ℕ) (name : EpName) (k n : ℕ) → (behind d e name k n).endpoints ≡ d.endpoints
unfolding behind
all_behind d e name k zero = refl
all_behind d e name k (suc n) = all_behind (behind_one d e name k (slice_get d.transfers k)) e name (suc k) n ∙ one_behind d e name k (slice_get d.transfers k)

over : (d : DriverContent) (e t : ℕ) (x : Endpoint) (stall : Bool) (cause : Option EndCause) → slice_get d.endpoints e ≡ Some x → placements (after_end d e t x stall cause) ≡ placements d
over d e t x stall (Some cause) here = same_at 0 e d.endpoints x (record x { ended = Some cause }) here refl refl refl
over d e t x true None here =
    ap (planned 0) (all_behind _ e x.desc.name (suc t) (length d.transfers - suc t)) ∙ same_at 0 e d.endpoints x (record x { next = None }) here refl refl refl
over d e t x false None here = same_at 0 e d.endpoints x _ here refl refl refl

read : (d : DriverContent) (m : Mem) (e t : ℕ) (x : Endpoint) (y : Transfer) (found : Found) → slice_get d.endpoints e ≡ Some x → placements (harvested_as d m e t x y found) ≡ placements d
read d m e t x y (founds.Served errors) here = same_at 0 e d.endpoints x _ here refl refl refl
read d m e t x y (founds.Ended n what) here =
    over (told_with d m t y what x.desc.name (noted d.notes y.place n)) e t x (is_stall what) (end_of x.desc.kind what) here
read d m e t x y _ here = refl

harvested : (d : DriverContent) (m : Mem) (e t : ℕ) (found : Found) (o : Option Endpoint) (q : Option Transfer) → slice_get d.endpoints e ≡ o → placements (after_harvest d m e t found o q) ≡ placements d
harvested d m e t found None q here = refl
harvested d m e t found (Some x) None here = refl
harvested d m e t found (Some x) (Some y) here =
    either placements (waits_for e y) (served (harvested_as d m e t x y found) e) d (placements d) (read d m e t x y found here) refl

-- ---- any event

abbrev pub placements_after : DriverRow → DriverContent → List Placed
placements_after (rows.ReleaseRemoved (removed.Endpoint e)) d = without_one (placements d) e (slice_get d.endpoints e)
placements_after _ d = placements d

-- an endpoint of the ring, where it is given back
abbrev pub IfRing : DriverRow → DriverContent → Type 0
IfRing (rows.ReleaseEndpoint e) d = (x : Endpoint) → slice_get d.endpoints e ≡ Some x → x.placement ≡ None
IfRing _ d = Unit {0}

removed_let_go : (p : Parts) (what : Removed) → placements (after_removed p what).driver ≡ placements_after (rows.ReleaseRemoved what) p.driver
removed_let_go p (removed.Descriptor t) = descriptor_let_go p t (slice_get p.driver.transfers t)
removed_let_go p (removed.Endpoint e) = placed_let_go p e (slice_get p.driver.endpoints e) refl

pub placements_of_event : (row : DriverRow) (p : Parts) → IfRing row p.driver → placements (after_driver_row row p).driver ≡ placements_after row p.driver
placements_of_event rows.Lend p ring = advanced (record p.driver { book = (lend_taken (holding p.driver.book p.memory)).book })
placements_of_event (rows.Store b at v) p ring = advanced p.driver
placements_of_event (rows.ReleaseTransfer t) p ring = transfer_let_go p t (slice_get p.driver.transfers t) _
placements_of_event (rows.ReleaseEndpoint e) p ring = endpoint_let_go p e (slice_get p.driver.endpoints e) refl ring
placements_of_event rows.Frames p ring = framed p.driver p.registers.frame_index p.driver.command
placements_of_event rows.LendDescriptors p ring =
    advanced (record p.driver { book = (lend_taken (holding p.driver.book (linked_by p.driver p.memory p.driver.command))).book })
placements_of_event (rows.Unlink t) p ring = unlinked p t (slice_get p.driver.transfers t)
placements_of_event (rows.ReleaseRemoved what) p ring = removed_let_go p what
placements_of_event (rows.Harvest e t found) p ring = harvested p.driver p.memory e t found (slice_get p.driver.endpoints e) (slice_get p.driver.transfers t) refl
placements_of_event _ p ring = refl
