-- Each event of the driver leaves what an endpoint is, but for how it ended and whether it was given back: its description, its placement and its queue head.
use Rattle.std.proofs.Common.{◌≡◌, ◌≢◌, ℕ, zero, suc, ◌-◌, Bool, true, false, List, length, set, slice_get, Option, Some, None, option_map, refl, ap, sym, ◌∙◌, ⊎_elim}
use Rattle.std.specs.Prelude.{nat_lt, is_none, take, drop, if◌then◌else◌}
use Rattle.std.proofs.lemmas.Bool.{cases_eq}
use Rattle.std.proofs.lemmas.Option.{same_Some}
use Rattle.law_common.proofs.Lists.{set_here, set_there}
use Rattle.usb_base.specs.declared.endpoints.EpName.{EpName}
use Rattle.usb_base.specs.declared.endpoints.EpDesc.{EpDesc}
use Rattle.usb_base.specs.declared.endpoints.EndCause.{EndCause}
use Rattle.word_mem.specs.Memory.{Mem}
use Rattle.mem_runs.specs.Book.{Holding, holding, lend_taken}
use Rattle.bandwidth.specs.declared.placements.Placement.{Placement}
use Rattle.drv_periodic_table.specs.declared.content.Removed.{Removed}
use Rattle.drv_periodic_table.specs.declared.content.Removed.TheVariants as removed
use Rattle.drv_periodic_table.specs.Linking.{begun_next}
use Rattle.drv_table.specs.declared.content.Endpoint.{Endpoint}
use Rattle.drv_table.specs.declared.content.Transfer.{Transfer}
use Rattle.drv_table.specs.declared.content.Command.{Command}
use Rattle.drv_table.specs.declared.content.Command.TheVariants as unfinished
use Rattle.drv_table.specs.declared.rows.DriverRow.{DriverRow}
use Rattle.drv_table.specs.declared.rows.DriverRow.TheVariants as rows
use Rattle.drv_table.specs.declared.rows.Found.{Found}
use Rattle.drv_table.specs.declared.rows.Found.TheVariants as founds
use Rattle.drv_table.specs.DriverContent.{DriverContent, waits_for}
use Rattle.drv_table.specs.Harvests.{is_stall, noted, end_of}
use Rattle.drv_table.specs.Parts.{Parts}
use Rattle.drv_table.specs.Commands.{events_of, links, removes_members, no_command, leave_ring, leave_frames, finished, list_after, or_finished, linked_on, advanced_by, advance}
use Rattle.drv_table.specs.FrameChoice.{framed_by, with_notes, framed_notes, placement_at, linked_by}
use Rattle.drv_table.specs.Rows.{after_driver_row}
use Rattle.drv_table.specs.Releases.{after_transfer, is_told, cancel_told, after_endpoint}
use Rattle.drv_table.specs.Removals.{after_unlink, after_descriptor, after_placed, after_removed}
use Rattle.drv_table.specs.Harvesting.{told_with, behind_one, behind, after_end, harvested_as, served, after_harvest}
use Rattle.law_admission.proofs.Events.{either}

-- ---- what an endpoint is

pub record Seen : Type 0 where
  pub desc : EpDesc
  pub placement : Option Placement
  pub queue : ℕ

abbrev pub seen : Endpoint → Seen
seen x = record { desc = x.desc; placement = x.placement; queue = x.queue }

abbrev pub seen_in : List Endpoint → ℕ → Option Seen
seen_in xs i = option_map seen (slice_get xs i)

pub seen_set : (xs : List Endpoint) (e i : ℕ) (x y : Endpoint) → slice_get xs e ≡ Some x → seen y ≡ seen x → seen_in (set xs e y) i ≡ seen_in xs i
seen_set xs e i x y here same =
    ⊎_elim
    (λ (own : i ≡ e).
    ap (λ (j : ℕ). seen_in (set xs e y) j) own ∙ ap (option_map seen) (set_here xs e x y here) ∙ ap (λ (z : Seen). Some z) same ∙ sym (ap (option_map seen) here) ∙ ap (λ (j : ℕ). seen_in xs j) (sym own))
    (λ (other : i ≢ e). ap (option_map seen) (set_there xs e i y other)) (cases_eq i e)

-- one that is seen, where another list shows the same
pub record IsSeenIn (ys : List Endpoint) (i : ℕ) (x : Endpoint) : Type 0 where
  pub endpoint : Endpoint
  pub here : slice_get ys i ≡ Some endpoint
  pub same : seen endpoint ≡ seen x

pub seen_there : (xs ys : List Endpoint) (i : ℕ) (x : Endpoint) → seen_in ys i ≡ seen_in xs i → slice_get xs i ≡ Some x → IsSeenIn ys i x
seen_there xs ys i x same here = by (slice_get ys i) refl (same ∙ ap (option_map seen) here)
  where
    by : (o : Option Endpoint) → slice_get ys i ≡ o → option_map seen o ≡ Some (seen x) → IsSeenIn ys i x
    by None at is = absurd (cc)
    by (Some y) at is = record { endpoint = y; here = at; same = same_Some (seen y) (seen x) is }

module _ (i : ℕ) where
  abbrev at : DriverContent → Option Seen
  at d = seen_in d.endpoints i

  -- ---- the command goes on

  ring_left : (d : DriverContent) (e : ℕ) (o : Option Endpoint) → slice_get d.endpoints e ≡ o → at (leave_ring d e o) ≡ at d
  ring_left d e None here = refl
  ring_left d e (Some x) here = either at x.linked _ d (at d) (seen_set d.endpoints e i x (record x { linked = false }) here refl) refl

  frames_left : (d : DriverContent) (e : ℕ) (o : Option Endpoint) → slice_get d.endpoints e ≡ o → at (leave_frames d e o) ≡ at d
  frames_left d e None here = refl
  frames_left d e (Some x) here = either at x.chained _ d (at d) (seen_set d.endpoints e i x (record x { chained = false }) here refl) refl

  done : (d : DriverContent) (c : Command) → at (finished d c) ≡ at d
  done d (unfinished.Unlink e b link) = ring_left (no_command d) e (slice_get d.endpoints e) refl
  done d (unfinished.Unchain e) = frames_left (no_command d) e (slice_get d.endpoints e) refl
  done d _ = refl

  pub or_done : (d : DriverContent) (c : Command) → seen_in (or_finished d c).endpoints i ≡ seen_in d.endpoints i
  or_done d c = either at (is_none d.periodic.list.work) (finished d c) d (at d) (done d c) refl

  linked : (d : DriverContent) (c : Command) → at (linked_on d c) ≡ at d
  linked d c = or_done (record d { made = length (events_of c); periodic = begun_next (removes_members c) (record d.periodic { list = list_after d c }) }) c

  went_on : (d : DriverContent) (c : Option Command) → at (advanced_by d c) ≡ at d
  went_on d None = refl
  went_on d (Some c) =
      either at (nat_lt (suc d.made) (length (events_of c))) (record d { made = suc d.made }) (if links c then linked_on d c else finished d c) (at d) refl
      (either at (links c) (linked_on d c) (finished d c) (at d) (linked d c) (done d c))

  advanced : (d : DriverContent) → at (advance d) ≡ at d
  advanced d = went_on d d.command

  framed : (d : DriverContent) (n : ℕ) (c : Option Command) → at (framed_by d n c) ≡ at d
  framed d n (Some (unfinished.Iso e t count)) = advanced (with_notes d n (take count (drop t d.transfers)) (framed_notes d n e t count (placement_at d e)))
  framed d n _ = refl

  -- ---- a release

  transfer_let_go : (p : Parts) (t : ℕ) (o : Option Transfer) (h : Holding) → at (after_transfer p t o h).driver ≡ at p.driver
  transfer_let_go p t None h = refl
  transfer_let_go p t (Some x) h = refl

  told : (d : DriverContent) (m : Mem) (e : ℕ) (x : Endpoint) → (cancel_told d m e x).endpoints ≡ d.endpoints
  told d m e x = either (λ (f : DriverContent). f.endpoints) (is_told x) _ d d.endpoints refl refl

  gone_set : (d : DriverContent) (m : Mem) (e : ℕ) (x : Endpoint) → slice_get d.endpoints e ≡ Some x → seen_in (set (cancel_told d m e x).endpoints e (record x { gone = true })) i ≡ seen_in d.endpoints i
  gone_set d m e x here =
      ap (λ (es : List Endpoint). seen_in (set es e (record x { gone = true })) i) (told d m e x) ∙ seen_set d.endpoints e i x (record x { gone = true }) here refl

  endpoint_let_go : (p : Parts) (e : ℕ) (o : Option Endpoint) → slice_get p.driver.endpoints e ≡ o → at (after_endpoint p e o).driver ≡ at p.driver
  endpoint_let_go p e None here = refl
  endpoint_let_go p e (Some x) here = gone_set p.driver p.memory e x here

  unlinked : (p : Parts) (t : ℕ) (o : Option Transfer) → at (after_unlink p t o).driver ≡ at p.driver
  unlinked p t None = refl
  unlinked p t (Some x) = refl

  descriptor_let_go : (p : Parts) (t : ℕ) (o : Option Transfer) → at (after_descriptor p t o).driver ≡ at p.driver
  descriptor_let_go p t None = refl
  descriptor_let_go p t (Some x) = refl

  placed_let_go : (p : Parts) (e : ℕ) (o : Option Endpoint) → slice_get p.driver.endpoints e ≡ o → at (after_placed p e o).driver ≡ at p.driver
  placed_let_go p e None here = refl
  placed_let_go p e (Some x) here = gone_set p.driver p.memory e x here

  removed_let_go : (p : Parts) (what : Removed) → at (after_removed p what).driver ≡ at p.driver
  removed_let_go p (removed.Descriptor t) = descriptor_let_go p t (slice_get p.driver.transfers t)
  removed_let_go p (removed.Endpoint e) = placed_let_go p e (slice_get p.driver.endpoints e) refl

  -- ---- a harvest

  one_behind : (d : DriverContent) (e : ℕ) (name : EpName) (k : ℕ) (o : Option Transfer) → (behind_one d e name k o).endpoints ≡ d.endpoints
  one_behind d e name k None = refl
  one_behind d e name k (Some x) = either (λ (f : DriverContent). f.endpoints) (waits_for e x) _ d d.endpoints refl refl

  all_behind : (d : DriverContent) (e : ℕ) (name : EpName) (k n : ℕ) → (behind d e name k n).endpoints ≡ d.endpoints
  unfolding behind
  all_behind d e name k zero = refl
  all_behind d e name k (suc n) = all_behind (behind_one d e name k (slice_get d.transfers k)) e name (suc k) n ∙ one_behind d e name k (slice_get d.transfers k)

  over : (d : DriverContent) (e t : ℕ) (x : Endpoint) (stall : Bool) (cause : Option EndCause) → slice_get d.endpoints e ≡ Some x → at (after_end d e t x stall cause) ≡ at d
  over d e t x stall (Some cause) here = seen_set d.endpoints e i x (record x { ended = Some cause }) here refl
  over d e t x true None here =
      ap (λ (es : List Endpoint). seen_in es i) (all_behind _ e x.desc.name (suc t) (length d.transfers - suc t)) ∙ seen_set d.endpoints e i x (record x { next = None }) here refl
  over d e t x false None here = seen_set d.endpoints e i x _ here refl

  read : (d : DriverContent) (m : Mem) (e t : ℕ) (x : Endpoint) (y : Transfer) (found : Found) → slice_get d.endpoints e ≡ Some x → at (harvested_as d m e t x y found) ≡ at d
  read d m e t x y (founds.Served errors) here = seen_set d.endpoints e i x _ here refl
  read d m e t x y (founds.Ended n what) here =
      over (told_with d m t y what x.desc.name (noted d.notes y.place n)) e t x (is_stall what) (end_of x.desc.kind what) here
  read d m e t x y _ here = refl

  harvested : (d : DriverContent) (m : Mem) (e t : ℕ) (found : Found) (o : Option Endpoint) (q : Option Transfer) → slice_get d.endpoints e ≡ o → at (after_harvest d m e t found o q) ≡ at d
  harvested d m e t found None q here = refl
  harvested d m e t found (Some x) None here = refl
  harvested d m e t found (Some x) (Some y) here =
      either at (waits_for e y) (served (harvested_as d m e t x y found) e) d (at d) (read d m e t x y found here) refl

  -- ---- any event

  pub row_seen : (row : DriverRow) (p : Parts) → seen_in (after_driver_row row p).driver.endpoints i ≡ seen_in p.driver.endpoints i
  row_seen rows.Lend p = advanced (record p.driver { book = (lend_taken (holding p.driver.book p.memory)).book })
  row_seen (rows.Store b to v) p = advanced p.driver
  row_seen (rows.ReleaseTransfer t) p = transfer_let_go p t (slice_get p.driver.transfers t) _
  row_seen (rows.ReleaseEndpoint e) p = endpoint_let_go p e (slice_get p.driver.endpoints e) refl
  row_seen rows.Frames p = framed p.driver p.registers.frame_index p.driver.command
  row_seen rows.LendDescriptors p = advanced (record p.driver { book = (lend_taken (holding p.driver.book (linked_by p.driver p.memory p.driver.command))).book })
  row_seen (rows.Unlink t) p = unlinked p t (slice_get p.driver.transfers t)
  row_seen (rows.ReleaseRemoved what) p = removed_let_go p what
  row_seen (rows.Harvest e t found) p = harvested p.driver p.memory e t found (slice_get p.driver.endpoints e) (slice_get p.driver.transfers t) refl
  row_seen _ p = refl
