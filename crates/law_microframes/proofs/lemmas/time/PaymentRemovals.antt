-- As long as FRINDEX has the frame number that it has now, an endpoint that left its frames since isn't given back: neither an event of the driver nor a command sees the boundary of its
-- removal (EHCI 1.0, 2.3.4 and 4.6).
use Rattle.std.proofs.Common.{◌≡◌, ℕ, zero, suc, ◌-◌, Bool, true, false, List, [], ◌∷◌, ◌++◌, length, take, drop, slice_get, Option, Some, None, option_map, refl, ap, sym, subst, ◌∙◌}
use Rattle.std.specs.Prelude.{nat_lt, is_none, if◌then◌else◌}
use Rattle.std.proofs.lemmas.Option.{same_Some, slice_get-map}
use Rattle.law_descriptors.proofs.Common.{next_removals, open_again}
use Rattle.usb_base.specs.declared.endpoints.EpName.{EpName}
use Rattle.usb_base.specs.declared.endpoints.EndCause.{EndCause}
use Rattle.word_mem.specs.Memory.{Mem}
use Rattle.mem_runs.specs.Book.{Holding, holding, lend_taken}
use Rattle.drv_periodic_table.specs.declared.content.Removal.{Removal}
use Rattle.drv_periodic_table.specs.declared.content.Removed.{Removed}
use Rattle.drv_periodic_table.specs.declared.content.Removed.TheVariants as removed
use Rattle.drv_periodic_table.specs.Periodic.{PeriodicContent, read_once, read_again}
use Rattle.drv_periodic_table.specs.Linking.{begun_next}
use Rattle.drv_table.specs.declared.content.Endpoint.{Endpoint}
use Rattle.drv_table.specs.declared.content.Transfer.{Transfer}
use Rattle.drv_table.specs.declared.content.Command.{Command}
use Rattle.drv_table.specs.declared.content.Command.TheVariants as unfinished
use Rattle.drv_table.specs.declared.rows.DriverRow.{DriverRow}
use Rattle.drv_table.specs.declared.rows.DriverRow.TheVariants as rows
use Rattle.drv_table.specs.declared.rows.Found.{Found}
use Rattle.drv_table.specs.declared.rows.Found.TheVariants as founds
use Rattle.drv_table.specs.DriverContent.{DriverContent, waits_for}
use Rattle.drv_table.specs.Harvests.{is_stall, noted, end_of}
use Rattle.drv_table.specs.Parts.{Parts}
use Rattle.drv_table.specs.Commands.{events_of, links, removes_members, no_command, leave_ring, leave_frames, removal_of, finished, list_after, or_finished, linked_on, advanced_by}
use Rattle.drv_table.specs.FrameChoice.{framed_by, with_notes, framed_notes, placement_at, linked_by}
use Rattle.drv_table.specs.Rows.{after_driver_row}
use Rattle.drv_table.specs.Releases.{after_transfer, is_told, cancel_told, after_endpoint}
use Rattle.drv_table.specs.Removals.{after_unlink, after_descriptor, after_placed, after_removed}
use Rattle.drv_table.specs.Harvesting.{told_with, behind_one, behind, after_end, harvested_as, served, after_harvest}
use Rattle.law_driver.specs.run_owners.Due.{IsDue}
use Rattle.law_admission.proofs.Events.{either}
use Rattle.claims_driver.specs.Unlinked.{IsOpenAt}

-- ---- boundaries

module _ (now e : ℕ) where
  -- each removal of this endpoint is open
  abbrev pub AreOpen : List Removal → Type 0
  AreOpen rs = (k : ℕ) (r : Removal) → slice_get rs k ≡ Some r → r.what ≡ removed.Endpoint e → IsOpenAt now r.boundary

  open_pushed : (rs : List Removal) (what : Removed) → AreOpen rs → AreOpen (rs ++ removal_of what ∷ [])
  open_pushed [] what all zero r here is = subst (λ (x : Removal). IsOpenAt now x.boundary) (same_Some (removal_of what) r here) tt
  open_pushed [] what all (suc k) r here is = absurd (cc)
  open_pushed (x ∷ rs) what all zero r here is = all 0 r here is
  open_pushed (x ∷ rs) what all (suc k) r here is = open_pushed rs what (λ i s there at. all (suc i) s there at) k r here is

  open_dropped : (rs : List Removal) → AreOpen rs → AreOpen (drop 1 rs)
  open_dropped [] all = all
  open_dropped (x ∷ rs) all = λ k r here is. all (suc k) r here is

  open_read : (rs : List Removal) → AreOpen rs → AreOpen (read_again now rs)
  open_read rs all k r here is = by (slice_get rs k) refl (sym (slice_get-map (read_once now) rs k) ∙ here)
    where
      by : (o : Option Removal) → slice_get rs k ≡ o → option_map (read_once now) o ≡ Some r → IsOpenAt now r.boundary
      by None at same = absurd (cc)
      by (Some x) at same =
          let was : read_once now x ≡ r = same_Some (read_once now x) r same in
          subst (λ (y : Removal). IsOpenAt now y.boundary) was (open_again now x.boundary (all k x at (ap (λ (y : Removal). y.what) was ∙ is)))

  -- ---- the command goes on

  abbrev In : DriverContent → Type 0
  In d = AreOpen d.periodic.removals

  either_in : (b : Bool) (x y : DriverContent) → In x → In y → In (if b then x else y)
  either_in true x y one two = one
  either_in false x y one two = two

  same_in : (x y : DriverContent) → y.periodic.removals ≡ x.periodic.removals → In x → In y
  same_in x y same all = subst AreOpen (sym same) all

  ring_left : (d : DriverContent) (i : ℕ) (o : Option Endpoint) → In d → In (leave_ring d i o)
  ring_left d i None all = all
  ring_left d i (Some x) all = either_in x.linked _ d all all

  frames_left : (d : DriverContent) (i : ℕ) (o : Option Endpoint) → In d → In (leave_frames d i o)
  frames_left d i None all = all
  frames_left d i (Some x) all = either_in x.chained _ d (open_pushed d.periodic.removals (removed.Endpoint i) all) all

  done : (d : DriverContent) (c : Command) → In d → In (finished d c)
  done d (unfinished.Unlink i b link) all = ring_left (no_command d) i (slice_get d.endpoints i) all
  done d (unfinished.Unchain i) all = frames_left (no_command d) i (slice_get d.endpoints i) all
  done d _ all = all

  pub or_done : (d : DriverContent) (c : Command) → AreOpen d.periodic.removals → AreOpen (or_finished d c).periodic.removals
  or_done d c all = either_in (is_none d.periodic.list.work) (finished d c) d (done d c all) all

module _ (now e : ℕ) where
  abbrev Has : DriverContent → Type 0
  Has d = AreOpen now e d.periodic.removals

  pub begun : (removes : Bool) (q : PeriodicContent) → AreOpen now e q.removals → AreOpen now e (begun_next removes q).removals
  begun removes q all = subst (AreOpen now e) (sym (next_removals removes q)) all

  linked : (d : DriverContent) (c : Command) → Has d → Has (linked_on d c)
  linked d c all =
      let q : PeriodicContent = record d.periodic { list = list_after d c } in
      or_done now e (record d { made = length (events_of c); periodic = begun_next (removes_members c) q }) c (begun (removes_members c) q all)

  went_on : (d : DriverContent) (o : Option Command) → Has d → Has (advanced_by d o)
  went_on d None all = all
  went_on d (Some c) all =
      either_in now e (nat_lt (suc d.made) (length (events_of c))) (record d { made = suc d.made }) (if links c then linked_on d c else finished d c) all
      (either_in now e (links c) (linked_on d c) (finished d c) (linked d c all) (done now e d c all))

  framed : (d : DriverContent) (o : Option Command) → Has d → Has (framed_by d now o)
  framed d (Some (unfinished.Iso i t count)) all =
      went_on (with_notes d now (take count (drop t d.transfers)) (framed_notes d now i t count (placement_at d i))) d.command (open_read now e d.periodic.removals all)
  framed d _ all = all

  -- ---- a release

  transfer_goes : (p : Parts) (t : ℕ) (o : Option Transfer) (h : Holding) → (after_transfer p t o h).driver.periodic.removals ≡ p.driver.periodic.removals
  transfer_goes p t None h = refl
  transfer_goes p t (Some x) h = refl

  told : (d : DriverContent) (m : Mem) (i : ℕ) (x : Endpoint) → (cancel_told d m i x).periodic ≡ d.periodic
  told d m i x = either (λ (f : DriverContent). f.periodic) (is_told x) _ d d.periodic refl refl

  endpoint_goes : (p : Parts) (i : ℕ) (o : Option Endpoint) → (after_endpoint p i o).driver.periodic.removals ≡ p.driver.periodic.removals
  endpoint_goes p i None = refl
  endpoint_goes p i (Some x) = ap (λ (q : PeriodicContent). q.removals) (told p.driver p.memory i x)

  unlinked : (p : Parts) (t : ℕ) (o : Option Transfer) → Has p.driver → Has (after_unlink p t o).driver
  unlinked p t None all = all
  unlinked p t (Some x) all = open_pushed now e p.driver.periodic.removals (removed.Descriptor t) all

  descriptor_goes : (p : Parts) (t : ℕ) (o : Option Transfer) → Has p.driver → Has (after_descriptor p t o).driver
  descriptor_goes p t None all = all
  descriptor_goes p t (Some x) all = open_dropped now e p.driver.periodic.removals all

  placed_goes : (p : Parts) (i : ℕ) (o : Option Endpoint) → Has p.driver → Has (after_placed p i o).driver
  placed_goes p i None all = all
  placed_goes p i (Some x) all =
      subst (λ (q : PeriodicContent). AreOpen now e (drop 1 q.removals)) (sym (told p.driver p.memory i x)) (open_dropped now e p.driver.periodic.removals all)

  removed_goes : (p : Parts) (what : Removed) → Has p.driver → Has (after_removed p what).driver
  removed_goes p (removed.Descriptor t) all = descriptor_goes p t (slice_get p.driver.transfers t) all
  removed_goes p (removed.Endpoint i) all = placed_goes p i (slice_get p.driver.endpoints i) all

  -- ---- a harvest

  one_behind : (d : DriverContent) (i : ℕ) (name : EpName) (k : ℕ) (o : Option Transfer) → (behind_one d i name k o).periodic.removals ≡ d.periodic.removals
  one_behind d i name k None = refl
  one_behind d i name k (Some x) = either (λ (f : DriverContent). f.periodic.removals) (waits_for i x) _ d d.periodic.removals refl refl

  all_behind : (d : DriverContent) (i : ℕ) (name : EpName) (k n : ℕ) → (behind d i name k n).periodic.removals ≡ d.periodic.removals
  unfolding behind
  all_behind d i name k zero = refl
  all_behind d i name k (suc n) = all_behind (behind_one d i name k (slice_get d.transfers k)) i name (suc k) n ∙ one_behind d i name k (slice_get d.transfers k)

  over : (d : DriverContent) (i t : ℕ) (x : Endpoint) (stall : Bool) (cause : Option EndCause) → (after_end d i t x stall cause).periodic.removals ≡ d.periodic.removals
  over d i t x stall (Some cause) = refl
  over d i t x true None = all_behind _ i x.desc.name (suc t) (length d.transfers - suc t)
  over d i t x false None = refl

  read : (d : DriverContent) (m : Mem) (i t : ℕ) (x : Endpoint) (y : Transfer) (found : Found) → (harvested_as d m i t x y found).periodic.removals ≡ d.periodic.removals
  read d m i t x y (founds.Ended n what) = over (told_with d m t y what x.desc.name (noted d.notes y.place n)) i t x (is_stall what) (end_of x.desc.kind what)
  read d m i t x y _ = refl

  harvested : (d : DriverContent) (m : Mem) (i t : ℕ) (found : Found) (o : Option Endpoint) (q : Option Transfer) → (after_harvest d m i t found o q).periodic.removals ≡ d.periodic.removals
  harvested d m i t found None q = refl
  harvested d m i t found (Some x) None = refl
  harvested d m i t found (Some x) (Some y) =
      either (λ (f : DriverContent). f.periodic.removals) (waits_for i y) (served (harvested_as d m i t x y found) i) d d.periodic.removals (read d m i t x y found) refl

-- ---- any event

pub row_open : (row : DriverRow) (p : Parts) (e : ℕ) → IsDue p row → AreOpen p.registers.frame_index e p.driver.periodic.removals
    → AreOpen p.registers.frame_index e (after_driver_row row p).driver.periodic.removals
row_open rows.Lend p e due all = went_on p.registers.frame_index e (record p.driver { book = (lend_taken (holding p.driver.book p.memory)).book }) p.driver.command all
row_open (rows.Store b to v) p e due all = went_on p.registers.frame_index e p.driver p.driver.command all
row_open (rows.ReleaseTransfer t) p e due all = subst (AreOpen p.registers.frame_index e) (sym (transfer_goes 0 0 p t (slice_get p.driver.transfers t) _)) all
row_open (rows.ReleaseEndpoint i) p e due all = subst (AreOpen p.registers.frame_index e) (sym (endpoint_goes 0 0 p i (slice_get p.driver.endpoints i))) all
row_open (rows.ReadFrame n) p e due all =
    subst (λ (i : ℕ). AreOpen p.registers.frame_index e (read_again i p.driver.periodic.removals)) (sym due.1) (open_read p.registers.frame_index e p.driver.periodic.removals all)
row_open rows.Frames p e due all = framed p.registers.frame_index e p.driver p.driver.command all
row_open rows.LendDescriptors p e due all =
    went_on p.registers.frame_index e (record p.driver { book = (lend_taken (holding p.driver.book (linked_by p.driver p.memory p.driver.command))).book }) p.driver.command all
row_open (rows.Unlink t) p e due all = unlinked p.registers.frame_index e p t (slice_get p.driver.transfers t) all
row_open (rows.ReleaseRemoved what) p e due all = removed_goes p.registers.frame_index e p what all
row_open (rows.Harvest i t found) p e due all =
    subst (AreOpen p.registers.frame_index e) (sym (harvested 0 0 p.driver p.memory i t found (slice_get p.driver.endpoints i) (slice_get p.driver.transfers t))) all
row_open _ p e due all = all
