-- Each event of the driver leaves of a transfer its endpoint, its kind and its first block, and none that was given back comes again; what is reported is of the endpoint that is
-- harvested, or was reported before.
use Rattle.std.proofs.Common.{◌≡◌, ◌≢◌, ℕ, zero, suc, ◌-◌, Bool, true, false, List, [], ◌∷◌, length, map, set, slice_get, Option, Some, None, refl, ap, sym, subst, ◌∙◌, ⊎_elim, inl, inr}
use Rattle.std.specs.Prelude.{◌⊎◌, ◌||◌, ◌==◌, nat_lt, is_none, take, drop, if◌then◌else◌}
use Rattle.std.proofs.lemmas.Bool.{cases_eq, true≢false}
use Rattle.std.proofs.lemmas.Option.{same_Some}
use Rattle.law_common.proofs.Lists.{set_here, set_there}
use Rattle.law_driver.proofs.Common.{waits_is}
use Rattle.usb_base.specs.declared.endpoints.EpName.{EpName}
use Rattle.usb_base.specs.declared.endpoints.EndCause.{EndCause}
use Rattle.word_mem.specs.Memory.{Mem}
use Rattle.mem_runs.specs.Book.{Holding, holding, lend_taken}
use Rattle.drv_periodic_table.specs.declared.content.Removed.{Removed}
use Rattle.drv_periodic_table.specs.declared.content.Removed.TheVariants as removed
use Rattle.drv_periodic_table.specs.Linking.{begun_next}
use Rattle.drv_table.specs.declared.content.Endpoint.{Endpoint}
use Rattle.drv_table.specs.declared.content.Transfer.{Transfer}
use Rattle.drv_table.specs.declared.content.Command.{Command}
use Rattle.drv_table.specs.declared.content.Command.TheVariants as unfinished
use Rattle.drv_table.specs.declared.rows.DriverRow.{DriverRow}
use Rattle.drv_table.specs.declared.rows.DriverRow.TheVariants as rows
use Rattle.drv_table.specs.declared.rows.Found.{Found}
use Rattle.drv_table.specs.declared.rows.Found.TheVariants as founds
use Rattle.drv_table.specs.DriverContent.{DriverContent, waits_for}
use Rattle.drv_table.specs.Harvests.{is_stall, noted, end_of}
use Rattle.drv_table.specs.Parts.{Parts}
use Rattle.drv_table.specs.Kinds.{is_iso}
use Rattle.drv_table.specs.Commands.{events_of, links, removes_members, no_command, leave_ring, leave_frames, finished, list_after, or_finished, linked_on, advanced_by, advance}
use Rattle.drv_table.specs.FrameChoice.{framed_by, with_notes, framed_notes, placement_at, linked_by}
use Rattle.drv_table.specs.Rows.{after_driver_row}
use Rattle.drv_table.specs.Releases.{after_transfer, freed_by, is_told, cancel_told, let_go, after_endpoint}
use Rattle.drv_table.specs.Removals.{let_go_placed, after_unlink, after_descriptor, after_placed, after_removed}
use Rattle.drv_table.specs.Harvesting.{told_with, behind_one, behind, after_end, harvested_as, served, after_harvest}
use Rattle.law_admission.proofs.Events.{either}

-- ---- what a transfer was

-- `new` tells of which endpoints transfers may be reported
pub record WasOf (new : ℕ → Type 0) (y z : Transfer) : Type 0 where
  pub endpoint : z.endpoint ≡ y.endpoint
  pub sort : z.sort ≡ y.sort
  pub first : z.first ≡ y.first
  pub held : z.released ≡ false → y.released ≡ false
  pub told : z.released ≡ false → z.reported ≡ true → (y.reported ≡ true) ⊎ new y.endpoint

pub record WasThere (new : ℕ → Type 0) (xs : List Transfer) (i : ℕ) (z : Transfer) : Type 0 where
  pub before : Transfer
  pub there : slice_get xs i ≡ Some before
  pub was : WasOf new before z

abbrev pub AllWereOf : (ℕ → Type 0) → List Transfer → List Transfer → Type 0
AllWereOf new xs ys = (i : ℕ) (z : Transfer) → slice_get ys i ≡ Some z → WasThere new xs i z

-- the row reports of these endpoints alone
abbrev pub MayTell : (ℕ → Type 0) → DriverRow → Type 0
MayTell new (rows.Harvest e t found) = new e
MayTell new _ = Unit {0}

module _ (new : ℕ → Type 0) where
  abbrev AllWere : List Transfer → List Transfer → Type 0
  AllWere xs ys = AllWereOf new xs ys

  was_itself : (y : Transfer) → WasOf new y y
  was_itself y = record { endpoint = refl; sort = refl; first = refl; held = λ on. on; told = λ off on. inl on }

  were_same : (xs : List Transfer) → AllWere xs xs
  were_same xs i z there = record { before = z; there = there; was = was_itself z }

  were_by : (xs ys : List Transfer) → ys ≡ xs → AllWere xs ys
  were_by xs ys same = subst (AllWere xs) (sym same) (were_same xs)

  were_both : (xs ys zs : List Transfer) → AllWere xs ys → AllWere ys zs → AllWere xs zs
  were_both xs ys zs one two i z there =
      let b = two i z there in
      let a = one i b.before b.there in
      record {
        before = a.before;
        there = a.there;
        was = record {
          endpoint = b.was.endpoint ∙ a.was.endpoint;
          sort = b.was.sort ∙ a.was.sort;
          first = b.was.first ∙ a.was.first;
          held = λ off. a.was.held (b.was.held off);
          told = λ off on.
              ⊎_elim {C = (a.before.reported ≡ true) ⊎ new a.before.endpoint} (λ (was : b.before.reported ≡ true). a.was.told (b.was.held off) was)
              (λ (is : new b.before.endpoint). inr (subst new a.was.endpoint is)) (b.was.told off on);
        };
      }

  were_set : (xs : List Transfer) (t : ℕ) (x y : Transfer) → slice_get xs t ≡ Some x → WasOf new x y → AllWere xs (set xs t y)
  were_set xs t x y here was i z there =
      ⊎_elim {C = WasThere new xs i z}
      (λ (own : i ≡ t).
      let same : y ≡ z = same_Some y z (sym (set_here xs t x y here) ∙ ap (slice_get (set xs t y)) (sym own) ∙ there) in
      record { before = x; there = ap (slice_get xs) own ∙ here; was = subst (WasOf new x) same was })
      (λ (other : i ≢ t). were_same xs i z (sym (set_there xs t i y other) ∙ there)) (cases_eq i t)

  were_mapped : (f : Transfer → Transfer) (xs : List Transfer) → ((y : Transfer) → WasOf new y (f y)) → AllWere xs (map f xs)
  were_mapped f [] was i z there = absurd (cc)
  were_mapped f (x ∷ xs) was zero z there = record { before = x; there = refl; was = subst (WasOf new x) (same_Some (f x) z there) (was x) }
  were_mapped f (x ∷ xs) was (suc i) z there =
      let k = were_mapped f xs was i z there in record { before = k.before; there = k.there; was = k.was }

  were_either : (xs : List Transfer) (b : Bool) (x y : DriverContent) → AllWere xs x.transfers → AllWere xs y.transfers → AllWere xs (if b then x else y).transfers
  were_either xs true x y one two = one
  were_either xs false x y one two = two

  abbrev let_go_or : Bool → Bool → Transfer → Transfer
  let_go_or b told y = if b then record y { reported = y.reported || told; released = true } else y

  was_let_go : (b told : Bool) (y : Transfer) → WasOf new y (let_go_or b told y)
  was_let_go true told y = record { endpoint = refl; sort = refl; first = refl; held = λ off. absurd (true≢false off); told = λ off on. absurd (true≢false off) }
  was_let_go false told y = was_itself y

  was_let_go_placed : (iso : Bool) (e : ℕ) (told : Bool) (y : Transfer) → WasOf new y (let_go_placed iso e told y)
  was_let_go_placed true e told y = was_let_go (waits_for e y) told y
  was_let_go_placed false e told y = was_let_go (y.endpoint == e) told y

  -- ---- the command goes on

  abbrev Of : DriverContent → List Transfer
  Of d = d.transfers

  ring_left : (d : DriverContent) (e : ℕ) (o : Option Endpoint) → Of (leave_ring d e o) ≡ Of d
  ring_left d e None = refl
  ring_left d e (Some x) = either Of x.linked _ d (Of d) refl refl

  frames_left : (d : DriverContent) (e : ℕ) (o : Option Endpoint) → Of (leave_frames d e o) ≡ Of d
  frames_left d e None = refl
  frames_left d e (Some x) = either Of x.chained _ d (Of d) refl refl

  done : (d : DriverContent) (c : Command) → Of (finished d c) ≡ Of d
  done d (unfinished.Unlink e b link) = ring_left (no_command d) e (slice_get d.endpoints e)
  done d (unfinished.Unchain e) = frames_left (no_command d) e (slice_get d.endpoints e)
  done d _ = refl

  or_done : (d : DriverContent) (c : Command) → Of (or_finished d c) ≡ Of d
  or_done d c = either Of (is_none d.periodic.list.work) (finished d c) d (Of d) (done d c) refl

  linked : (d : DriverContent) (c : Command) → Of (linked_on d c) ≡ Of d
  linked d c = or_done (record d { made = length (events_of c); periodic = begun_next (removes_members c) (record d.periodic { list = list_after d c }) }) c

  went_on : (d : DriverContent) (c : Option Command) → Of (advanced_by d c) ≡ Of d
  went_on d None = refl
  went_on d (Some c) =
      either Of (nat_lt (suc d.made) (length (events_of c))) (record d { made = suc d.made }) (if links c then linked_on d c else finished d c) (Of d) refl
      (either Of (links c) (linked_on d c) (finished d c) (Of d) (linked d c) (done d c))

  advanced : (d : DriverContent) → Of (advance d) ≡ Of d
  advanced d = went_on d d.command

  framed : (d : DriverContent) (n : ℕ) (c : Option Command) → Of (framed_by d n c) ≡ Of d
  framed d n (Some (unfinished.Iso e t count)) = advanced (with_notes d n (take count (drop t d.transfers)) (framed_notes d n e t count (placement_at d e)))
  framed d n _ = refl

  -- ---- a release

  transfer_let_go : (p : Parts) (t : ℕ) (o : Option Transfer) (h : Holding) → slice_get p.driver.transfers t ≡ o → AllWere p.driver.transfers (after_transfer p t o h).driver.transfers
  transfer_let_go p t None h here = were_same p.driver.transfers
  transfer_let_go p t (Some x) h here = were_set p.driver.transfers t x (record x { released = true }) here (record { endpoint = refl; sort = refl; first = refl; held = λ off. absurd (true≢false off); told = λ off on. absurd (true≢false off) })

  told : (d : DriverContent) (m : Mem) (e : ℕ) (x : Endpoint) → Of (cancel_told d m e x) ≡ Of d
  told d m e x = either Of (is_told x) _ d (Of d) refl refl

  endpoint_let_go : (p : Parts) (e : ℕ) (o : Option Endpoint) → AllWere p.driver.transfers (after_endpoint p e o).driver.transfers
  endpoint_let_go p e None = were_same p.driver.transfers
  endpoint_let_go p e (Some x) =
      subst (λ (ts : List Transfer). AllWere p.driver.transfers (map (let_go e (is_told x)) ts)) (sym (told p.driver p.memory e x))
      (were_mapped (let_go e (is_told x)) p.driver.transfers (λ y. was_let_go (y.endpoint == e) (is_told x) y))

  placed_let_go : (p : Parts) (e : ℕ) (o : Option Endpoint) → AllWere p.driver.transfers (after_placed p e o).driver.transfers
  placed_let_go p e None = were_same p.driver.transfers
  placed_let_go p e (Some x) =
      subst (λ (ts : List Transfer). AllWere p.driver.transfers (map (let_go_placed (is_iso x.desc.kind) e (is_told x)) ts)) (sym (told p.driver p.memory e x))
      (were_mapped (let_go_placed (is_iso x.desc.kind) e (is_told x)) p.driver.transfers (λ y. was_let_go_placed (is_iso x.desc.kind) e (is_told x) y))

  unlinked : (p : Parts) (t : ℕ) (o : Option Transfer) → Of (after_unlink p t o).driver ≡ Of p.driver
  unlinked p t None = refl
  unlinked p t (Some x) = refl

  descriptor_let_go : (p : Parts) (t : ℕ) (o : Option Transfer) → slice_get p.driver.transfers t ≡ o → AllWere p.driver.transfers (after_descriptor p t o).driver.transfers
  descriptor_let_go p t None here = were_same p.driver.transfers
  descriptor_let_go p t (Some x) here = were_set p.driver.transfers t x (record x { released = true }) here (record { endpoint = refl; sort = refl; first = refl; held = λ off. absurd (true≢false off); told = λ off on. absurd (true≢false off) })

  removed_let_go : (p : Parts) (what : Removed) → AllWere p.driver.transfers (after_removed p what).driver.transfers
  removed_let_go p (removed.Descriptor t) = descriptor_let_go p t (slice_get p.driver.transfers t) refl
  removed_let_go p (removed.Endpoint e) = placed_let_go p e (slice_get p.driver.endpoints e)

  -- ---- a harvest

  -- one of the endpoint that is harvested is reported
  is_told_of : (e : ℕ) (x : Transfer) → waits_for e x ≡ true → new e → WasOf new x (record x { reported = true })
  is_told_of e x waits fits = record { endpoint = refl; sort = refl; first = refl; held = λ off. off; told = λ off on. inr (subst new (sym (waits_is e x waits).0) fits) }

  either_way : (d : DriverContent) (b : Bool) (f g : DriverContent) → (b ≡ true → AllWere d.transfers f.transfers) → AllWere d.transfers g.transfers → AllWere d.transfers (if b then f else g).transfers
  either_way d true f g one two = one refl
  either_way d false f g one two = two

  one_behind : (d : DriverContent) (e : ℕ) (name : EpName) (k : ℕ) (o : Option Transfer) → new e → slice_get d.transfers k ≡ o → AllWere d.transfers (behind_one d e name k o).transfers
  one_behind d e name k None fits here = were_same d.transfers
  one_behind d e name k (Some x) fits here =
      either_way d (waits_for e x) _ d (λ is. were_set d.transfers k x (record x { reported = true }) here (is_told_of e x is fits)) (were_same d.transfers)

  all_behind : (d : DriverContent) (e : ℕ) (name : EpName) (k n : ℕ) → new e → AllWere d.transfers (behind d e name k n).transfers
  unfolding behind
  all_behind d e name k zero fits = were_same d.transfers
  all_behind d e name k (suc n) fits =
      let one = behind_one d e name k (slice_get d.transfers k) in
      were_both d.transfers one.transfers (behind one e name (suc k) n).transfers (one_behind d e name k (slice_get d.transfers k) fits refl) (all_behind one e name (suc k) n fits)

  over : (d : DriverContent) (e t : ℕ) (x : Endpoint) (stall : Bool) (cause : Option EndCause) → new e → AllWere d.transfers (after_end d e t x stall cause).transfers
  over d e t x stall (Some cause) fits = were_same d.transfers
  over d e t x true None fits = all_behind _ e x.desc.name (suc t) (length d.transfers - suc t) fits
  over d e t x false None fits = were_same d.transfers

  read : (d : DriverContent) (m : Mem) (e t : ℕ) (x : Endpoint) (y : Transfer) (found : Found) → new e → waits_for e y ≡ true → slice_get d.transfers t ≡ Some y → AllWere d.transfers (harvested_as d m e t x y found).transfers
  read d m e t x y founds.Active fits waits there = were_same d.transfers
  read d m e t x y (founds.Moved n) fits waits there = were_set d.transfers t y _ there (record { endpoint = refl; sort = refl; first = refl; held = λ off. off; told = λ off on. inl on })
  read d m e t x y (founds.Served errors) fits waits there = were_set d.transfers t y (record y { reported = true }) there (is_told_of e y waits fits)
  read d m e t x y (founds.Ended n what) fits waits there =
      let mid = told_with d m t y what x.desc.name (noted d.notes y.place n) in
      were_both d.transfers mid.transfers (harvested_as d m e t x y (founds.Ended n what)).transfers
      (were_set d.transfers t y (record y { reported = true }) there (is_told_of e y waits fits)) (over mid e t x (is_stall what) (end_of x.desc.kind what) fits)

  harvested : (d : DriverContent) (m : Mem) (e t : ℕ) (found : Found) (o : Option Endpoint) (q : Option Transfer) → new e → slice_get d.transfers t ≡ q → AllWere d.transfers (after_harvest d m e t found o q).transfers
  harvested d m e t found None q fits there = were_same d.transfers
  harvested d m e t found (Some x) None fits there = were_same d.transfers
  harvested d m e t found (Some x) (Some y) fits there =
      either_way d (waits_for e y) (served (harvested_as d m e t x y found) e) d (λ is. read d m e t x y found fits is there) (were_same d.transfers)

  -- ---- any event

  pub row_were : (row : DriverRow) (p : Parts) → MayTell new row → AllWereOf new p.driver.transfers (after_driver_row row p).driver.transfers
  row_were rows.Lend p may = were_by p.driver.transfers _ (advanced (record p.driver { book = (lend_taken (holding p.driver.book p.memory)).book }))
  row_were (rows.Store b to v) p may = were_by p.driver.transfers _ (advanced p.driver)
  row_were (rows.ReleaseTransfer t) p may =
      transfer_let_go p t (slice_get p.driver.transfers t) (freed_by p.driver (holding p.driver.book p.memory) (slice_get p.driver.transfers t)) refl
  row_were (rows.ReleaseEndpoint e) p may = endpoint_let_go p e (slice_get p.driver.endpoints e)
  row_were rows.Frames p may = were_by p.driver.transfers _ (framed p.driver p.registers.frame_index p.driver.command)
  row_were rows.LendDescriptors p may = were_by p.driver.transfers _ (advanced (record p.driver { book = (lend_taken (holding p.driver.book (linked_by p.driver p.memory p.driver.command))).book }))
  row_were (rows.Unlink t) p may = were_by p.driver.transfers _ (unlinked p t (slice_get p.driver.transfers t))
  row_were (rows.ReleaseRemoved what) p may = removed_let_go p what
  row_were (rows.Harvest e t found) p may = harvested p.driver p.memory e t found (slice_get p.driver.endpoints e) (slice_get p.driver.transfers t) may refl
  row_were _ p may = were_same p.driver.transfers

-- ---- the endpoint that is harvested, where one is

abbrev pub Reports : DriverRow → ℕ → Type 0
Reports (rows.Harvest e t found) f = f ≡ e
Reports _ f = ⊥

reports_own : (row : DriverRow) → MayTell (Reports row) row
reports_own (rows.Harvest e t found) = refl
reports_own _ = tt

pub were : (row : DriverRow) (p : Parts) → AllWereOf (Reports row) p.driver.transfers (after_driver_row row p).driver.transfers
were row p = row_were (Reports row) row p (reports_own row)

pub or_left : (d : DriverContent) (c : Command) → (or_finished d c).transfers ≡ d.transfers
or_left d c = or_done (λ e. ⊥) d c
