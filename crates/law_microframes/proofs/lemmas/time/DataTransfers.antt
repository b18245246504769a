-- Each event of the driver leaves of a transfer its endpoint, its kind, its first block and the number of its qTDs, and none that was given back comes again; and it leaves where the
-- qTDs lead.
use Rattle.std.proofs.Common.{◌≡◌, ◌≢◌, ℕ, zero, suc, ◌-◌, Bool, true, false, List, [], ◌∷◌, length, map, set, slice_get, Option, Some, None, refl, ap, sym, subst, ◌∙◌, ⊎_elim}
use Rattle.std.specs.Prelude.{◌||◌, ◌==◌, nat_lt, is_none, take, drop, if◌then◌else◌}
use Rattle.std.proofs.lemmas.Bool.{cases_eq, true≢false}
use Rattle.std.proofs.lemmas.Option.{same_Some}
use Rattle.law_common.proofs.Lists.{set_here, set_there}
use Rattle.usb_base.specs.declared.endpoints.EpName.{EpName}
use Rattle.usb_base.specs.declared.endpoints.EndCause.{EndCause}
use Rattle.word_mem.specs.Memory.{Mem}
use Rattle.mem_runs.specs.Book.{Holding, holding, lend_taken}
use Rattle.drv_periodic_table.specs.declared.content.Removed.{Removed}
use Rattle.drv_periodic_table.specs.declared.content.Removed.TheVariants as removed
use Rattle.drv_periodic_table.specs.Linking.{begun_next}
use Rattle.drv_table.specs.declared.content.Endpoint.{Endpoint}
use Rattle.drv_table.specs.declared.content.Transfer.{Transfer}
use Rattle.drv_table.specs.declared.content.Command.{Command}
use Rattle.drv_table.specs.declared.content.Command.TheVariants as unfinished
use Rattle.drv_table.specs.declared.rows.DriverRow.{DriverRow}
use Rattle.drv_table.specs.declared.rows.DriverRow.TheVariants as rows
use Rattle.drv_table.specs.declared.rows.Found.{Found}
use Rattle.drv_table.specs.declared.rows.Found.TheVariants as founds
use Rattle.drv_table.specs.DriverContent.{DriverContent, waits_for}
use Rattle.drv_table.specs.Harvests.{is_stall, noted, end_of}
use Rattle.drv_table.specs.Parts.{Parts}
use Rattle.drv_table.specs.Kinds.{is_iso}
use Rattle.drv_table.specs.Commands.{events_of, links, removes_members, no_command, leave_ring, leave_frames, finished, list_after, or_finished, linked_on, advanced_by, advance}
use Rattle.drv_table.specs.FrameChoice.{framed_by, with_notes, framed_notes, placement_at, linked_by}
use Rattle.drv_table.specs.Rows.{after_driver_row}
use Rattle.drv_table.specs.Releases.{after_transfer, freed_by, is_told, cancel_told, let_go, after_endpoint}
use Rattle.drv_table.specs.Removals.{let_go_placed, after_unlink, after_descriptor, after_placed, after_removed}
use Rattle.drv_table.specs.Harvesting.{told_with, behind_one, behind, after_end, harvested_as, served, after_harvest}
use Rattle.claims_driver.specs.Owners.{NoteRuns, note_in}
use Rattle.law_driver.proofs.lemmas.run_owners.Stays.{advanced as stays_advanced, framed as stays_framed, lent, unlinks, harvest_stays}
use Rattle.law_admission.proofs.Events.{either}

-- ---- what a transfer was

pub record WasOf (y z : Transfer) : Type 0 where
  pub endpoint : z.endpoint ≡ y.endpoint
  pub sort : z.sort ≡ y.sort
  pub first : z.first ≡ y.first
  pub qtds : z.qtds ≡ y.qtds
  pub held : z.released ≡ false → y.released ≡ false

pub record WasThere (xs : List Transfer) (i : ℕ) (z : Transfer) : Type 0 where
  pub before : Transfer
  pub there : slice_get xs i ≡ Some before
  pub was : WasOf before z

abbrev pub AllWere : List Transfer → List Transfer → Type 0
AllWere xs ys = (i : ℕ) (z : Transfer) → slice_get ys i ≡ Some z → WasThere xs i z

was_itself : (y : Transfer) → WasOf y y
was_itself y = record { endpoint = refl; sort = refl; first = refl; qtds = refl; held = λ on. on }

were_same : (xs : List Transfer) → AllWere xs xs
were_same xs i z there = record { before = z; there = there; was = was_itself z }

were_by : (xs ys : List Transfer) → ys ≡ xs → AllWere xs ys
were_by xs ys same = subst (AllWere xs) (sym same) (were_same xs)

were_both : (xs ys zs : List Transfer) → AllWere xs ys → AllWere ys zs → AllWere xs zs
were_both xs ys zs one two i z there =
    let b = two i z there in
    let a = one i b.before b.there in
    record {
      before = a.before;
      there = a.there;
      was = record {
        endpoint = b.was.endpoint ∙ a.was.endpoint;
        sort = b.was.sort ∙ a.was.sort;
        first = b.was.first ∙ a.was.first;
        qtds = b.was.qtds ∙ a.was.qtds;
        held = λ off. a.was.held (b.was.held off);
      };
    }

were_set : (xs : List Transfer) (t : ℕ) (x y : Transfer) → slice_get xs t ≡ Some x → WasOf x y → AllWere xs (set xs t y)
were_set xs t x y here was i z there =
    ⊎_elim {C = WasThere xs i z}
    (λ (own : i ≡ t).
    let same : y ≡ z = same_Some y z (sym (set_here xs t x y here) ∙ ap (slice_get (set xs t y)) (sym own) ∙ there) in
    record { before = x; there = ap (slice_get xs) own ∙ here; was = subst (WasOf x) same was })
    (λ (other : i ≢ t). were_same xs i z (sym (set_there xs t i y other) ∙ there)) (cases_eq i t)

were_mapped : (f : Transfer → Transfer) (xs : List Transfer) → ((y : Transfer) → WasOf y (f y)) → AllWere xs (map f xs)
were_mapped f [] was i z there = absurd (cc)
were_mapped f (x ∷ xs) was zero z there = record { before = x; there = refl; was = subst (WasOf x) (same_Some (f x) z there) (was x) }
were_mapped f (x ∷ xs) was (suc i) z there =
    let k = were_mapped f xs was i z there in record { before = k.before; there = k.there; was = k.was }

abbrev let_go_or : Bool → Bool → Transfer → Transfer
let_go_or b told y = if b then record y { reported = y.reported || told; released = true } else y

was_let_go : (b told : Bool) (y : Transfer) → WasOf y (let_go_or b told y)
was_let_go true told y = record { endpoint = refl; sort = refl; first = refl; qtds = refl; held = λ off. absurd (true≢false off) }
was_let_go false told y = was_itself y

was_let_go_placed : (iso : Bool) (e : ℕ) (told : Bool) (y : Transfer) → WasOf y (let_go_placed iso e told y)
was_let_go_placed true e told y = was_let_go (waits_for e y) told y
was_let_go_placed false e told y = was_let_go (y.endpoint == e) told y

-- ---- the command goes on

abbrev Of : DriverContent → List Transfer
Of d = d.transfers

ring_left : (d : DriverContent) (e : ℕ) (o : Option Endpoint) → Of (leave_ring d e o) ≡ Of d
ring_left d e None = refl
ring_left d e (Some x) = either Of x.linked _ d (Of d) refl refl

frames_left : (d : DriverContent) (e : ℕ) (o : Option Endpoint) → Of (leave_frames d e o) ≡ Of d
frames_left d e None = refl
frames_left d e (Some x) = either Of x.chained _ d (Of d) refl refl

done : (d : DriverContent) (c : Command) → Of (finished d c) ≡ Of d
done d (unfinished.Unlink e b link) = ring_left (no_command d) e (slice_get d.endpoints e)
done d (unfinished.Unchain e) = frames_left (no_command d) e (slice_get d.endpoints e)
done d _ = refl

or_done : (d : DriverContent) (c : Command) → Of (or_finished d c) ≡ Of d
or_done d c = either Of (is_none d.periodic.list.work) (finished d c) d (Of d) (done d c) refl

linked : (d : DriverContent) (c : Command) → Of (linked_on d c) ≡ Of d
linked d c = or_done (record d { made = length (events_of c); periodic = begun_next (removes_members c) (record d.periodic { list = list_after d c }) }) c

went_on : (d : DriverContent) (c : Option Command) → Of (advanced_by d c) ≡ Of d
went_on d None = refl
went_on d (Some c) =
    either Of (nat_lt (suc d.made) (length (events_of c))) (record d { made = suc d.made }) (if links c then linked_on d c else finished d c) (Of d) refl
    (either Of (links c) (linked_on d c) (finished d c) (Of d) (linked d c) (done d c))

advanced : (d : DriverContent) → Of (advance d) ≡ Of d
advanced d = went_on d d.command

framed : (d : DriverContent) (n : ℕ) (c : Option Command) → Of (framed_by d n c) ≡ Of d
framed d n (Some (unfinished.Iso e t count)) = advanced (with_notes d n (take count (drop t d.transfers)) (framed_notes d n e t count (placement_at d e)))
framed d n _ = refl

-- ---- a release

transfer_let_go : (p : Parts) (t : ℕ) (o : Option Transfer) (h : Holding) → slice_get p.driver.transfers t ≡ o → AllWere p.driver.transfers (after_transfer p t o h).driver.transfers
transfer_let_go p t None h here = were_same p.driver.transfers
transfer_let_go p t (Some x) h here = were_set p.driver.transfers t x (record x { released = true }) here (record { endpoint = refl; sort = refl; first = refl; qtds = refl; held = λ off. absurd (true≢false off) })

told : (d : DriverContent) (m : Mem) (e : ℕ) (x : Endpoint) → Of (cancel_told d m e x) ≡ Of d
told d m e x = either Of (is_told x) _ d (Of d) refl refl

endpoint_let_go : (p : Parts) (e : ℕ) (o : Option Endpoint) → AllWere p.driver.transfers (after_endpoint p e o).driver.transfers
endpoint_let_go p e None = were_same p.driver.transfers
endpoint_let_go p e (Some x) =
    subst (λ (ts : List Transfer). AllWere p.driver.transfers (map (let_go e (is_told x)) ts)) (sym (told p.driver p.memory e x))
    (were_mapped (let_go e (is_told x)) p.driver.transfers (λ y. was_let_go (y.endpoint == e) (is_told x) y))

placed_let_go : (p : Parts) (e : ℕ) (o : Option Endpoint) → AllWere p.driver.transfers (after_placed p e o).driver.transfers
placed_let_go p e None = were_same p.driver.transfers
placed_let_go p e (Some x) =
    subst (λ (ts : List Transfer). AllWere p.driver.transfers (map (let_go_placed (is_iso x.desc.kind) e (is_told x)) ts)) (sym (told p.driver p.memory e x))
    (were_mapped (let_go_placed (is_iso x.desc.kind) e (is_told x)) p.driver.transfers (λ y. was_let_go_placed (is_iso x.desc.kind) e (is_told x) y))

unlinked : (p : Parts) (t : ℕ) (o : Option Transfer) → Of (after_unlink p t o).driver ≡ Of p.driver
unlinked p t None = refl
unlinked p t (Some x) = refl

descriptor_let_go : (p : Parts) (t : ℕ) (o : Option Transfer) → slice_get p.driver.transfers t ≡ o → AllWere p.driver.transfers (after_descriptor p t o).driver.transfers
descriptor_let_go p t None here = were_same p.driver.transfers
descriptor_let_go p t (Some x) here = were_set p.driver.transfers t x (record x { released = true }) here (record { endpoint = refl; sort = refl; first = refl; qtds = refl; held = λ off. absurd (true≢false off) })

removed_let_go : (p : Parts) (what : Removed) → AllWere p.driver.transfers (after_removed p what).driver.transfers
removed_let_go p (removed.Descriptor t) = descriptor_let_go p t (slice_get p.driver.transfers t) refl
removed_let_go p (removed.Endpoint e) = placed_let_go p e (slice_get p.driver.endpoints e)

-- ---- a harvest

-- one of the endpoint that is harvested is reported
is_told_of : (x : Transfer) → WasOf x (record x { reported = true })
is_told_of x = record { endpoint = refl; sort = refl; first = refl; qtds = refl; held = λ off. off }

either_way : (d : DriverContent) (b : Bool) (f g : DriverContent) → (b ≡ true → AllWere d.transfers f.transfers) → AllWere d.transfers g.transfers → AllWere d.transfers (if b then f else g).transfers
either_way d true f g one two = one refl
either_way d false f g one two = two

one_behind : (d : DriverContent) (e : ℕ) (name : EpName) (k : ℕ) (o : Option Transfer) → slice_get d.transfers k ≡ o → AllWere d.transfers (behind_one d e name k o).transfers
one_behind d e name k None here = were_same d.transfers
one_behind d e name k (Some x) here =
    either_way d (waits_for e x) _ d (λ is. were_set d.transfers k x (record x { reported = true }) here (is_told_of x)) (were_same d.transfers)

all_behind : (d : DriverContent) (e : ℕ) (name : EpName) (k n : ℕ) → AllWere d.transfers (behind d e name k n).transfers
unfolding behind
all_behind d e name k zero = were_same d.transfers
all_behind d e name k (suc n) =
    let one = behind_one d e name k (slice_get d.transfers k) in
    were_both d.transfers one.transfers (behind one e name (suc k) n).transfers (one_behind d e name k (slice_get d.transfers k) refl) (all_behind one e name (suc k) n)

over : (d : DriverContent) (e t : ℕ) (x : Endpoint) (stall : Bool) (cause : Option EndCause) → AllWere d.transfers (after_end d e t x stall cause).transfers
over d e t x stall (Some cause) = were_same d.transfers
over d e t x true None = all_behind _ e x.desc.name (suc t) (length d.transfers - suc t)
over d e t x false None = were_same d.transfers

read : (d : DriverContent) (m : Mem) (e t : ℕ) (x : Endpoint) (y : Transfer) (found : Found) → waits_for e y ≡ true → slice_get d.transfers t ≡ Some y → AllWere d.transfers (harvested_as d m e t x y found).transfers
read d m e t x y founds.Active waits there = were_same d.transfers
read d m e t x y (founds.Moved n) waits there = were_set d.transfers t y _ there (record { endpoint = refl; sort = refl; first = refl; qtds = refl; held = λ off. off })
read d m e t x y (founds.Served errors) waits there = were_set d.transfers t y (record y { reported = true }) there (is_told_of y)
read d m e t x y (founds.Ended n what) waits there =
    let mid = told_with d m t y what x.desc.name (noted d.notes y.place n) in
    were_both d.transfers mid.transfers (harvested_as d m e t x y (founds.Ended n what)).transfers
    (were_set d.transfers t y (record y { reported = true }) there (is_told_of y)) (over mid e t x (is_stall what) (end_of x.desc.kind what))

harvested : (d : DriverContent) (m : Mem) (e t : ℕ) (found : Found) (o : Option Endpoint) (q : Option Transfer) → slice_get d.transfers t ≡ q → AllWere d.transfers (after_harvest d m e t found o q).transfers
harvested d m e t found None q there = were_same d.transfers
harvested d m e t found (Some x) None there = were_same d.transfers
harvested d m e t found (Some x) (Some y) there =
    either_way d (waits_for e y) (served (harvested_as d m e t x y found) e) d (λ is. read d m e t x y found is there) (were_same d.transfers)

-- ---- any event

pub row_were : (row : DriverRow) (p : Parts) → AllWere p.driver.transfers (after_driver_row row p).driver.transfers
row_were rows.Lend p = were_by p.driver.transfers _ (advanced (record p.driver { book = (lend_taken (holding p.driver.book p.memory)).book }))
row_were (rows.Store b to v) p = were_by p.driver.transfers _ (advanced p.driver)
row_were (rows.ReleaseTransfer t) p =
    transfer_let_go p t (slice_get p.driver.transfers t) (freed_by p.driver (holding p.driver.book p.memory) (slice_get p.driver.transfers t)) refl
row_were (rows.ReleaseEndpoint e) p = endpoint_let_go p e (slice_get p.driver.endpoints e)
row_were rows.Frames p = were_by p.driver.transfers _ (framed p.driver p.registers.frame_index p.driver.command)
row_were rows.LendDescriptors p = were_by p.driver.transfers _ (advanced (record p.driver { book = (lend_taken (holding p.driver.book (linked_by p.driver p.memory p.driver.command))).book }))
row_were (rows.Unlink t) p = were_by p.driver.transfers _ (unlinked p t (slice_get p.driver.transfers t))
row_were (rows.ReleaseRemoved what) p = removed_let_go p what
row_were (rows.Harvest e t found) p = harvested p.driver p.memory e t found (slice_get p.driver.endpoints e) (slice_get p.driver.transfers t) refl
row_were _ p = were_same p.driver.transfers

-- ---- where the qTDs lead

abbrev Note : DriverContent → ℕ → NoteRuns
Note d b = note_in d.notes b

told_note : (d : DriverContent) (m : Mem) (e : ℕ) (x : Endpoint) (b : ℕ) → Note (cancel_told d m e x) b ≡ Note d b
told_note d m e x b = either (λ (f : DriverContent). Note f b) (is_told x) _ d (Note d b) refl refl

transfer_note : (p : Parts) (t : ℕ) (o : Option Transfer) (h : Holding) (b : ℕ) → Note (after_transfer p t o h).driver b ≡ Note p.driver b
transfer_note p t None h b = refl
transfer_note p t (Some x) h b = refl

endpoint_note : (p : Parts) (e : ℕ) (o : Option Endpoint) (b : ℕ) → Note (after_endpoint p e o).driver b ≡ Note p.driver b
endpoint_note p e None b = refl
endpoint_note p e (Some x) b = told_note p.driver p.memory e x b

descriptor_note : (p : Parts) (t : ℕ) (o : Option Transfer) (b : ℕ) → Note (after_descriptor p t o).driver b ≡ Note p.driver b
descriptor_note p t None b = refl
descriptor_note p t (Some x) b = refl

placed_note : (p : Parts) (e : ℕ) (o : Option Endpoint) (b : ℕ) → Note (after_placed p e o).driver b ≡ Note p.driver b
placed_note p e None b = refl
placed_note p e (Some x) b = told_note p.driver p.memory e x b

removed_note : (p : Parts) (what : Removed) (b : ℕ) → Note (after_removed p what).driver b ≡ Note p.driver b
removed_note p (removed.Descriptor t) b = descriptor_note p t (slice_get p.driver.transfers t) b
removed_note p (removed.Endpoint e) b = placed_note p e (slice_get p.driver.endpoints e) b

pub row_notes : (row : DriverRow) (p : Parts) (b : ℕ) → note_in (after_driver_row row p).driver.notes b ≡ note_in p.driver.notes b
row_notes rows.Lend p b = (lent p.driver p.memory).same.notes b
row_notes (rows.Store q at v) p b = (stays_advanced p.driver).same.notes b
row_notes (rows.ReleaseTransfer t) p b = transfer_note p t (slice_get p.driver.transfers t) (freed_by p.driver (holding p.driver.book p.memory) (slice_get p.driver.transfers t)) b
row_notes (rows.ReleaseEndpoint e) p b = endpoint_note p e (slice_get p.driver.endpoints e) b
row_notes rows.Frames p b = (stays_framed p.driver p.registers.frame_index p.driver.command).same.notes b
row_notes rows.LendDescriptors p b = (lent p.driver (linked_by p.driver p.memory p.driver.command)).same.notes b
row_notes (rows.Unlink t) p b = (unlinks p t (slice_get p.driver.transfers t)).same.notes b
row_notes (rows.ReleaseRemoved what) p b = removed_note p what b
row_notes (rows.Harvest e t found) p b = (harvest_stays p.driver p.memory e t found (slice_get p.driver.endpoints e) (slice_get p.driver.transfers t) refl refl).same.notes b
row_notes _ p b = refl
