-- A row that makes no store that is owed and harvests nothing leaves what is owed; where something is given back, nothing is owed.
use Rattle.std.proofs.Common.{◌≡◌, ℕ, Bool, true, false, cond, List, [], ◌∷◌, slice_get, Option, Some, None, option_map, ap, sym, ◌∙◌, refl}
use Rattle.std.proofs.lemmas.Bool.{false≢true}
use Rattle.std.proofs.lemmas.Option.{same_Some}
use Rattle.law_driver.proofs.Common.{transfer_mends}
use Rattle.word_mem.specs.Memory.{Mem}
use Rattle.mem_runs.specs.Book.{Holding, holding, lend_taken}
use Rattle.drv_periodic_table.specs.declared.content.Removed.{Removed}
use Rattle.drv_periodic_table.specs.declared.content.Removed.TheVariants as removed
use Rattle.drv_table.specs.declared.content.Endpoint.{Endpoint}
use Rattle.drv_table.specs.declared.content.Transfer.{Transfer}
use Rattle.drv_table.specs.declared.content.Mend.{Mend}
use Rattle.drv_table.specs.declared.content.Command.{Command}
use Rattle.drv_table.specs.declared.content.Command.TheVariants as unfinished
use Rattle.drv_table.specs.declared.content.Turn.{Turn}
use Rattle.drv_table.specs.declared.content.Turn.TheVariants as turns
use Rattle.drv_table.specs.declared.rows.DriverRow.{DriverRow}
use Rattle.drv_table.specs.declared.rows.DriverRow.TheVariants as rows
use Rattle.drv_table.specs.DriverContent.{DriverContent, waits_for}
use Rattle.drv_table.specs.Parts.{Parts}
use Rattle.drv_table.specs.Harvesting.{found_of, next_worker, reading_row, transfer_row, worker_row, harvest_row}
use Rattle.drv_table.specs.Leaving.{first_row, removal_row, bell_row}
use Rattle.drv_table.specs.Rows.{turn_row, row_for, driver_row, after_driver_row}
use Rattle.drv_table.specs.Commands.{advance, after_lend}
use Rattle.drv_table.specs.FrameChoice.{with_notes, framed_notes, placement_at, framed_by, linked_by}
use Rattle.drv_table.specs.Releases.{freed_by, is_told, cancel_told, after_endpoint}
use Rattle.drv_table.specs.Removals.{after_unlink, after_descriptor, after_placed, after_removed}
use Rattle.law_driver.specs.run_owners.Due.{IsDue}
use Rattle.law_driver.proofs.lemmas.run_owners.Reasons.{each_event_is_due}
use Rattle.law_queues.proofs.lemmas.mended_heads.Content.{any_one, OwesAlike, alike_same, alike_both, advanced_alike}

-- ---- rows that give nothing back

abbrev pub is_plain : DriverRow → Bool
is_plain rows.Lend = true
is_plain (rows.Store b at v) = true
is_plain rows.Frames = true
is_plain rows.LendDescriptors = true
is_plain rows.ClearAdvance = true
is_plain rows.RingBell = true
is_plain (rows.ReadStatus heard) = true
is_plain (rows.ReadFrame n) = true
is_plain rows.Rest = true
is_plain _ = false

lent_alike : (p : Parts) (h : Holding) → OwesAlike any_one p.driver (after_lend p h).driver
lent_alike p h =
    let d = record p.driver { book = h.book } in
    alike_both any_one p.driver d (advance d) (alike_same any_one p.driver d refl refl refl) (advanced_alike d)

framed_alike : (d : DriverContent) (n : ℕ) (o : Option Command) → OwesAlike any_one d (framed_by d n o)
framed_alike d n (Some (unfinished.Iso e t count)) =
    let f = with_notes d n _ (framed_notes d n e t count (placement_at d e)) in
    alike_both any_one d f (advance f) (alike_same any_one d f refl refl refl) (advanced_alike f)
framed_alike d n _ = alike_same any_one d d refl refl refl

pub plain_alike : (row : DriverRow) (p : Parts) → is_plain row ≡ true → OwesAlike any_one p.driver (after_driver_row row p).driver
plain_alike rows.Lend p plain = lent_alike p (lend_taken (holding p.driver.book p.memory))
plain_alike (rows.Store b at v) p plain = advanced_alike p.driver
plain_alike rows.Frames p plain = framed_alike p.driver p.registers.frame_index p.driver.command
plain_alike rows.LendDescriptors p plain = lent_alike p (lend_taken (holding p.driver.book (linked_by p.driver p.memory p.driver.command)))
plain_alike rows.ClearAdvance p plain = alike_same any_one p.driver (after_driver_row rows.ClearAdvance p).driver refl refl refl
plain_alike rows.RingBell p plain = alike_same any_one p.driver (after_driver_row rows.RingBell p).driver refl refl refl
plain_alike (rows.ReadStatus heard) p plain = alike_same any_one p.driver (after_driver_row (rows.ReadStatus heard) p).driver refl refl refl
plain_alike (rows.ReadFrame n) p plain = alike_same any_one p.driver (after_driver_row (rows.ReadFrame n) p).driver refl refl refl
plain_alike rows.Rest p plain = alike_same any_one p.driver p.driver refl refl refl
plain_alike _ p plain = absurd (false≢true plain)

-- ---- what is given back, or leaves its frame

abbrev pub gives_back : DriverRow → Bool
gives_back (rows.ReleaseTransfer t) = true
gives_back (rows.ReleaseEndpoint e) = true
gives_back (rows.Unlink t) = true
gives_back (rows.ReleaseRemoved what) = true
gives_back _ = false

either_mends : (b : Bool) (d e f : DriverContent) → e.mends ≡ d.mends → f.mends ≡ d.mends → (cond b e f).mends ≡ d.mends
either_mends true d e f one two = one
either_mends false d e f one two = two

told_mends : (d : DriverContent) (m : Mem) (e : ℕ) (x : Endpoint) → (cancel_told d m e x).mends ≡ d.mends
told_mends d m e x = either_mends (is_told x) d _ d refl refl

endpoint_mends : (p : Parts) (e : ℕ) (o : Option Endpoint) → (after_endpoint p e o).driver.mends ≡ p.driver.mends
endpoint_mends p e None = refl
endpoint_mends p e (Some x) = told_mends p.driver p.memory e x

unlink_mends : (p : Parts) (t : ℕ) (o : Option Transfer) → (after_unlink p t o).driver.mends ≡ p.driver.mends
unlink_mends p t None = refl
unlink_mends p t (Some x) = refl

descriptor_mends : (p : Parts) (t : ℕ) (o : Option Transfer) → (after_descriptor p t o).driver.mends ≡ p.driver.mends
descriptor_mends p t None = refl
descriptor_mends p t (Some x) = refl

placed_mends : (p : Parts) (e : ℕ) (o : Option Endpoint) → (after_placed p e o).driver.mends ≡ p.driver.mends
placed_mends p e None = refl
placed_mends p e (Some x) = told_mends p.driver p.memory e x

removed_mends : (p : Parts) (what : Removed) → (after_removed p what).driver.mends ≡ p.driver.mends
removed_mends p (removed.Descriptor t) = descriptor_mends p t (slice_get p.driver.transfers t)
removed_mends p (removed.Endpoint e) = placed_mends p e (slice_get p.driver.endpoints e)

pub given_mends : (row : DriverRow) (p : Parts) → gives_back row ≡ true → (after_driver_row row p).driver.mends ≡ p.driver.mends
given_mends (rows.ReleaseTransfer t) p gives = transfer_mends p t (slice_get p.driver.transfers t) (freed_by p.driver (holding p.driver.book p.memory) (slice_get p.driver.transfers t))
given_mends (rows.ReleaseEndpoint e) p gives = endpoint_mends p e (slice_get p.driver.endpoints e)
given_mends (rows.Unlink t) p gives = unlink_mends p t (slice_get p.driver.transfers t)
given_mends (rows.ReleaseRemoved what) p gives = removed_mends p what
given_mends _ p gives = absurd (false≢true gives)

-- ---- it comes behind all stores that are owed

-- a row of the harvest is a harvest
read_gives : (d : DriverContent) (m : Mem) (e t : ℕ) (o : Option Transfer) (row : DriverRow) → reading_row d m e t o ≡ Some row → gives_back row ≡ false
read_gives d m e t None row is = absurd (cc)
read_gives d m e t (Some x) row is = by (waits_for e x) is
  where
    by : (b : Bool) → cond b (Some (rows.Harvest e t (found_of d m x x.sort))) None ≡ Some row → gives_back row ≡ false
    by true is = ap gives_back (sym (same_Some (rows.Harvest e t (found_of d m x x.sort)) row is))
    by false is = absurd (cc)

transfer_gives : (d : DriverContent) (m : Mem) (e : ℕ) (o : Option ℕ) (row : DriverRow) → transfer_row d m e o ≡ Some row → gives_back row ≡ false
transfer_gives d m e None row is = absurd (cc)
transfer_gives d m e (Some t) row is = read_gives d m e t (slice_get d.transfers t) row is

harvest_gives : (d : DriverContent) (m : Mem) (o : Option ℕ) (row : DriverRow) → worker_row d m o ≡ Some row → gives_back row ≡ false
harvest_gives d m None row is = absurd (cc)
harvest_gives d m (Some e) row is = transfer_gives d m e _ row is

-- with a store that is owed, the row is that store or a harvest
either_gives : (turn : Turn) (w : Mend) (rest harvest : Option DriverRow) → ((row : DriverRow) → harvest ≡ Some row → gives_back row ≡ false) → gives_back (turn_row turn (first_row (Some (rows.Mend w)) rest) harvest) ≡ false
either_gives turns.Leaving w rest harvest each = refl
either_gives turns.Harvest w rest None each = refl
either_gives turns.Harvest w rest (Some row) each = each row refl

idle_of : (p : Parts) (row : DriverRow) → gives_back row ≡ true → IsDue p row → p.driver.command ≡ None
idle_of p (rows.ReleaseTransfer t) gives due = due.idle
idle_of p (rows.ReleaseEndpoint e) gives due = due.idle
idle_of p (rows.Unlink t) gives due = due.idle
idle_of p (rows.ReleaseRemoved what) gives due = due.idle
idle_of p _ gives due = absurd (false≢true gives)

none_owed : (ws : List Mend) → ((w : Mend) → slice_get ws 0 ≡ Some w → ⊥) → ws ≡ []
none_owed [] none = refl
none_owed (w ∷ ws) none = absurd (none w refl)

-- what comes behind these stores
abbrev behind_mends : Parts → Option DriverRow
behind_mends p =
    first_row (option_map rows.ReleaseTransfer (slice_get p.driver.harvested 0))
    (first_row (option_map rows.Unlink (slice_get p.driver.periodic.unlinks 0))
    (first_row (option_map rows.ReleaseEndpoint (slice_get p.driver.cleared 0))
    (first_row (removal_row (slice_get p.driver.periodic.removals 0)) (bell_row p.driver p.registers p.driver.bell))))

abbrev row_with : Parts → Option Mend → DriverRow
row_with p o = turn_row p.driver.turn (first_row (option_map rows.Mend o) (behind_mends p)) (harvest_row p.driver p.memory)

pub given_owes_none : (p : Parts) → gives_back (driver_row p) ≡ true → p.driver.mends ≡ []
given_owes_none p gives =
    let d = p.driver in
    let idle : d.command ≡ None = idle_of p (driver_row p) gives (each_event_is_due p) in
    let row : driver_row p ≡ row_with p (slice_get d.mends 0) = ap (row_for p) idle in
    none_owed d.mends
    (λ w first.
    false≢true (sym (ap (λ (o : Option Mend). gives_back (row_with p o)) first ∙ either_gives d.turn w (behind_mends p) (harvest_row d p.memory) (λ r is. harvest_gives d p.memory (next_worker d) r is)) ∙ ap gives_back (sym row) ∙ gives))
