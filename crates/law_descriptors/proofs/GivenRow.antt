-- A row that gives back what was unlinked comes next only once its boundary is seen.
use Rattle.std.proofs.Common.{◌≡◌, ℕ, Bool, true, false, cond, List, slice_get, Option, Some, None, unwrap_or, option_map, ap, refl, sym, subst, ◌∙◌}
use Rattle.std.specs.Prelude.{option_and_then}
use Rattle.std.proofs.lemmas.Option.{same_Some}
use Rattle.drv_chains.specs.Boundary.{is_seen}
use Rattle.drv_periodic_table.specs.declared.content.Removal.{Removal}
use Rattle.drv_table.specs.declared.content.Endpoint.{Endpoint}
use Rattle.drv_table.specs.declared.content.Transfer.{Transfer}
use Rattle.drv_table.specs.declared.content.Turn.{Turn}
use Rattle.drv_table.specs.declared.content.Turn.TheVariants as turns
use Rattle.drv_table.specs.declared.content.Bell.{Bell}
use Rattle.drv_table.specs.declared.content.Bell.TheVariants as bells
use Rattle.drv_table.specs.declared.rows.DriverRow.{DriverRow}
use Rattle.drv_table.specs.declared.rows.DriverRow.TheVariants as rows
use Rattle.drv_table.specs.DriverContent.{DriverContent, waits_for}
use Rattle.drv_table.specs.Parts.{Parts}
use Rattle.drv_table.specs.Leaving.{tells_advance, removes, reading_for, bell_row, removal_row, first_row, leaving_row}
use Rattle.drv_table.specs.Harvesting.{found_of, next_worker, reading_row, transfer_row, worker_row, harvest_row}
use Rattle.drv_table.specs.Rows.{turn_row, row_for}
use Rattle.op_registers.specs.RegisterFile.{RegisterFile}
use Rattle.word_mem.specs.Memory.{Mem}
use Rattle.law_driver.specs.run_owners.Due.{IsRemovalDue, IsDue}
use Rattle.law_driver.proofs.lemmas.run_owners.Reasons.{each_event_is_due}
use Rattle.law_descriptors.specs.Given.{RowGivesBackPassed}

-- where it gives back what was unlinked, the first of these was seen
abbrev SaysSeen : List Removal → DriverRow → Type 0
SaysSeen rs (rows.ReleaseRemoved what) = (r : Removal) → slice_get rs 0 ≡ Some r → is_seen r.boundary ≡ true
SaysSeen rs _ = Unit {0}

abbrev SayAllSeen : List Removal → Option DriverRow → Type 0
SayAllSeen rs o = (row : DriverRow) → o ≡ Some row → SaysSeen rs row

none_says : (rs : List Removal) → SayAllSeen rs None
none_says rs row is = absurd (cc)

one_says : (rs : List Removal) (row : DriverRow) → SaysSeen rs row → SayAllSeen rs (Some row)
one_says rs row says other is = subst (SaysSeen rs) (same_Some row other is) says

first_says : (rs : List Removal) (a b : Option DriverRow) → SayAllSeen rs a → SayAllSeen rs b → SayAllSeen rs (first_row a b)
first_says rs (Some row) b one other = one
first_says rs None b one other = other

mapped_says : {X : Type 0} (rs : List Removal) (f : X → DriverRow) (o : Option X) → ((x : X) → SaysSeen rs (f x)) → SayAllSeen rs (option_map f o)
mapped_says rs f None each = none_says rs
mapped_says rs f (Some x) each = one_says rs (f x) (each x)

removal_says : (rs : List Removal) (o : Option Removal) → slice_get rs 0 ≡ o → SayAllSeen rs (removal_row o)
removal_says rs None is = none_says rs
removal_says rs (Some r) is = by (is_seen r.boundary) refl
  where
    by : (b : Bool) → is_seen r.boundary ≡ b → SayAllSeen rs (cond b (Some (rows.ReleaseRemoved r.what)) None)
    by true seen = one_says rs (rows.ReleaseRemoved r.what) (λ q there. subst (λ (x : Removal). is_seen x.boundary ≡ true) (same_Some r q (sym is ∙ there)) seen)
    by false seen = none_says rs

reading_says : (d : DriverContent) (r : RegisterFile) (rs : List Removal) (a b : Bool) → SayAllSeen rs (reading_for d r a b)
reading_says d r rs false false = none_says rs
reading_says d r rs true false = one_says rs (rows.ReadStatus (tells_advance r)) tt
reading_says d r rs false true = one_says rs (rows.ReadFrame r.frame_index) tt
reading_says d r rs true true = by d.periodic.status_next
  where
    by : (b : Bool) → SayAllSeen rs (Some (cond b (rows.ReadStatus (tells_advance r)) (rows.ReadFrame r.frame_index)))
    by true = one_says rs (rows.ReadStatus (tells_advance r)) tt
    by false = one_says rs (rows.ReadFrame r.frame_index) tt

bell_says : (d : DriverContent) (r : RegisterFile) (rs : List Removal) (b : Bell) → SayAllSeen rs (bell_row d r b)
bell_says d r rs bells.Heard = one_says rs rows.ClearAdvance tt
bell_says d r rs bells.Rung = reading_says d r rs true (removes d)
bell_says d r rs bells.Quiet = by _
  where
    by : (b : Bool) → SayAllSeen rs (cond b (Some rows.RingBell) (reading_for d r false (removes d)))
    by true = one_says rs rows.RingBell tt
    by false = reading_says d r rs false (removes d)

leaving_says : (d : DriverContent) (r : RegisterFile) → SayAllSeen d.periodic.removals (leaving_row d r)
leaving_says d r =
    let rs : List Removal = d.periodic.removals in
    first_says rs _ _ (mapped_says rs rows.Mend (slice_get d.mends 0) (λ w. tt))
    (first_says rs _ _ (mapped_says rs rows.ReleaseTransfer (slice_get d.harvested 0) (λ t. tt))
    (first_says rs _ _ (mapped_says rs rows.Unlink (slice_get d.periodic.unlinks 0) (λ t. tt))
    (first_says rs _ _ (mapped_says rs rows.ReleaseEndpoint (slice_get d.cleared 0) (λ e. tt))
    (first_says rs _ _ (removal_says rs (slice_get rs 0) refl) (bell_says d r rs d.bell)))))

read_says : (d : DriverContent) (m : Mem) (rs : List Removal) (e t : ℕ) (o : Option Transfer) → SayAllSeen rs (reading_row d m e t o)
read_says d m rs e t None = none_says rs
read_says d m rs e t (Some y) = by (waits_for e y)
  where
    by : (b : Bool) → SayAllSeen rs (cond b (Some (rows.Harvest e t (found_of d m y y.sort))) None)
    by true = one_says rs (rows.Harvest e t (found_of d m y y.sort)) tt
    by false = none_says rs

transfer_says : (d : DriverContent) (m : Mem) (rs : List Removal) (e : ℕ) (o : Option ℕ) → SayAllSeen rs (transfer_row d m e o)
transfer_says d m rs e None = none_says rs
transfer_says d m rs e (Some t) = read_says d m rs e t (slice_get d.transfers t)

harvest_says : (d : DriverContent) (m : Mem) (rs : List Removal) (o : Option ℕ) → SayAllSeen rs (worker_row d m o)
harvest_says d m rs None = none_says rs
harvest_says d m rs (Some e) = transfer_says d m rs e (option_and_then (λ (x : Endpoint). x.next) (slice_get d.endpoints e))

two_say : (rs : List Removal) (a b : Option DriverRow) → SayAllSeen rs a → SayAllSeen rs b → SaysSeen rs (unwrap_or (first_row a b) rows.Rest)
two_say rs None None one other = tt
two_say rs None (Some row) one other = other row refl
two_say rs (Some row) b one other = one row refl

turn_says : (p : Parts) (turn : Turn) → SaysSeen p.driver.periodic.removals (turn_row turn (leaving_row p.driver p.registers) (harvest_row p.driver p.memory))
turn_says p turns.Leaving =
    two_say p.driver.periodic.removals (leaving_row p.driver p.registers) (harvest_row p.driver p.memory) (leaving_says p.driver p.registers)
    (harvest_says p.driver p.memory p.driver.periodic.removals (next_worker p.driver))
turn_says p turns.Harvest =
    two_say p.driver.periodic.removals (harvest_row p.driver p.memory) (leaving_row p.driver p.registers)
    (harvest_says p.driver p.memory p.driver.periodic.removals (next_worker p.driver)) (leaving_says p.driver p.registers)

pub row_gives_back_passed : RowGivesBackPassed
row_gives_back_passed p what is =
    let due : IsRemovalDue p what = subst (IsDue p) is (each_event_is_due p) in
    let says : SaysSeen p.driver.periodic.removals (rows.ReleaseRemoved what) = subst (SaysSeen p.driver.periodic.removals) (sym (ap (row_for p) due.idle) ∙ is) (turn_says p p.driver.turn) in
    record { due = due; seen = says due.removal due.first }
