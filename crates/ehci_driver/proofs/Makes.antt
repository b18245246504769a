-- The event that the content tells can be made.
use Rattle.std.proofs.Common.{ℕ, zero, suc, ◌≤◌, Bool, true, false, ◌&&◌, cond, List, [], ◌∷◌, length, nat_le, nat_lt, slice_get, Option, Some, None, option_map, option_and_then, unwrap_or, arith}
use Rattle.std.specs.List.{AllByRecursion}
use Rattle.word_mem.specs.Memory.{Mem}
use Rattle.op_registers.specs.RegisterFile.{RegisterFile}
use Rattle.drv_chains.specs.Boundary.{is_seen}
use Rattle.drv_periodic.specs.declared.work.Store.{Store}
use Rattle.drv_periodic.specs.Periodic.{next_store}
use Rattle.drv_periodic_table.specs.declared.content.Removal.{Removal}
use Rattle.drv_table.specs.declared.content.Endpoint.{Endpoint}
use Rattle.drv_table.specs.declared.content.Transfer.{Transfer}
use Rattle.drv_table.specs.declared.content.Mend.{Mend}
use Rattle.drv_table.specs.declared.content.Command.{Command}
use Rattle.drv_table.specs.declared.content.Command.TheVariants as unfinished
use Rattle.drv_table.specs.declared.content.Turn.{Turn}
use Rattle.drv_table.specs.declared.content.Turn.TheVariants as turns
use Rattle.drv_table.specs.declared.content.Bell.{Bell}
use Rattle.drv_table.specs.declared.content.Bell.TheVariants as bells
use Rattle.drv_table.specs.declared.rows.DriverRow.{DriverRow}
use Rattle.drv_table.specs.declared.rows.DriverRow.TheVariants as rows
use Rattle.drv_table.specs.DriverContent.{DriverContent, waits_for}
use Rattle.drv_table.specs.Parts.{Parts}
use Rattle.drv_table.specs.Commands.{events_of, links, link_row, command_row, next_row}
use Rattle.drv_table.specs.Leaving.{tells_advance, reading_for, removes, bell_row, removal_row, first_row, leaving_row}
use Rattle.drv_table.specs.Harvesting.{found_of, reading_row, transfer_row, worker_row, harvest_row, next_worker}
use Rattle.drv_table.specs.Rows.{turn_row, row_for, driver_row}
use Rattle.ehci_driver.specs.Makes.{CanMake}

either_can : (d : DriverContent) (b : Bool) (x y : DriverRow) → CanMake d x → CanMake d y → CanMake d (cond b x y)
either_can d true x y one other = one
either_can d false x y one other = other

-- ---- the unfinished command

get_can : (d : DriverContent) (rs : List DriverRow) (k : ℕ) → AllByRecursion (CanMake d) rs → CanMake d (unwrap_or (slice_get rs k) rows.Rest)
get_can d [] zero all = tt
get_can d [] (suc k) all = tt
get_can d (r ∷ rs) zero all = all.0
get_can d (r ∷ rs) (suc k) all = get_can d rs k all.1

own_can : (d : DriverContent) (c : Command) → AllByRecursion (CanMake d) (events_of c)
own_can d (unfinished.Publish b words) = (tt, (tt, (tt, (tt, (tt, (tt, (tt, (tt, (tt, tt)))))))))
own_can d (unfinished.Unlink e b link) = (tt, tt)
own_can d unfinished.Chain = (tt, tt)
own_can d (unfinished.Unchain e) = tt
own_can d _ = (tt, (tt, tt))

link_can : (d : DriverContent) (o : Option Store) → CanMake d (link_row o)
link_can d None = tt
link_can d (Some s) = tt

next_can : (d : DriverContent) (c : Command) → CanMake d (next_row d c)
next_can d c =
    either_can d (links c && nat_le (length (events_of c)) d.made) (link_row (next_store d.periodic.list)) (command_row c d.made)
    (link_can d (next_store d.periodic.list)) (get_can d (events_of c) d.made (own_can d c))

-- ---- leaving work and harvest

abbrev CanOption : DriverContent → Option DriverRow → Type 0
CanOption d None = Unit {0}
CanOption d (Some row) = CanMake d row

first_can : (d : DriverContent) (a b : Option DriverRow) → CanOption d a → CanOption d b → CanOption d (first_row a b)
first_can d None b one other = other
first_can d (Some row) b one other = one

mend_can : (d : DriverContent) (o : Option Mend) → CanOption d (option_map rows.Mend o)
mend_can d None = tt
mend_can d (Some w) = tt

transfer_can : (d : DriverContent) (o : Option ℕ) → CanOption d (option_map rows.ReleaseTransfer o)
transfer_can d None = tt
transfer_can d (Some t) = tt

endpoint_can : (d : DriverContent) (o : Option ℕ) → CanOption d (option_map rows.ReleaseEndpoint o)
endpoint_can d None = tt
endpoint_can d (Some e) = tt

unlink_can : (d : DriverContent) (us : List ℕ) → length us ≤ length d.periodic.unlinks → CanOption d (option_map rows.Unlink (slice_get us 0))
unlink_can d [] few = tt
unlink_can d (t ∷ ts) few = omega (arith, few)

seen_can : (d : DriverContent) (b : Bool) (r : Removal) → CanOption d (cond b (Some (rows.ReleaseRemoved r.what)) None)
seen_can d true r = tt
seen_can d false r = tt

removal_can : (d : DriverContent) (o : Option Removal) → CanOption d (removal_row o)
removal_can d None = tt
removal_can d (Some r) = seen_can d (is_seen r.boundary) r

reading_can : (d : DriverContent) (r : RegisterFile) (a b : Bool) → CanOption d (reading_for d r a b)
reading_can d r false false = tt
reading_can d r true false = tt
reading_can d r false true = tt
reading_can d r true true = either_can d d.periodic.status_next (rows.ReadStatus (tells_advance r)) (rows.ReadFrame r.frame_index) tt tt

quiet_can : (d : DriverContent) (r : RegisterFile) (b : Bool) → CanOption d (cond b (Some rows.RingBell) (reading_for d r false (removes d)))
quiet_can d r true = tt
quiet_can d r false = reading_can d r false (removes d)

bell_can : (d : DriverContent) (r : RegisterFile) (b : Bell) → CanOption d (bell_row d r b)
bell_can d r bells.Heard = tt
bell_can d r bells.Quiet = quiet_can d r (nat_lt 0 (length d.waiting))
bell_can d r bells.Rung = reading_can d r true (removes d)

leaving_can : (d : DriverContent) (r : RegisterFile) → CanOption d (leaving_row d r)
leaving_can d r =
    first_can d _ _ (mend_can d (slice_get d.mends 0))
    (first_can d _ _ (transfer_can d (slice_get d.harvested 0))
    (first_can d _ _ (unlink_can d d.periodic.unlinks (omega arith))
    (first_can d _ _ (endpoint_can d (slice_get d.cleared 0))
    (first_can d _ _ (removal_can d (slice_get d.periodic.removals 0)) (bell_can d r d.bell)))))

waiting_can : (d : DriverContent) (m : Mem) (e t : ℕ) (x : Transfer) (b : Bool) → CanOption d (cond b (Some (rows.Harvest e t (found_of d m x x.sort))) None)
waiting_can d m e t x true = tt
waiting_can d m e t x false = tt

read_can : (d : DriverContent) (m : Mem) (e t : ℕ) (o : Option Transfer) → CanOption d (reading_row d m e t o)
read_can d m e t None = tt
read_can d m e t (Some x) = waiting_can d m e t x (waits_for e x)

next_transfer_can : (d : DriverContent) (m : Mem) (e : ℕ) (o : Option ℕ) → CanOption d (transfer_row d m e o)
next_transfer_can d m e None = tt
next_transfer_can d m e (Some t) = read_can d m e t (slice_get d.transfers t)

worker_can : (d : DriverContent) (m : Mem) (o : Option ℕ) → CanOption d (worker_row d m o)
worker_can d m None = tt
worker_can d m (Some e) = next_transfer_can d m e (option_and_then (λ (x : Endpoint). x.next) (slice_get d.endpoints e))

or_rest : (d : DriverContent) (o : Option DriverRow) → CanOption d o → CanMake d (unwrap_or o rows.Rest)
or_rest d None can = tt
or_rest d (Some row) can = can

turn_can : (d : DriverContent) (t : Turn) (a b : Option DriverRow) → CanOption d a → CanOption d b → CanMake d (turn_row t a b)
turn_can d turns.Leaving a b one other = or_rest d (first_row a b) (first_can d a b one other)
turn_can d turns.Harvest a b one other = or_rest d (first_row b a) (first_can d b a other one)

command_can : (p : Parts) (o : Option Command) → CanMake p.driver (row_for p o)
command_can p (Some c) = next_can p.driver c
command_can p None =
    turn_can p.driver p.driver.turn (leaving_row p.driver p.registers) (harvest_row p.driver p.memory)
    (leaving_can p.driver p.registers) (worker_can p.driver p.memory (next_worker p.driver))

pub row_can : (p : Parts) → CanMake p.driver (driver_row p)
row_can p = command_can p p.driver.command
