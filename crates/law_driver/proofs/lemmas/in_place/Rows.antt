-- Each event of the driver leaves a book that stands in the memory.
use Rattle.std.proofs.Common.{ℕ, slice_get, Option, Some, None, sym, subst}
use Rattle.word_mem.specs.Memory.{Mem}
use Rattle.mem_runs.specs.Book.{Book, Holding, holding, lend_taken, store}
use Rattle.drv_periodic.specs.Periodic.{next_store}
use Rattle.drv_periodic_table.specs.declared.content.Removed.{Removed}
use Rattle.drv_periodic_table.specs.declared.content.Removed.TheVariants as removed
use Rattle.drv_table.specs.declared.content.Endpoint.{Endpoint}
use Rattle.drv_table.specs.declared.content.Transfer.{Transfer}
use Rattle.drv_table.specs.declared.content.Command.{Command}
use Rattle.drv_table.specs.declared.content.Command.TheVariants as unfinished
use Rattle.drv_table.specs.declared.rows.DriverRow.{DriverRow}
use Rattle.drv_table.specs.declared.rows.DriverRow.TheVariants as rows
use Rattle.drv_table.specs.DriverContent.{DriverContent}
use Rattle.drv_table.specs.Parts.{Parts}
use Rattle.drv_table.specs.Commands.{advance}
use Rattle.drv_table.specs.FrameChoice.{framed_notes, with_notes, placement_at, framed_by, linked_by}
use Rattle.drv_table.specs.Releases.{freed_by, after_transfer, after_endpoint}
use Rattle.drv_table.specs.Removals.{descriptor_leaving, after_unlink, after_descriptor, after_placed, after_removed}
use Rattle.drv_table.specs.Rows.{driver_row, after_driver_row}
use Rattle.std.specs.Prelude.{take, drop}
use Rattle.law_driver.proofs.lemmas.lent_runs.Books.{advance_book, harvest_book}
use Rattle.law_driver.proofs.lemmas.ring_members.Freed.{LeavesRest, rest_qtds, rest_endpoint, rest_descriptor, rest_placed}
use Rattle.law_driver.specs.in_place.InPlace.{IsGood}
use Rattle.law_driver.proofs.lemmas.in_place.Good.{store_good, link_good, links_good, lend_good}

abbrev GoodParts : Parts → Type 0
GoodParts p = IsGood p.driver.book p.memory

rest_good : (h g : Holding) → LeavesRest h g → IsGood g.book g.memory
rest_good h g rest = record { stands = rest.stands; shape = rest.shape }

-- the command goes on with another book
goes_good : (d : DriverContent) (m : Mem) → IsGood d.book m → IsGood (advance d).book m
goes_good d m good = subst (λ (k : Book). IsGood k m) (sym (advance_book d)) good

framed_good : (d : DriverContent) (n : ℕ) (m : Mem) (o : Option Command) → IsGood d.book m → IsGood (framed_by d n o).book m
framed_good d n m (Some (unfinished.Iso e t count)) good =
    goes_good (with_notes d n (take count (drop t d.transfers)) (framed_notes d n e t count (placement_at d e))) m good
framed_good d n m _ good = good

linked_good : (d : DriverContent) (m : Mem) (o : Option Command) → IsGood d.book m → IsGood d.book (linked_by d m o)
linked_good d m (Some (unfinished.Iso e t count)) good = links_good d.book d.periodic.list d.periodic.notes (take count (drop t d.transfers)) m good
linked_good d m _ good = good

transfer_good : (p : Parts) (t : ℕ) (o : Option Transfer) → GoodParts p → GoodParts (after_transfer p t o (freed_by p.driver (holding p.driver.book p.memory) o))
transfer_good p t None good = good
transfer_good p t (Some x) good = rest_good _ _ (rest_qtds p.driver.notes (holding p.driver.book p.memory) x.first x.qtds good.stands good.shape)

endpoint_good : (p : Parts) (e : ℕ) (o : Option Endpoint) → GoodParts p → GoodParts (after_endpoint p e o)
endpoint_good p e None good = good
endpoint_good p e (Some x) good = rest_good _ _ (rest_endpoint p.driver e x (holding p.driver.book p.memory) good.stands good.shape)

descriptor_good : (p : Parts) (t : ℕ) (o : Option Transfer) → GoodParts p → GoodParts (after_descriptor p t o)
descriptor_good p t None good = good
descriptor_good p t (Some x) good = rest_good _ _ (rest_descriptor p.driver.periodic.notes (holding p.driver.book p.memory) x.first good.stands good.shape)

placed_good : (p : Parts) (e : ℕ) (o : Option Endpoint) → GoodParts p → GoodParts (after_placed p e o)
placed_good p e None good = good
placed_good p e (Some x) good = rest_good _ _ (rest_placed p.driver e x (holding p.driver.book p.memory) good.stands good.shape)

removed_good : (p : Parts) (what : Removed) → GoodParts p → GoodParts (after_removed p what)
removed_good p (removed.Descriptor t) good = descriptor_good p t (slice_get p.driver.transfers t) good
removed_good p (removed.Endpoint e) good = placed_good p e (slice_get p.driver.endpoints e) good

unlink_good : (p : Parts) (t : ℕ) (o : Option Transfer) → GoodParts p → GoodParts (after_unlink p t o)
unlink_good p t None good = good
unlink_good p t (Some x) good = link_good p.driver.book p.memory (next_store (descriptor_leaving p.driver x)) good

row_good : (row : DriverRow) (p : Parts) → GoodParts p → GoodParts (after_driver_row row p)
row_good rows.Lend p good =
    let h = lend_taken (holding p.driver.book p.memory) in
    goes_good (record p.driver { book = h.book }) h.memory (lend_good (holding p.driver.book p.memory) good)
row_good (rows.Store b at v) p good = goes_good p.driver (store p.driver.book p.memory b at v) (store_good p.driver.book p.memory b at v good)
row_good (rows.Mend w) p good = store_good p.driver.book p.memory w.queue w.at w.value good
row_good rows.Frames p good = framed_good p.driver p.registers.frame_index p.memory p.driver.command good
row_good rows.LendDescriptors p good =
    let m = linked_by p.driver p.memory p.driver.command in
    let h = lend_taken (holding p.driver.book m) in
    goes_good (record p.driver { book = h.book }) h.memory (lend_good (holding p.driver.book m) (linked_good p.driver p.memory p.driver.command good))
row_good (rows.Unlink t) p good = unlink_good p t (slice_get p.driver.transfers t) good
row_good (rows.ReleaseRemoved what) p good = removed_good p what good
row_good (rows.ReleaseTransfer t) p good = transfer_good p t (slice_get p.driver.transfers t) good
row_good (rows.ReleaseEndpoint e) p good = endpoint_good p e (slice_get p.driver.endpoints e) good
row_good (rows.Harvest e t found) p good =
    subst (λ (k : Book). IsGood k p.memory) (sym (harvest_book p.driver p.memory e t found (slice_get p.driver.endpoints e) (slice_get p.driver.transfers t)).book) good
row_good _ p good = good

pub event_good : (p : Parts) → IsGood p.driver.book p.memory → IsGood (after_driver_row (driver_row p) p).driver.book (after_driver_row (driver_row p) p).memory
event_good p good = row_good (driver_row p) p good
