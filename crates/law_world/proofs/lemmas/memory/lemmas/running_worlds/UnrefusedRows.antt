-- No row of the driver counts a refusal.
use Rattle.std.proofs.Common.{◌≡◌, ℕ, zero, suc, ◌+◌, ◌*◌, Bool, true, false, cond, List, [], ◌∷◌, take, drop, reverse, slice_get, Option, Some, None, ◌∙◌, refl}
use Rattle.word_mem.specs.Memory.{Mem, with_word}
use Rattle.mem_runs.specs.Book.{Book, Holding, holding, slot_of, slot_at, can_store, store, store_words, lend_slot, lend_runs, none_taken, lend_taken, release_slot, release_run}
use Rattle.mem_runs.specs.declared.slots.Slot.{Slot}
use Rattle.mem_runs.specs.declared.slots.Slot.TheVariants.{Empty}
use Rattle.drv_periodic.specs.Periodic.{Periodic, next_store}
use Rattle.drv_periodic.specs.declared.work.Store.{Store}
use Rattle.drv_periodic_table.specs.declared.content.DescriptorNote.{DescriptorNote}
use Rattle.drv_periodic_table.specs.declared.content.Removed.{Removed}
use Rattle.drv_periodic_table.specs.declared.content.Removed.TheVariants as removed
use Rattle.drv_periodic_table.specs.Periodic.{note_at as periodic_note, descriptor_member}
use Rattle.drv_periodic_table.specs.Linking.{new_link}
use Rattle.drv_table.specs.declared.content.Endpoint.{Endpoint}
use Rattle.drv_table.specs.declared.content.Transfer.{Transfer}
use Rattle.drv_table.specs.declared.content.QtdNote.{QtdNote}
use Rattle.drv_table.specs.declared.content.Command.{Command}
use Rattle.drv_table.specs.declared.content.Command.TheVariants as unfinished
use Rattle.drv_table.specs.declared.rows.DriverRow.{DriverRow}
use Rattle.drv_table.specs.declared.rows.DriverRow.TheVariants as rows
use Rattle.drv_table.specs.DriverContent.{DriverContent, waits_for}
use Rattle.drv_table.specs.Harvests.{note_at}
use Rattle.drv_table.specs.Parts.{Parts}
use Rattle.drv_table.specs.Kinds.{is_iso}
use Rattle.drv_table.specs.Rows.{after_driver_row}
use Rattle.drv_table.specs.FrameChoice.{linked_descriptors, linked_by}
use Rattle.drv_table.specs.Releases.{free_runs, free_qtd, free_qtds, after_transfer, freed_by, is_held_of, free_transfers, free_endpoint, after_endpoint}
use Rattle.drv_table.specs.Removals.{stored_link, descriptor_leaving, after_unlink, free_descriptor, after_descriptor, free_descriptors, free_placed, after_placed, after_removed}

-- ---- stores

pub cond_same : (b : Bool) (x y : Mem) (n : ℕ) → x.foreign ≡ n → y.foreign ≡ n → (cond b x y).foreign ≡ n
cond_same true x y n one other = one
cond_same false x y n one other = other

pub store_same : (k : Book) (m : Mem) (b at v : ℕ) → (store k m b at v).foreign ≡ m.foreign
store_same k m b at v = cond_same (can_store (slot_of k.slots b) at) (with_word m at v) m m.foreign refl refl

pub words_same : (k : Book) (m : Mem) (b at : ℕ) (vs : List ℕ) → (store_words k m b at vs).foreign ≡ m.foreign
unfolding store_words
words_same k m b at [] = refl
words_same k m b at (v ∷ vs) = words_same k (store k m b at v) b (at + 4) vs ∙ store_same k m b at v

linked_same : (k : Book) (list : Periodic) (notes : List DescriptorNote) (ts : List Transfer) (m : Mem) → (linked_descriptors k list notes ts m).foreign ≡ m.foreign
unfolding linked_descriptors
linked_same k list notes [] m = refl
linked_same k list notes (t ∷ ts) m =
    linked_same k list notes ts (store k m t.first (32 * t.first) (new_link list (descriptor_member notes t.first))) ∙ store_same k m t.first (32 * t.first) (new_link list (descriptor_member notes t.first))

linked_by_same : (d : DriverContent) (m : Mem) (o : Option Command) → (linked_by d m o).foreign ≡ m.foreign
linked_by_same d m (Some (unfinished.Iso e t count)) = linked_same d.book d.periodic.list d.periodic.notes (take count (drop t d.transfers)) m
linked_by_same d m _ = refl

link_same : (k : Book) (m : Mem) (o : Option Store) → (stored_link k m o).foreign ≡ m.foreign
link_same k m None = refl
link_same k m (Some s) = store_same k m s.block s.at s.value

-- ---- runs lent and given back

lend_slot_same : (h : Holding) (b : ℕ) (s : Slot) → (lend_slot h b s).memory.foreign ≡ h.memory.foreign
lend_slot_same h b Empty = refl
lend_slot_same h b _ = refl

lends_same : (h : Holding) (bs : List ℕ) → (lend_runs h bs).memory.foreign ≡ h.memory.foreign
unfolding lend_runs
lends_same h [] = refl
lends_same h (b ∷ bs) = lends_same (lend_slot h b (slot_at h b)) bs ∙ lend_slot_same h b (slot_at h b)

lend_same : (h : Holding) → (lend_taken h).memory.foreign ≡ h.memory.foreign
lend_same h = lends_same (none_taken h) (reverse h.book.taken)

release_same : (h : Holding) (b : ℕ) (s : Slot) → (release_slot h b s).memory.foreign ≡ h.memory.foreign
release_same h b Empty = refl
release_same h b _ = refl

runs_same : (h : Holding) (bs : List ℕ) → (free_runs h bs).memory.foreign ≡ h.memory.foreign
runs_same h [] = refl
runs_same h (b ∷ bs) = runs_same (release_run h b) bs ∙ release_same h b (slot_at h b)

qtd_same : (h : Holding) (b : ℕ) (note : QtdNote) → (free_qtd h b note).memory.foreign ≡ h.memory.foreign
qtd_same h b note = runs_same h (b ∷ take note.runs note.buffer)

qtds_same : (notes : List QtdNote) (h : Holding) (b n : ℕ) → (free_qtds notes h b n).memory.foreign ≡ h.memory.foreign
unfolding free_qtds
qtds_same notes h b zero = refl
qtds_same notes h b (suc n) = qtds_same notes (free_qtd h b (note_at notes b)) (note_at notes b).next n ∙ qtd_same h b (note_at notes b)

held_same : (b : Bool) (x y : Holding) (n : ℕ) → x.memory.foreign ≡ n → y.memory.foreign ≡ n → (cond b x y).memory.foreign ≡ n
held_same true x y n one other = one
held_same false x y n one other = other

transfers_same : (notes : List QtdNote) (e : ℕ) (h : Holding) (ts : List Transfer) → (free_transfers notes e h ts).memory.foreign ≡ h.memory.foreign
unfolding free_transfers
transfers_same notes e h [] = refl
transfers_same notes e h (t ∷ ts) =
    transfers_same notes e (cond (is_held_of e t) (free_qtds notes h t.first t.qtds) h) ts
    ∙ held_same (is_held_of e t) (free_qtds notes h t.first t.qtds) h h.memory.foreign (qtds_same notes h t.first t.qtds) refl

endpoint_same : (d : DriverContent) (e : ℕ) (x : Endpoint) (h : Holding) → (free_endpoint d e x h).memory.foreign ≡ h.memory.foreign
endpoint_same d e x h = transfers_same d.notes e (free_runs h (x.queue ∷ x.dummy ∷ [])) d.transfers ∙ runs_same h (x.queue ∷ x.dummy ∷ [])

descriptor_same : (notes : List DescriptorNote) (h : Holding) (b : ℕ) → (free_descriptor notes h b).memory.foreign ≡ h.memory.foreign
descriptor_same notes h b = runs_same h (b ∷ take (periodic_note notes b).runs (periodic_note notes b).buffer)

descriptors_same : (notes : List DescriptorNote) (e : ℕ) (h : Holding) (ts : List Transfer) → (free_descriptors notes e h ts).memory.foreign ≡ h.memory.foreign
unfolding free_descriptors
descriptors_same notes e h [] = refl
descriptors_same notes e h (t ∷ ts) =
    descriptors_same notes e (cond (waits_for e t) (free_descriptor notes h t.first) h) ts
    ∙ held_same (waits_for e t) (free_descriptor notes h t.first) h h.memory.foreign (descriptor_same notes h t.first) refl

placed_same : (d : DriverContent) (e : ℕ) (x : Endpoint) (h : Holding) → (free_placed d e x h).memory.foreign ≡ h.memory.foreign
placed_same d e x h =
    held_same (is_iso x.desc.kind) (free_descriptors d.periodic.notes e h d.transfers) (free_endpoint d e x h) h.memory.foreign (descriptors_same d.periodic.notes e h d.transfers) (endpoint_same d e x h)

-- ---- rows

Same : Parts → Parts → Type 0
Same p q = q.memory.foreign ≡ p.memory.foreign

after_transfer_same : (p : Parts) (t : ℕ) (o : Option Transfer) → Same p (after_transfer p t o (freed_by p.driver (holding p.driver.book p.memory) o))
unfolding Same
after_transfer_same p t None = refl
after_transfer_same p t (Some x) = qtds_same p.driver.notes (holding p.driver.book p.memory) x.first x.qtds

after_endpoint_same : (p : Parts) (e : ℕ) (o : Option Endpoint) → Same p (after_endpoint p e o)
unfolding Same
after_endpoint_same p e None = refl
after_endpoint_same p e (Some x) = endpoint_same p.driver e x (holding p.driver.book p.memory)

after_unlink_same : (p : Parts) (t : ℕ) (o : Option Transfer) → Same p (after_unlink p t o)
unfolding Same
after_unlink_same p t None = refl
after_unlink_same p t (Some x) = link_same p.driver.book p.memory (next_store (descriptor_leaving p.driver x))

after_descriptor_same : (p : Parts) (t : ℕ) (o : Option Transfer) → Same p (after_descriptor p t o)
unfolding Same
after_descriptor_same p t None = refl
after_descriptor_same p t (Some x) = descriptor_same p.driver.periodic.notes (holding p.driver.book p.memory) x.first

after_placed_same : (p : Parts) (e : ℕ) (o : Option Endpoint) → Same p (after_placed p e o)
unfolding Same
after_placed_same p e None = refl
after_placed_same p e (Some x) = placed_same p.driver e x (holding p.driver.book p.memory)

after_removed_same : (p : Parts) (what : Removed) → Same p (after_removed p what)
after_removed_same p (removed.Descriptor t) = after_descriptor_same p t (slice_get p.driver.transfers t)
after_removed_same p (removed.Endpoint e) = after_placed_same p e (slice_get p.driver.endpoints e)

row_parts : (row : DriverRow) (p : Parts) → Same p (after_driver_row row p)
unfolding Same
row_parts rows.Lend p = lend_same (holding p.driver.book p.memory)
row_parts (rows.Store b at v) p = store_same p.driver.book p.memory b at v
row_parts (rows.Mend w) p = store_same p.driver.book p.memory w.queue w.at w.value
row_parts (rows.ReleaseTransfer t) p = after_transfer_same p t (slice_get p.driver.transfers t)
row_parts (rows.ReleaseEndpoint e) p = after_endpoint_same p e (slice_get p.driver.endpoints e)
row_parts rows.LendDescriptors p = lend_same (holding p.driver.book (linked_by p.driver p.memory p.driver.command)) ∙ linked_by_same p.driver p.memory p.driver.command
row_parts (rows.Unlink t) p = after_unlink_same p t (slice_get p.driver.transfers t)
row_parts (rows.ReleaseRemoved what) p = after_removed_same p what
row_parts _ p = refl

pub row_same : (row : DriverRow) (p : Parts) → (after_driver_row row p).memory.foreign ≡ p.memory.foreign
unfolding Same
row_same row p = row_parts row p
