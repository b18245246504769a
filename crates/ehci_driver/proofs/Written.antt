-- Which words an event writes: lending leaves each, a store changes the one at its address, and giving runs back those of blocks that
-- are Free then.
use Rattle.std.proofs.Common.{◌≡◌, ◌≢◌, ℕ, zero, suc, ◌+◌, ◌*◌, ◌/◌, ◌%◌, ◌==◌, ◌<◌, ◌≤◌, Bool, true, false, ◌||◌, cond, List, [], ◌∷◌, length, take, drop, reverse, slice_get, slice_index, Option, Some, None, arith, ap, sym, subst, ◌∙◌, ⊎_elim, refl}
use Rattle.std.proofs.lemmas.Bool.{cases_lt, eqb-false, true≢false}
use Rattle.std.proofs.lemmas.List.{get_or-set_other}
use Rattle.word_mem.specs.Memory.{Mem, IsShaped, word_at, state_at, with_word}
use Rattle.word_mem.specs.declared.blocks.BlockState.TheVariants.{Free}
use Rattle.word_mem.proofs.Filled.{length-filled, slice_get-filled_inside, slice_get-filled_before, slice_get-filled_after, get_or-filled_before, get_or-filled_after}
use Rattle.mem_runs.specs.Book.{Book, Holding, holding, Stands, store, slot_of, slot_at, lend_slot, lend_runs, none_taken, release_slot, release_run, can_store}
use Rattle.mem_runs.specs.declared.slots.Slot.{Slot}
use Rattle.mem_runs.specs.declared.slots.Slot.TheVariants.{Empty, Lends}
use Rattle.mem_runs.proofs.Standing.{stands_released, within_lent}
use Rattle.drv_periodic.specs.declared.work.Store.{Store}
use Rattle.drv_periodic.specs.Periodic.{Periodic, next_store}
use Rattle.drv_periodic_table.specs.declared.content.DescriptorNote.{DescriptorNote}
use Rattle.drv_periodic_table.specs.declared.content.Removed.{Removed}
use Rattle.drv_periodic_table.specs.declared.content.Removed.TheVariants as removed
use Rattle.drv_periodic_table.specs.Periodic.{descriptor_member, note_at as periodic_note}
use Rattle.drv_periodic_table.specs.Linking.{new_link}
use Rattle.drv_table.specs.declared.content.Endpoint.{Endpoint}
use Rattle.drv_table.specs.declared.content.Transfer.{Transfer}
use Rattle.drv_table.specs.declared.content.QtdNote.{QtdNote}
use Rattle.drv_table.specs.declared.content.Command.{Command}
use Rattle.drv_table.specs.declared.content.Command.TheVariants as unfinished
use Rattle.drv_table.specs.declared.rows.DriverRow.{DriverRow}
use Rattle.drv_table.specs.declared.rows.DriverRow.TheVariants as rows
use Rattle.drv_table.specs.Harvests.{note_at}
use Rattle.drv_table.specs.DriverContent.{DriverContent, waits_for}
use Rattle.drv_table.specs.Parts.{Parts}
use Rattle.drv_table.specs.Rows.{after_driver_row}
use Rattle.drv_table.specs.Releases.{after_transfer, after_endpoint, freed_by, free_runs, free_qtd, free_qtds, free_transfers, free_endpoint, is_held_of}
use Rattle.drv_table.specs.Kinds.{is_iso}
use Rattle.drv_table.specs.FrameChoice.{linked_descriptors, linked_by}
use Rattle.drv_table.specs.Removals.{stored_link, descriptor_leaving, after_unlink, free_descriptor, free_descriptors, free_placed, after_descriptor, after_placed, after_removed}
use Rattle.ehci_driver.specs.Written.{OnlyStores, is_word, links_at, command_links_at, link_at, unlinks_at}

-- ---- lending

lent_slot : (h : Holding) (b : ℕ) (s : Slot) → (lend_slot h b s).memory.words ≡ h.memory.words
lent_slot h b Empty = refl
lent_slot h b _ = refl

lent_runs : (h : Holding) (bs : List ℕ) → (lend_runs h bs).memory.words ≡ h.memory.words
unfolding lend_runs
lent_runs h [] = refl
lent_runs h (b ∷ bs) = lent_runs (lend_slot h b (slot_at h b)) bs ∙ lent_slot h b (slot_at h b)

-- ---- storing

not_equal : (i j : ℕ) → (i == j) ≡ false → i ≢ j
not_equal i j differs same = eqb-false i j differs same

pub written : (b : Bool) (m : Mem) (to v at : ℕ) → (at / 4 == to / 4) ≡ false → word_at (cond b (with_word m to v) m) at ≡ word_at m at
written true m to v at differs = get_or-set_other m.words (to / 4) (at / 4) v 0 (not_equal (at / 4) (to / 4) differs)
written false m to v at differs = refl

-- ---- giving back

pub record Freed (h g : Holding) : Type 0 where
  pub words : (at : ℕ) → state_at g.memory (at / 32) ≢ Some Free → word_at g.memory at ≡ word_at h.memory at
  pub free : (b : ℕ) → state_at h.memory b ≡ Some Free → state_at g.memory b ≡ Some Free
  pub stands : Stands g
  pub shape : IsShaped g.memory

pub freed_nothing : (h : Holding) → Stands h → IsShaped h.memory → Freed h h
freed_nothing h stands shape = record { words = λ at busy. refl; free = λ b free. free; stands = stands; shape = shape }

pub freed_both : (h g k : Holding) → Freed h g → Freed g k → Freed h k
freed_both h g k one two = record {
  words = λ at busy. two.words at busy ∙ one.words at (λ free. busy (two.free (at / 32) free));
  free = λ b free. two.free b (one.free b free);
  stands = two.stands;
  shape = two.shape;
}

freed_slot : (h : Holding) (b : ℕ) (s : Slot) → Stands h → IsShaped h.memory → slot_of h.book.slots b ≡ s → Freed h (release_slot h b s)
freed_slot h b (Lends r) stands shape there =
    let m = h.memory in
    let fits = within_lent h b r stands there in
    let room : 8 * r.first + 8 * r.blocks ≤ length m.words = omega (arith, shape.eight_each, fits) in
    let words = length-filled m.words (8 * r.first) (8 * r.blocks) 0 room in
    let states = length-filled m.states r.first r.blocks Free fits in
    record {
      words = λ at busy.
          ⊎_elim (λ (low : at / 32 < r.first). get_or-filled_before m.words (8 * r.first) (8 * r.blocks) 0 (at / 4) 0 room (omega (arith, low)))
          (λ (from : r.first ≤ at / 32).
          ⊎_elim (λ (inside : at / 32 < r.first + r.blocks). absurd (busy (slice_get-filled_inside m.states r.first r.blocks Free (at / 32) fits from inside)))
          (λ (high : r.first + r.blocks ≤ at / 32). get_or-filled_after m.words (8 * r.first) (8 * r.blocks) 0 (at / 4) 0 room (omega (arith, high)))
          (cases_lt (at / 32) (r.first + r.blocks)))
          (cases_lt (at / 32) r.first);
      free = λ k free.
          ⊎_elim (λ (low : k < r.first). slice_get-filled_before m.states r.first r.blocks Free k fits low ∙ free)
          (λ (from : r.first ≤ k).
          ⊎_elim (λ (inside : k < r.first + r.blocks). slice_get-filled_inside m.states r.first r.blocks Free k fits from inside)
          (λ (high : r.first + r.blocks ≤ k). slice_get-filled_after m.states r.first r.blocks Free k fits high ∙ free)
          (cases_lt k (r.first + r.blocks)))
          (cases_lt k r.first);
      stands = stands_released h b r shape stands there;
      shape = record {
        at_least = omega (arith, words, shape.at_least);
        at_most = omega (arith, words, shape.at_most);
        whole_pages = subst (λ n. n % 1024 ≡ 0) (sym words) shape.whole_pages;
        eight_each = omega (arith, words, states, shape.eight_each);
      };
    }
freed_slot h b _ stands shape there = freed_nothing h stands shape

freed_run : (h : Holding) (b : ℕ) → Stands h → IsShaped h.memory → Freed h (release_run h b)
freed_run h b stands shape = freed_slot h b (slot_at h b) stands shape refl

freed_runs : (h : Holding) (bs : List ℕ) → Stands h → IsShaped h.memory → Freed h (free_runs h bs)
freed_runs h [] stands shape = freed_nothing h stands shape
freed_runs h (b ∷ bs) stands shape =
    let one = freed_run h b stands shape in
    freed_both h (release_run h b) (free_runs (release_run h b) bs) one (freed_runs (release_run h b) bs one.stands one.shape)

pub freed_qtds : (notes : List QtdNote) (h : Holding) (b n : ℕ) → Stands h → IsShaped h.memory → Freed h (free_qtds notes h b n)
unfolding free_qtds
freed_qtds notes h b zero stands shape = freed_nothing h stands shape
freed_qtds notes h b (suc n) stands shape =
    let note = note_at notes b in
    let one = freed_runs h (b ∷ take note.runs note.buffer) stands shape in
    freed_both h (free_qtd h b note) (free_qtds notes (free_qtd h b note) note.next n) one (freed_qtds notes (free_qtd h b note) note.next n one.stands one.shape)

freed_held : (b : Bool) (h g : Holding) → Stands h → IsShaped h.memory → Freed h g → Freed h (cond b g h)
freed_held true h g stands shape one = one
freed_held false h g stands shape one = freed_nothing h stands shape

freed_transfers : (notes : List QtdNote) (e : ℕ) (h : Holding) (ts : List Transfer) → Stands h → IsShaped h.memory → Freed h (free_transfers notes e h ts)
unfolding free_transfers
freed_transfers notes e h [] stands shape = freed_nothing h stands shape
freed_transfers notes e h (t ∷ ts) stands shape =
    let g = free_qtds notes h t.first t.qtds in
    let next = cond (is_held_of e t) g h in
    let one = freed_held (is_held_of e t) h g stands shape (freed_qtds notes h t.first t.qtds stands shape) in
    freed_both h next (free_transfers notes e next ts) one (freed_transfers notes e next ts one.stands one.shape)

transfer_words : (p : Parts) (t : ℕ) (o : Option Transfer) → Stands (holding p.driver.book p.memory) → IsShaped p.memory → (at : ℕ) → state_at (after_transfer p t o (freed_by p.driver (holding p.driver.book p.memory) o)).memory (at / 32) ≢ Some Free → word_at (after_transfer p t o (freed_by p.driver (holding p.driver.book p.memory) o)).memory at ≡ word_at p.memory at
transfer_words p t None stands shape at busy = refl
transfer_words p t (Some x) stands shape at busy =
    (freed_qtds p.driver.notes (holding p.driver.book p.memory) x.first x.qtds stands shape).words at busy

endpoint_words : (p : Parts) (e : ℕ) (o : Option Endpoint) → Stands (holding p.driver.book p.memory) → IsShaped p.memory → (at : ℕ) → state_at (after_endpoint p e o).memory (at / 32) ≢ Some Free → word_at (after_endpoint p e o).memory at ≡ word_at p.memory at
endpoint_words p e None stands shape at busy = refl
endpoint_words p e (Some x) stands shape at busy =
    let h = holding p.driver.book p.memory in
    let g = free_runs h (x.queue ∷ x.dummy ∷ []) in
    let one = freed_runs h (x.queue ∷ x.dummy ∷ []) stands shape in
    let two = freed_transfers p.driver.notes e g p.driver.transfers one.stands one.shape in
    (freed_both h g (free_endpoint p.driver e x h) one two).words at busy

-- ---- the frame list

first_off : (a b : Bool) → (a || b) ≡ false → a ≡ false
first_off false b off = refl
first_off true b off = off

later_off : (a b : Bool) → (a || b) ≡ false → b ≡ false
later_off false b off = off
later_off true b off = absurd (true≢false off)

linked_apart : (k : Book) (list : Periodic) (notes : List DescriptorNote) (ts : List Transfer) (m : Mem) (at : ℕ) → links_at ts at ≡ false → word_at (linked_descriptors k list notes ts m) at ≡ word_at m at
unfolding linked_descriptors
linked_apart k list notes [] m at apart = refl
linked_apart k list notes (t ∷ ts) m at apart =
    let v = new_link list (descriptor_member notes t.first) in
    linked_apart k list notes ts (store k m t.first (32 * t.first) v) at (later_off (is_word (32 * t.first) at) (links_at ts at) apart)
    ∙ written (can_store (slot_of k.slots t.first) (32 * t.first)) m (32 * t.first) v at (first_off (is_word (32 * t.first) at) (links_at ts at) apart)

command_apart : (d : DriverContent) (m : Mem) (o : Option Command) (at : ℕ) → command_links_at d o at ≡ false → word_at (linked_by d m o) at ≡ word_at m at
command_apart d m (Some (unfinished.Iso e t count)) at apart = linked_apart d.book d.periodic.list d.periodic.notes (take count (drop t d.transfers)) m at apart
command_apart d m _ at apart = refl

stored_apart : (k : Book) (m : Mem) (o : Option Store) (at : ℕ) → link_at o at ≡ false → word_at (stored_link k m o) at ≡ word_at m at
stored_apart k m None at apart = refl
stored_apart k m (Some s) at apart = written (can_store (slot_of k.slots s.block) s.at) m s.at s.value at apart

unlink_apart : (p : Parts) (t : ℕ) (o : Option Transfer) (at : ℕ) → unlinks_at p.driver o at ≡ false → word_at (after_unlink p t o).memory at ≡ word_at p.memory at
unlink_apart p t None at apart = refl
unlink_apart p t (Some x) at apart = stored_apart p.driver.book p.memory (next_store (descriptor_leaving p.driver x)) at apart

freed_descriptor : (notes : List DescriptorNote) (h : Holding) (b : ℕ) → Stands h → IsShaped h.memory → Freed h (free_descriptor notes h b)
freed_descriptor notes h b stands shape = freed_runs h (b ∷ take (periodic_note notes b).runs (periodic_note notes b).buffer) stands shape

freed_descriptors : (notes : List DescriptorNote) (e : ℕ) (h : Holding) (ts : List Transfer) → Stands h → IsShaped h.memory → Freed h (free_descriptors notes e h ts)
unfolding free_descriptors
freed_descriptors notes e h [] stands shape = freed_nothing h stands shape
freed_descriptors notes e h (t ∷ ts) stands shape =
    let g = free_descriptor notes h t.first in
    let next = cond (waits_for e t) g h in
    let one = freed_held (waits_for e t) h g stands shape (freed_descriptor notes h t.first stands shape) in
    freed_both h next (free_descriptors notes e next ts) one (freed_descriptors notes e next ts one.stands one.shape)

freed_endpoint : (d : DriverContent) (e : ℕ) (x : Endpoint) (h : Holding) → Stands h → IsShaped h.memory → Freed h (free_endpoint d e x h)
freed_endpoint d e x h stands shape =
    let g = free_runs h (x.queue ∷ x.dummy ∷ []) in
    let one = freed_runs h (x.queue ∷ x.dummy ∷ []) stands shape in
    freed_both h g (free_endpoint d e x h) one (freed_transfers d.notes e g d.transfers one.stands one.shape)

freed_either : (b : Bool) (h g k : Holding) → Freed h g → Freed h k → Freed h (cond b g k)
freed_either true h g k one other = one
freed_either false h g k one other = other

freed_placed : (d : DriverContent) (e : ℕ) (x : Endpoint) (h : Holding) → Stands h → IsShaped h.memory → Freed h (free_placed d e x h)
freed_placed d e x h stands shape =
    freed_either (is_iso x.desc.kind) h (free_descriptors d.periodic.notes e h d.transfers) (free_endpoint d e x h)
    (freed_descriptors d.periodic.notes e h d.transfers stands shape) (freed_endpoint d e x h stands shape)

descriptor_words : (p : Parts) (t : ℕ) (o : Option Transfer) → Stands (holding p.driver.book p.memory) → IsShaped p.memory → (at : ℕ) → state_at (after_descriptor p t o).memory (at / 32) ≢ Some Free → word_at (after_descriptor p t o).memory at ≡ word_at p.memory at
descriptor_words p t None stands shape at busy = refl
descriptor_words p t (Some x) stands shape at busy = (freed_descriptor p.driver.periodic.notes (holding p.driver.book p.memory) x.first stands shape).words at busy

placed_words : (p : Parts) (e : ℕ) (o : Option Endpoint) → Stands (holding p.driver.book p.memory) → IsShaped p.memory → (at : ℕ) → state_at (after_placed p e o).memory (at / 32) ≢ Some Free → word_at (after_placed p e o).memory at ≡ word_at p.memory at
placed_words p e None stands shape at busy = refl
placed_words p e (Some x) stands shape at busy = (freed_placed p.driver e x (holding p.driver.book p.memory) stands shape).words at busy

removed_words : (p : Parts) (what : Removed) → Stands (holding p.driver.book p.memory) → IsShaped p.memory → (at : ℕ) → state_at (after_removed p what).memory (at / 32) ≢ Some Free → word_at (after_removed p what).memory at ≡ word_at p.memory at
removed_words p (removed.Descriptor t) stands shape at busy = descriptor_words p t (slice_get p.driver.transfers t) stands shape at busy
removed_words p (removed.Endpoint e) stands shape at busy = placed_words p e (slice_get p.driver.endpoints e) stands shape at busy

-- ---- each row

pub row_words : (row : DriverRow) (p : Parts) → Stands (holding p.driver.book p.memory) → IsShaped p.memory → OnlyStores p.driver row p.memory (after_driver_row row p).memory
row_words rows.Lend p stands shape at apart busy =
    let h = holding p.driver.book p.memory in
    ap (λ ws. slice_index ws (at / 4)) (lent_runs (none_taken h) (reverse h.book.taken))
row_words (rows.Store b to v) p stands shape at apart busy = written (can_store (slot_of p.driver.book.slots b) to) p.memory to v at apart
row_words (rows.Mend w) p stands shape at apart busy = written (can_store (slot_of p.driver.book.slots w.queue) w.at) p.memory w.at w.value at apart
row_words (rows.ReleaseTransfer t) p stands shape at apart busy = transfer_words p t (slice_get p.driver.transfers t) stands shape at busy
row_words (rows.ReleaseEndpoint e) p stands shape at apart busy = endpoint_words p e (slice_get p.driver.endpoints e) stands shape at busy
row_words rows.LendDescriptors p stands shape at apart busy =
    let m = linked_by p.driver p.memory p.driver.command in
    let h = holding p.driver.book m in
    ap (λ ws. slice_index ws (at / 4)) (lent_runs (none_taken h) (reverse h.book.taken)) ∙ command_apart p.driver p.memory p.driver.command at apart
row_words (rows.Unlink t) p stands shape at apart busy = unlink_apart p t (slice_get p.driver.transfers t) at apart
row_words (rows.ReleaseRemoved what) p stands shape at apart busy = removed_words p what stands shape at busy
row_words _ p stands shape at apart busy = refl
