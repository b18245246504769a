-- The frames and links of descriptors, one more.
use Rattle.std.proofs.Common.{◌≡◌, ℕ, ◌+◌, ◌*◌, ◌<◌, ◌≤◌, List, length, get_or, set, drop, ap, sym}
use Rattle.std.proofs.lemmas.List.{drop_all}
use Rattle.word_mem.specs.Memory.{Mem}
use Rattle.mem_runs.specs.Book.{Book, store}
use Rattle.bandwidth.specs.declared.placements.Placement.{Placement}
use Rattle.drv_periodic_table.specs.declared.content.DescriptorNote.{DescriptorNote}
use Rattle.drv_periodic_table.specs.Frames.{frames_from}
use Rattle.drv_periodic_table.specs.Periodic.{note_at, descriptor_member}
use Rattle.drv_periodic_table.specs.Linking.{new_link}
use Rattle.drv_periodic.specs.Periodic.{Periodic}
use Rattle.drv_table.specs.declared.content.Transfer.{Transfer}
use Rattle.drv_table.specs.FrameChoice.{with_frames, linked_descriptors}
use Rattle.drv_frames.proofs.Freed.{drop_one}

pub frames_more : (p : Placement) (ts : List Transfer) (f : ℕ) (notes : List DescriptorNote) (i : ℕ) (d : Transfer) → i < length ts → with_frames p (drop (i + 1) ts) (frames_from p f 1) (set notes (get_or ts i d).first (record (note_at notes (get_or ts i d).first) { frame = f })) ≡ with_frames p (drop i ts) f notes
unfolding with_frames
frames_more p ts f notes i d below = ap (λ xs. with_frames p xs f notes) (sym (drop_one ts i d below))

pub frames_all : (p : Placement) (ts : List Transfer) (f : ℕ) (notes : List DescriptorNote) (i : ℕ) → length ts ≤ i → with_frames p (drop i ts) f notes ≡ notes
unfolding with_frames
frames_all p ts f notes i past = ap (λ xs. with_frames p xs f notes) (drop_all i ts past)

pub links_more : (k : Book) (p : Periodic) (notes : List DescriptorNote) (ts : List Transfer) (m : Mem) (i : ℕ) (d : Transfer) → i < length ts → linked_descriptors k p notes (drop (i + 1) ts) (store k m (get_or ts i d).first (32 * (get_or ts i d).first) (new_link p (descriptor_member notes (get_or ts i d).first))) ≡ linked_descriptors k p notes (drop i ts) m
unfolding linked_descriptors
links_more k p notes ts m i d below = ap (λ xs. linked_descriptors k p notes xs m) (sym (drop_one ts i d below))

pub links_all : (k : Book) (p : Periodic) (notes : List DescriptorNote) (ts : List Transfer) (m : Mem) (i : ℕ) → length ts ≤ i → linked_descriptors k p notes (drop i ts) m ≡ m
unfolding linked_descriptors
links_all k p notes ts m i past = ap (λ xs. linked_descriptors k p notes xs m) (drop_all i ts past)
