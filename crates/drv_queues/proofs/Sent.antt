-- The bytes that a transfer sends, word by word and qTD by qTD.
use Rattle.std.proofs.Common.{◌≡◌, ℕ, suc, ◌+◌, ◌-◌, ◌*◌, ◌/◌, ◌<◌, ◌≤◌, List, ◌++◌, length, take, drop, get_or, slice_get, Some, arith, ap, sym, ◌∙◌, refl}
use Rattle.std.proofs.lemmas.List.{drop_all, drop-drop, get_or-take, get_or-drop, get_or_past, get_or_append_left, get_or-append_right, length-take}
use Rattle.word_mem.specs.Memory.{Mem}
use Rattle.mem_runs.specs.Book.{Book, store}
use Rattle.drv_table.specs.declared.content.Stage.{Stage}
use Rattle.drv_table.specs.declared.content.QtdNote.{QtdNote}
use Rattle.drv_table.specs.Words.{pieces}
use Rattle.drv_table.specs.Harvests.{note_at, buffer_address}
use Rattle.drv_table.specs.Offers.{word_from, write_bytes, send_stages, sends}
use Rattle.drv_queues.proofs.Taking.{drop_at}

-- one byte of n from place `from` on
pub byte_past : (xs : List ℕ) (from n i : ℕ) → n ≤ i → get_or (take n (drop from xs)) i 0 ≡ 0
byte_past xs from n i past = get_or_past (take n (drop from xs)) i 0 (omega (arith, length-take n (drop from xs)))

byte_of : (xs : List ℕ) (from n i : ℕ) → i < n → get_or (take n (drop from xs)) i 0 ≡ get_or xs (from + i) 0
byte_of xs from n i below = get_or-take n (drop from xs) i 0 below ∙ get_or-drop from xs i 0

pub byte_in_front : (front bytes : List ℕ) (from n i v : ℕ) → i < n → from + i < length front → v ≡ get_or front (from + i) 0 → v ≡ get_or (take n (drop from (front ++ bytes))) i 0
byte_in_front front bytes from n i v below here this =
    this ∙ (sym (get_or_append_left front bytes 0 (from + i) here) ∙ sym (byte_of (front ++ bytes) from n i below))

pub byte_behind : (front bytes : List ℕ) (from n i v : ℕ) → i < n → length front ≤ from + i → v ≡ get_or bytes (from + i - length front) 0 → v ≡ get_or (take n (drop from (front ++ bytes))) i 0
byte_behind front bytes from n i v below there this =
    this ∙ (sym (get_or-append_right front bytes (length front) (from + i) 0 refl there) ∙ sym (byte_of (front ++ bytes) from n i below))

-- word w of n
pub written_next : (k : Book) (m : Mem) (note : QtdNote) (bytes : List ℕ) (w n : ℕ) → w < n → write_bytes k (store k m (get_or note.buffer (4 * w / 4096) 0) (buffer_address note (4 * w)) (word_from bytes (4 * w))) note bytes (4 * (w + 1)) (n - (w + 1)) ≡ write_bytes k m note bytes (4 * w) (n - w)
written_next k m note bytes w n below =
    let more : n - w ≡ suc (n - (w + 1)) = omega arith in
    let at : 4 * (w + 1) ≡ 4 * w + 4 = omega arith in
    ap (λ i. write_bytes k (store k m (get_or note.buffer (4 * w / 4096) 0) (buffer_address note (4 * w)) (word_from bytes (4 * w))) note bytes i (n - (w + 1))) at
    ∙ sym (ap (λ c. write_bytes k m note bytes (4 * w) c) more)

pub written_all : (k : Book) (m : Mem) (note : QtdNote) (bytes : List ℕ) (w n : ℕ) → n ≤ w → write_bytes k m note bytes (4 * w) (n - w) ≡ m
written_all k m note bytes w n all = let e : n - w ≡ 0 = omega arith in ap (λ c. write_bytes k m note bytes (4 * w) c) e

-- the stage at place i
pub sent_next : (k : Book) (m : Mem) (notes : List QtdNote) (ss : List Stage) (i : ℕ) (s : Stage) (b from : ℕ) (bytes : List ℕ) → slice_get ss i ≡ Some s → send_stages k (write_bytes k m (note_at notes b) (take (sends s) (drop from bytes)) 0 (pieces (sends s) 4)) notes (drop (i + 1) ss) (note_at notes b).next (drop (from + sends s) bytes) ≡ send_stages k m notes (drop i ss) b (drop from bytes)
sent_next k m notes ss i s b from bytes there =
    ap (λ l. send_stages k (write_bytes k m (note_at notes b) (take (sends s) (drop from bytes)) 0 (pieces (sends s) 4)) notes (drop (i + 1) ss) (note_at notes b).next l) (sym (drop-drop (sends s) from bytes))
    ∙ sym (ap (λ l. send_stages k m notes l b (drop from bytes)) (drop_at ss i s there))

pub sent_all : (k : Book) (m : Mem) (notes : List QtdNote) (ss : List Stage) (i : ℕ) (b from : ℕ) (bytes : List ℕ) → length ss ≤ i → send_stages k m notes (drop i ss) b (drop from bytes) ≡ m
sent_all k m notes ss i b from bytes all = ap (λ l. send_stages k m notes l b (drop from bytes)) (drop_all i ss all)
