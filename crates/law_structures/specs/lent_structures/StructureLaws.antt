-- Laws of memory that is told by its structures (EHCI 1.0, 3.3 to 3.6, 4.8 and 4.10): what is told is read, and what each write, each lend and
-- each return of a run leaves is told again.
use Rattle.std.specs.Prelude.{◌≡◌, ◌≢◌, ℕ, ◌+◌, ◌*◌, ◌<◌, ◌≤◌, true, false, List, length, take, drop, slice_index, slice_set, Some}
use Rattle.word_mem.specs.Runs.{Run, HasBlock}
use Rattle.word_mem.specs.Memory.{Mem, reaches, AreAll, with_word, with_states, released}
use Rattle.word_mem.specs.declared.blocks.BlockState.{BlockState}
use Rattle.word_mem.specs.declared.blocks.BlockState.TheVariants.{Kept, Lent}
use Rattle.link_words.specs.Layout.{IsWordInRange}
use Rattle.mem_bytes.specs.Bytes.{bytes_at, with_bytes, all_reached}
use Rattle.qh_qtd.specs.declared.token.Token.{Token}
use Rattle.qh_qtd.specs.declared.qtd.Qtd.{Qtd}
use Rattle.qh_qtd.specs.declared.queue_head.Qh.{Qh}
use Rattle.qh_qtd.specs.Token.{token_rows}
use Rattle.qh_qtd.specs.Qtd.{qtd_words, IsQtdInRange}
use Rattle.qh_qtd.specs.QueueHead.{qh_words, IsQhInRange}
use Rattle.itd_sitd.specs.declared.itd.Itd.{Itd}
use Rattle.itd_sitd.specs.declared.sitd.Sitd.{Sitd}
use Rattle.itd_sitd.specs.Itd.{itd_words, IsItdInRange}
use Rattle.itd_sitd.specs.Sitd.{sitd_words, IsSitdInRange}
use Rattle.mem_queues.specs.Structures.{qtd_at_address, qtd_was_read, queue_head_at_address, queue_head_was_read, overlay_words, overlay_written, token_written}
use Rattle.mem_descriptors.specs.Descriptors.{itd_at_address, itd_was_read, sitd_at_address, sitd_was_read}
use Rattle.law_structures.specs.lent_structures.Structures.{Structure, QueueHead, Element, Buffer, Table, Isochronous, SplitIsochronous, StructureSets, put, without, Holds, Has, Tells}
use Rattle.law_structures.specs.lent_structures.Changes.{Changes, Leaves, IsNew, relinked, overwritten}

-- ---- reading

abbrev pub QueueHeadIsRead : Type 0
QueueHeadIsRead = (m : Mem) (parts : StructureSets) (n a : ℕ) (q : Qh) → Tells m parts → parts n a ≡ Some (QueueHead q)
    → (queue_head_at_address m a ≡ Some q) × (queue_head_was_read m a ≡ m)

abbrev pub ElementIsRead : Type 0
ElementIsRead = (m : Mem) (parts : StructureSets) (n a : ℕ) (d : Qtd) → Tells m parts → parts n a ≡ Some (Element d)
    → (qtd_at_address m a ≡ Some d) × (qtd_was_read m a ≡ m)

abbrev pub IsochronousIsRead : Type 0
IsochronousIsRead = (m : Mem) (parts : StructureSets) (n a : ℕ) (v : Itd) → Tells m parts → parts n a ≡ Some (Isochronous v)
    → (itd_at_address m a ≡ Some v) × (itd_was_read m a ≡ m)

abbrev pub SplitIsochronousIsRead : Type 0
SplitIsochronousIsRead = (m : Mem) (parts : StructureSets) (n a : ℕ) (v : Sitd) → Tells m parts → parts n a ≡ Some (SplitIsochronous v)
    → (sitd_at_address m a ≡ Some v) × (sitd_was_read m a ≡ m)

-- so many bytes of a buffer, from its byte j on
abbrev pub BytesAreRead : Type 0
BytesAreRead = (m : Mem) (parts : StructureSets) (n a : ℕ) (pages : List ℕ) (k : ℕ) (bs : List ℕ) (j count : ℕ) → Tells m parts
    → parts n a ≡ Some (Buffer pages k bs) → j + count ≤ length bs
    → (bytes_at m pages (k + j) count ≡ take count (drop j bs)) × (all_reached m pages (k + j) count ≡ true)

-- ---- what stays, and what changes

-- where all Lent blocks stay
abbrev pub RestIsTold : Type 0
RestIsTold = (m after : Mem) (parts : StructureSets) → Leaves m after → Tells m parts → Tells after parts

-- one structure changes in its blocks
abbrev pub ChangeIsTold : Type 0
ChangeIsTold = (m after : Mem) (parts : StructureSets) (n a : ℕ) (s new : Structure) → Tells m parts → parts n a ≡ Some s → Changes m after a s
    → ((b : ℕ) → Has a new b → Has a s b) → Holds after a new → Tells after (put parts n a new)

-- a structure is in blocks that weren't Lent, or that no other structure has
abbrev pub NewIsTold : Type 0
NewIsTold = (m after : Mem) (parts : StructureSets) (n a : ℕ) (s : Structure) → Tells m parts → Leaves m after → IsNew m after a s
    → Tells after (put parts n a s)

abbrev pub AnotherIsTold : Type 0
AnotherIsTold = (m : Mem) (parts : StructureSets) (n a : ℕ) (s : Structure) → Tells m parts → Holds m a s
    → ((b k c : ℕ) (u : Structure) → Has a s b → parts k c ≡ Some u → Has c u b → ⊥) → Tells m (put parts n a s)

abbrev pub FewerAreTold : Type 0
FewerAreTold = (m : Mem) (parts : StructureSets) (n a : ℕ) → Tells m parts → Tells m (without parts n a)

-- ---- one word, by the driver

abbrev pub QueueHeadWordIsTold : Type 0
QueueHeadWordIsTold = (m : Mem) (parts : StructureSets) (n a : ℕ) (q new : Qh) (k v : ℕ) → Tells m parts → parts n a ≡ Some (QueueHead q) → k < 12
    → qh_words new ≡ slice_set (qh_words q) k v → IsQhInRange new → Tells (with_word m (a + 4 * k) v) (put parts n a (QueueHead new))

abbrev pub ElementWordIsTold : Type 0
ElementWordIsTold = (m : Mem) (parts : StructureSets) (n a : ℕ) (d new : Qtd) (k v : ℕ) → Tells m parts → parts n a ≡ Some (Element d) → k < 8
    → qtd_words new ≡ slice_set (qtd_words d) k v → IsQtdInRange new → Tells (with_word m (a + 4 * k) v) (put parts n a (Element new))

abbrev pub IsochronousWordIsTold : Type 0
IsochronousWordIsTold = (m : Mem) (parts : StructureSets) (n a : ℕ) (d new : Itd) (k v : ℕ) → Tells m parts → parts n a ≡ Some (Isochronous d) → k < 16
    → itd_words new ≡ slice_set (itd_words d) k v → IsItdInRange new → Tells (with_word m (a + 4 * k) v) (put parts n a (Isochronous new))

abbrev pub SplitIsochronousWordIsTold : Type 0
SplitIsochronousWordIsTold = (m : Mem) (parts : StructureSets) (n a : ℕ) (d new : Sitd) (k v : ℕ) → Tells m parts → parts n a ≡ Some (SplitIsochronous d) → k < 7
    → sitd_words new ≡ slice_set (sitd_words d) k v → IsSitdInRange new → Tells (with_word m (a + 4 * k) v) (put parts n a (SplitIsochronous new))

abbrev pub TableWordIsTold : Type 0
TableWordIsTold = (m : Mem) (parts : StructureSets) (n a : ℕ) (ws : List ℕ) (k v : ℕ) → Tells m parts → parts n a ≡ Some (Table ws) → k < length ws
    → Tells (with_word m (a + 4 * k) v) (put parts n a (Table (slice_set ws k v)))

-- a word of a block that isn't Lent
abbrev pub KeptWordIsTold : Type 0
KeptWordIsTold = (m : Mem) (parts : StructureSets) (at v : ℕ) → Tells m parts → reaches m at ≡ false → Tells (with_word m at v) parts

-- ---- what the controller writes

-- the overlay of a copy whose characteristics and capabilities are those in memory
abbrev pub OverlayIsTold : Type 0
OverlayIsTold = (m : Mem) (parts : StructureSets) (n a : ℕ) (q c : Qh) → Tells m parts → parts n a ≡ Some (QueueHead q) → IsQhInRange c
    → take 3 (qh_words (relinked q c)) ≡ take 3 (qh_words q)
    → Tells (overlay_written m a (overlay_words c)) (put parts n a (QueueHead (relinked q c)))

abbrev pub TokenIsTold : Type 0
TokenIsTold = (m : Mem) (parts : StructureSets) (n a : ℕ) (d : Qtd) (new : Token) → Tells m parts → parts n a ≡ Some (Element d) → IsWordInRange token_rows new
    → Tells (token_written m a new) (put parts n a (Element (record d { token = new })))

abbrev pub BytesAreTold : Type 0
BytesAreTold = (m : Mem) (parts : StructureSets) (n a : ℕ) (pages : List ℕ) (k : ℕ) (bs : List ℕ) (j : ℕ) (got : List ℕ) → Tells m parts
    → parts n a ≡ Some (Buffer pages k bs) → j + length got ≤ length bs → ((i : ℕ) → slice_index got i < 256)
    → Tells (with_bytes m pages (k + j) got) (put parts n a (Buffer pages k (overwritten bs j got)))

-- ---- runs

-- a run that the driver alone had is lent, with a structure in it
abbrev pub LentIsTold : Type 0
LentIsTold = (m : Mem) (parts : StructureSets) (n a : ℕ) (s : Structure) (r : Run) → Tells m parts → r.first + r.blocks ≤ length m.states → AreAll m Kept r
    → ((b : ℕ) → Has a s b → HasBlock r b) → Holds (with_states m r Lent) a s → Tells (with_states m r Lent) (put parts n a s)

-- a run is got back of which no structure that is told has a block
abbrev pub GotBackIsTold : Type 0
GotBackIsTold = (m : Mem) (parts : StructureSets) (r : Run) (s : BlockState) → Tells m parts → r.first + r.blocks ≤ length m.states
    → ((n a : ℕ) (u : Structure) (b : ℕ) → parts n a ≡ Some u → Has a u b → HasBlock r b → ⊥) → Tells (with_states m r s) parts

-- a run that isn't Lent is released
abbrev pub ReleasedIsTold : Type 0
ReleasedIsTold = (m : Mem) (parts : StructureSets) (r : Run) (s : BlockState) → Tells m parts → r.first + r.blocks ≤ length m.states → s ≢ Lent → AreAll m s r
    → Tells (released m r) parts
