-- What the controller may reach of memory, told as the structures that stand there (EHCI 1.0, 3): queue heads, qTDs, the buffers of qTDs,
-- tables, iTDs and siTDs. Each has an owner and a name. The owner is a number, for what belongs to a queue head the queue head's address.
-- The name is the structure's byte address, for a buffer that of its first byte.
--     Structure                what stands in memory
--     Structures, StructureSets              the structures of one owner by name, and those of each owner
--     with_structure part a s  the part with s in the place of what had the name a
--     put parts n a s          the same of the owner n
--     without parts n a        nothing has that name of the owner n any more
--     Holds m a s              the structure stands in memory: its blocks are Lent, and its words or bytes are there
--     Has a s b                block b is one of those that it lies in
--     Tells m parts            memory holds each of these structures, and no two of them lie in one block
use Rattle.std.specs.Prelude.{◌≡◌, ℕ, ◌+◌, ◌*◌, ◌/◌, ◌%◌, ◌<◌, ◌≤◌, ◌⊎◌, true, ◌==◌, List, length, Option, Some, None, if◌then◌else◌}
use Rattle.word_mem.specs.Memory.{Mem, IsShaped, reaches}
use Rattle.word_mem.specs.Views.{words_at, StandsAt}
use Rattle.mem_bytes.specs.Bytes.{place, bytes_at, AreReached}
use Rattle.qh_qtd.specs.declared.qtd.Qtd.{Qtd}
use Rattle.qh_qtd.specs.declared.queue_head.Qh.{Qh}
use Rattle.qh_qtd.specs.Qtd.{qtd_words, IsQtdInRange}
use Rattle.qh_qtd.specs.QueueHead.{qh_words, IsQhInRange}
use Rattle.itd_sitd.specs.declared.itd.Itd.{Itd}
use Rattle.itd_sitd.specs.declared.sitd.Sitd.{Sitd}
use Rattle.itd_sitd.specs.Itd.{itd_words, IsItdInRange}
use Rattle.itd_sitd.specs.Sitd.{sitd_words, IsSitdInRange}
use Rattle.mem_queues.specs.Structures.{reaches_queue_head}
use Rattle.mem_descriptors.specs.Descriptors.{reaches_itd}

pub data Structure : Type 0 where
  QueueHead : Qh → Structure
  Element : Qtd → Structure  -- a qTD
  Buffer : List ℕ → ℕ → List ℕ → Structure  -- pages, the place of its first byte counted from the start of the first page, and its bytes
  Table : List ℕ → Structure  -- words in a row, such as the frame list
  Isochronous : Itd → Structure
  SplitIsochronous : Sitd → Structure

-- ---- parts

abbrev pub Structures : Type 0
Structures = ℕ → Option Structure

abbrev pub StructureSets : Type 0
StructureSets = ℕ → Structures

abbrev pub with_structure : Structures → ℕ → Structure → Structures
with_structure part a s b = if b == a then Some s else part b

abbrev pub put : StructureSets → ℕ → ℕ → Structure → StructureSets
put parts n a s k = if k == n then with_structure (parts n) a s else parts k

abbrev pub without_structure : Structures → ℕ → Structures
without_structure part a b = if b == a then None else part b

abbrev pub without : StructureSets → ℕ → ℕ → StructureSets
without parts n a k = if k == n then without_structure (parts n) a else parts k

-- ---- a structure stands in memory

-- a queue head has twelve words, in two blocks (3.6)
pub record HoldsQueueHead (m : Mem) (a : ℕ) (q : Qh) : Type 0 where
  pub aligned : a % 32 ≡ 0
  pub lent : reaches_queue_head m a ≡ true
  pub words : words_at m a 12 ≡ qh_words q
  pub range : IsQhInRange q

-- a qTD has eight words, in one block (3.5)
pub record HoldsElement (m : Mem) (a : ℕ) (t : Qtd) : Type 0 where
  pub aligned : a % 32 ≡ 0
  pub lent : reaches m a ≡ true
  pub words : words_at m a 8 ≡ qtd_words t
  pub range : IsQtdInRange t

-- n bytes from byte k of these pages on have n addresses
abbrev pub AreSeparate : List ℕ → ℕ → ℕ → Type 0
AreSeparate pages k n = (i j : ℕ) → i < n → j < n → place pages (k + i) ≡ place pages (k + j) → i ≡ j

-- the bytes of a buffer lie in its pages (3.5.4)
pub record HoldsBuffer (m : Mem) (a : ℕ) (pages : List ℕ) (k : ℕ) (bs : List ℕ) : Type 0 where
  pub name : a ≡ place pages k
  pub within : k + length bs ≤ 4096 * length pages
  pub separate : AreSeparate pages k (length bs)
  pub lent : AreReached m pages k (length bs)
  pub bytes : bytes_at m pages k (length bs) ≡ bs

pub record HoldsTable (m : Mem) (a : ℕ) (ws : List ℕ) : Type 0 where
  pub aligned : a % 4 ≡ 0
  pub lent : (i : ℕ) → i < length ws → reaches m (a + 4 * i) ≡ true
  pub words : StandsAt m a ws

-- an iTD has sixteen words, in two blocks (3.3)
pub record HoldsIsochronous (m : Mem) (a : ℕ) (v : Itd) : Type 0 where
  pub aligned : a % 32 ≡ 0
  pub lent : reaches_itd m a ≡ true
  pub words : words_at m a 16 ≡ itd_words v
  pub range : IsItdInRange v

-- a siTD has seven words, in one block (3.4)
pub record HoldsSplitIsochronous (m : Mem) (a : ℕ) (v : Sitd) : Type 0 where
  pub aligned : a % 32 ≡ 0
  pub lent : reaches m a ≡ true
  pub words : words_at m a 7 ≡ sitd_words v
  pub range : IsSitdInRange v

abbrev pub Holds : Mem → ℕ → Structure → Type 0
Holds m a (QueueHead q) = HoldsQueueHead m a q
Holds m a (Element t) = HoldsElement m a t
Holds m a (Buffer pages k bs) = HoldsBuffer m a pages k bs
Holds m a (Table ws) = HoldsTable m a ws
Holds m a (Isochronous v) = HoldsIsochronous m a v
Holds m a (SplitIsochronous v) = HoldsSplitIsochronous m a v

-- ---- the blocks that it lies in

abbrev pub IsOneOfTwo : ℕ → ℕ → Type 0
IsOneOfTwo a b = (b ≡ a / 32) ⊎ (b ≡ a / 32 + 1)

abbrev pub Has : ℕ → Structure → ℕ → Type 0
Has a (QueueHead q) b = IsOneOfTwo a b
Has a (Element t) b = b ≡ a / 32
Has a (Buffer pages k bs) b = (i : ℕ) × (i < length bs) × (b ≡ place pages (k + i) / 32)
Has a (Table ws) b = (i : ℕ) × (i < length ws) × (b ≡ (a + 4 * i) / 32)
Has a (Isochronous v) b = IsOneOfTwo a b
Has a (SplitIsochronous v) b = b ≡ a / 32

-- ---- memory is told

pub record Tells (m : Mem) (parts : StructureSets) : Type 0 where
  pub shape : IsShaped m
  pub each : (n a : ℕ) (s : Structure) → parts n a ≡ Some s → Holds m a s
  pub alone : (n a k c : ℕ) (s t : Structure) (b : ℕ) → parts n a ≡ Some s → parts k c ≡ Some t → Has a s b → Has c t b → (k ≡ n) × (c ≡ a)
