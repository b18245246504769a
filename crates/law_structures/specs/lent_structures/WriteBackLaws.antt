-- Laws of an advance, of the bytes that a transaction sends, and of a write-back, where memory is told by its structures (EHCI 1.0, 4.10).
use Rattle.std.specs.Prelude.{◌≡◌, ℕ, ◌+◌, ◌≤◌, true, List, [], length, take, drop, Some}
use Rattle.word_mem.specs.Memory.{Mem}
use Rattle.qh_qtd.specs.declared.qtd.Qtd.{Qtd}
use Rattle.qh_qtd.specs.declared.queue_head.Qh.{Qh}
use Rattle.qh_qtd.specs.QueueHead.{IsQhInRange}
use Rattle.toggle_error.specs.declared.host.Outcome.{Outcome}
use Rattle.hc_copy.specs.declared.held.Transaction.{Transaction}
use Rattle.hc_copy.specs.Overlay.{advanced, pages_of, buffer_place}
use Rattle.hc_copy.specs.Buffer.{sending}
use Rattle.hc_copy.specs.WriteBack.{overlay_after, moved_by, written_back}
use Rattle.law_structures.specs.lent_structures.Structures.{Element, Buffer, StructureSets, Tells}
use Rattle.law_structures.specs.lent_structures.WriteBack.{IsCopy, parts_advanced, Received, CanBeWritten, parts_back}

-- the overlay is written once a qTD was taken (4.10.2)
abbrev pub AdvanceIsTold : Type 0
AdvanceIsTold = (m : Mem) (parts : StructureSets) (n a : ℕ) (q c : Qh) (e : ℕ) (t : Qtd) → Tells m parts → IsCopy parts n a q c → parts n e ≡ Some (Element t)
    → Tells (overlay_after m a (advanced c e t)) (parts_advanced parts n a q c e t)

-- the bytes that are sent are those of the buffer from the copy's place on (4.10.3)
abbrev pub SentIsTold : Type 0
SentIsTold = (m : Mem) (parts : StructureSets) (n b : ℕ) (t : Transaction) (c : Qh) (k : ℕ) (bs : List ℕ) (j : ℕ) → Tells m parts
    → parts n b ≡ Some (Buffer (pages_of c) k bs) → buffer_place c ≡ k + j → j + t.bytes ≤ length bs
    → sending t c m ≡ record { bytes = take t.bytes (drop j bs); memory = m; all = true }

-- a transaction without bytes reads none
abbrev pub NothingIsSent : Type 0
NothingIsSent = (m : Mem) (t : Transaction) (c : Qh) → IsQhInRange c → t.bytes ≡ 0 → sending t c m ≡ record { bytes = []; memory = m; all = true }

-- nothing of a write-back is refused (4.10.4 to 4.10.6)
abbrev pub AllIsWritten : Type 0
AllIsWritten = (m : Mem) (parts : StructureSets) (n a : ℕ) (q c : Qh) (o : Outcome) (got : List ℕ) (r : Received) (t : Qtd) → Tells m parts
    → CanBeWritten parts n a q c got r t → (written_back a c o got m).all ≡ true

-- and what it leaves is told
abbrev pub WriteBackIsTold : Type 0
WriteBackIsTold = (m : Mem) (parts : StructureSets) (n a : ℕ) (q c : Qh) (o : Outcome) (got : List ℕ) (r : Received) (t : Qtd) → Tells m parts
    → CanBeWritten parts n a q c got r t → Tells (written_back a c o got m).memory (parts_back parts n a q c (moved_by o) got r t)
