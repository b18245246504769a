-- Laws of a siTD in hand over structures in memory (EHCI 1.0, 3.4.3, 3.4.4, 4.12.3 and 4.15.2.4).
use Rattle.std.specs.Prelude.{◌≡◌, ◌≢◌, ℕ, ◌<◌, true, Option, Some, None, slice_index}
use Rattle.usb_base.specs.declared.packets.Reply.{Reply}
use Rattle.word_mem.specs.Memory.{Mem}
use Rattle.hc_iso.specs.declared.held.SitdTurn.TheVariants as turns
use Rattle.hc_iso.specs.declared.held.SplitOutcome.{SplitOutcome}
use Rattle.hc_iso.specs.Sitd.{sitd_turn, sitd_transaction, sitd_place}
use Rattle.hc_iso.specs.WriteBack.{sitd_pages, bytes_of}
use Rattle.periodic_walk.specs.Sitd.{writing}
use Rattle.law_structures.specs.lent_structures.Structures.{StructureSets, Tells}
use Rattle.law_structures.specs.lent_structures.WriteBack.{Received}
use Rattle.law_frames.specs.Met.{Kind, IsMetSitd}
use Rattle.law_frames.specs.FrameHand.{SitdCopy}
use Rattle.law_frames.specs.SitdBacks.{IsSitdInHand, transacted, missed, AreRead, AreReceivedBy, parts_after, IsCounted}

-- ---- its transaction

-- it sends the bytes of its buffer, and is refused none
abbrev pub SitdIsSent : Type 0
SitdIsSent = (met : ℕ → Option Kind) (parts : StructureSets) (m : Mem) (reply : Reply) (c : SitdCopy) (u : ℕ) → IsSitdInHand met parts m reply c
    → c.held.settled ≡ None → sitd_turn u c.held.sitd ≡ turns.Work
    → AreRead (parts c.held.at) (sitd_pages c.held.sitd) (sitd_place c.held.sitd) (sitd_transaction c.held.sitd).bytes m

-- the copy of what it came to is one of the same siTD
abbrev pub TransactedIsInHand : Type 0
TransactedIsInHand = (met : ℕ → Option Kind) (parts : StructureSets) (m : Mem) (before reply : Reply) (c : SitdCopy) (u : ℕ) → IsSitdInHand met parts m before c
    → c.held.settled ≡ None → sitd_turn u c.held.sitd ≡ turns.Work → u < 8 → ((i : ℕ) → slice_index (bytes_of reply) i < 256)
    → IsSitdInHand met parts m reply (transacted u reply c)

-- so is that of which a microframe was missed
abbrev pub MissedIsInHand : Type 0
MissedIsInHand = (met : ℕ → Option Kind) (parts : StructureSets) (m : Mem) (before reply : Reply) (c : SitdCopy) (u : ℕ) → IsSitdInHand met parts m before c
    → c.held.settled ≡ None → sitd_turn u c.held.sitd ≡ turns.Miss → IsSitdInHand met parts m reply (missed c)

-- ---- its write-back

-- what it received has its place in the buffer
abbrev pub ReceivedIsPut : Type 0
ReceivedIsPut = (met : ℕ → Option Kind) (parts : StructureSets) (m : Mem) (reply : Reply) (c : SitdCopy) (o : SplitOutcome) → IsSitdInHand met parts m reply c
    → c.held.settled ≡ Some o → (into : Received) × AreReceivedBy parts c o reply into

-- just as many bytes as it has less (3.4.3)
abbrev pub BytesAreCounted : Type 0
BytesAreCounted = (met : ℕ → Option Kind) (parts : StructureSets) (m : Mem) (reply : Reply) (c : SitdCopy) (o : SplitOutcome) → IsSitdInHand met parts m reply c
    → c.held.settled ≡ Some o → IsCounted c o reply

-- nothing of it is refused
abbrev pub AllIsWritten : Type 0
AllIsWritten = (met : ℕ → Option Kind) (parts : StructureSets) (m : Mem) (reply : Reply) (c : SitdCopy) (o : SplitOutcome) (into : Received) → IsSitdInHand met parts m reply c
    → c.held.settled ≡ Some o → AreReceivedBy parts c o reply into → (writing c.held o reply m).all ≡ true

-- what it leaves is told
abbrev pub WriteBackIsTold : Type 0
WriteBackIsTold = (met : ℕ → Option Kind) (parts : StructureSets) (m : Mem) (reply : Reply) (c : SitdCopy) (o : SplitOutcome) (into : Received) → IsSitdInHand met parts m reply c
    → c.held.settled ≡ Some o → AreReceivedBy parts c o reply into → Tells (writing c.held o reply m).memory (parts_after parts c o reply into)

-- the siTD is sound again: where it is still active, the bytes that are left are there
abbrev pub SitdIsMetAgain : Type 0
SitdIsMetAgain = (met : ℕ → Option Kind) (parts : StructureSets) (m : Mem) (reply : Reply) (c : SitdCopy) (o : SplitOutcome) (into : Received) → IsSitdInHand met parts m reply c
    → c.held.settled ≡ Some o → AreReceivedBy parts c o reply into → IsMetSitd met c.held.at (parts_after parts c o reply into c.held.at)

-- what belongs to others is as it was
abbrev pub OthersStay : Type 0
OthersStay = (parts : StructureSets) (c : SitdCopy) (o : SplitOutcome) (reply : Reply) (into : Received) (n : ℕ) → n ≢ c.held.at → parts_after parts c o reply into n ≡ parts n
