-- A visit to the queue head of an interrupt endpoint that the walk of the frames meets (EHCI 1.0, 4.10.2 to 4.10.6 and 4.12.2), whatever the rest of the frames is.
--     IsQueueVisit met m parts c    memory is told by these parts, the queue head is met and sound, and c is a copy of it
--     IsOnlyAt n parts now          no other owner's part is changed
--     AreAllSent m parts c          the bytes that go out with its transaction are those of one buffer, and the controller may read all of them
--     back_of c z m                 the write-back
--     IsWrittenBack met m parts c z what its transaction came to is written back in full, and the copy in hand is again one of what stands there
use Rattle.std.specs.Prelude.{◌≡◌, ◌≢◌, ℕ, true, List, Option}
use Rattle.word_mem.specs.Memory.{Mem}
use Rattle.hc_copy.specs.Overlay.{pages_of, buffer_place}
use Rattle.hc_copy.specs.Buffer.{Writing, sending}
use Rattle.hc_copy.specs.WriteBack.{written_back}
use Rattle.hc_interrupt.specs.Turns.{planned}
use Rattle.periodic_walk.specs.Walk.{Walk}
use Rattle.law_structures.specs.lent_structures.Structures.{StructureSets, Tells}
use Rattle.law_ring.specs.Hand.{Copy, copied_queue}
use Rattle.law_frames.specs.Met.{Kind, IsMetQueue}
use Rattle.law_frames.specs.FrameHand.{QueueSettlement, settled_in, FrameHand}
use Rattle.law_frames.specs.Frame.{IsCopiedQueue}
use Rattle.law_frames.specs.FrameEffects.{AreOut, queue_written, after_back, IsSettledFrom, WritesQueue}

pub record IsQueueVisit (met : ℕ → Option Kind) (m : Mem) (parts : StructureSets) (c : Copy) : Type 0 where
  pub tells : Tells m parts
  pub met_is : IsMetQueue met c.at (parts c.at)
  pub copied : IsCopiedQueue met parts c

abbrev pub IsOnlyAt : ℕ → StructureSets → StructureSets → Type 0
IsOnlyAt n parts now = (k : ℕ) → k ≢ n → now k ≡ parts k

-- ---- its transaction (4.10.3)

pub record AreAllSent (m : Mem) (parts : StructureSets) (c : Copy) : Type 0 where
  pub out : List ℕ
  pub read : sending (planned c.queue) (copied_queue c) m ≡ record { bytes = out; memory = m; all = true }
  pub are : AreOut (parts c.at) (pages_of c.queue) (buffer_place c.queue) (planned c.queue).bytes out

-- ---- its write-back (4.10.4 to 4.10.6)

abbrev pub back_of : Copy → QueueSettlement → Mem → Writing
back_of c z m = written_back c.at (settled_in c z) z.outcome z.got m

pub record IsWrittenBack (met : ℕ → Option Kind) (m : Mem) (parts : StructureSets) (c : Copy) (z : QueueSettlement) : Type 0 where
  pub now : StructureSets
  pub whole : (back_of c z m).all ≡ true
  pub visit : IsQueueVisit met (back_of c z m).memory now (record c { queue = queue_written c z })
  pub only : IsOnlyAt c.at parts now
  pub writes : (w : Walk) (hand : FrameHand) (made : ℕ) → IsSettledFrom w hand c z made → WritesQueue parts w hand now (after_back c z made)
