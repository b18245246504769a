-- Laws of a visit to the queue head of an interrupt endpoint (EHCI 1.0, 4.10.2 to 4.10.6 and 4.12.2).
--     AdvanceStays            once a qTD was taken, the visit goes on at the same queue head, whose overlay it is
--     TransactionSendsItsBytes           what a transaction sends is there
--     Settles, CopySettles    what a transaction came to, and the copy after it, in any microframe
--     started_settlement f q  what a start-split comes to, whatever is heard
--     StartsSplit, CompletesSplit, StaysPlain
--                             what a start-split comes to, what a complete-split notes, and that at high speed nothing is noted
--     MissSettles, CopyMisses the same of a microframe of its split transaction that was missed
--     IsHaltedByMiss q new    the qTD of q is halted with Missed Micro-Frame in new, and nothing of it was moved
--     MissHalts               a miss leaves it so, and ends the visit
--     HandIsSettled           so whatever is written back is settled
--     WriteBackKeepsVisit              what it came to is written back
use Rattle.std.specs.Prelude.{◌≡◌, ℕ, ◌<◌, ◌==◌, true, false, Some, None, Option, List, [], length, slice_index}
use Rattle.usb_base.specs.declared.packets.Pid.{Pid}
use Rattle.usb_base.specs.declared.packets.Reply.{Reply}
use Rattle.usb_base.specs.declared.packets.Reply.TheVariants.{Bytes}
use Rattle.word_mem.specs.Memory.{Mem}
use Rattle.qh_qtd.specs.declared.queue_head.Qh.{Qh}
use Rattle.toggle_error.specs.declared.host.Outcome.TheVariants.{Wait}
use Rattle.hc_masks.specs.Masks.{with_bit}
use Rattle.hc_copy.specs.declared.held.Held.{Held}
use Rattle.hc_copy.specs.Planning.{host_in}
use Rattle.hc_copy.specs.Overlay.{advanced}
use Rattle.hc_copy.specs.WriteBack.{overlay_after}
use Rattle.hc_interrupt.specs.declared.turns.Turn.TheVariants as turns
use Rattle.hc_interrupt.specs.Turns.{microframe_of, tag_of, turn_of, planned}
use Rattle.hc_interrupt.specs.Copies.{interrupt_copy, missed_copy}
use Rattle.periodic_walk.specs.Walk.{Walk}
use Rattle.law_structures.specs.lent_structures.Structures.{StructureSets}
use Rattle.law_ring.specs.Hand.{Copy, copied_queue, Copied}
use Rattle.law_ring.specs.Effects.{Takes}
use Rattle.law_frames.specs.Met.{Kind}
use Rattle.law_frames.specs.FrameHand.{QueueSettlement, settled_in, FrameHand, Nothing}
use Rattle.law_frames.specs.Frame.{IsQueueSettled, IsCopiedQueue, IsInFrame}
use Rattle.law_frames.specs.FrameEffects.{frame_settlement, queue_written, after_back, missed_settlement, IsSettledFrom}
use Rattle.law_frames.specs.Visits.{IsQueueVisit, IsOnlyAt, AreAllSent, IsWrittenBack}

-- ---- an advance (4.10.2)

-- the overlay is that in memory after it
abbrev pub AdvanceStays : Type 0
AdvanceStays = (met : ℕ → Option Kind) (m : Mem) (parts now : StructureSets) (c new : Copy) → IsQueueVisit met m parts c → (takes : Takes parts (Copied c) now (Copied new))
    → IsQueueVisit met (overlay_after m c.at (advanced (copied_queue c) takes.element takes.qtd)) now new

abbrev pub AdvanceIsOnlyThere : Type 0
AdvanceIsOnlyThere = (parts now : StructureSets) (c new : Copy) → Takes parts (Copied c) now (Copied new) → IsOnlyAt c.at parts now

-- ---- a transaction (4.10.3)

abbrev pub TransactionSendsItsBytes : Type 0
TransactionSendsItsBytes = (met : ℕ → Option Kind) (m : Mem) (parts : StructureSets) (c : Copy) → IsQueueVisit met m parts c → c.queue.token.active ≡ true → AreAllSent m parts c

-- what was heard has bytes below 256
abbrev pub HasBytes : Reply → Type 0
HasBytes reply = (pid : Pid) (bs : List ℕ) → reply ≡ Bytes pid bs → (i : ℕ) → slice_index bs i < 256

-- in the microframe f of FRINDEX
abbrev pub Settles : Type 0
Settles = (f : ℕ) (q : Qh) (out : List ℕ) (reply : Reply) → q.token.active ≡ true → q.c_prog < 256 → q.frame_tag < 32 → length out ≡ (planned q).bytes → HasBytes reply
    → IsQueueSettled q reply (frame_settlement f q out reply)

-- nothing is moved, and complete-splits come (4.12.2.4.2)
abbrev pub started_settlement : ℕ → Qh → QueueSettlement
started_settlement f q = record { host = record (host_in q) { waiting = true }; outcome = Wait; got = []; c_prog = 0; frame_tag = tag_of f }

abbrev pub StartsSplit : Type 0
StartsSplit = (f : ℕ) (q : Qh) (out : List ℕ) (reply : Reply) → (q.eps == 2) ≡ false → q.token.split_state ≡ false → frame_settlement f q out reply ≡ started_settlement f q

abbrev pub CompletesSplit : Type 0
CompletesSplit = (f : ℕ) (q : Qh) (out : List ℕ) (reply : Reply) → (q.eps == 2) ≡ false → q.token.split_state ≡ true
    → ((frame_settlement f q out reply).c_prog ≡ with_bit q.c_prog (microframe_of f)) × ((frame_settlement f q out reply).frame_tag ≡ q.frame_tag)

abbrev pub StaysPlain : Type 0
StaysPlain = (f : ℕ) (q : Qh) (out : List ℕ) (reply : Reply) → (q.eps == 2) ≡ true
    → ((frame_settlement f q out reply).c_prog ≡ q.c_prog) × ((frame_settlement f q out reply).frame_tag ≡ q.frame_tag)

abbrev pub MissSettles : Type 0
MissSettles = (f : ℕ) (q : Qh) (reply : Reply) → turn_of f q ≡ turns.Miss → q.c_prog < 256 → q.frame_tag < 32 → IsQueueSettled q reply (missed_settlement q)

-- a copy, and one whose transaction came to this
abbrev pub held_copy : Copy → Held
held_copy c = record { at = c.at; queue_head = copied_queue c; settled = None }

abbrev pub held_settled : Copy → QueueSettlement → Held
held_settled c z = record { at = c.at; queue_head = settled_in c z; settled = Some z.outcome }

abbrev pub CopySettles : Type 0
CopySettles = (f : ℕ) (c : Copy) (out : List ℕ) (reply : Reply)
    → interrupt_copy f (planned (copied_queue c)) out reply (held_copy c) ≡ held_settled c (frame_settlement f c.queue out reply)

abbrev pub CopyMisses : Type 0
CopyMisses = (c : Copy) → missed_copy (held_copy c) ≡ held_settled c (missed_settlement c.queue)

-- (4.12.2.4.1)
pub record IsHaltedByMiss (q new : Qh) : Type 0 where
  pub missed : new.token.missed ≡ true
  pub halted : new.token.halted ≡ true
  pub idle : new.token.active ≡ false
  pub left : new.token.total ≡ q.token.total
  pub toggle : new.token.toggle ≡ q.token.toggle
  pub current : new.current ≡ q.current

abbrev pub MissHalts : Type 0
MissHalts = (c : Copy) (made : ℕ) → IsHaltedByMiss c.queue (queue_written c (missed_settlement c.queue)) × (after_back c (missed_settlement c.queue) made ≡ Nothing)

-- ---- a write-back (4.10.4 to 4.10.6)

abbrev pub HandIsSettled : Type 0
HandIsSettled = (met : ℕ → Option Kind) (parts : StructureSets) (w : Walk) (hand : FrameHand) (c : Copy) (z : QueueSettlement) (made : ℕ) → IsInFrame met parts w.got w.reply hand
    → IsSettledFrom w hand c z made → IsCopiedQueue met parts c × IsQueueSettled c.queue w.reply z

abbrev pub WriteBackKeepsVisit : Type 0
WriteBackKeepsVisit = (met : ℕ → Option Kind) (m : Mem) (parts : StructureSets) (c : Copy) (z : QueueSettlement) (reply : Reply) → IsQueueVisit met m parts c → IsQueueSettled c.queue reply z
    → IsWrittenBack met m parts c z
