-- Why an event is the one that it is (EHCI 1.0, 4.6, 4.7, 4.10, 4.12 and 4.15.2.4). Each record is one cause, over the place at which the
-- event begins.
use Rattle.std.specs.Prelude.{◌≡◌, ℕ, ◌<◌, ◌≤◌, true, false, None, Some}
use Rattle.word_mem.specs.Memory.{Mem}
use Rattle.link_words.specs.declared.kinds.Link.{Link}
use Rattle.link_words.specs.declared.kinds.Link.TheVariants as links
use Rattle.link_words.specs.declared.kinds.QtdLink.TheVariants as qtd_links
use Rattle.qh_qtd.specs.declared.qtd.Qtd.{Qtd}
use Rattle.toggle_error.specs.declared.host.Outcome.{Outcome}
use Rattle.mem_queues.specs.Structures.{qtd_at_address, queue_head_at_address, reaches_queue_head}
use Rattle.mem_descriptors.specs.Descriptors.{itd_at_address, sitd_at_address}
use Rattle.hc_copy.specs.Buffer.{sending}
use Rattle.hc_masks.specs.Masks.{has}
use Rattle.hc_interrupt.specs.declared.turns.Turn.{Turn}
use Rattle.hc_interrupt.specs.declared.turns.Turn.TheVariants as turns
use Rattle.hc_interrupt.specs.Turns.{microframe_of, waits, is_missed, turn_of, planned}
use Rattle.hc_iso.specs.declared.held.HeldItd.{HeldItd}
use Rattle.hc_iso.specs.declared.held.HeldSitd.{HeldSitd}
use Rattle.hc_iso.specs.declared.held.IsoEnd.{IsoEnd}
use Rattle.hc_iso.specs.declared.held.SitdTurn.{SitdTurn}
use Rattle.hc_iso.specs.declared.held.SitdTurn.TheVariants as sitd_turns
use Rattle.hc_iso.specs.declared.held.SplitOutcome.{SplitOutcome}
use Rattle.hc_iso.specs.declared.held.SplitOutcome.TheVariants.{Failed}
use Rattle.hc_iso.specs.Itd.{itd_transaction}
use Rattle.hc_iso.specs.Sitd.{sitd_missed, comes, sitd_turn, sitd_transaction, missed_copy}
use Rattle.hc_iso.specs.WriteBack.{itd_sending, itd_written, sitd_sending}
use Rattle.async_walk.specs.declared.state.WalkStep.{WalkStep}
use Rattle.async_walk.specs.declared.state.WalkStep.TheVariants as steps
use Rattle.periodic_walk.specs.declared.state.Hand.TheVariants as hands
use Rattle.periodic_walk.specs.declared.state.HeldQueue.{HeldQueue}
use Rattle.periodic_walk.specs.Place.{FramePlace}
use Rattle.periodic_walk.specs.Queue.{writing, missed, miss_outcome}
use Rattle.periodic_walk.specs.Sitd.{writing as sitd_writing}

-- ---- no copy is in hand

pub record ChainEnds (p : FramePlace) : Type 0 where
  pub no_copy : p.walk.hand ≡ None
  pub at_end : p.walk.cursor ≡ links.End

-- what the link names can't be read, or isn't served
abbrev pub IsUnread : Mem → Link → Type 0
IsUnread m links.End = ⊥
IsUnread m (links.Itd a) = itd_at_address m a ≡ None
IsUnread m (links.Qh a) = queue_head_at_address m a ≡ None
IsUnread m (links.Sitd a) = sitd_at_address m a ≡ None
IsUnread m (links.Fstn a) = Unit {0}

pub record ChainIsBroken (p : FramePlace) : Type 0 where
  pub no_copy : p.walk.hand ≡ None
  pub unread : IsUnread p.memory p.walk.cursor

-- ---- a queue head is in hand, with no transaction that waits for its write-back

pub record IsVisited (p : FramePlace) (h : HeldQueue) (turn : Turn) : Type 0 where
  pub in_hand : p.walk.hand ≡ Some (hands.Queue h)
  pub not_settled : h.copy.settled ≡ None
  pub turns : turn_of p.walk.index h.copy.queue_head ≡ turn

-- it is halted, or it doesn't work in this microframe
pub record QueueRests (p : FramePlace) : Type 0 where
  pub held : HeldQueue
  pub visited : IsVisited p held turns.Rest

-- the price of its transaction passes the time left
pub record QueueIsLate (p : FramePlace) : Type 0 where
  pub held : HeldQueue
  pub visited : IsVisited p held turns.Work
  pub late : p.walk.left < (planned held.copy.queue_head).price.0

-- its overlay is done, and no qTD comes after it
pub record QueueEnds (p : FramePlace) : Type 0 where
  pub held : HeldQueue
  pub visited : IsVisited p held (turns.Take qtd_links.End)

-- the qTD that comes next isn't active
pub record QtdIsDone (p : FramePlace) : Type 0 where
  pub held : HeldQueue
  pub at : ℕ
  pub qtd : Qtd
  pub visited : IsVisited p held (turns.Take (qtd_links.To at))
  pub stands_there : qtd_at_address p.memory at ≡ Some qtd
  pub inactive : qtd.token.active ≡ false

-- the link of its overlay leads to what can't be read as a qTD
pub record QueueIsBroken (p : FramePlace) : Type 0 where
  pub held : HeldQueue
  pub at : ℕ
  pub visited : IsVisited p held (turns.Take (qtd_links.To at))
  pub nothing_there : qtd_at_address p.memory at ≡ None

-- a qTD comes next, and the words of the overlay don't all lie in Lent blocks
pub record OverlayIsForeign (p : FramePlace) : Type 0 where
  pub held : HeldQueue
  pub at : ℕ
  pub qtd : Qtd
  pub visited : IsVisited p held (turns.Take (qtd_links.To at))
  pub stands_there : qtd_at_address p.memory at ≡ Some qtd
  pub active : qtd.token.active ≡ true
  pub refused : reaches_queue_head p.memory held.copy.at ≡ false

-- a byte that it sends lies past the last page, or in no Lent block
pub record QueueBytesAreForeign (p : FramePlace) : Type 0 where
  pub held : HeldQueue
  pub visited : IsVisited p held turns.Work
  pub in_time : (planned held.copy.queue_head).price.0 ≤ p.walk.left
  pub refused : (sending (planned held.copy.queue_head) held.copy.queue_head p.memory).all ≡ false

-- a microframe was missed, and a word of the write-back lies in no Lent block
pub record MissIsForeign (p : FramePlace) : Type 0 where
  pub held : HeldQueue
  pub visited : IsVisited p held turns.Miss
  pub refused : (writing (missed held).copy miss_outcome p.walk.reply p.memory).all ≡ false

-- its transaction was made, and a received byte lies past the last page, or a word of the write-back in no Lent block
pub record QueueWordsAreForeign (p : FramePlace) : Type 0 where
  pub held : HeldQueue
  pub outcome : Outcome
  pub in_hand : p.walk.hand ≡ Some (hands.Queue held)
  pub settled : held.copy.settled ≡ Some outcome
  pub refused : (writing held.copy outcome p.walk.reply p.memory).all ≡ false

-- ---- an iTD is in hand

pub record IsGoing (p : FramePlace) (h : HeldItd) : Type 0 where
  pub in_hand : p.walk.hand ≡ Some (hands.Itd h)
  pub not_ended : h.ended ≡ None

-- its microframe isn't active
pub record ItdRests (p : FramePlace) : Type 0 where
  pub held : HeldItd
  pub going : IsGoing p held
  pub inactive : held.slot.active ≡ false

pub record ItdIsLate (p : FramePlace) : Type 0 where
  pub held : HeldItd
  pub going : IsGoing p held
  pub active : held.slot.active ≡ true
  pub late : p.walk.left < (itd_transaction held).price.0

pub record ItdBytesAreForeign (p : FramePlace) : Type 0 where
  pub held : HeldItd
  pub going : IsGoing p held
  pub active : held.slot.active ≡ true
  pub in_time : (itd_transaction held).price.0 ≤ p.walk.left
  pub refused : (itd_sending (itd_transaction held) held p.memory).all ≡ false

pub record ItdWordsAreForeign (p : FramePlace) : Type 0 where
  pub held : HeldItd
  pub ended : IsoEnd
  pub in_hand : p.walk.hand ≡ Some (hands.Itd held)
  pub has_ended : held.ended ≡ Some ended
  pub refused : (itd_written held p.walk.got p.memory).all ≡ false

-- ---- a siTD is in hand

pub record IsTurned (p : FramePlace) (h : HeldSitd) (turn : SitdTurn) : Type 0 where
  pub in_hand : p.walk.hand ≡ Some (hands.Sitd h)
  pub not_settled : h.settled ≡ None
  pub turns : sitd_turn (microframe_of p.walk.index) h.sitd ≡ turn

pub record SitdRests (p : FramePlace) : Type 0 where
  pub held : HeldSitd
  pub turned : IsTurned p held sitd_turns.Rest

pub record SitdIsLate (p : FramePlace) : Type 0 where
  pub held : HeldSitd
  pub turned : IsTurned p held sitd_turns.Work
  pub late : p.walk.left < (sitd_transaction held.sitd).price.0

pub record SitdBytesAreForeign (p : FramePlace) : Type 0 where
  pub held : HeldSitd
  pub turned : IsTurned p held sitd_turns.Work
  pub in_time : (sitd_transaction held.sitd).price.0 ≤ p.walk.left
  pub refused : (sitd_sending (sitd_transaction held.sitd) held.sitd p.memory).all ≡ false

pub record SitdMissIsForeign (p : FramePlace) : Type 0 where
  pub held : HeldSitd
  pub turned : IsTurned p held sitd_turns.Miss
  pub refused : (sitd_writing (missed_copy held) Failed p.walk.reply p.memory).all ≡ false

pub record SitdWordsAreForeign (p : FramePlace) : Type 0 where
  pub held : HeldSitd
  pub outcome : SplitOutcome
  pub in_hand : p.walk.hand ≡ Some (hands.Sitd held)
  pub settled : held.settled ≡ Some outcome
  pub refused : (sitd_writing held outcome p.walk.reply p.memory).all ≡ false

-- ---- the causes of each event

-- there is nothing to do at the structure in hand, or no time for it
pub data HasNothing (p : FramePlace) : Type 0 where
  queue_rests : QueueRests p → HasNothing p
  queue_is_late : QueueIsLate p → HasNothing p
  queue_ends : QueueEnds p → HasNothing p
  qtd_is_done : QtdIsDone p → HasNothing p
  itd_rests : ItdRests p → HasNothing p
  itd_is_late : ItdIsLate p → HasNothing p
  sitd_rests : SitdRests p → HasNothing p
  sitd_is_late : SitdIsLate p → HasNothing p

-- the walk can't go on
pub data IsStuck (p : FramePlace) : Type 0 where
  chain_is_broken : ChainIsBroken p → IsStuck p
  queue_is_broken : QueueIsBroken p → IsStuck p
  overlay_is_foreign : OverlayIsForeign p → IsStuck p
  queue_bytes_are_foreign : QueueBytesAreForeign p → IsStuck p
  miss_is_foreign : MissIsForeign p → IsStuck p
  queue_words_are_foreign : QueueWordsAreForeign p → IsStuck p
  itd_bytes_are_foreign : ItdBytesAreForeign p → IsStuck p
  itd_words_are_foreign : ItdWordsAreForeign p → IsStuck p
  sitd_bytes_are_foreign : SitdBytesAreForeign p → IsStuck p
  sitd_miss_is_foreign : SitdMissIsForeign p → IsStuck p
  sitd_words_are_foreign : SitdWordsAreForeign p → IsStuck p

-- ---- why a structure that is active has no transaction

-- what an event makes of a queue head whose overlay is active
pub data QueueWorked (p : FramePlace) (h : HeldQueue) : WalkStep → Type 0 where
  transacts : QueueWorked p h steps.Transact
  halted : h.copy.queue_head.token.halted ≡ true → QueueWorked p h steps.Skip
  -- it starts in another microframe; its complete-splits come in others
  not_in_its_s_mask : waits h.copy.queue_head ≡ false → has h.copy.queue_head.smask (microframe_of p.walk.index) ≡ false → QueueWorked p h steps.Skip
  not_in_its_c_mask : waits h.copy.queue_head ≡ true → has h.copy.queue_head.cmask (microframe_of p.walk.index) ≡ false → QueueWorked p h steps.Skip
  out_of_time : p.walk.left < (planned h.copy.queue_head).price.0 → QueueWorked p h steps.Skip
  bytes_foreign : (sending (planned h.copy.queue_head) h.copy.queue_head p.memory).all ≡ false → QueueWorked p h steps.Fault
  -- a microframe of its split transaction was missed, and the qTD halts
  misses : waits h.copy.queue_head ≡ true → is_missed p.walk.index h.copy.queue_head ≡ true → QueueWorked p h steps.WriteBack
  miss_foreign : is_missed p.walk.index h.copy.queue_head ≡ true → (writing (missed h).copy miss_outcome p.walk.reply p.memory).all ≡ false → QueueWorked p h steps.Fault

-- of an iTD whose microframe is active
pub data ItdWorked (p : FramePlace) (h : HeldItd) : WalkStep → Type 0 where
  transacts : ItdWorked p h steps.Transact
  out_of_time : p.walk.left < (itd_transaction h).price.0 → ItdWorked p h steps.Skip
  bytes_foreign : (itd_sending (itd_transaction h) h p.memory).all ≡ false → ItdWorked p h steps.Fault

-- of a siTD that is active
pub data SitdWorked (p : FramePlace) (h : HeldSitd) : WalkStep → Type 0 where
  transacts : SitdWorked p h steps.Transact
  -- no transaction of it comes in this microframe
  comes_in_others : comes (microframe_of p.walk.index) h.sitd ≡ false → SitdWorked p h steps.Skip
  out_of_time : p.walk.left < (sitd_transaction h.sitd).price.0 → SitdWorked p h steps.Skip
  bytes_foreign : (sitd_sending (sitd_transaction h.sitd) h.sitd p.memory).all ≡ false → SitdWorked p h steps.Fault
  misses : sitd_missed (microframe_of p.walk.index) h.sitd ≡ true → SitdWorked p h steps.WriteBack
  miss_foreign : sitd_missed (microframe_of p.walk.index) h.sitd ≡ true → (sitd_writing (missed_copy h) Failed p.walk.reply p.memory).all ≡ false → SitdWorked p h steps.Fault

-- where the copy in hand is active and had no transaction that waits for its write-back, this event is its transaction, or there is a reason
pub record IsWorked (p : FramePlace) (step : WalkStep) : Type 0 where
  pub queue : (h : HeldQueue) → p.walk.hand ≡ Some (hands.Queue h) → h.copy.settled ≡ None → h.copy.queue_head.token.active ≡ true → QueueWorked p h step
  pub itd : (h : HeldItd) → p.walk.hand ≡ Some (hands.Itd h) → h.ended ≡ None → h.slot.active ≡ true → ItdWorked p h step
  pub sitd : (h : HeldSitd) → p.walk.hand ≡ Some (hands.Sitd h) → h.settled ≡ None → h.sitd.active ≡ true → SitdWorked p h step

-- ---- each event

-- what each event has as its cause
pub data Cause (p : FramePlace) : WalkStep → Type 0 where
  ends : ChainEnds p → Cause p steps.Ended
  fetches : Cause p steps.Fetch
  advances : Cause p steps.Advance
  transacts : Cause p steps.Transact
  writes : Cause p steps.WriteBack
  skips : HasNothing p → Cause p steps.Skip
  faults : IsStuck p → Cause p steps.Fault
