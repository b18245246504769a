-- Why an event is the one that it is (EHCI 1.0, 4.8, 4.8.3, 4.9, 4.10 and 4.15.2.4). Each record is one cause, over the place at which the
-- event begins.
use Rattle.std.specs.Prelude.{◌≡◌, ◌≢◌, ℕ, ◌<◌, ◌≤◌, true, false, Some, None, ◌⊎◌}
use Rattle.word_mem.specs.Memory.{Mem}
use Rattle.link_words.specs.declared.kinds.Link.TheVariants as links
use Rattle.link_words.specs.declared.kinds.QtdLink.TheVariants as qtd_links
use Rattle.op_registers.specs.RegisterFile.{RegisterFile}
use Rattle.qh_qtd.specs.declared.qtd.Qtd.{Qtd}
use Rattle.qh_qtd.specs.declared.queue_head.Qh.{Qh}
use Rattle.toggle_error.specs.declared.host.Outcome.{Outcome}
use Rattle.mem_queues.specs.Structures.{qtd_at_address, queue_head_at_address, reaches_queue_head}
use Rattle.hc_copy.specs.declared.held.Held.{Held}
use Rattle.hc_copy.specs.declared.held.Visit.{Visit}
use Rattle.hc_copy.specs.declared.held.Visit.TheVariants.{Rest, Work, Take}
use Rattle.hc_copy.specs.Visits.{visit_of}
use Rattle.hc_copy.specs.Buffer.{sending}
use Rattle.async_walk.specs.declared.rows.WalkRow.{WalkRow}
use Rattle.async_walk.specs.declared.rows.WalkRow.TheVariants as rows
use Rattle.async_walk.specs.declared.state.WalkStep.{WalkStep}
use Rattle.async_walk.specs.declared.state.WalkStep.TheVariants as steps
use Rattle.async_walk.specs.Naks.{may_work, planned}
use Rattle.async_walk.specs.Rows.{WalkPlace, cursor_link, writing}

-- ---- the cursor leads on

-- no copy is in hand, and the cursor's link leads to what can't be read as a queue head: it is of another type, or a block isn't Lent, or
-- a bit or value is reserved
pub record RingIsBroken (p : WalkPlace) : Type 0 where
  pub no_copy : p.walk.held ≡ None
  pub nothing_there : (at : ℕ) → cursor_link p.registers p.walk.cursor ≡ links.Qh at → queue_head_at_address p.memory at ≡ None

-- no copy is in hand, and this queue head stands where the cursor's link leads
pub record LeadsTo (p : WalkPlace) (at : ℕ) (q : Qh) : Type 0 where
  pub no_copy : p.walk.held ≡ None
  pub leads_there : cursor_link p.registers p.walk.cursor ≡ links.Qh at
  pub stands_there : queue_head_at_address p.memory at ≡ Some q

-- the walk has come round to the head of the ring, and Reclamation is 0: nothing was done since the head was read before (4.8.3)
pub record HeadIsQuiet (p : WalkPlace) : Type 0 where
  pub at : ℕ
  pub queue_head : Qh
  pub leads : LeadsTo p at queue_head
  pub is_head : queue_head.head ≡ true
  pub quiet : p.registers.reclamation ≡ false

-- ---- a copy is in hand that had no transaction yet

-- there is this to do at it (4.10)
pub record IsVisited (p : WalkPlace) (copy : Held) (visit : Visit) : Type 0 where
  pub in_hand : p.walk.held ≡ Some copy
  pub not_settled : copy.settled ≡ None
  pub visits : visit_of (may_work copy.queue_head) copy.queue_head ≡ visit

-- it is halted, or its NAKs are used up
pub record IsResting (p : WalkPlace) : Type 0 where
  pub copy : Held
  pub visited : IsVisited p copy Rest

-- its transaction comes next, and its price passes the time left (4.10.3)
pub record IsOutOfTime (p : WalkPlace) : Type 0 where
  pub copy : Held
  pub visited : IsVisited p copy Work
  pub late : p.walk.left < (planned copy.queue_head).price.0

-- its transaction comes next, and there is time for it
pub record HasTime (p : WalkPlace) (copy : Held) : Type 0 where
  pub visited : IsVisited p copy Work
  pub in_time : (planned copy.queue_head).price.0 ≤ p.walk.left

-- a byte that it sends lies past the last page, or in no Lent block
pub record BytesAreForeign (p : WalkPlace) : Type 0 where
  pub copy : Held
  pub works : HasTime p copy
  pub refused : (sending (planned copy.queue_head) copy.queue_head p.memory).all ≡ false

-- its overlay is done, and no qTD comes after it
pub record QueueEnds (p : WalkPlace) : Type 0 where
  pub copy : Held
  pub visited : IsVisited p copy (Take qtd_links.End)

-- the link of its overlay leads to what can't be read as a qTD
pub record QueueIsBroken (p : WalkPlace) : Type 0 where
  pub copy : Held
  pub at : ℕ
  pub visited : IsVisited p copy (Take (qtd_links.To at))
  pub nothing_there : qtd_at_address p.memory at ≡ None

-- this qTD comes next
pub record Comes (p : WalkPlace) (copy : Held) (at : ℕ) (qtd : Qtd) : Type 0 where
  pub visited : IsVisited p copy (Take (qtd_links.To at))
  pub stands_there : qtd_at_address p.memory at ≡ Some qtd

-- the qTD that comes next isn't active
pub record QtdIsDone (p : WalkPlace) : Type 0 where
  pub copy : Held
  pub at : ℕ
  pub qtd : Qtd
  pub comes : Comes p copy at qtd
  pub inactive : qtd.token.active ≡ false

-- the qTD that comes next is active
pub record TakesQtd (p : WalkPlace) (at : ℕ) (qtd : Qtd) : Type 0 where
  pub copy : Held
  pub comes : Comes p copy at qtd
  pub active : qtd.token.active ≡ true

-- and the words of the overlay lie in a block that isn't Lent
pub record OverlayIsForeign (p : WalkPlace) : Type 0 where
  pub copy : Held
  pub at : ℕ
  pub qtd : Qtd
  pub comes : Comes p copy at qtd
  pub active : qtd.token.active ≡ true
  pub refused : reaches_queue_head p.memory copy.at ≡ false

-- ---- a copy is in hand whose transaction was made

pub record IsSettled (p : WalkPlace) (copy : Held) (outcome : Outcome) : Type 0 where
  pub in_hand : p.walk.held ≡ Some copy
  pub settled : copy.settled ≡ Some outcome

-- a received byte lies past the last page, or a word that is written lies in no Lent block
pub record WordsAreForeign (p : WalkPlace) : Type 0 where
  pub copy : Held
  pub outcome : Outcome
  pub settled : IsSettled p copy outcome
  pub refused : (writing copy outcome p.walk.reply p.memory).all ≡ false

-- ---- the causes of each event

-- the part ends (4.8)
abbrev pub HasReason : WalkPlace → Type 0
HasReason p = HeadIsQuiet p ⊎ IsOutOfTime p

-- there is nothing to do at the queue head in hand
abbrev pub HasNothing : WalkPlace → Type 0
HasNothing p = IsResting p ⊎ (QueueEnds p ⊎ QtdIsDone p)

-- the walk can't go on: a structure that can't be read, or a word or byte that may not be touched
abbrev pub IsStuck : WalkPlace → Type 0
IsStuck p = (RingIsBroken p ⊎ QueueIsBroken p) ⊎ (OverlayIsForeign p ⊎ (BytesAreForeign p ⊎ WordsAreForeign p))

-- the cause of each row
pub data Cause (p : WalkPlace) : WalkRow → Type 0 where
  ring_is_broken : RingIsBroken p → Cause p rows.Fault
  head_is_quiet : HeadIsQuiet p → Cause p rows.HeadEnds
  leads_to : (at : ℕ) (q : Qh) → LeadsTo p at q → Cause p (rows.Fetch at q)
  is_resting : IsResting p → Cause p rows.Skip
  queue_ends : QueueEnds p → Cause p rows.Skip
  qtd_is_done : QtdIsDone p → Cause p rows.Skip
  queue_is_broken : QueueIsBroken p → Cause p rows.Fault
  takes_qtd : (at : ℕ) (qtd : Qtd) → TakesQtd p at qtd → Cause p (rows.Advance at qtd)
  is_out_of_time : IsOutOfTime p → Cause p rows.OutOfTime
  has_time : (copy : Held) → HasTime p copy → Cause p (rows.Transact (planned copy.queue_head))
  is_settled : (copy : Held) (outcome : Outcome) → IsSettled p copy outcome → Cause p rows.WriteBack

-- ---- why a queue head whose overlay is active has no transaction

-- NAKs are counted, and none is left (4.9)
pub record NaksAreUsedUp (q : Qh) : Type 0 where
  pub counted : q.rl ≢ 0
  pub none_left : q.nak_cnt ≡ 0

-- what an event makes of a visit to a queue head whose overlay is active, with this time left and these words
pub data Worked (left : ℕ) (m : Mem) (q : Qh) : WalkStep → Type 0 where
  transacts : Worked left m q steps.Transact
  naks_used_up : NaksAreUsedUp q → Worked left m q steps.Skip
  halted : q.token.halted ≡ true → Worked left m q steps.Skip
  out_of_time : left < (planned q).price.0 → Worked left m q steps.Ended
  bytes_foreign : (sending (planned q) q m).all ≡ false → Worked left m q steps.Fault

-- where the copy in hand is active and had no transaction yet, this event is its transaction, or there is a reason
abbrev pub IsWorked : WalkPlace → WalkStep → Type 0
IsWorked p step = (h : Held) → p.walk.held ≡ Some h → h.settled ≡ None → h.queue_head.token.active ≡ true → Worked p.walk.left p.memory h.queue_head step

-- ---- refusals

-- where the controller was refused a word, it doesn't run any more
abbrev pub AreRefusalsFaults : Mem → Mem → RegisterFile → Type 0
AreRefusalsFaults old new r = new.foreign ≢ old.foreign → r.run ≡ false
