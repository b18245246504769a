-- Missed Micro-Frame is a bit of split transactions that are scheduled by microframes (EHCI 1.0, 3.5.3 and 4.12.2): no token of a queue head of the ring, and none
-- of its qTDs, tells it; so no transfer of a bulk or control endpoint ends with it.
--     IsUnmissed s                  the token of a queue head, of a qTD doesn't tell it
--     NoneMissed asked parts        of those queue heads that are asked that of none that stands by its own name does, and that of none of their qTDs
--     MissesNone asked hand         nor what the walk has in hand of one of them
--     PublishesNone d               nor the qTD that is being published, once the others of its transfer are lent
--     MissNone asked d parts hand   all of them
--     NewHeadIsUnmissed, NewQtdIsUnmissed, DummyIsUnmissed
--                                   the laws: of the queue head of an open, of a transfer's qTDs, and of the inactive one
--     WalkMissesNone                .. an event of the walk of the ring leaves it so
--     WritingMissesNone, ReleaseMissesNone
--                                   .. so does a structure that comes to stand among them, and so do those that are given back
--     HarvestMissesNone             .. and no harvest finds a transfer ended so
use Rattle.std.specs.Prelude.{◌≡◌, ◌≢◌, ℕ, ◌*◌, ◌≤◌, Bool, false, List, Option, Some, true}
use Rattle.usb_base.specs.declared.endpoints.EpDesc.{EpDesc}
use Rattle.usb_base.specs.declared.packets.Ask.{Ask}
use Rattle.usb_base.specs.declared.packets.Reply.{Reply}
use Rattle.usb_base.specs.declared.reports.What.{What}
use Rattle.usb_base.specs.declared.reports.What.TheVariants as lines
use Rattle.qh_qtd.specs.declared.qtd.Qtd.{Qtd}
use Rattle.qh_qtd.specs.declared.queue_head.Qh.{Qh}
use Rattle.qh_qtd.specs.Qtd.{qtd_words, IsQtdInRange}
use Rattle.drv_table.specs.declared.content.Command.{Command}
use Rattle.drv_table.specs.declared.content.Command.TheVariants as unfinished
use Rattle.drv_table.specs.declared.content.QtdNote.{QtdNote}
use Rattle.drv_table.specs.declared.content.Stage.{Stage}
use Rattle.drv_table.specs.declared.rows.Found.TheVariants as founds
use Rattle.drv_table.specs.DriverContent.{DriverContent}
use Rattle.drv_table.specs.Parts.{Parts}
use Rattle.drv_table.specs.Words.{queue_head, dummy_qtd}
use Rattle.law_driver.specs.run_owners.Due.{IsHarvestDue}
use Rattle.law_driver.specs.chained_transfers.Asynchronous.{OnlyAsynchronous}
use Rattle.async_walk.specs.declared.state.WalkStep.{WalkStep}
use Rattle.law_structures.specs.lent_structures.Structures.{Structure, QueueHead, Element, StructureSets, Tells, put}
use Rattle.law_ring.specs.Hand.{Hand, Empty, Copied, Settled, Stale}
use Rattle.law_ring.specs.Effects.{Effect}
use Rattle.law_ring.specs.Fewer.{without_those}
use Rattle.law_driver_ring.specs.Pieces.{stage_qtd}

abbrev pub IsUnmissed : Structure → Type 0
IsUnmissed (QueueHead q) = q.token.missed ≡ false
IsUnmissed (Element t) = t.token.missed ≡ false
IsUnmissed _ = Unit {0}

pub record NoneMissed (asked : ℕ → Bool) (parts : StructureSets) : Type 0 where
  pub heads : (n : ℕ) (q : Qh) → asked n ≡ true → parts n n ≡ Some (QueueHead q) → q.token.missed ≡ false
  pub elements : (n a : ℕ) (t : Qtd) → asked n ≡ true → parts n a ≡ Some (Element t) → t.token.missed ≡ false

-- a stale copy is halted, and is never written back (4.10.3)
abbrev pub MissesNone : (ℕ → Bool) → Hand → Type 0
MissesNone asked Empty = Unit {0}
MissesNone asked (Copied c) = asked c.at ≡ true → c.queue.token.missed ≡ false
MissesNone asked (Settled c s) = asked c.at ≡ true → s.host.missed ≡ false
MissesNone asked (Stale n q) = Unit {0}

abbrev pub PublishesNoneBy : ℕ → Option Command → Type 0
PublishesNoneBy made (Some (unfinished.Publish b words)) = 1 ≤ made → (t : Qtd) → words ≡ qtd_words t → IsQtdInRange t → t.token.missed ≡ false
PublishesNoneBy made _ = Unit {0}

abbrev pub PublishesNone : DriverContent → Type 0
PublishesNone d = PublishesNoneBy d.made d.command

pub record MissNone (asked : ℕ → Bool) (d : DriverContent) (parts : StructureSets) (hand : Hand) : Type 0 where
  pub structures : NoneMissed asked parts
  pub in_hand : MissesNone asked hand
  pub first : PublishesNone d

-- ---- the laws

abbrev pub NewHeadIsUnmissed : Type 0
NewHeadIsUnmissed = (x : EpDesc) (link dummy : ℕ) → IsUnmissed (QueueHead (queue_head x link dummy))

abbrev pub NewQtdIsUnmissed : Type 0
NewQtdIsUnmissed = (notes : List QtdNote) (s : Stage) (b dummy : ℕ) (last : Bool) → IsUnmissed (Element (stage_qtd notes s b dummy last))

abbrev pub DummyIsUnmissed : Type 0
DummyIsUnmissed = IsUnmissed (Element dummy_qtd)

abbrev pub WalkMissesNone : {W : Type 0} → (W → Ask → List ℕ → Reply → W → Type 0) → Type 0
WalkMissesNone {W} transacts = (asked : ℕ → Bool) (parts : StructureSets) (hand : Hand) (wire after : W) (now : StructureSets) (later : Hand) (kind : WalkStep) → Effect transacts parts hand wire after now later kind
    → NoneMissed asked parts → MissesNone asked hand → NoneMissed asked now × MissesNone asked later

abbrev pub WritingMissesNone : Type 0
WritingMissesNone = (asked : ℕ → Bool) (parts : StructureSets) (n a : ℕ) (s : Structure) → (asked n ≡ true → IsUnmissed s) → NoneMissed asked parts
    → NoneMissed asked (put parts n a s)

abbrev pub ReleaseMissesNone : Type 0
ReleaseMissesNone = (asked : ℕ → Bool) (parts : StructureSets) (n : ℕ) (goes : ℕ → Bool) → NoneMissed asked parts → NoneMissed asked (without_those parts n goes)

abbrev pub HarvestMissesNone : Type 0
HarvestMissesNone = (asked : ℕ → Bool) (p : Parts) (e t k n : ℕ) (what : What) (due : IsHarvestDue p e t (founds.Ended k what)) (parts : StructureSets) (u : Qtd) → OnlyAsynchronous p.driver → Tells p.memory parts
    → asked n ≡ true → parts n (32 * due.transfer.place) ≡ Some (Element u) → NoneMissed asked parts → what ≢ lines.Miss
