-- The row by which the driver makes the next store that a stalled control endpoint is owed, beside the controller's walk (EHCI 1.0, 3.6.3, 4.8 and 4.10).
--     mended s q             the queue head q after the next store
--     parts_mended, hand_mended, driver_mended
--                            the structures, what is in hand, and the driver's content after it
--     IsAtMend p parts out   the next event of the driver is that store
--     MendIsDue              the law: where the driver's next event is a Mend, it is so
--     IsMended, MendRow      which row it is, and what stands after it
--     MendKeepsMends         the law: the stores that are left stand after it
--     IsMendedWhole, LastMendEnds
--                            the queue head after the last of its stores: idle, and it leads to where its queue goes on
--     MendLeavesRing         the law of the walk
--     MendSparesHeads, MendSparesEndpoints, MendSparesElements, MendSparesHand, MendLeavesHalts
--                            the laws of what it leaves: the other queue heads, each endpoint, each qTD, what is in hand, and what stops at a halted qTD
use Rattle.std.specs.Prelude.{◌≡◌, ◌≢◌, ℕ, zero, suc, ◌*◌, Bool, true, false, List, ◌∷◌, drop, None}
use Rattle.word_mem.specs.Memory.{with_word}
use Rattle.link_words.specs.Links.{no_qtd, qtd_link_of}
use Rattle.link_words.specs.declared.kinds.QtdLink.TheVariants.{To}
use Rattle.qh_qtd.specs.Blank.{blank_token}
use Rattle.qh_qtd.specs.declared.queue_head.Qh.{Qh}
use Rattle.hc_copy.specs.Visits.{next_pointer}
use Rattle.async_walk.specs.Walk.{Walk}
use Rattle.async_walk.specs.Rows.{place}
use Rattle.mem_runs.specs.Book.{holding, Stands, slot_of, can_store}
use Rattle.drv_table.specs.declared.content.Mend.{Mend}
use Rattle.drv_table.specs.declared.content.Turn.TheVariants as turns
use Rattle.drv_table.specs.declared.rows.DriverRow.TheVariants as rows
use Rattle.drv_table.specs.DriverContent.{DriverContent}
use Rattle.drv_table.specs.Parts.{Parts as DriverParts}
use Rattle.drv_table.specs.Rows.{driver_row, after_driver_row}
use Rattle.drv_table.specs.Words.{to_qtd}
use Rattle.claims_driver.specs.Owners.{views_of}
use Rattle.claims_driver.specs.Leaving.{HasOwners}
use Rattle.claims_driver.specs.LentRuns.{AreLent}
use Rattle.law_driver.specs.chained_transfers.Chains.{AreChained}
use Rattle.law_driver.specs.chained_transfers.Turns.{AreInTurn}
use Rattle.law_structures.specs.lent_structures.Structures.{QueueHead, StructureSets, put}
use Rattle.law_structures.specs.lent_structures.Sound.{IsElement}
use Rattle.law_ring.specs.Hand.{Hand}
use Rattle.claims_base.specs.Controller.{Base}
use Rattle.law_ring.specs.Stores.{hand_stale}
use Rattle.law_ring.specs.Told.{Endpoint as Told, HasEndpoint}
use Rattle.law_ring.specs.Sparing.{SameHand, SparesHead, SparesElement}
use Rattle.law_ring.specs.Halted.{HaltStops}
use Rattle.law_driver_ring.specs.Inventory.{sorts_of, IsDriven}
use Rattle.law_driver_ring.specs.Driven.{DrivesRing}
use Rattle.law_queues.specs.mended_heads.Owed.{StalledQueue, store_due}
use Rattle.law_queues.specs.mended_heads.Waiting.{AreStalled, MendsStand}

abbrev pub next_of : DriverParts → DriverParts
next_of p = after_driver_row (driver_row p) p

-- ---- what stands after the store

-- the count of NAKs lies in the word of the alternate (3.6.3)
abbrev pub mended_by : ℕ → ℕ → Qh → Qh
mended_by b zero q = record q { next = to_qtd b }
mended_by b (suc zero) q = record q { alternate = no_qtd; nak_cnt = 0 }
mended_by b _ q = record q { token = blank_token }

abbrev pub mended : StalledQueue → Qh → Qh
mended s q = mended_by s.onward s.made q

abbrev pub parts_mended : StructureSets → StalledQueue → Qh → StructureSets
parts_mended parts s q = put parts (32 * s.queue) (32 * s.queue) (QueueHead (mended s q))

abbrev pub hand_mended : Hand → StalledQueue → Hand
hand_mended hand s = hand_stale (32 * s.queue) hand

abbrev pub driver_mended : DriverContent → DriverContent
driver_mended d = record d { mends = drop 1 d.mends; turn = turns.Harvest }

-- ---- the moment

-- the stores of `stalled` come first, and then those of the others
pub record IsAtMend (p : DriverParts) (parts : StructureSets) (out : ℕ → List ℕ) : Type 0 where
  pub stalled : StalledQueue
  pub others : List StalledQueue
  pub row : driver_row p ≡ rows.Mend (store_due stalled)
  pub idle : p.driver.command ≡ None
  pub are : AreStalled p.driver parts out (stalled ∷ others)
  pub can : can_store (slot_of p.driver.book.slots stalled.queue) (store_due stalled).at ≡ true
  pub onward : IsElement (parts (32 * stalled.queue)) (32 * stalled.onward)

-- the queue head
abbrev pub head_at : {p : DriverParts} {parts : StructureSets} {out : ℕ → List ℕ} → IsAtMend p parts out → Qh
head_at k = k.are.wait.0.stands.head

abbrev pub parts_then : {p : DriverParts} {parts : StructureSets} {out : ℕ → List ℕ} → IsAtMend p parts out → StructureSets
parts_then {parts = parts} k = parts_mended parts k.stalled (head_at k)

abbrev pub hand_then : {p : DriverParts} {parts : StructureSets} {out : ℕ → List ℕ} → IsAtMend p parts out → Hand → Hand
hand_then k hand = hand_mended hand k.stalled

abbrev pub MendIsDue : Type 0
MendIsDue = (p : DriverParts) (parts : StructureSets) (out : ℕ → List ℕ) (w : Mend) → driver_row p ≡ rows.Mend w → Stands (holding p.driver.book p.memory) → HasOwners p.driver
    → AreLent p.driver → AreChained (views_of p.driver) → AreInTurn p.driver → IsDriven (views_of p.driver) (sorts_of parts) → MendsStand p.driver parts out → IsAtMend p parts out

-- ---- the row

pub record IsMended (p : DriverParts) (s : StalledQueue) : Type 0 where
  pub driver : (next_of p).driver ≡ driver_mended p.driver
  pub memory : (next_of p).memory ≡ with_word p.memory (store_due s).at (store_due s).value
  pub registers : (next_of p).registers ≡ p.registers

abbrev pub MendRow : Type 0
MendRow = (p : DriverParts) (parts : StructureSets) (out : ℕ → List ℕ) → (k : IsAtMend p parts out) → IsMended p k.stalled

abbrev pub MendKeepsMends : Type 0
MendKeepsMends = (p : DriverParts) (parts : StructureSets) (out : ℕ → List ℕ) → (k : IsAtMend p parts out) → MendsStand (next_of p).driver (parts_then k) out

-- ---- the last of the three

pub record IsMendedWhole (s : StalledQueue) (q : Qh) : Type 0 where
  pub active : q.token.active ≡ false
  pub halted : q.token.halted ≡ false
  pub leads : qtd_link_of (next_pointer q) ≡ To (32 * s.onward)

abbrev pub LastMendEnds : Type 0
LastMendEnds = (p : DriverParts) (parts : StructureSets) (out : ℕ → List ℕ) → (k : IsAtMend p parts out) → k.stalled.made ≡ 2 → IsMendedWhole k.stalled (mended k.stalled (head_at k))

-- ---- the ring

abbrev pub MendLeavesRing : Type 0
MendLeavesRing = (base : Base) (member : ℕ → Bool) (hand : Hand) (w : Walk) (p : DriverParts) (parts : StructureSets) (out : ℕ → List ℕ) → (k : IsAtMend p parts out)
    → DrivesRing base member parts hand (place w p.registers p.memory) p.driver
    → DrivesRing base member (parts_then k) (hand_then k hand) (place w (next_of p).registers (next_of p).memory) (next_of p).driver

-- ---- what it leaves

abbrev pub MendSparesHeads : Type 0
MendSparesHeads = (p : DriverParts) (parts : StructureSets) (out : ℕ → List ℕ) → (k : IsAtMend p parts out) (n : ℕ) → n ≢ 32 * k.stalled.queue → SparesHead parts (parts_then k) n

abbrev pub MendSparesEndpoints : Type 0
MendSparesEndpoints = (p : DriverParts) (parts : StructureSets) (out : ℕ → List ℕ) → (k : IsAtMend p parts out) (n : ℕ) (x : Told) → HasEndpoint parts n x → HasEndpoint (parts_then k) n x

abbrev pub MendSparesElements : Type 0
MendSparesElements = (p : DriverParts) (parts : StructureSets) (out : ℕ → List ℕ) → (k : IsAtMend p parts out) (n e : ℕ) → SparesElement parts (parts_then k) n e

abbrev pub MendSparesHand : Type 0
MendSparesHand = (hand : Hand) (p : DriverParts) (parts : StructureSets) (out : ℕ → List ℕ) → (k : IsAtMend p parts out) → SameHand hand (hand_then k hand)

abbrev pub MendLeavesHalts : Type 0
MendLeavesHalts = (order : ℕ → ℕ → ℕ) (p : DriverParts) (parts : StructureSets) (out : ℕ → List ℕ) → (k : IsAtMend p parts out) (n : ℕ) → HaltStops (order n) (out n) n (parts n)
    → HaltStops (order n) (out n) n (parts_then k n)
