-- What the store that a stalled control endpoint is owed leaves of queues (EHCI 1.0, 4.8 and 4.10; USB 2.0, 8.6): the pipes and the published qTDs of other queue
-- heads, fronts and tails, and what is told of the driver's queues.
--     MendLeavesPipes, MendLeavesAccounts
--                            the streams of other queue heads
--     MendSparesRest, MendAddsNone
--                            the overlay of each other queue head was so before, and so was each qTD
--     MendLeavesFront, MendLeavesTail, MendLeavesPassed, MendLeavesWithin, MendLeavesRising
--                            fronts and tails; those of its own queue too, where it goes on between them
--     MendLeavesMet, MendLeavesEnds, MendLeavesFed, MendLeavesLast, MendLeavesOut
--                            the driver's queues
use Rattle.std.specs.Prelude.{◌≡◌, ◌≢◌, ℕ, ◌*◌, ◌≤◌, Bool, false, List, Option, Some}
use Rattle.qh_qtd.specs.declared.qtd.Qtd.{Qtd}
use Rattle.qh_qtd.specs.declared.queue_head.Qh.{Qh}
use Rattle.drv_table.specs.Parts.{Parts as DriverParts}
use Rattle.law_structures.specs.lent_structures.Structures.{QueueHead, Element, StructureSets}
use Rattle.law_ring.specs.Hand.{Hand}
use Rattle.law_ring.specs.Told.{Endpoint as Told}
use Rattle.law_ring.specs.Order.{Accounts}
use Rattle.law_ring.specs.Front.{HadRest, IsPassed, HasFront, LinksRise, LinksWithin, HasTail}
use Rattle.law_ring.specs.Bus.{Sender}
use Rattle.law_ring.specs.Pipes.{ArePiped}
use Rattle.law_driver_ring.specs.fed_queues.Fed.{AreFed}
use Rattle.law_driver_ring.specs.fed_queues.Places.{AreMet, HaveStreams, AreLast, AreStillOut}
use Rattle.law_queues.specs.mended_heads.Mended.{next_of, IsAtMend, parts_then, hand_then}

-- ---- the streams of other queue heads

abbrev pub MendLeavesPipes : {W : Type 0} → (W → ℕ → ℕ → Option Sender) → Type 0
MendLeavesPipes {W} sender = (stream : ℕ → ℕ → Bool) (packets : ℕ → ℕ → List (List ℕ)) (member streams : ℕ → Bool) (ends : ℕ → Told) (acc : ℕ → List (List ℕ)) (wire : W) (hand : Hand)
    (p : DriverParts) (parts : StructureSets) (out : ℕ → List ℕ) → (k : IsAtMend p parts out) → streams (32 * k.stalled.queue) ≡ false
    → ArePiped stream packets sender member streams ends acc parts hand wire → ArePiped stream packets sender member streams ends acc (parts_then k) (hand_then k hand) wire

abbrev pub MendLeavesAccounts : Type 0
MendLeavesAccounts = (order : ℕ → ℕ) (at : ℕ) (sent : List ℕ) (hand : Hand) (n : ℕ) (xs : List ℕ) (p : DriverParts) (parts : StructureSets) (out : ℕ → List ℕ) → (k : IsAtMend p parts out)
    → n ≢ 32 * k.stalled.queue → Accounts order at sent hand parts n xs → Accounts order at sent (hand_then k hand) (parts_then k) n xs

abbrev pub MendSparesRest : Type 0
MendSparesRest = (p : DriverParts) (parts : StructureSets) (out : ℕ → List ℕ) → (k : IsAtMend p parts out) (n : ℕ) (r : Qh) → n ≢ 32 * k.stalled.queue
    → parts_then k n n ≡ Some (QueueHead r) → HadRest (parts n) n r

abbrev pub MendAddsNone : Type 0
MendAddsNone = (p : DriverParts) (parts : StructureSets) (out : ℕ → List ℕ) → (k : IsAtMend p parts out) (n a : ℕ) (t : Qtd) → parts_then k n a ≡ Some (Element t) → parts n a ≡ Some (Element t)

-- ---- fronts and tails

abbrev pub MendLeavesFront : Type 0
MendLeavesFront = (order : ℕ → ℕ) (front : ℕ) (sent : List ℕ) (n : ℕ) (p : DriverParts) (parts : StructureSets) (out : ℕ → List ℕ) → (k : IsAtMend p parts out)
    → (n ≡ 32 * k.stalled.queue → front ≤ order (32 * k.stalled.onward)) → HasFront order front sent n (parts n) → HasFront order front sent n (parts_then k n)

abbrev pub MendLeavesTail : Type 0
MendLeavesTail = (order : ℕ → ℕ) (c front n : ℕ) (p : DriverParts) (parts : StructureSets) (out : ℕ → List ℕ) → (k : IsAtMend p parts out)
    → (n ≡ 32 * k.stalled.queue → order (32 * k.stalled.onward) ≤ order c) → HasTail order c front n (parts n) → HasTail order c front n (parts_then k n)

abbrev pub MendLeavesPassed : Type 0
MendLeavesPassed = (order : ℕ → ℕ) (front n a : ℕ) (p : DriverParts) (parts : StructureSets) (out : ℕ → List ℕ) → (k : IsAtMend p parts out) → IsPassed order front (parts n) a
    → IsPassed order front (parts_then k n) a

abbrev pub MendLeavesWithin : Type 0
MendLeavesWithin = (order : ℕ → ℕ) (c n : ℕ) (p : DriverParts) (parts : StructureSets) (out : ℕ → List ℕ) → (k : IsAtMend p parts out) → LinksWithin order c (parts n)
    → LinksWithin order c (parts_then k n)

abbrev pub MendLeavesRising : Type 0
MendLeavesRising = (order : ℕ → ℕ) (n : ℕ) (p : DriverParts) (parts : StructureSets) (out : ℕ → List ℕ) → (k : IsAtMend p parts out) → LinksRise order (parts n)
    → LinksRise order (parts_then k n)

-- ---- the driver's queues

abbrev pub MendLeavesMet : Type 0
MendLeavesMet = (p : DriverParts) (parts : StructureSets) (out : ℕ → List ℕ) (member : ℕ → Bool) → IsAtMend p parts out → AreMet p.driver member → AreMet (next_of p).driver member

abbrev pub MendLeavesEnds : Type 0
MendLeavesEnds = (p : DriverParts) (parts : StructureSets) (out : ℕ → List ℕ) (streams : ℕ → Bool) (ends : ℕ → Told) → IsAtMend p parts out → HaveStreams p.driver streams ends
    → HaveStreams (next_of p).driver streams ends

abbrev pub MendLeavesFed : Type 0
MendLeavesFed = (p : DriverParts) (parts : StructureSets) (out : ℕ → List ℕ) → (k : IsAtMend p parts out) → AreFed p.driver parts → AreFed (next_of p).driver (parts_then k)

abbrev pub MendLeavesLast : Type 0
MendLeavesLast = (p : DriverParts) (parts : StructureSets) (out : ℕ → List ℕ) (order : ℕ → ℕ → ℕ) → (k : IsAtMend p parts out) → AreLast p.driver parts order
    → AreLast (next_of p).driver (parts_then k) order

abbrev pub MendLeavesOut : Type 0
MendLeavesOut = (p : DriverParts) (parts : StructureSets) (out sent : ℕ → List ℕ) → IsAtMend p parts out → AreStillOut p.driver sent → AreStillOut (next_of p).driver sent
