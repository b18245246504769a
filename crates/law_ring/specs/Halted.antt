-- A queue that stops at a qTD that was halted (EHCI 1.0, 4.10.2, 4.10.3 and 4.12): its queue head is halted too, and those behind are published yet.
--     IsHalted t                   the qTD t is done, and was halted
--     HaltStops order out n part   of the qTDs that are out of the queue head at n, one that was halted stops the queue
--     WalkKeepsHalts               an event of the walk leaves it so
--     HaltedQueueStays             an event leaves all structures of a queue head that is halted
--     NoneBehindIsMoved, OneIsHalted
--                                  nothing was moved of those behind a halted one, and all that are halted have one place in the order
--     HaltIsSpared, HaltIsRenumbered
--                                  the laws of a driver's rows
--     StoreKeepsHalts, LendKeepsHalts, ReleaseKeepsHalts, FewerKeepHalts
--                                  of a qTD that is stored beside it, of a transfer that is lent behind, of blocks that are given back, and where
--                                  fewer are out
use Rattle.std.specs.Prelude.{◌≡◌, ◌≢◌, ℕ, ◌<◌, ◌⊎◌, Bool, true, false, List, [], ◌++◌, Some}
use Rattle.usb_base.specs.declared.packets.Ask.{Ask}
use Rattle.usb_base.specs.declared.packets.Reply.{Reply}
use Rattle.qh_qtd.specs.declared.qtd.Qtd.{Qtd}
use Rattle.qh_qtd.specs.declared.queue_head.Qh.{Qh}
use Rattle.async_walk.specs.declared.state.WalkStep.{WalkStep}
use Rattle.law_structures.specs.lent_structures.Structures.{QueueHead, Element, Structures, StructureSets, put}
use Rattle.law_structures.specs.lent_structures.Sound.{IsMember}
use Rattle.law_ring.specs.Hand.{Hand}
use Rattle.law_ring.specs.Ring.{IsInHand}
use Rattle.law_ring.specs.Effects.{Effect}
use Rattle.law_ring.specs.Fewer.{fewer_structures}
use Rattle.law_ring.specs.Told.{Told}
use Rattle.law_ring.specs.Streams.{AreMembers}
use Rattle.law_ring.specs.Order.{IsAmong}
use Rattle.law_ring.specs.Front.{HasFront, HadRest}

pub record IsHalted (t : Qtd) : Type 0 where
  pub done : t.token.active ≡ false
  pub halted : t.token.halted ≡ true

pub record HaltStops (order : ℕ → ℕ) (out : List ℕ) (n : ℕ) (part : Structures) : Type 0 where
  pub head : (a : ℕ) (t : Qtd) (q : Qh) → IsAmong a out → part a ≡ Some (Element t) → IsHalted t → part n ≡ Some (QueueHead q) → q.token.halted ≡ true
  pub later : (a e : ℕ) (t u : Qtd) → IsAmong a out → part a ≡ Some (Element t) → IsHalted t → IsAmong e out → order a < order e → part e ≡ Some (Element u) → u.token.active ≡ true

-- ---- the walk

abbrev pub WalkKeepsHalts : {W : Type 0} → (W → Ask → List ℕ → Reply → W → Type 0) → Type 0
WalkKeepsHalts {W} transacts = (member : ℕ → Bool) (parts : StructureSets) (hand : Hand) (reply : Reply) (wire after : W) (now : StructureSets) (later : Hand) (kind : WalkStep)
    (order : ℕ → ℕ) (front : ℕ) (out : List ℕ) (n : ℕ) → AreMembers member parts → IsInHand member parts reply hand → Effect transacts parts hand wire after now later kind
    → HasFront order front out n (parts n) → HaltStops order out n (parts n) → HaltStops order out n (now n)

abbrev pub HaltedQueueStays : {W : Type 0} → (W → Ask → List ℕ → Reply → W → Type 0) → Type 0
HaltedQueueStays {W} transacts = (member : ℕ → Bool) (parts : StructureSets) (hand : Hand) (reply : Reply) (wire after : W) (now : StructureSets) (later : Hand) (kind : WalkStep)
    (n : ℕ) (q : Qh) → AreMembers member parts → IsInHand member parts reply hand → Effect transacts parts hand wire after now later kind
    → parts n n ≡ Some (QueueHead q) → q.token.halted ≡ true → now n ≡ parts n

-- ---- what it gives

abbrev pub NoneBehindIsMoved : Type 0
NoneBehindIsMoved = (member : ℕ → Bool) (order : ℕ → ℕ) (front : ℕ) (out : List ℕ) (hand : Hand) (parts : StructureSets) (n a e : ℕ) (t : Qtd) (xs : List ℕ)
    → IsMember member n (parts n) → HasFront order front out n (parts n) → HaltStops order out n (parts n) → IsAmong a out → parts n a ≡ Some (Element t) → IsHalted t
    → IsAmong e out → order a < order e → Told hand parts n e xs → xs ≡ []

abbrev pub OneIsHalted : Type 0
OneIsHalted = (order : ℕ → ℕ) (out : List ℕ) (n a b : ℕ) (part : Structures) (t u : Qtd) → HaltStops order out n part → IsAmong a out → part a ≡ Some (Element t) → IsHalted t
    → IsAmong b out → part b ≡ Some (Element u) → IsHalted u → order a ≡ order b

-- ---- a driver's rows

-- a qTD that was out and is as it was, or one that is published
abbrev pub IsKeptOrPublished : List ℕ → Structures → ℕ → Qtd → Type 0
IsKeptOrPublished out part a t = (IsAmong a out × (part a ≡ Some (Element t))) ⊎ (t.token.active ≡ true)

abbrev pub KeepsRest : Structures → Structures → ℕ → Type 0
KeepsRest part now n = (r : Qh) → now n ≡ Some (QueueHead r) → HadRest part n r

-- the overlay is as it was, and so is what was out and is so yet
abbrev pub HaltIsSpared : Type 0
HaltIsSpared = (order : ℕ → ℕ) (out out_now : List ℕ) (n : ℕ) (part now : Structures) → KeepsRest part now n
    → ((a : ℕ) (t : Qtd) → IsAmong a out_now → now a ≡ Some (Element t) → IsKeptOrPublished out part a t) → HaltStops order out n part → HaltStops order out_now n now

abbrev pub HaltIsRenumbered : Type 0
HaltIsRenumbered = (order order_now : ℕ → ℕ) (out : List ℕ) (n : ℕ) (part : Structures) → ((a : ℕ) (t : Qtd) → IsAmong a out → part a ≡ Some (Element t) → order_now a ≡ order a)
    → HaltStops order out n part → HaltStops order_now out n part

-- the qTD `new` is stored at e, which isn't out, or is published by it
abbrev pub IsOutBeside : List ℕ → ℕ → Qtd → ℕ → Type 0
IsOutBeside out e new a = (IsAmong a out × (a ≢ e)) ⊎ ((a ≡ e) × (new.token.active ≡ true))

abbrev pub StoreKeepsHalts : Type 0
StoreKeepsHalts = (order : ℕ → ℕ) (out out_now : List ℕ) (n e : ℕ) (parts : StructureSets) (new : Qtd) → ((a : ℕ) → IsAmong a out_now → IsOutBeside out e new a)
    → HaltStops order out n (parts n) → HaltStops order out_now n (put parts n e (Element new) n)

-- the qTDs `new` are published, and what was out is numbered and stands as before
abbrev pub LendKeepsHalts : Type 0
LendKeepsHalts = (order order_now : ℕ → ℕ) (out new : List ℕ) (n : ℕ) (part now : Structures) → KeepsRest part now n
    → ((a : ℕ) (t : Qtd) → IsAmong a out → part a ≡ Some (Element t) → order_now a ≡ order a)
    → ((a : ℕ) (t : Qtd) → IsAmong a out → now a ≡ Some (Element t) → part a ≡ Some (Element t))
    → ((a : ℕ) (t : Qtd) → IsAmong a new → now a ≡ Some (Element t) → t.token.active ≡ true)
    → HaltStops order out n part → HaltStops order_now (out ++ new) n now

abbrev pub ReleaseKeepsHalts : Type 0
ReleaseKeepsHalts = (order : ℕ → ℕ) (out out_now : List ℕ) (n : ℕ) (part : Structures) (goes : ℕ → Bool) → ((a : ℕ) → IsAmong a out_now → IsAmong a out)
    → HaltStops order out n part → HaltStops order out_now n (fewer_structures goes part)

-- as at a harvest, which leaves all structures
abbrev pub FewerKeepHalts : Type 0
FewerKeepHalts = (order : ℕ → ℕ) (out out_now : List ℕ) (n : ℕ) (part : Structures) → ((a : ℕ) → IsAmong a out_now → IsAmong a out) → HaltStops order out n part → HaltStops order out_now n part
