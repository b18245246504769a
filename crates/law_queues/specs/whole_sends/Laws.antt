-- Laws of what is sent whole, and in turn.
--     WalkKeepsWhole, ControlKeepsWhole     each event of the walk keeps it, and each event of the controller
--     LinkedEndsWhole, StaleEndsWhole, StrangerEndsWhole
--                               what is in hand beside the steps of a driver
--     SparedIsWhole             a step that leaves the overlay, and of the qTDs some or all, as they were
--     ReturnedIsWhole           qTDs and buffers are given back
--     RenumberedIsWhole         the order is told by other numbers
--     IsNewBehind .., AddedIsWhole
--                               new qTDs come behind all others
--     IdleStoreIsWhole, LastStoreIsWhole
--                               a qTD is stored over one that isn't active: it isn't either, or it is
--     BeginningIsWhole          a queue head of which nothing is published
--     ToldIsInOrder             what was sent begins the bytes of all
--     NextIsInOrder             .. and so it does with the next packet
--     AllIsTold                 where all are done, and none is halted, it is the bytes of all
--     ToldIsAhead, NextIsAhead  while a qTD is being published, all of this is so of those before it
--     NothingPastHalted         past a halted qTD nothing is sent
--     WalkKeepsBuffers          the walk changes no byte of them
--     IdleTakesNothing          while the queue head is idle its device takes nothing, and nothing is sent
--     TakenIsInOrder, TakenIsAhead
--                               what the device took begins what was harvested and the bytes of all, where it did so when the queue head halted
use Rattle.std.specs.Prelude.{◌≡◌, ℕ, ◌<◌, ◌≤◌, ◌⊎◌, Bool, true, false, List, [], ◌∷◌, ◌++◌, Option, Some}
use Rattle.claims_base.specs.Prefix.{IsPrefix}
use Rattle.usb_base.specs.declared.packets.Ask.{Ask}
use Rattle.usb_base.specs.declared.packets.Reply.{Reply}
use Rattle.link_words.specs.declared.fields.LinkBits.{LinkBits}
use Rattle.link_words.specs.declared.kinds.QtdLink.TheVariants as qtd_links
use Rattle.link_words.specs.Links.{qtd_link_of}
use Rattle.qh_qtd.specs.declared.qtd.Qtd.{Qtd}
use Rattle.qh_qtd.specs.declared.queue_head.Qh.{Qh}
use Rattle.async_walk.specs.declared.state.WalkStep.{WalkStep}
use Rattle.law_structures.specs.lent_structures.Structures.{QueueHead, Element, Structures, StructureSets, put}
use Rattle.law_structures.specs.lent_structures.Sound.{IsMember}
use Rattle.law_ring.specs.Hand.{Hand}
use Rattle.law_ring.specs.Ring.{IsInHand}
use Rattle.law_ring.specs.Effects.{Effect}
use Rattle.law_ring.specs.Stores.{hand_linked, hand_stale}
use Rattle.law_ring.specs.Fewer.{without_those}
use Rattle.law_ring.specs.Told.{Endpoint}
use Rattle.law_ring.specs.Streams.{AreMembers, NoneBeside, StreamEffect}
use Rattle.law_ring.specs.Order.{IsFresh, IsSorted, IsAmong, Accounts, bytes_of_effect}
use Rattle.law_ring.specs.Front.{HadRest, LinksWithin, HasFront, HasTail}
use Rattle.law_controller.specs.controlled_streams.Control.{ControlEffect}
use Rattle.law_ring.specs.OutBus.{Taker, IsOutBus}
use Rattle.law_ring.specs.OutPipes.{IsOut, IsNext, IsUnmoved, IsOutPipe}
use Rattle.law_ring.specs.OutPipeLaws.{IsOnlyEndpoint}
use Rattle.law_queues.specs.whole_sends.Whole.{EndsWhole, AreSentWhole, buffers_of}

-- ---- the walk

abbrev pub WalkKeepsWhole : {W : Type 0} → (W → Ask → List ℕ → Reply → W → Type 0) → Type 0
WalkKeepsWhole {W} transacts = (member : ℕ → Bool) (parts : StructureSets) (hand : Hand) (reply : Reply) (wire after : W) (now : StructureSets) (later : Hand) (kind : WalkStep)
    (order : ℕ → ℕ) (place : ℕ) (out : List ℕ) (n : ℕ) (told : List ℕ) → AreMembers member parts → IsInHand member parts reply hand
    → Effect transacts parts hand wire after now later kind → IsOut (parts n) → Accounts order place out hand parts n told
    → AreSentWhole order out hand n (parts n) → AreSentWhole order out later n (now n)

abbrev pub ControlKeepsWhole : {W : Type 0} → (W → ℕ → Bool → W → Type 0) → (W → Ask → List ℕ → Reply → W → Type 0) → Type 0
ControlKeepsWhole {W} begins transacts = (member : ℕ → Bool) (parts : StructureSets) (hand : Hand) (reply : Reply) (wire after : W) (now : StructureSets) (later : Hand)
    (order : ℕ → ℕ) (place : ℕ) (out : List ℕ) (n : ℕ) (told : List ℕ) → AreMembers member parts → IsInHand member parts reply hand
    → ControlEffect begins transacts parts hand wire after now later → IsOut (parts n) → Accounts order place out hand parts n told
    → AreSentWhole order out hand n (parts n) → AreSentWhole order out later n (now n)

-- ---- what is in hand

abbrev pub LinkedEndsWhole : Type 0
LinkedEndsWhole = (at : ℕ) (l : LinkBits) (hand : Hand) (n : ℕ) → EndsWhole hand n → EndsWhole (hand_linked at l hand) n

abbrev pub StaleEndsWhole : Type 0
StaleEndsWhole = (at : ℕ) (hand : Hand) (n : ℕ) → EndsWhole hand n → EndsWhole (hand_stale at hand) n

-- of a queue head that the walk doesn't meet
abbrev pub StrangerEndsWhole : Type 0
StrangerEndsWhole = (member : ℕ → Bool) (parts : StructureSets) (reply : Reply) (hand : Hand) (n : ℕ) → IsInHand member parts reply hand → member n ≡ false → EndsWhole hand n

-- ---- steps of a driver

abbrev pub SparedIsWhole : Type 0
SparedIsWhole = (order : ℕ → ℕ) (out out_now : List ℕ) (hand later : Hand) (n : ℕ) (part now : Structures) → (EndsWhole hand n → EndsWhole later n)
    → ((b : ℕ) → IsAmong b out_now → IsAmong b out) → ((r : Qh) → now n ≡ Some (QueueHead r) → HadRest part n r)
    → ((a : ℕ) (t : Qtd) → now a ≡ Some (Element t) → part a ≡ Some (Element t)) → AreSentWhole order out hand n part → AreSentWhole order out_now later n now

-- those of the queue head at k
abbrev pub ReturnedIsWhole : Type 0
ReturnedIsWhole = (order : ℕ → ℕ) (out out_now : List ℕ) (hand : Hand) (n : ℕ) (parts : StructureSets) (k : ℕ) (goes : ℕ → Bool) → ((b : ℕ) → IsAmong b out_now → IsAmong b out)
    → AreSentWhole order out hand n (parts n) → AreSentWhole order out_now hand n (without_those parts k goes n)

abbrev pub RenumberedIsWhole : Type 0
RenumberedIsWhole = (member : ℕ → Bool) (order order_now : ℕ → ℕ) (out : List ℕ) (hand : Hand) (n : ℕ) (part : Structures) → IsMember member n part
    → ((a : ℕ) (t : Qtd) → part a ≡ Some (Element t) → order_now a ≡ order a) → AreSentWhole order out hand n part → AreSentWhole order_now out hand n part

-- the qTD t at a stands behind all that were there; it is active, or is the inactive one at the end of a queue, and its link leads to the next one
pub record IsNewBehind (order : ℕ → ℕ) (out : List ℕ) (part now : Structures) (a : ℕ) (t : Qtd) : Type 0 where
  pub behind : (b : ℕ) (u : Qtd) → part b ≡ Some (Element u) → order b ≤ order a
  pub idle : t.token.active ≡ false → (t.token.halted ≡ false) × (t.token.total ≡ 0)
  pub published : IsAmong a out → t.token.active ≡ true
  pub next : (b c : ℕ) (u : Qtd) → t.token.active ≡ true → qtd_link_of t.next ≡ qtd_links.To b → now c ≡ Some (Element u) → u.token.active ≡ true → order a < order c → order b ≤ order c

abbrev pub AddedIsWhole : Type 0
AddedIsWhole = (member : ℕ → Bool) (order : ℕ → ℕ) (out out_now : List ℕ) (hand : Hand) (n : ℕ) (part now : Structures) → IsMember member n part
    → ((b : ℕ) (u : Qtd) → IsAmong b out_now → part b ≡ Some (Element u) → IsAmong b out) → ((r : Qh) → now n ≡ Some (QueueHead r) → HadRest part n r)
    → ((a : ℕ) (t : Qtd) → now a ≡ Some (Element t) → (part a ≡ Some (Element t)) ⊎ IsNewBehind order out_now part now a t)
    → AreSentWhole order out hand n part → AreSentWhole order out_now hand n now

abbrev pub IdleStoreIsWhole : Type 0
IdleStoreIsWhole = (order : ℕ → ℕ) (out : List ℕ) (hand : Hand) (n : ℕ) (parts : StructureSets) (e : ℕ) (old new : Qtd) → parts n e ≡ Some (Element old) → old.token.active ≡ false
    → new.token.active ≡ false → new.token.halted ≡ false → new.token.total ≡ 0 → AreSentWhole order out hand n (parts n) → AreSentWhole order out hand n (put parts n e (Element new) n)

-- the last store publishes the tail of the queue; of those that were published before some may stand behind it
abbrev pub LastStoreIsWhole : Type 0
LastStoreIsWhole = (order : ℕ → ℕ) (front : ℕ) (ahead behind : List ℕ) (hand : Hand) (n : ℕ) (parts : StructureSets) (e : ℕ) (old new : Qtd) → parts n e ≡ Some (Element old)
    → old.token.active ≡ false → new.token.active ≡ true → IsSorted order (ahead ++ e ∷ behind) → HasFront order front (ahead ++ behind) n (parts n)
    → LinksWithin order e (parts n) → HasTail order e front n (parts n) → ((a : ℕ) (t : Qtd) → parts n a ≡ Some (Element t) → t.token.active ≡ true → IsAmong a (ahead ++ behind))
    → ((a b : ℕ) → qtd_link_of new.next ≡ qtd_links.To b → IsAmong a behind → order b ≤ order a) → AreSentWhole order (ahead ++ behind) hand n (parts n)
    → AreSentWhole order (ahead ++ e ∷ behind) hand n (put parts n e (Element new) n)

abbrev pub BeginningIsWhole : Type 0
BeginningIsWhole = (order : ℕ → ℕ) (hand : Hand) (n : ℕ) (part : Structures) → EndsWhole hand n → ((q : Qh) → part n ≡ Some (QueueHead q) → q.token.active ≡ false)
    → ((a : ℕ) (t : Qtd) → part a ≡ Some (Element t) → (t.token.active ≡ false) × (t.token.halted ≡ false) × (t.token.total ≡ 0)) → AreSentWhole order [] hand n part

-- ---- the bytes that were sent

-- a published qTD asks for all bytes of its buffer
abbrev pub AreFresh : List ℕ → Structures → Type 0
AreFresh out part = (a : ℕ) (t : Qtd) → IsAmong a out → part a ≡ Some (Element t) → t.token.active ≡ true → IsFresh part t

abbrev pub ToldIsInOrder : Type 0
ToldIsInOrder = (member : ℕ → Bool) (parts : StructureSets) (hand : Hand) (reply : Reply) (order : ℕ → ℕ) (place : ℕ) (out : List ℕ) (n : ℕ) (told : List ℕ)
    → IsMember member n (parts n) → IsInHand member parts reply hand → IsOut (parts n) → Accounts order place out hand parts n told → AreFresh out (parts n)
    → AreSentWhole order out hand n (parts n) → IsPrefix told (buffers_of (parts n) out)

abbrev pub NextIsInOrder : Type 0
NextIsInOrder = (member : ℕ → Bool) (parts : StructureSets) (hand : Hand) (reply : Reply) (order : ℕ → ℕ) (place : ℕ) (out : List ℕ) (n : ℕ) (told : List ℕ) (q : Qh) (x : List ℕ)
    → IsMember member n (parts n) → IsInHand member parts reply hand → IsOut (parts n) → Accounts order place out hand parts n told → AreFresh out (parts n)
    → AreSentWhole order out hand n (parts n) → parts n n ≡ Some (QueueHead q) → q.token.active ≡ true → IsUnmoved hand n → IsNext (parts n) q x
    → IsPrefix (told ++ x) (buffers_of (parts n) out)

abbrev pub AllIsTold : Type 0
AllIsTold = (member : ℕ → Bool) (parts : StructureSets) (hand : Hand) (order : ℕ → ℕ) (place : ℕ) (out : List ℕ) (n : ℕ) (told : List ℕ) → IsMember member n (parts n)
    → Accounts order place out hand parts n told → AreSentWhole order out hand n (parts n)
    → ((a : ℕ) (t : Qtd) → IsAmong a out → parts n a ≡ Some (Element t) → (t.token.active ≡ false) × (t.token.halted ≡ false)) → told ≡ buffers_of (parts n) out

-- the qTD at e is at the tail of the queue, and isn't published; of those that were published before, these stand behind it
abbrev pub ToldIsAhead : Type 0
ToldIsAhead = (member : ℕ → Bool) (parts : StructureSets) (hand : Hand) (reply : Reply) (order : ℕ → ℕ) (place front : ℕ) (ahead behind : List ℕ) (n e : ℕ) (told : List ℕ)
    → IsMember member n (parts n) → IsInHand member parts reply hand → IsOut (parts n) → Accounts order place (ahead ++ behind) hand parts n told
    → HasFront order front (ahead ++ behind) n (parts n) → HasTail order e front n (parts n) → ((b : ℕ) → IsAmong b behind → order e < order b)
    → AreSentWhole order (ahead ++ behind) hand n (parts n) → IsPrefix told (buffers_of (parts n) ahead)

abbrev pub NextIsAhead : Type 0
NextIsAhead = (member : ℕ → Bool) (parts : StructureSets) (hand : Hand) (reply : Reply) (order : ℕ → ℕ) (place front : ℕ) (ahead behind : List ℕ) (n e : ℕ) (told : List ℕ) (q : Qh) (x : List ℕ)
    → IsMember member n (parts n) → IsInHand member parts reply hand → IsOut (parts n) → Accounts order place (ahead ++ behind) hand parts n told
    → HasFront order front (ahead ++ behind) n (parts n) → HasTail order e front n (parts n) → ((b : ℕ) → IsAmong b behind → order e < order b)
    → AreSentWhole order (ahead ++ behind) hand n (parts n) → parts n n ≡ Some (QueueHead q) → q.token.active ≡ true → IsUnmoved hand n → IsNext (parts n) q x
    → IsPrefix (told ++ x) (buffers_of (parts n) ahead)

-- of a queue head whose published qTDs all stand behind the halted one
abbrev pub NothingPastHalted : Type 0
NothingPastHalted = (member : ℕ → Bool) (parts : StructureSets) (hand : Hand) (order : ℕ → ℕ) (place : ℕ) (out : List ℕ) (n : ℕ) (told : List ℕ) (e : ℕ) (t : Qtd)
    → IsMember member n (parts n) → Accounts order place out hand parts n told → AreFresh out (parts n) → AreSentWhole order out hand n (parts n) → parts n e ≡ Some (Element t)
    → t.token.active ≡ false → t.token.halted ≡ true → ((b : ℕ) → IsAmong b out → order e < order b) → told ≡ []

abbrev pub WalkKeepsBuffers : {W : Type 0} → (W → Ask → List ℕ → Reply → W → Type 0) → Type 0
WalkKeepsBuffers {W} transacts = (member : ℕ → Bool) (parts : StructureSets) (hand : Hand) (reply : Reply) (wire after : W) (now : StructureSets) (later : Hand) (kind : WalkStep)
    (n : ℕ) (out : List ℕ) → AreMembers member parts → IsInHand member parts reply hand → Effect transacts parts hand wire after now later kind → IsOut (parts n)
    → buffers_of (now n) out ≡ buffers_of (parts n) out

-- ---- what the device took

abbrev pub IdleTakesNothing : {W : Type 0} → (W → Ask → List ℕ → Reply → W → Type 0) → Type 0
IdleTakesNothing {W} transacts = (stream : ℕ → ℕ → Bool) (taker : W → ℕ → ℕ → Option Taker) (member : ℕ → Bool) (parts : StructureSets) (hand : Hand) (reply : Reply) (wire after : W)
    (now : StructureSets) (later : Hand) (n : ℕ) (x : Endpoint) (s : Taker) (q : Qh) → IsOutBus transacts stream taker → AreMembers member parts → IsInHand member parts reply hand
    → (z : StreamEffect NoneBeside transacts parts hand wire after now later) → IsOnlyEndpoint stream member parts n x
    → taker wire x.addr x.ep ≡ Some s → parts n n ≡ Some (QueueHead q)
    → q.token.active ≡ false → (taker after x.addr x.ep ≡ Some s) × (bytes_of_effect n z ≡ [])

-- the queue head is halted
abbrev pub IsStopped : StructureSets → ℕ → Type 0
IsStopped parts n = (q : Qh) × (parts n n ≡ Some (QueueHead q)) × (q.token.active ≡ false) × (q.token.halted ≡ true)

abbrev pub TakenIsInOrder : Type 0
TakenIsInOrder = (member : ℕ → Bool) (parts : StructureSets) (hand : Hand) (reply : Reply) (order : ℕ → ℕ) (place : ℕ) (out : List ℕ) (n : ℕ) (told harvested : List ℕ) (o : Option Taker)
    (x : Endpoint) → IsMember member n (parts n) → IsInHand member parts reply hand → Accounts order place out hand parts n told → AreFresh out (parts n) → AreSentWhole order out hand n (parts n)
    → (p : IsOutPipe o (harvested ++ told) parts hand n x) → (IsStopped parts n → IsPrefix p.taker.taken (harvested ++ buffers_of (parts n) out))
    → IsPrefix p.taker.taken (harvested ++ buffers_of (parts n) out)

-- .. while the qTD at e, at the tail of the queue, is being published
abbrev pub TakenIsAhead : Type 0
TakenIsAhead = (member : ℕ → Bool) (parts : StructureSets) (hand : Hand) (reply : Reply) (order : ℕ → ℕ) (place front : ℕ) (ahead behind : List ℕ) (n e : ℕ) (told harvested : List ℕ)
    (o : Option Taker) (x : Endpoint) → IsMember member n (parts n) → IsInHand member parts reply hand → Accounts order place (ahead ++ behind) hand parts n told
    → HasFront order front (ahead ++ behind) n (parts n) → HasTail order e front n (parts n) → ((b : ℕ) → IsAmong b behind → order e < order b)
    → AreSentWhole order (ahead ++ behind) hand n (parts n) → (p : IsOutPipe o (harvested ++ told) parts hand n x)
    → (IsStopped parts n → IsPrefix p.taker.taken (harvested ++ buffers_of (parts n) ahead)) → IsPrefix p.taker.taken (harvested ++ buffers_of (parts n) ahead)
