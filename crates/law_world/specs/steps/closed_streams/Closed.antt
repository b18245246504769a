-- The stream of an endpoint that was cancelled is closed (EHCI 1.0, 4.8.2; USB 2.0, 5.8): its device's endpoint isn't among those with streams any more, its queue
-- head has none, and later the walk doesn't meet it. All other streams, IN and OUT, and the devices' endpoints that aren't opened, are as before. Nothing is claimed
-- of the closed one, but that no other queue head asks it or sends to it.
--     only_name addr ep                  this endpoint of a device alone
--     without_name stream addr ep        the endpoints of the devices' streams but this one
--     without_head those n               these queue heads but that at n
--     NameIsClosed, HeadIsClosed         just that one is left out
--     NarrowsBeside ..                   where the walk meets fewer queue heads, all streams are as before
--     ClosesBeside ..                    so where it doesn't meet that at n, as the IN streams where an OUT is closed, and the OUT streams where an IN is
--     CloseEnds, ClosePipes, CloseOutPipes, CloseOuts      .. and the other streams of the same direction, where that at n had the one that is closed
--     CloseMetEnds, CloseMetPipes, CloseMetOutPipes, CloseMetOuts     so are they while the walk may still meet it
--     CloseReports                       what was reported of the others, and what is still to be, are the bytes of the packets taken
--     IsUnopenedStill                    another endpoint is unopened then only if it was
--     CloseUnopened, CloseUntaken        those that no queue head is for wait still
--     NoneAsksClosed, NoneSendsToClosed  no other queue head asks the closed endpoint, or sends to it
use Rattle.std.specs.Prelude.{◌≡◌, ◌≢◌, ℕ, ◌==◌, ◌&&◌, Bool, true, false, List, Option, if◌then◌else◌}
use Rattle.law_structures.specs.lent_structures.Structures.{StructureSets}
use Rattle.law_ring.specs.Hand.{Hand}
use Rattle.law_ring.specs.Stores.{IsWider}
use Rattle.law_ring.specs.Told.{Endpoint}
use Rattle.law_ring.specs.Bus.{Sender}
use Rattle.law_ring.specs.Pipes.{AreEndpoints, IsElsewhere, ArePiped}
use Rattle.law_ring.specs.OutBus.{Taker}
use Rattle.law_controller.specs.controlled_streams.Reported.{AreReported}
use Rattle.law_controller.specs.controlled_streams.Unopened.{IsUnopened, AreUnopened}
use Rattle.law_world.specs.steps.Outs.{IsAside, AreOutPiped, HaveOutStreams, AreUntaken}

abbrev pub only_name : ℕ → ℕ → ℕ → ℕ → Bool
only_name addr ep a e = a == addr && e == ep

abbrev pub without_name : (ℕ → ℕ → Bool) → ℕ → ℕ → ℕ → ℕ → Bool
without_name stream addr ep a e = if only_name addr ep a e then false else stream a e

abbrev pub without_head : (ℕ → Bool) → ℕ → ℕ → Bool
without_head those n k = if k == n then false else those k

abbrev pub NameIsClosed : Type 0
NameIsClosed = (stream : ℕ → ℕ → Bool) (addr ep : ℕ) → (without_name stream addr ep addr ep ≡ false)
    × ((a e : ℕ) → ((a ≡ addr) × (e ≡ ep) → ⊥) → without_name stream addr ep a e ≡ stream a e)

abbrev pub HeadIsClosed : Type 0
HeadIsClosed = (those : ℕ → Bool) (n : ℕ) → (without_head those n n ≡ false) × ((k : ℕ) → k ≢ n → without_head those n k ≡ those k)

-- ---- the walk meets fewer queue heads

pub record NarrowsBeside {W : Type 0} (sender : W → ℕ → ℕ → Option Sender) (taker : W → ℕ → ℕ → Option Taker) : Type 0 where
  pub ends : (stream : ℕ → ℕ → Bool) (member narrow streams : ℕ → Bool) (ends : ℕ → Endpoint) → ((k : ℕ) → streams k ≡ true → narrow k ≡ true) → AreEndpoints stream member streams ends
      → AreEndpoints stream narrow streams ends
  pub pipes : (stream : ℕ → ℕ → Bool) (packets : ℕ → ℕ → List (List ℕ)) (member narrow streams : ℕ → Bool) (ends : ℕ → Endpoint) (acc : ℕ → List (List ℕ)) (parts : StructureSets) (hand : Hand)
      (wire : W) → IsWider narrow member → ArePiped stream packets sender member streams ends acc parts hand wire → ArePiped stream packets sender narrow streams ends acc parts hand wire
  pub out_pipes : (stream : ℕ → ℕ → Bool) (member narrow outs : ℕ → Bool) (ends : ℕ → Endpoint) (known : ℕ → List ℕ) (parts : StructureSets) (hand : Hand) (wire : W) → IsWider narrow member
      → AreOutPiped stream taker member outs ends known parts hand wire → AreOutPiped stream taker narrow outs ends known parts hand wire
  pub outs : (stream : ℕ → ℕ → Bool) (member narrow outs : ℕ → Bool) (ends : ℕ → Endpoint) (order : ℕ → ℕ → ℕ) (out harvested : ℕ → List ℕ) (parts : StructureSets) (hand : Hand) (wire : W)
      → IsWider narrow member → ((k : ℕ) → outs k ≡ true → narrow k ≡ true) → HaveOutStreams stream taker member outs ends order out harvested parts hand wire
      → HaveOutStreams stream taker narrow outs ends order out harvested parts hand wire

-- but that at n, which has no stream of this direction
pub record ClosesBeside {W : Type 0} (sender : W → ℕ → ℕ → Option Sender) (taker : W → ℕ → ℕ → Option Taker) : Type 0 where
  pub ends : (stream : ℕ → ℕ → Bool) (member streams : ℕ → Bool) (ends : ℕ → Endpoint) (n : ℕ) → streams n ≡ false → AreEndpoints stream member streams ends
      → AreEndpoints stream (without_head member n) streams ends
  pub pipes : (stream : ℕ → ℕ → Bool) (packets : ℕ → ℕ → List (List ℕ)) (member streams : ℕ → Bool) (ends : ℕ → Endpoint) (acc : ℕ → List (List ℕ)) (parts : StructureSets) (hand : Hand) (wire : W)
      (n : ℕ) → ArePiped stream packets sender member streams ends acc parts hand wire → ArePiped stream packets sender (without_head member n) streams ends acc parts hand wire
  pub out_pipes : (stream : ℕ → ℕ → Bool) (member outs : ℕ → Bool) (ends : ℕ → Endpoint) (known : ℕ → List ℕ) (parts : StructureSets) (hand : Hand) (wire : W) (n : ℕ)
      → AreOutPiped stream taker member outs ends known parts hand wire → AreOutPiped stream taker (without_head member n) outs ends known parts hand wire
  pub outs : (stream : ℕ → ℕ → Bool) (member outs : ℕ → Bool) (ends : ℕ → Endpoint) (order : ℕ → ℕ → ℕ) (out harvested : ℕ → List ℕ) (parts : StructureSets) (hand : Hand) (wire : W) (n : ℕ)
      → outs n ≡ false → HaveOutStreams stream taker member outs ends order out harvested parts hand wire
      → HaveOutStreams stream taker (without_head member n) outs ends order out harvested parts hand wire

-- ---- the endpoints, and the pipes of INs

abbrev pub CloseEnds : Type 0
CloseEnds = (stream : ℕ → ℕ → Bool) (member streams : ℕ → Bool) (ends : ℕ → Endpoint) (n : ℕ) → streams n ≡ true → AreEndpoints stream member streams ends
    → AreEndpoints (without_name stream (ends n).addr (ends n).ep) (without_head member n) (without_head streams n) ends

abbrev pub CloseMetEnds : Type 0
CloseMetEnds = (stream : ℕ → ℕ → Bool) (member streams : ℕ → Bool) (ends : ℕ → Endpoint) (n : ℕ) → streams n ≡ true → AreEndpoints stream member streams ends
    → AreEndpoints (without_name stream (ends n).addr (ends n).ep) member (without_head streams n) ends

abbrev pub ClosePipes : {W : Type 0} → (W → ℕ → ℕ → Option Sender) → Type 0
ClosePipes {W} sender = (stream : ℕ → ℕ → Bool) (packets : ℕ → ℕ → List (List ℕ)) (member streams : ℕ → Bool) (ends : ℕ → Endpoint) (acc : ℕ → List (List ℕ)) (parts : StructureSets) (hand : Hand)
    (wire : W) (n : ℕ) → ArePiped stream packets sender member streams ends acc parts hand wire
    → ArePiped (without_name stream (ends n).addr (ends n).ep) packets sender (without_head member n) (without_head streams n) ends acc parts hand wire

abbrev pub CloseMetPipes : {W : Type 0} → (W → ℕ → ℕ → Option Sender) → Type 0
CloseMetPipes {W} sender = (stream : ℕ → ℕ → Bool) (packets : ℕ → ℕ → List (List ℕ)) (member streams : ℕ → Bool) (ends : ℕ → Endpoint) (acc : ℕ → List (List ℕ)) (parts : StructureSets) (hand : Hand)
    (wire : W) (n : ℕ) → ArePiped stream packets sender member streams ends acc parts hand wire
    → ArePiped (without_name stream (ends n).addr (ends n).ep) packets sender member (without_head streams n) ends acc parts hand wire

-- ---- the pipes and streams of OUTs

abbrev pub CloseOutPipes : {W : Type 0} → (W → ℕ → ℕ → Option Taker) → Type 0
CloseOutPipes {W} taker = (stream : ℕ → ℕ → Bool) (member outs : ℕ → Bool) (ends : ℕ → Endpoint) (known : ℕ → List ℕ) (parts : StructureSets) (hand : Hand) (wire : W) (n : ℕ)
    → AreOutPiped stream taker member outs ends known parts hand wire
    → AreOutPiped (without_name stream (ends n).addr (ends n).ep) taker (without_head member n) (without_head outs n) ends known parts hand wire

abbrev pub CloseMetOutPipes : {W : Type 0} → (W → ℕ → ℕ → Option Taker) → Type 0
CloseMetOutPipes {W} taker = (stream : ℕ → ℕ → Bool) (member outs : ℕ → Bool) (ends : ℕ → Endpoint) (known : ℕ → List ℕ) (parts : StructureSets) (hand : Hand) (wire : W) (n : ℕ)
    → AreOutPiped stream taker member outs ends known parts hand wire
    → AreOutPiped (without_name stream (ends n).addr (ends n).ep) taker member (without_head outs n) ends known parts hand wire

abbrev pub CloseOuts : {W : Type 0} → (W → ℕ → ℕ → Option Taker) → Type 0
CloseOuts {W} taker = (stream : ℕ → ℕ → Bool) (member outs : ℕ → Bool) (ends : ℕ → Endpoint) (order : ℕ → ℕ → ℕ) (out harvested : ℕ → List ℕ) (parts : StructureSets) (hand : Hand) (wire : W) (n : ℕ)
    → outs n ≡ true → AreEndpoints stream member outs ends → HaveOutStreams stream taker member outs ends order out harvested parts hand wire
    → HaveOutStreams (without_name stream (ends n).addr (ends n).ep) taker (without_head member n) (without_head outs n) ends order out harvested parts hand wire

abbrev pub CloseMetOuts : {W : Type 0} → (W → ℕ → ℕ → Option Taker) → Type 0
CloseMetOuts {W} taker = (stream : ℕ → ℕ → Bool) (member outs : ℕ → Bool) (ends : ℕ → Endpoint) (order : ℕ → ℕ → ℕ) (out harvested : ℕ → List ℕ) (parts : StructureSets) (hand : Hand) (wire : W)
    (n : ℕ) → outs n ≡ true → AreEndpoints stream member outs ends → HaveOutStreams stream taker member outs ends order out harvested parts hand wire
    → HaveOutStreams (without_name stream (ends n).addr (ends n).ep) taker member (without_head outs n) ends order out harvested parts hand wire

-- ---- what was reported

abbrev pub CloseReports : Type 0
CloseReports = (streams : ℕ → Bool) (order : ℕ → ℕ → ℕ) (out : ℕ → List ℕ) (hand : Hand) (parts : StructureSets) (acc : ℕ → List (List ℕ)) (reported : ℕ → List ℕ) (n : ℕ)
    → AreReported streams order out hand parts acc reported → AreReported (without_head streams n) order out hand parts acc reported

-- ---- endpoints that no queue head is for

abbrev pub IsUnopenedStill : Type 0
IsUnopenedStill = (streams : ℕ → Bool) (ends : ℕ → Endpoint) (n addr ep : ℕ) → ((addr ≡ (ends n).addr) × (ep ≡ (ends n).ep) → ⊥) → IsUnopened (without_head streams n) ends addr ep
    → IsUnopened streams ends addr ep

abbrev pub CloseUnopened : {W : Type 0} → (W → ℕ → ℕ → Option Sender) → Type 0
CloseUnopened {W} sender = (stream : ℕ → ℕ → Bool) (packets : ℕ → ℕ → List (List ℕ)) (streams : ℕ → Bool) (ends : ℕ → Endpoint) (wire : W) (n : ℕ)
    → AreUnopened stream packets sender streams ends wire → AreUnopened (without_name stream (ends n).addr (ends n).ep) packets sender (without_head streams n) ends wire

abbrev pub CloseUntaken : {W : Type 0} → (W → ℕ → ℕ → Option Taker) → Type 0
CloseUntaken {W} taker = (stream : ℕ → ℕ → Bool) (outs : ℕ → Bool) (ends : ℕ → Endpoint) (wire : W) (n : ℕ) → AreUntaken stream taker outs ends wire
    → AreUntaken (without_name stream (ends n).addr (ends n).ep) taker (without_head outs n) ends wire

-- ---- the closed one

abbrev pub NoneAsksClosed : {W : Type 0} → (W → ℕ → ℕ → Option Sender) → Type 0
NoneAsksClosed {W} sender = (stream : ℕ → ℕ → Bool) (packets : ℕ → ℕ → List (List ℕ)) (member streams : ℕ → Bool) (ends : ℕ → Endpoint) (acc : ℕ → List (List ℕ)) (parts : StructureSets)
    (hand : Hand) (wire : W) (n k : ℕ) → streams n ≡ true → AreEndpoints stream member streams ends → ArePiped stream packets sender member streams ends acc parts hand wire
    → without_head member n k ≡ true → IsElsewhere (only_name (ends n).addr (ends n).ep) parts k (ends k)

abbrev pub NoneSendsToClosed : {W : Type 0} → (W → ℕ → ℕ → Option Taker) → Type 0
NoneSendsToClosed {W} taker = (stream : ℕ → ℕ → Bool) (member outs : ℕ → Bool) (ends : ℕ → Endpoint) (known : ℕ → List ℕ) (parts : StructureSets) (hand : Hand) (wire : W) (n k : ℕ)
    → outs n ≡ true → AreEndpoints stream member outs ends → AreOutPiped stream taker member outs ends known parts hand wire → without_head member n k ≡ true
    → IsAside (only_name (ends n).addr (ends n).ep) parts k (ends k)
