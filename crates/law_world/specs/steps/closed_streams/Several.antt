-- Several streams are closed at once, as where several queue heads left the ring, and the walk meets none of them any more (EHCI 1.0, 4.8.2; USB 2.0, 5.8).
--     ClosesSome ..              those with streams are fewer, and the walk meets fewer; of the queue heads with streams just the closed ones are those of endpoints without one then
--     CloseSomeEnds, CloseSomePipes, CloseSomeOutPipes, CloseSomeOuts     the other streams are as before, those of INs and those of OUTs
--     FewerReports               of any fewer of them what was reported, and what is still to be, are the bytes of the packets taken
--     CloseSomeUnopened, CloseSomeUntaken        those that no queue head is for wait still
--     OneCloses                  the closing of one stream is such a one, once the walk doesn't meet the queue head any more and while it may still
use Rattle.std.specs.Prelude.{◌≡◌, ℕ, Bool, true, false, List, Option}
use Rattle.law_structures.specs.lent_structures.Structures.{StructureSets}
use Rattle.law_ring.specs.Hand.{Hand}
use Rattle.law_ring.specs.Stores.{IsWider}
use Rattle.law_ring.specs.Told.{Endpoint}
use Rattle.law_ring.specs.Bus.{Sender}
use Rattle.law_ring.specs.Pipes.{AreEndpoints, ArePiped}
use Rattle.law_ring.specs.OutBus.{Taker}
use Rattle.law_controller.specs.controlled_streams.Reported.{AreReported}
use Rattle.law_controller.specs.controlled_streams.Unopened.{AreUnopened}
use Rattle.law_world.specs.steps.Outs.{AreOutPiped, HaveOutStreams, AreUntaken}
use Rattle.law_world.specs.steps.closed_streams.Closed.{without_name, without_head}

pub record ClosesSome (stream now : ℕ → ℕ → Bool) (member narrow streams those : ℕ → Bool) (ends : ℕ → Endpoint) : Type 0 where
  pub fewer : IsWider narrow member
  pub streamed : (addr ep : ℕ) → now addr ep ≡ true → stream addr ep ≡ true
  pub were : IsWider those streams
  pub met : IsWider those narrow
  pub on : (n : ℕ) → those n ≡ true → now (ends n).addr (ends n).ep ≡ true
  pub off : (n : ℕ) → streams n ≡ true → those n ≡ false → now (ends n).addr (ends n).ep ≡ false

abbrev pub OneCloses : Type 0
OneCloses = (stream : ℕ → ℕ → Bool) (member streams : ℕ → Bool) (ends : ℕ → Endpoint) (n : ℕ) → streams n ≡ true → AreEndpoints stream member streams ends
    → ClosesSome stream (without_name stream (ends n).addr (ends n).ep) member (without_head member n) streams (without_head streams n) ends
    × ClosesSome stream (without_name stream (ends n).addr (ends n).ep) member member streams (without_head streams n) ends

abbrev pub CloseSomeEnds : Type 0
CloseSomeEnds = (stream now : ℕ → ℕ → Bool) (member narrow streams those : ℕ → Bool) (ends : ℕ → Endpoint) → ClosesSome stream now member narrow streams those ends
    → AreEndpoints stream member streams ends → AreEndpoints now narrow those ends

-- ---- INs

abbrev pub CloseSomePipes : {W : Type 0} → (W → ℕ → ℕ → Option Sender) → Type 0
CloseSomePipes {W} sender = (stream now : ℕ → ℕ → Bool) (packets : ℕ → ℕ → List (List ℕ)) (member narrow streams those : ℕ → Bool) (ends : ℕ → Endpoint) (acc : ℕ → List (List ℕ))
    (parts : StructureSets) (hand : Hand) (wire : W) → ClosesSome stream now member narrow streams those ends
    → ArePiped stream packets sender member streams ends acc parts hand wire → ArePiped now packets sender narrow those ends acc parts hand wire

abbrev pub CloseSomeUnopened : {W : Type 0} → (W → ℕ → ℕ → Option Sender) → Type 0
CloseSomeUnopened {W} sender = (stream now : ℕ → ℕ → Bool) (packets : ℕ → ℕ → List (List ℕ)) (member narrow streams those : ℕ → Bool) (ends : ℕ → Endpoint) (wire : W)
    → ClosesSome stream now member narrow streams those ends → AreUnopened stream packets sender streams ends wire → AreUnopened now packets sender those ends wire

-- ---- OUTs

abbrev pub CloseSomeOutPipes : {W : Type 0} → (W → ℕ → ℕ → Option Taker) → Type 0
CloseSomeOutPipes {W} taker = (stream now : ℕ → ℕ → Bool) (member narrow outs those : ℕ → Bool) (ends : ℕ → Endpoint) (known : ℕ → List ℕ) (parts : StructureSets) (hand : Hand) (wire : W)
    → ClosesSome stream now member narrow outs those ends
    → AreOutPiped stream taker member outs ends known parts hand wire → AreOutPiped now taker narrow those ends known parts hand wire

abbrev pub CloseSomeUntaken : {W : Type 0} → (W → ℕ → ℕ → Option Taker) → Type 0
CloseSomeUntaken {W} taker = (stream now : ℕ → ℕ → Bool) (member narrow outs those : ℕ → Bool) (ends : ℕ → Endpoint) (wire : W) → ClosesSome stream now member narrow outs those ends
    → AreUntaken stream taker outs ends wire → AreUntaken now taker those ends wire

abbrev pub CloseSomeOuts : {W : Type 0} → (W → ℕ → ℕ → Option Taker) → Type 0
CloseSomeOuts {W} taker = (stream now : ℕ → ℕ → Bool) (member narrow outs those : ℕ → Bool) (ends : ℕ → Endpoint) (order : ℕ → ℕ → ℕ) (out harvested : ℕ → List ℕ) (parts : StructureSets)
    (hand : Hand) (wire : W) → ClosesSome stream now member narrow outs those ends
    → HaveOutStreams stream taker member outs ends order out harvested parts hand wire → HaveOutStreams now taker narrow those ends order out harvested parts hand wire

-- ---- what was reported

abbrev pub FewerReports : Type 0
FewerReports = (streams those : ℕ → Bool) (order : ℕ → ℕ → ℕ) (out : ℕ → List ℕ) (hand : Hand) (parts : StructureSets) (acc : ℕ → List (List ℕ)) (reported : ℕ → List ℕ) → IsWider those streams
    → AreReported streams order out hand parts acc reported → AreReported those order out hand parts acc reported
