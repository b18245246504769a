-- Several queue heads have left the ring, and the streams of their endpoints are closed (EHCI 1.0, 4.8.2; USB 2.0, 5.8 and 8.6). No event of the controller asks one of these
-- endpoints any more, or sends to it: so the laws of those aside hold of them.
--     heads_met streams narrow      the queue heads with streams that the walk may still meet
--     names_kept stream left        the devices' endpoints with streams, but those that have left
--     HaveLeft streams narrow ends left      of the endpoints of these queue heads just those have left whose queue head the walk doesn't meet any more
--     KeepMet streams narrow those  each queue head with a stream that the walk may still meet keeps it
--     LeftAreClosed              those that have left are closed, and no others
--     names_closed stream now    the devices' endpoints that had a stream, and have none then
--     NoneAsksSome, NoneSendsToSome     no queue head that the walk may still meet asks one of these, or sends to it
--     AreWithout closed stream   none of these endpoints has a stream
--     AreQuiet ..                the queue heads with neither an IN stream nor an OUT stream have no active qTD of these ways
--     NoneAsksAnyClosed, NoneSendsToAnyClosed       so long as that is so none asks one of these, or sends to it, whenever they were closed
use Rattle.std.specs.Prelude.{◌≡◌, ℕ, ◌&&◌, not, Bool, true, false, List, Option}
use Rattle.law_structures.specs.lent_structures.Structures.{StructureSets}
use Rattle.law_ring.specs.Hand.{Hand}
use Rattle.law_ring.specs.Stores.{IsWider}
use Rattle.law_ring.specs.Told.{Endpoint, HasEndpoint}
use Rattle.law_ring.specs.Bus.{Sender}
use Rattle.law_ring.specs.Pipes.{IsNotIn, AreEndpoints, ArePiped}
use Rattle.law_ring.specs.OutBus.{Taker}
use Rattle.law_ring.specs.OutPipeLaws.{SendsNone}
use Rattle.law_world.specs.steps.Outs.{AreAside, AreOutPiped}
use Rattle.law_world.specs.steps.closed_streams.Several.{ClosesSome}
use Rattle.law_world.specs.steps.closed_streams.Aside.{AreElsewhere}

-- ---- which are closed

abbrev pub heads_met : (ℕ → Bool) → (ℕ → Bool) → ℕ → Bool
heads_met streams narrow n = streams n && narrow n

abbrev pub names_kept : (ℕ → ℕ → Bool) → (ℕ → ℕ → Bool) → ℕ → ℕ → Bool
names_kept stream left a e = stream a e && not (left a e)

pub record HaveLeft (streams narrow : ℕ → Bool) (ends : ℕ → Endpoint) (left : ℕ → ℕ → Bool) : Type 0 where
  pub none : (n : ℕ) → streams n ≡ true → narrow n ≡ true → left (ends n).addr (ends n).ep ≡ false
  pub each : (n : ℕ) → streams n ≡ true → narrow n ≡ false → left (ends n).addr (ends n).ep ≡ true

abbrev pub KeepMet : (ℕ → Bool) → (ℕ → Bool) → (ℕ → Bool) → Type 0
KeepMet streams narrow those = (n : ℕ) → streams n ≡ true → narrow n ≡ true → those n ≡ true

abbrev pub LeftAreClosed : Type 0
LeftAreClosed = (stream left : ℕ → ℕ → Bool) (member narrow streams those : ℕ → Bool) (ends : ℕ → Endpoint) → IsWider narrow member → AreEndpoints stream member streams ends
    → HaveLeft streams narrow ends left → ((n : ℕ) → those n ≡ heads_met streams narrow n)
    → ClosesSome stream (names_kept stream left) member narrow streams those ends × KeepMet streams narrow those

-- ---- the closed ones, where the walk doesn't meet their queue heads any more

abbrev pub names_closed : (ℕ → ℕ → Bool) → (ℕ → ℕ → Bool) → ℕ → ℕ → Bool
names_closed stream now a e = stream a e && not (now a e)

abbrev pub NoneAsksSome : {W : Type 0} → (W → ℕ → ℕ → Option Sender) → Type 0
NoneAsksSome {W} sender = (stream now : ℕ → ℕ → Bool) (packets : ℕ → ℕ → List (List ℕ)) (member narrow streams those : ℕ → Bool) (ends : ℕ → Endpoint) (acc : ℕ → List (List ℕ))
    (parts : StructureSets) (hand : Hand) (wire : W) → ClosesSome stream now member narrow streams those ends → KeepMet streams narrow those
    → ArePiped stream packets sender member streams ends acc parts hand wire → AreElsewhere (names_closed stream now) narrow ends parts

abbrev pub NoneSendsToSome : {W : Type 0} → (W → ℕ → ℕ → Option Taker) → Type 0
NoneSendsToSome {W} taker = (stream now : ℕ → ℕ → Bool) (member narrow outs those : ℕ → Bool) (ends : ℕ → Endpoint) (known : ℕ → List ℕ) (parts : StructureSets) (hand : Hand) (wire : W)
    → ClosesSome stream now member narrow outs those ends → KeepMet outs narrow those
    → AreOutPiped stream taker member outs ends known parts hand wire → AreAside (names_closed stream now) narrow (λ n. false) ends parts

-- ---- the closed ones, so long as they have no stream

abbrev pub AreWithout : (ℕ → ℕ → Bool) → (ℕ → ℕ → Bool) → Type 0
AreWithout closed stream = (addr ep : ℕ) → closed addr ep ≡ true → stream addr ep ≡ false

abbrev pub AreQuiet : (ℕ → Bool) → (ℕ → Bool) → (ℕ → Bool) → (ℕ → Endpoint) → StructureSets → Type 0
AreQuiet member streams outs ends parts =
    (n : ℕ) → member n ≡ true → streams n ≡ false → outs n ≡ false → HasEndpoint parts n (ends n) × (IsNotIn (parts n) × SendsNone (parts n))

-- an IN's and an OUT's are told apart by the ways of their qTDs, where they have one address and one number
abbrev pub NoneAsksAnyClosed : {W : Type 0} → (W → ℕ → ℕ → Option Sender) → (W → ℕ → ℕ → Option Taker) → Type 0
NoneAsksAnyClosed {W} sender taker = (stream takes closed : ℕ → ℕ → Bool) (packets : ℕ → ℕ → List (List ℕ)) (member streams outs : ℕ → Bool) (ends : ℕ → Endpoint) (acc : ℕ → List (List ℕ))
    (known : ℕ → List ℕ) (parts : StructureSets) (hand : Hand) (wire : W) → AreWithout closed stream → AreEndpoints stream member streams ends
    → ArePiped stream packets sender member streams ends acc parts hand wire → AreOutPiped takes taker member outs ends known parts hand wire → AreQuiet member streams outs ends parts
    → AreElsewhere closed member ends parts

abbrev pub NoneSendsToAnyClosed : {W : Type 0} → (W → ℕ → ℕ → Option Sender) → (W → ℕ → ℕ → Option Taker) → Type 0
NoneSendsToAnyClosed {W} sender taker = (stream takes closed : ℕ → ℕ → Bool) (packets : ℕ → ℕ → List (List ℕ)) (member streams outs : ℕ → Bool) (ends : ℕ → Endpoint) (acc : ℕ → List (List ℕ))
    (known : ℕ → List ℕ) (parts : StructureSets) (hand : Hand) (wire : W) → AreWithout closed takes → AreEndpoints takes member outs ends
    → ArePiped stream packets sender member streams ends acc parts hand wire → AreOutPiped takes taker member outs ends known parts hand wire → AreQuiet member streams outs ends parts
    → AreAside closed member (λ n. false) ends parts
