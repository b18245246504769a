-- What is told of a ring's streams once qTDs and buffers of one queue head were given back (EHCI 1.0, 4.10): what stays is told as before, and of what
-- was passed over after a short packet nothing was moved.
--     staying goes out           those of these qTDs that don't go
--     staying_of n goes out      the same of the queue head at n
--     KeepsBuffers goes part     no qTD that stays loses its buffer
--     AccountsAreReturned, ReportedAreReturned, PipesAreReturned, FrontIsReturned, PassedHasNone   the laws
use Rattle.std.specs.Prelude.{◌≡◌, ℕ, ◌<◌, Bool, true, false, ◌==◌, List, [], ◌∷◌, Option, Some, if◌then◌else◌}
use Rattle.qh_qtd.specs.declared.qtd.Qtd.{Qtd}
use Rattle.law_structures.specs.lent_structures.Structures.{Element, Structures, StructureSets}
use Rattle.law_structures.specs.lent_structures.Sound.{buffer_name}
use Rattle.law_ring.specs.Hand.{Hand}
use Rattle.law_ring.specs.Stores.{IsBuffer}
use Rattle.law_ring.specs.Told.{Told, Endpoint}
use Rattle.law_ring.specs.Order.{IsAmong, Accounts}
use Rattle.law_ring.specs.Bus.{Sender}
use Rattle.law_ring.specs.Pipes.{ArePiped}
use Rattle.law_controller.specs.controlled_streams.Reported.{AreReported}
use Rattle.law_ring.specs.Fewer.{without_those}
use Rattle.law_ring.specs.Front.{HasFront}

abbrev pub staying : (ℕ → Bool) → List ℕ → List ℕ
staying goes [] = []
staying goes (e ∷ es) = if goes e then staying goes es else e ∷ staying goes es

abbrev pub staying_of : ℕ → (ℕ → Bool) → (ℕ → List ℕ) → ℕ → List ℕ
staying_of n goes out k = if k == n then staying goes (out k) else out k

abbrev pub KeepsBuffers : (ℕ → Bool) → Structures → Type 0
KeepsBuffers goes part = (a : ℕ) (t : Qtd) → part a ≡ Some (Element t) → goes a ≡ false → IsBuffer part (buffer_name t) → goes (buffer_name t) ≡ false

-- nothing was moved of those that go
abbrev pub GoUntold : (ℕ → Bool) → List ℕ → Hand → StructureSets → ℕ → Type 0
GoUntold goes out hand parts n = (e : ℕ) (x : List ℕ) → IsAmong e out → goes e ≡ true → Told hand parts n e x → x ≡ []

-- ---- the laws

abbrev pub AccountsAreReturned : Type 0
AccountsAreReturned = (order : ℕ → ℕ) (place : ℕ) (out : List ℕ) (hand : Hand) (parts : StructureSets) (n : ℕ) (goes : ℕ → Bool) (xs : List ℕ) → goes n ≡ false
    → KeepsBuffers goes (parts n) → GoUntold goes out hand parts n → Accounts order place out hand parts n xs
    → Accounts order place (staying goes out) hand (without_those parts n goes) n xs

abbrev pub ReportedAreReturned : Type 0
ReportedAreReturned = (streams : ℕ → Bool) (order : ℕ → ℕ → ℕ) (out : ℕ → List ℕ) (hand : Hand) (parts : StructureSets) (acc : ℕ → List (List ℕ)) (reported : ℕ → List ℕ)
    (n : ℕ) (goes : ℕ → Bool) → goes n ≡ false → KeepsBuffers goes (parts n) → GoUntold goes (out n) hand parts n → AreReported streams order out hand parts acc reported
    → AreReported streams order (staying_of n goes out) hand (without_those parts n goes) acc reported

abbrev pub PipesAreReturned : {W : Type 0} → (W → ℕ → ℕ → Option Sender) → Type 0
PipesAreReturned {W} sender = (stream : ℕ → ℕ → Bool) (packets : ℕ → ℕ → List (List ℕ)) (member streams : ℕ → Bool) (endpoint : ℕ → Endpoint) (acc : ℕ → List (List ℕ))
    (parts : StructureSets) (hand : Hand) (wire : W) (n : ℕ) (goes : ℕ → Bool) → goes n ≡ false → ArePiped stream packets sender member streams endpoint acc parts hand wire
    → ArePiped stream packets sender member streams endpoint acc (without_those parts n goes) hand wire

abbrev pub FrontIsReturned : Type 0
FrontIsReturned = (order : ℕ → ℕ) (front : ℕ) (out : List ℕ) (parts : StructureSets) (n : ℕ) (goes : ℕ → Bool) → goes n ≡ false → KeepsBuffers goes (parts n)
    → HasFront order front out n (parts n) → HasFront order front (staying goes out) n (without_those parts n goes n)

-- a qTD before the front that is still published was passed over
abbrev pub PassedHasNone : Type 0
PassedHasNone = (order : ℕ → ℕ) (front : ℕ) (out : List ℕ) (hand : Hand) (parts : StructureSets) (n e : ℕ) (x : List ℕ) → HasFront order front out n (parts n) → IsAmong e out
    → order e < front → (told : Told hand parts n e x) → told.qtd.token.active ≡ true → x ≡ []
