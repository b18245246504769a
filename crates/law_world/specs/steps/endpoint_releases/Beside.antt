-- What is told of the other queue heads of a ring where one that the walk doesn't meet any more, and that has no stream, is given back with all that it
-- has (EHCI 1.0, 4.8.2 and 4.10): the same as before.
--     QueueIsGone              nothing of it is told, and all of each other one
--     PipesStayBeside          both sides of each IN pipe agree
--     OutPipesStayBeside       both sides of each OUT pipe agree
--     OutsStayBeside           each OUT stream goes on
--     ReportsStayBeside        what was reported of each stream, and what is still to be, are the bytes of the packets taken
use Rattle.std.specs.Prelude.{◌≡◌, ◌≢◌, ℕ, Bool, false, List, Option, None}
use Rattle.law_structures.specs.lent_structures.Structures.{StructureSets}
use Rattle.law_ring.specs.Hand.{Hand}
use Rattle.law_ring.specs.Told.{Endpoint}
use Rattle.law_ring.specs.Bus.{Sender}
use Rattle.law_ring.specs.Pipes.{ArePiped}
use Rattle.law_ring.specs.OutBus.{Taker}
use Rattle.law_controller.specs.controlled_streams.Reported.{AreReported}
use Rattle.law_world.specs.steps.Outs.{AreOutPiped, HaveOutStreams}
use Rattle.law_world.specs.steps.endpoint_releases.Released.{without_queue}

abbrev pub QueueIsGone : Type 0
QueueIsGone = (parts : StructureSets) (n : ℕ) → ((a : ℕ) → without_queue parts n n a ≡ None) × ((k : ℕ) → k ≢ n → without_queue parts n k ≡ parts k)

abbrev pub PipesStayBeside : {W : Type 0} → (W → ℕ → ℕ → Option Sender) → Type 0
PipesStayBeside {W} sender = (stream : ℕ → ℕ → Bool) (packets : ℕ → ℕ → List (List ℕ)) (member streams : ℕ → Bool) (ends : ℕ → Endpoint) (acc : ℕ → List (List ℕ)) (parts : StructureSets)
    (hand : Hand) (wire : W) (n : ℕ) → member n ≡ false → streams n ≡ false
    → ArePiped stream packets sender member streams ends acc parts hand wire → ArePiped stream packets sender member streams ends acc (without_queue parts n) hand wire

abbrev pub OutPipesStayBeside : {W : Type 0} → (W → ℕ → ℕ → Option Taker) → Type 0
OutPipesStayBeside {W} taker = (stream : ℕ → ℕ → Bool) (member outs : ℕ → Bool) (ends : ℕ → Endpoint) (known : ℕ → List ℕ) (parts : StructureSets) (hand : Hand) (wire : W) (n : ℕ)
    → member n ≡ false → outs n ≡ false
    → AreOutPiped stream taker member outs ends known parts hand wire → AreOutPiped stream taker member outs ends known (without_queue parts n) hand wire

abbrev pub OutsStayBeside : {W : Type 0} → (W → ℕ → ℕ → Option Taker) → Type 0
OutsStayBeside {W} taker = (stream : ℕ → ℕ → Bool) (member outs : ℕ → Bool) (ends : ℕ → Endpoint) (order : ℕ → ℕ → ℕ) (out harvested : ℕ → List ℕ) (parts : StructureSets) (hand : Hand)
    (wire : W) (n : ℕ) → member n ≡ false → outs n ≡ false
    → HaveOutStreams stream taker member outs ends order out harvested parts hand wire
    → HaveOutStreams stream taker member outs ends order out harvested (without_queue parts n) hand wire

abbrev pub ReportsStayBeside : Type 0
ReportsStayBeside = (heads : ℕ → Bool) (order : ℕ → ℕ → ℕ) (out : ℕ → List ℕ) (hand : Hand) (parts : StructureSets) (acc : ℕ → List (List ℕ)) (reported : ℕ → List ℕ) (n : ℕ)
    → heads n ≡ false → AreReported heads order out hand parts acc reported → AreReported heads order out hand (without_queue parts n) acc reported
