-- What the stream of an OUT endpoint is made of: its pipe, and what is still to be harvested.
--     EachIsOnly        no other queue head sends to its endpoint
--     PipesAreStreams   where what was harvested, and what is still to be, are the bytes that are known to be taken, the pipes are streams
--     HarvestedIsTaken  what was harvested begins what the device took
use Rattle.std.specs.Prelude.{◌≡◌, ℕ, Bool, true, List, Option}
use Rattle.std.specs.List.{concat}
use Rattle.law_structures.specs.lent_structures.Structures.{StructureSets}
use Rattle.law_ring.specs.Hand.{Hand}
use Rattle.law_ring.specs.Told.{Endpoint}
use Rattle.law_ring.specs.Pipes.{AreEndpoints}
use Rattle.law_ring.specs.OutBus.{Taker}
use Rattle.law_ring.specs.OutPipeLaws.{IsOnlyEndpoint}
use Rattle.law_controller.specs.controlled_streams.Reported.{AreReported}
use Rattle.law_controller.specs.controlled_streams.Outs.{Begins}
use Rattle.law_world.specs.steps.Outs.{AreOutPiped, HaveOutStreams}

abbrev pub EachIsOnly : {W : Type 0} → (W → ℕ → ℕ → Option Taker) → Type 0
EachIsOnly {W} taker = (stream : ℕ → ℕ → Bool) (member outs : ℕ → Bool) (ends : ℕ → Endpoint) (known : ℕ → List ℕ) (parts : StructureSets) (hand : Hand) (wire : W) (n : ℕ)
    → AreEndpoints stream member outs ends → AreOutPiped stream taker member outs ends known parts hand wire → outs n ≡ true → IsOnlyEndpoint stream member parts n (ends n)

abbrev pub PipesAreStreams : {W : Type 0} → (W → ℕ → ℕ → Option Taker) → Type 0
PipesAreStreams {W} taker = (stream : ℕ → ℕ → Bool) (member outs : ℕ → Bool) (ends : ℕ → Endpoint) (order : ℕ → ℕ → ℕ) (out harvested : ℕ → List ℕ) (acc : ℕ → List (List ℕ))
    (parts : StructureSets) (hand : Hand) (wire : W) → AreEndpoints stream member outs ends → AreReported outs order out hand parts acc harvested
    → AreOutPiped stream taker member outs ends (λ n. concat (acc n)) parts hand wire → HaveOutStreams stream taker member outs ends order out harvested parts hand wire

abbrev pub HarvestedIsTaken : {W : Type 0} → (W → ℕ → ℕ → Option Taker) → Type 0
HarvestedIsTaken {W} taker = (stream : ℕ → ℕ → Bool) (member outs : ℕ → Bool) (ends : ℕ → Endpoint) (order : ℕ → ℕ → ℕ) (out harvested : ℕ → List ℕ) (parts : StructureSets) (hand : Hand) (wire : W)
    (n : ℕ) → HaveOutStreams stream taker member outs ends order out harvested parts hand wire → outs n ≡ true → Begins (taker wire (ends n).addr (ends n).ep) (harvested n)
