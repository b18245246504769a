-- QTDs and buffers of one queue head are given back, beside the streams of OUT endpoints (EHCI 1.0, 4.10).
--     KeepsWork goes n part      the queue head at n doesn't work on a qTD that goes
--     ReturnLeavesOutPipes       both sides of each pipe agree as before
--     ReturnLeavesOuts           each stream goes on, where nothing was moved of the qTDs that go
use Rattle.std.specs.Prelude.{◌≡◌, ℕ, Bool, true, false, List, Option, Some}
use Rattle.qh_qtd.specs.declared.queue_head.Qh.{Qh}
use Rattle.law_structures.specs.lent_structures.Structures.{QueueHead, Structures, StructureSets}
use Rattle.law_ring.specs.Hand.{Hand}
use Rattle.law_ring.specs.Told.{Endpoint}
use Rattle.law_ring.specs.Pipes.{AreEndpoints}
use Rattle.law_ring.specs.Fewer.{without_those}
use Rattle.law_ring.specs.OutBus.{Taker}
use Rattle.law_controller.specs.controlled_streams.Returned.{staying_of, KeepsBuffers, GoUntold}
use Rattle.law_world.specs.steps.Outs.{AreOutPiped, HaveOutStreams}

abbrev pub KeepsWork : (ℕ → Bool) → ℕ → Structures → Type 0
KeepsWork goes n part = (q : Qh) → part n ≡ Some (QueueHead q) → q.token.active ≡ true → goes q.current ≡ false

abbrev pub ReturnLeavesOutPipes : {W : Type 0} → (W → ℕ → ℕ → Option Taker) → Type 0
ReturnLeavesOutPipes {W} taker = (stream : ℕ → ℕ → Bool) (member outs : ℕ → Bool) (ends : ℕ → Endpoint) (known : ℕ → List ℕ) (parts : StructureSets) (hand : Hand) (wire : W) (n : ℕ)
    (goes : ℕ → Bool) → goes n ≡ false → KeepsBuffers goes (parts n) → KeepsWork goes n (parts n)
    → AreOutPiped stream taker member outs ends known parts hand wire → AreOutPiped stream taker member outs ends known (without_those parts n goes) hand wire

abbrev pub ReturnLeavesOuts : {W : Type 0} → (W → ℕ → ℕ → Option Taker) → Type 0
ReturnLeavesOuts {W} taker = (stream : ℕ → ℕ → Bool) (member outs : ℕ → Bool) (ends : ℕ → Endpoint) (order : ℕ → ℕ → ℕ) (out harvested : ℕ → List ℕ) (parts : StructureSets) (hand : Hand)
    (wire : W) (n : ℕ) (goes : ℕ → Bool) → goes n ≡ false → KeepsBuffers goes (parts n) → KeepsWork goes n (parts n) → GoUntold goes (out n) hand parts n → AreEndpoints stream member outs ends
    → HaveOutStreams stream taker member outs ends order out harvested parts hand wire
    → HaveOutStreams stream taker member outs ends order (staying_of n goes out) harvested (without_those parts n goes) hand wire
