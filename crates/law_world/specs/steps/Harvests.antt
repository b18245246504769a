-- A harvest of the first published qTD that nothing passed over, beside the streams of OUT endpoints (EHCI 1.0, 4.10).
--     with_more lists n more     the bytes harvested, with these of the queue head at n at their end
--     HarvestLeavesOuts          its bytes are harvested, and the others are out still
use Rattle.std.specs.Prelude.{◌≡◌, ℕ, ◌==◌, Bool, false, List, ◌∷◌, ◌++◌, Option, Some, if◌then◌else◌}
use Rattle.qh_qtd.specs.declared.qtd.Qtd.{Qtd}
use Rattle.law_structures.specs.lent_structures.Structures.{Element, StructureSets}
use Rattle.law_ring.specs.Hand.{Hand}
use Rattle.law_ring.specs.Told.{Told, Endpoint}
use Rattle.law_ring.specs.OutBus.{Taker}
use Rattle.law_controller.specs.controlled_streams.Storing.{with_out}
use Rattle.law_driver_ring.specs.told_harvests.Passed.{IsNoneTold}
use Rattle.law_world.specs.steps.Outs.{HaveOutStreams}

abbrev pub with_more : (ℕ → List ℕ) → ℕ → List ℕ → ℕ → List ℕ
with_more lists n more k = if k == n then lists k ++ more else lists k

abbrev pub HarvestLeavesOuts : {W : Type 0} → (W → ℕ → ℕ → Option Taker) → Type 0
HarvestLeavesOuts {W} taker = (stream : ℕ → ℕ → Bool) (member outs : ℕ → Bool) (ends : ℕ → Endpoint) (order : ℕ → ℕ → ℕ) (out harvested : ℕ → List ℕ) (parts : StructureSets) (hand : Hand)
    (wire : W) (n e : ℕ) (passed rest bytes : List ℕ) (t : Qtd) → out n ≡ passed ++ e ∷ rest → parts n e ≡ Some (Element t) → t.token.active ≡ false → IsNoneTold hand parts n passed
    → Told hand parts n e bytes → HaveOutStreams stream taker member outs ends order out harvested parts hand wire
    → HaveOutStreams stream taker member outs ends order (with_out out n (passed ++ rest)) (with_more harvested n bytes) parts hand wire
