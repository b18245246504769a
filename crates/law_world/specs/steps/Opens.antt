-- The walk may meet one more queue head, beside the streams of OUT endpoints (EHCI 1.0, 4.8.1 and 4.10; USB 2.0, 8.6).
--     IsOneMoreHead ..                       what is in hand tells the same, and each other queue head of these has its structures still
--     OutPipesWithOne, OutsWithOne           it is that of an OUT endpoint, whose stream begins
--     OutPipesWithAnother, OutsWithAnother   it is that of another endpoint
--     UntakenLessOne, UntakenWithAnother     the other takers wait still
use Rattle.std.specs.Prelude.{◌≡◌, ◌≢◌, ℕ, Bool, true, false, List, Option}
use Rattle.law_structures.specs.lent_structures.Structures.{StructureSets}
use Rattle.law_ring.specs.Hand.{Hand}
use Rattle.law_ring.specs.Told.{Endpoint}
use Rattle.law_ring.specs.Pipes.{AreEndpoints}
use Rattle.law_ring.specs.OutBus.{Taker}
use Rattle.law_ring.specs.OutPipes.{IsUnmoved}
use Rattle.law_controller.specs.controlled_streams.Opened.{with_stream, with_end, with_none, IsOneMore}
use Rattle.law_world.specs.steps.Outs.{IsAside, AreOutPiped, HaveOutStreams, IsUntaken, AreUntaken}

-- it is idle and has nothing to send yet; no other one that the walk may meet for the first time sends to a stream
pub record IsOneMoreHead (stream : ℕ → ℕ → Bool) (wider outs : ℕ → Bool) (ends : ℕ → Endpoint) (hand later : Hand) (parts now : StructureSets) (n : ℕ) (x : Endpoint) : Type 0 where
  pub more : IsOneMore outs hand later parts now n x
  pub unmoved : (k : ℕ) → outs k ≡ true → IsUnmoved hand k → IsUnmoved later k
  pub others : (k : ℕ) → wider k ≡ true → k ≢ n → outs k ≡ false → IsAside stream now k (ends k)

-- ---- an OUT endpoint

abbrev pub OutPipesWithOne : {W : Type 0} → (W → ℕ → ℕ → Option Taker) → Type 0
OutPipesWithOne {W} taker = (stream : ℕ → ℕ → Bool) (member wider outs : ℕ → Bool) (ends : ℕ → Endpoint) (known : ℕ → List ℕ) (hand later : Hand) (parts now : StructureSets) (wire : W) (n : ℕ)
    (x : Endpoint) → IsOneMoreHead stream wider outs ends hand later parts now n x → x.dtc ≡ false → IsUntaken (taker wire x.addr x.ep)
    → AreOutPiped stream taker member outs ends known parts hand wire
    → AreOutPiped stream taker wider (with_stream outs n) (with_end ends n x) (with_none known n) now later wire

abbrev pub OutsWithOne : {W : Type 0} → (W → ℕ → ℕ → Option Taker) → Type 0
OutsWithOne {W} taker = (stream : ℕ → ℕ → Bool) (member wider outs : ℕ → Bool) (ends : ℕ → Endpoint) (order : ℕ → ℕ → ℕ) (out harvested : ℕ → List ℕ) (hand later : Hand)
    (parts now : StructureSets) (wire : W) (n : ℕ) (x : Endpoint) → IsOneMoreHead stream wider outs ends hand later parts now n x → x.dtc ≡ false → IsUntaken (taker wire x.addr x.ep)
    → AreEndpoints stream wider (with_stream outs n) (with_end ends n x) → HaveOutStreams stream taker member outs ends order out harvested parts hand wire
    → HaveOutStreams stream taker wider (with_stream outs n) (with_end ends n x) order (with_none out n) (with_none harvested n) now later wire

abbrev pub UntakenLessOne : {W : Type 0} → (W → ℕ → ℕ → Option Taker) → Type 0
UntakenLessOne {W} taker = (stream : ℕ → ℕ → Bool) (outs : ℕ → Bool) (ends : ℕ → Endpoint) (wire : W) (n : ℕ) (x : Endpoint) → outs n ≡ false
    → AreUntaken stream taker outs ends wire → AreUntaken stream taker (with_stream outs n) (with_end ends n x) wire

-- ---- another endpoint

abbrev pub OutPipesWithAnother : {W : Type 0} → (W → ℕ → ℕ → Option Taker) → Type 0
OutPipesWithAnother {W} taker = (stream : ℕ → ℕ → Bool) (member wider outs : ℕ → Bool) (ends : ℕ → Endpoint) (known : ℕ → List ℕ) (hand later : Hand) (parts now : StructureSets) (wire : W)
    (n : ℕ) (x : Endpoint) → IsOneMoreHead stream wider outs ends hand later parts now n x
    → AreOutPiped stream taker member outs ends known parts hand wire → AreOutPiped stream taker wider outs (with_end ends n x) (with_none known n) now later wire

abbrev pub OutsWithAnother : {W : Type 0} → (W → ℕ → ℕ → Option Taker) → Type 0
OutsWithAnother {W} taker = (stream : ℕ → ℕ → Bool) (member wider outs : ℕ → Bool) (ends : ℕ → Endpoint) (order : ℕ → ℕ → ℕ) (out harvested : ℕ → List ℕ) (hand later : Hand)
    (parts now : StructureSets) (wire : W) (n : ℕ) (x : Endpoint) → IsOneMoreHead stream wider outs ends hand later parts now n x
    → AreEndpoints stream wider outs (with_end ends n x) → HaveOutStreams stream taker member outs ends order out harvested parts hand wire
    → HaveOutStreams stream taker wider outs (with_end ends n x) order (with_none out n) (with_none harvested n) now later wire

abbrev pub UntakenWithAnother : {W : Type 0} → (W → ℕ → ℕ → Option Taker) → Type 0
UntakenWithAnother {W} taker = (stream : ℕ → ℕ → Bool) (outs : ℕ → Bool) (ends : ℕ → Endpoint) (wire : W) (n : ℕ) (x : Endpoint) → outs n ≡ false
    → AreUntaken stream taker outs ends wire → AreUntaken stream taker outs (with_end ends n x) wire
