-- A step of a driver that spares queue heads with OUT streams, and the qTDs that these work on (EHCI 1.0, 4.8 and 4.10).
--     SparesWork parts now n     the queue head at n stays, and so does the qTD that it works on
--     OutPipesAreSpared          both sides of each pipe agree as before
use Rattle.std.specs.Prelude.{◌≡◌, ℕ, Bool, true, List, Option, Some}
use Rattle.qh_qtd.specs.declared.queue_head.Qh.{Qh}
use Rattle.law_structures.specs.lent_structures.Structures.{QueueHead, StructureSets}
use Rattle.law_ring.specs.Hand.{Hand}
use Rattle.law_ring.specs.Told.{Endpoint}
use Rattle.law_ring.specs.Sparing.{SameHand, SparesHead, SparesElement}
use Rattle.law_ring.specs.OutBus.{Taker}
use Rattle.law_ring.specs.OutPipes.{IsOut, IsUnmoved}
use Rattle.law_world.specs.steps.Outs.{AreAside, AreOutPiped}

pub record SparesWork (parts now : StructureSets) (n : ℕ) : Type 0 where
  pub head : SparesHead parts now n
  pub work : (q : Qh) → parts n n ≡ Some (QueueHead q) → q.token.active ≡ true → SparesElement parts now n q.current

-- the walk may then meet others too, which send to none of the streams
abbrev pub OutPipesAreSpared : {W : Type 0} → (W → ℕ → ℕ → Option Taker) → Type 0
OutPipesAreSpared {W} taker = (stream : ℕ → ℕ → Bool) (member wider outs : ℕ → Bool) (ends ends_now : ℕ → Endpoint) (known : ℕ → List ℕ) (hand later : Hand) (parts now : StructureSets) (wire : W)
    → SameHand hand later → ((n : ℕ) → outs n ≡ true → IsUnmoved hand n → IsUnmoved later n) → ((n : ℕ) → outs n ≡ true → SparesWork parts now n) → ((n : ℕ) → outs n ≡ true → IsOut (now n))
    → ((n : ℕ) → outs n ≡ true → ends_now n ≡ ends n) → AreAside stream wider outs ends_now now
    → AreOutPiped stream taker member outs ends known parts hand wire → AreOutPiped stream taker wider outs ends_now known now later wire
