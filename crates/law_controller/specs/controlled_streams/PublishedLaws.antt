-- Laws of the streams beside the stores of a qTD.
--     IdleStoreLeavesReports, LastStoreLeavesReports     what is still to be harvested, and that it is right
--     StoreLeavesPipes                                   the pipes of the endpoints
use Rattle.std.specs.Prelude.{◌≡◌, ◌≢◌, ℕ, ◌⊎◌, Bool, true, false, List, Option, Some}
use Rattle.qh_qtd.specs.declared.qtd.Qtd.{Qtd}
use Rattle.law_structures.specs.lent_structures.Structures.{Element, StructureSets}
use Rattle.law_ring.specs.QueueParts.{IsQueuePart}
use Rattle.law_ring.specs.Hand.{Hand}
use Rattle.law_ring.specs.Told.{Endpoint}
use Rattle.law_ring.specs.Order.{IsFresh}
use Rattle.law_ring.specs.Bus.{Sender}
use Rattle.law_ring.specs.Pipes.{ArePiped}
use Rattle.law_controller.specs.controlled_streams.Reported.{AreReported}
use Rattle.law_controller.specs.controlled_streams.Storing.{IsStore, out_with, with_out, stored_parts}

-- while it isn't active nothing is told otherwise
abbrev pub IdleStoreLeavesReports : Type 0
IdleStoreLeavesReports = (streams : ℕ → Bool) (order : ℕ → ℕ → ℕ) (out : ℕ → List ℕ) (hand : Hand) (parts : StructureSets) (acc : ℕ → List (List ℕ)) (reported : ℕ → List ℕ)
    (n e : ℕ) (old new : Qtd) → IsStore (order n) (out n) parts n e old new → new.token.active ≡ false
    → AreReported streams order out hand parts acc reported → AreReported streams order out hand (stored_parts parts n e new) acc reported

-- once it is, it is out too, and nothing was moved of it
abbrev pub LastStoreLeavesReports : Type 0
LastStoreLeavesReports = (streams : ℕ → Bool) (order : ℕ → ℕ → ℕ) (out : ℕ → List ℕ) (hand : Hand) (parts : StructureSets) (acc : ℕ → List (List ℕ)) (reported : ℕ → List ℕ)
    (n e : ℕ) (old new : Qtd) → (s : IsStore (order n) (out n) parts n e old new) → new.token.active ≡ true → IsFresh (parts n) new → IsQueuePart n (parts n)
    → AreReported streams order out hand parts acc reported → AreReported streams order (with_out out n (out_with s)) hand (stored_parts parts n e new) acc reported

-- where it becomes active it is an IN, if its queue head has a stream, and else it is none
abbrev pub StoreLeavesPipes : {W : Type 0} → (W → ℕ → ℕ → Option Sender) → Type 0
StoreLeavesPipes {W} sender = (stream : ℕ → ℕ → Bool) (packets : ℕ → ℕ → List (List ℕ)) (member streams : ℕ → Bool) (endpoint : ℕ → Endpoint) (acc : ℕ → List (List ℕ))
    (hand : Hand) (parts : StructureSets) (wire : W) (n e : ℕ) (old new : Qtd) → parts n e ≡ Some (Element old)
    → (new.token.active ≡ true → ((streams n ≡ true) × (new.token.pid ≡ 1)) ⊎ ((streams n ≡ false) × (new.token.pid ≢ 1)))
    → ArePiped stream packets sender member streams endpoint acc parts hand wire → ArePiped stream packets sender member streams endpoint acc (stored_parts parts n e new) hand wire
