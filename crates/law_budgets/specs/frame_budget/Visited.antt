-- The visits of one microframe to the queue heads of its frame's chain (EHCI 1.0, 4.6 and 4.10).
--     AreVisitsOf d qs vs      these visits are to these queue heads, one each and in their order, of the endpoints that have them
--     VisitsDue d f vs         visits to the queue heads of the chain of frame f
use Rattle.std.specs.Prelude.{◌≡◌, ℕ, List, [], ◌∷◌}
use Rattle.drv_chains.specs.declared.members.QueueHead.{QueueHead}
use Rattle.drv_table.specs.DriverContent.{DriverContent}
use Rattle.claims_driver.specs.DueMembers.{IsPlacedQueue, queues_of}
use Rattle.law_budgets.specs.visit_prices.Spent.{Visit, placed_as}

pub record IsVisitOf (d : DriverContent) (q : QueueHead) (v : Visit) : Type 0 where
  pub queue : IsPlacedQueue d q
  pub of : v.of ≡ placed_as queue.number queue.endpoint.desc queue.placement

abbrev pub AreVisitsOf : DriverContent → List QueueHead → List Visit → Type 0
AreVisitsOf d [] [] = Unit {0}
AreVisitsOf d (q ∷ qs) (v ∷ vs) = IsVisitOf d q v × AreVisitsOf d qs vs
AreVisitsOf d [] (v ∷ vs) = ⊥
AreVisitsOf d (q ∷ qs) [] = ⊥

abbrev pub VisitsDue : DriverContent → ℕ → List Visit → Type 0
VisitsDue d f vs = AreVisitsOf d (queues_of d.periodic.list.members.schedule f) vs
