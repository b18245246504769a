-- Nothing that stays in a queue of the ring leads to what goes, or needs it.
use Rattle.std.proofs.Common.{◌≡◌, ℕ, ◌*◌, Bool, false, List, Some}
use Rattle.qh_qtd.specs.declared.queue_head.Qh.{Qh}
use Rattle.async_walk.specs.Walk.{Walk}
use Rattle.drv_table.specs.declared.content.Endpoint.{Endpoint}
use Rattle.drv_table.specs.declared.content.Transfer.{Transfer}
use Rattle.drv_table.specs.Parts.{Parts as DriverParts}
use Rattle.law_structures.specs.lent_structures.Structures.{QueueHead, StructureSets}
use Rattle.law_ring.specs.Hand.{Hand}
use Rattle.claims_base.specs.Controller.{Base}
use Rattle.law_ring.specs.Fewer.{MayGo}
use Rattle.law_controller.specs.controlled_streams.Returned.{KeepsBuffers}
use Rattle.law_driver_ring.specs.Released.{goes_of}
use Rattle.law_queues.specs.released_queues.Released.{IsReturning, ReleaseStands}
use Rattle.law_queues.proofs.lemmas.released_queues.Queues.{told_of, part_of}
use Rattle.law_queues.proofs.lemmas.released_queues.StayingParts.{head_stays as any_head, buffers_stay as any_buffers, may_go as any_may}

module _ (base : Base) (member : ℕ → Bool) (parts : StructureSets) (hand : Hand) (w : Walk) (p : DriverParts) (order : ℕ → ℕ → ℕ) (out : ℕ → List ℕ) (t : ℕ) (y : Transfer) (x : Endpoint) (s : ReleaseStands base member parts hand w p order out) (k : IsReturning p.driver t y x) where
  pub buffers_stay : KeepsBuffers (goes_of p.driver y) (parts (32 * x.queue))
  buffers_stay = any_buffers parts p order out t y x (told_of base member parts hand w p order out s) k (part_of base member parts hand w p order out t y x s k)

  pub head_stays : goes_of p.driver y (32 * x.queue) ≡ false
  head_stays = any_head parts p order out t y x (told_of base member parts hand w p order out s) k (part_of base member parts hand w p order out t y x s k)

  pub may_go : (q : Qh) → parts (32 * x.queue) (32 * x.queue) ≡ Some (QueueHead q) → MayGo (goes_of p.driver y) (32 * x.queue) (parts (32 * x.queue)) q
  may_go = any_may parts p order out t y x (told_of base member parts hand w p order out s) k (part_of base member parts hand w p order out t y x s k)
