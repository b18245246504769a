-- The blocks of a transfer that was harvested are given back, and the tails of queues stay (EHCI 1.0, 4.10 and 4.10.2): each endpoint keeps its front, which
-- stands no further than its tail.
--     ReleaseKeepsReaches     the law
use Rattle.std.specs.Prelude.{ℕ, ◌*◌, Bool, List}
use Rattle.async_walk.specs.Walk.{Walk}
use Rattle.drv_table.specs.declared.content.Endpoint.{Endpoint}
use Rattle.drv_table.specs.declared.content.Transfer.{Transfer}
use Rattle.drv_table.specs.Parts.{Parts as DriverParts}
use Rattle.drv_table.specs.Rows.{after_driver_row}
use Rattle.law_structures.specs.lent_structures.Structures.{StructureSets}
use Rattle.law_ring.specs.Hand.{Hand}
use Rattle.claims_base.specs.Controller.{Base}
use Rattle.law_ring.specs.Fewer.{without_those}
use Rattle.law_controller.specs.controlled_streams.Returned.{staying_of}
use Rattle.law_driver_ring.specs.Released.{goes_of, release_row}
use Rattle.law_queues.specs.released_queues.Released.{IsReturning, ReleaseStands}
use Rattle.law_queues.specs.standing_fronts.Reaching.{Reaches}

abbrev pub ReleaseKeepsReaches : Type 0
ReleaseKeepsReaches = (base : Base) (member : ℕ → Bool) (parts : StructureSets) (hand : Hand) (w : Walk) (p : DriverParts) (order : ℕ → ℕ → ℕ) (out : ℕ → List ℕ) (t : ℕ) (y : Transfer) (x : Endpoint)
    → ReleaseStands base member parts hand w p order out → IsReturning p.driver t y x
    → (i : ℕ) (z : Endpoint) (c : ℕ) → Reaches p.driver (parts (32 * z.queue)) (order (32 * z.queue)) (out (32 * z.queue)) i z c
    → Reaches (after_driver_row (release_row t) p).driver (without_those parts (32 * x.queue) (goes_of p.driver y) (32 * z.queue)) (order (32 * z.queue))
    (staying_of (32 * x.queue) (goes_of p.driver y) out (32 * z.queue)) i z c
