-- The tails of a driver's queues (EHCI 1.0, 4.10 and 4.10.2).
--     tail_of d e x             the address of the qTD at the end of endpoint e's queue, which isn't published
--     TailsStand ..             each queue that is met has its front, no further than its tail
use Rattle.std.specs.Prelude.{◌≡◌, ℕ, ◌-◌, ◌*◌, ◌==◌, List, length, slice_get, Option, Some, if◌then◌else◌}
use Rattle.drv_table.specs.declared.content.Endpoint.{Endpoint}
use Rattle.drv_table.specs.declared.content.Transfer.{Transfer}
use Rattle.drv_table.specs.declared.content.Command.{Command}
use Rattle.drv_table.specs.declared.content.Command.TheVariants as unfinished
use Rattle.drv_table.specs.DriverContent.{DriverContent}
use Rattle.law_structures.specs.lent_structures.Structures.{StructureSets}
use Rattle.law_driver_ring.specs.fed_queues.Places.{IsMet}
use Rattle.law_queues.specs.standing_fronts.Reaching.{Reaches}

-- while the newest transfer is being published its first qTD is the tail, and else the inactive one at the end
abbrev pub tail_block : Option Command → Option Transfer → ℕ → ℕ → ℕ
tail_block (Some (unfinished.Publish b words)) (Some y) e dummy = if y.endpoint == e then b else dummy
tail_block _ _ e dummy = dummy

abbrev pub tail_of : DriverContent → ℕ → Endpoint → ℕ
tail_of d e x = 32 * tail_block d.command (slice_get d.transfers (length d.transfers - 1)) e x.dummy

abbrev pub TailsStand : DriverContent → StructureSets → (ℕ → ℕ → ℕ) → (ℕ → List ℕ) → Type 0
TailsStand d parts order out =
    (e : ℕ) (x : Endpoint) → slice_get d.endpoints e ≡ Some x → IsMet d e x
    → Reaches d (parts (32 * x.queue)) (order (32 * x.queue)) (out (32 * x.queue)) e x (tail_of d e x)
