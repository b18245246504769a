-- The store that a stalled control endpoint is owed, in a world whose endpoints are bulk and control ones (EHCI 1.0, 3.6.3 and 4.10.3; USB 2.0, 8.5.3.4): its queue
-- head goes out of the halt, in three stores. It is halted until the last of these, so no other queue head, and nothing that is told of a stream, changes.
--     MendFinds                where the driver's next event is such a store, a stalled queue is owed it
--     mended s k               what stands after it: the queue head after the store, in memory, and a copy in hand that may be older
--     MendFeeds                the law: each queue is fed as before
--     MendTells                the law: fronts, tails and what is told of each queue that has a stream stand
--     MendKeepsTaking          the law: both sides of the pipes of OUT endpoints agree
use Rattle.std.specs.Prelude.{◌≡◌, ℕ, Bool}
use Rattle.bus_wire.specs.Bus.{Fixed}
use Rattle.drv_table.specs.declared.content.Mend.{Mend}
use Rattle.drv_table.specs.declared.rows.DriverRow.TheVariants as rows
use Rattle.drv_table.specs.Parts.{Parts as DriverParts}
use Rattle.drv_table.specs.Rows.{driver_row}
use Rattle.law_queues.specs.harvest_laws.Told.{ToldStands}
use Rattle.law_queues.specs.mended_heads.Mended.{IsAtMend, parts_then, hand_then}
use Rattle.law_world.specs.steps.left_queues.Standing.{IdleTailsStand}
use Rattle.bus_world.specs.World.{World, driver_parts, driver_next}
use Rattle.law_world.specs.steps.Streaming.{Streams, Standing}
use Rattle.law_world.specs.streams.Feeding.{IsFeeding}
use Rattle.law_world.specs.streams.Taking.{IsTaking}

abbrev pub MendFinds : Type 0
MendFinds = (fixed : Fixed) (member : ℕ → Bool) (x : Streams) (s : Standing) (w : World) (m : Mend) → driver_row (driver_parts w) ≡ rows.Mend m → IsFeeding fixed member x s w
    → IsAtMend (driver_parts w) s.parts s.out

abbrev pub mended : {p : DriverParts} (s : Standing) → IsAtMend p s.parts s.out → Standing
mended s k = record s { parts = parts_then k; hand = hand_then k s.hand }

abbrev pub MendFeeds : Type 0
MendFeeds = (fixed : Fixed) (member : ℕ → Bool) (x : Streams) (s : Standing) (w : World) → (k : IsAtMend (driver_parts w) s.parts s.out) → IsFeeding fixed member x s w
    → IsFeeding fixed member x (mended s k) (driver_next w)

-- no command is unfinished, so the tail of each queue is the inactive qTD at its end
abbrev pub MendTells : Type 0
MendTells = (fixed : Fixed) (member : ℕ → Bool) (x : Streams) (s : Standing) (w : World) → (k : IsAtMend (driver_parts w) s.parts s.out) → IsFeeding fixed member x s w
    → IdleTailsStand w.driver s.parts s.order s.out → ToldStands w.driver s.hand s.parts s.reported
    → IdleTailsStand (driver_next w).driver (mended s k).parts s.order s.out × ToldStands (driver_next w).driver (mended s k).hand (mended s k).parts s.reported

abbrev pub MendKeepsTaking : Type 0
MendKeepsTaking = (fixed : Fixed) (takes : ℕ → ℕ → Bool) (member : ℕ → Bool) (x : Streams) (s : Standing) (w : World) → (k : IsAtMend (driver_parts w) s.parts s.out)
    → IsFeeding fixed member x s w → IsTaking fixed takes member x s w → IsTaking fixed takes member x (mended s k) (driver_next w)
