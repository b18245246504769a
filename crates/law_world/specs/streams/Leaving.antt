-- The store by which a cancelled endpoint's queue head leaves the ring, in a world whose endpoints are bulk and control ones (EHCI 1.0, 4.8.2): the walk may still meet
-- it, so the same queue heads are met, with the same streams, and of each the same is told.
--     UnlinkFinds              while the cancel is unfinished, that store is the driver's next event
--     unlinked s k             what stands after it: the queue head before leads past that of the endpoint, in memory and in hand
--     UnlinkFeeds              the law
--     UnlinkTells              the law: fronts, tails and what is told of each queue that has a stream stand
use Rattle.std.specs.Prelude.{◌≡◌, ℕ, Bool, Some}
use Rattle.bus_wire.specs.Bus.{Fixed}
use Rattle.drv_table.specs.declared.content.Command.TheVariants as unfinished
use Rattle.drv_table.specs.DriverContent.{DriverContent}
use Rattle.bus_world.specs.World.{World, driver_next}
use Rattle.law_world.specs.steps.Streaming.{Streams, Standing}
use Rattle.law_world.specs.steps.unlinked_streams.Unlinks.{IsAtUnlink, parts_unlinked, hand_unlinked}
use Rattle.law_queues.specs.harvest_laws.Told.{ToldStands}
use Rattle.law_world.specs.steps.left_queues.Standing.{IdleTailsStand}
use Rattle.law_world.specs.streams.Feeding.{IsFeeding}

abbrev pub UnlinkFinds : Type 0
UnlinkFinds = (fixed : Fixed) (member : ℕ → Bool) (x : Streams) (s : Standing) (w : World) (e before link : ℕ)
    → w.driver.command ≡ Some (unfinished.Unlink e before link) → w.driver.made ≡ 0 → IsFeeding fixed member x s w → IsAtUnlink w.driver member s.parts

abbrev pub unlinked : {d : DriverContent} {member : ℕ → Bool} (s : Standing) → IsAtUnlink d member s.parts → Standing
unlinked s k = record s { parts = parts_unlinked s.parts k.before k.queue k.after; hand = hand_unlinked s.hand k.before k.after }

abbrev pub UnlinkFeeds : Type 0
UnlinkFeeds = (fixed : Fixed) (member : ℕ → Bool) (x : Streams) (s : Standing) (w : World) → (k : IsAtUnlink w.driver member s.parts) → IsFeeding fixed member x s w
    → IsFeeding fixed member x (unlinked s k) (driver_next w)

abbrev pub UnlinkTells : Type 0
UnlinkTells = (member : ℕ → Bool) (s : Standing) (w : World) → (k : IsAtUnlink w.driver member s.parts) → IdleTailsStand w.driver s.parts s.order s.out → ToldStands w.driver s.hand s.parts s.reported
    → IdleTailsStand (driver_next w).driver (unlinked s k).parts s.order s.out × ToldStands (driver_next w).driver (unlinked s k).hand (unlinked s k).parts s.reported
