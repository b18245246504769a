-- The two stores of the ring, by where links lead before them and after them (EHCI 1.0, 4.8.1 and 4.8.2), and what every other event of the driver leaves of the ring.
--     IsJoined m mem n          the queue head at n led to where the head of the ring did, and the head leads to it then; each other link stays
--     OpenStoreJoins            so it is at the store of an open
--     IsPassed m mem p n        p led to n, and then leads to where n does; each other link stays
--     PassesEndpoint ..         n is the queue head of this endpoint
--     UnlinkStorePasses         so it is at the store of a cancel
--     EachRowLeavesReached      the walk may reach the same queue heads after each event of the driver: one that leaves the ring waits for the doorbell, and its batch was left
--                               out by the answer already when Async Advance is cleared
--     is_splice o row           the row is one of these two stores; `o`: the unfinished command
--     RowsLeaveLinks            each other event leaves the links of the queue heads that the walk may reach
--     RingAfter w new           the walk may reach those that it could, with their links, and any other leads to where the head of the ring does
--     CommandsLeaveRing         so it is after each command, accepted or refused
use Rattle.std.specs.Prelude.{◌≡◌, ◌≢◌, ◌⊎◌, ℕ, ◌*◌, Bool, true, false, slice_get, Option, Some}
use Rattle.usb_base.specs.declared.commands.Cmd.{Cmd}
use Rattle.word_mem.specs.Memory.{Mem}
use Rattle.drv_table.specs.declared.content.Command.{Command}
use Rattle.drv_table.specs.declared.content.Command.TheVariants as unfinished
use Rattle.drv_table.specs.declared.content.Endpoint.{Endpoint}
use Rattle.drv_table.specs.declared.rows.DriverRow.{DriverRow}
use Rattle.drv_table.specs.declared.rows.DriverRow.TheVariants as rows
use Rattle.drv_table.specs.DriverContent.{DriverContent}
use Rattle.drv_table.specs.Offers.{IsOffered}
use Rattle.drv_table.specs.Rows.{driver_row}
use Rattle.law_queues.specs.reached_rings.Reaching.{is_reached}
use Rattle.bus_world.specs.World.{World, driver_parts, driver_next, commanded}
use Rattle.law_world.specs.memory.Mixed.{Standing, IsMixedAt}
use Rattle.law_microframes.specs.visits.Ranks.{next_of}
use Rattle.law_microframes.specs.time.Heights.{head_at}

-- ---- an open (4.8.1)

pub record IsJoined (m mem : Mem) (n : ℕ) : Type 0 where
  pub led : next_of m n ≡ next_of m head_at
  pub leads : next_of mem head_at ≡ Some n
  pub others : (b : ℕ) → 32 * b ≢ head_at → next_of mem (32 * b) ≡ next_of m (32 * b)

abbrev pub OpenStoreJoins : Type 0
OpenStoreJoins = (s : Standing) (w : World) (queue b at v : ℕ) → IsMixedAt s w → w.driver.command ≡ Some (unfinished.Open queue) → driver_row (driver_parts w) ≡ rows.Store b at v
    → IsJoined w.memory (driver_next w).memory (32 * queue)

-- ---- a cancel (4.8.2)

pub record IsPassed (m mem : Mem) (p n : ℕ) : Type 0 where
  pub led : next_of m p ≡ Some n
  pub leads : next_of mem p ≡ next_of m n
  pub others : (b : ℕ) → 32 * b ≢ p → next_of mem (32 * b) ≡ next_of m (32 * b)

pub record PassesEndpoint (d : DriverContent) (m mem : Mem) (e p : ℕ) : Type 0 where
  pub endpoint : Endpoint
  pub here : slice_get d.endpoints e ≡ Some endpoint
  pub passed : IsPassed m mem p (32 * endpoint.queue)

abbrev pub UnlinkStorePasses : Type 0
UnlinkStorePasses = (s : Standing) (w : World) (e f link b at v : ℕ) → IsMixedAt s w → w.driver.command ≡ Some (unfinished.Unlink e f link) → driver_row (driver_parts w) ≡ rows.Store b at v
    → PassesEndpoint w.driver w.memory (driver_next w).memory e (32 * f)

-- ---- every other event

abbrev pub EachRowLeavesReached : Type 0
EachRowLeavesReached = (s : Standing) (w : World) → IsMixedAt s w → (n : ℕ)
    → is_reached (driver_next w).driver (driver_next w).registers.doorbell n ≡ is_reached w.driver w.registers.doorbell n

abbrev pub stores_ring : Option Command → Bool
stores_ring (Some (unfinished.Open queue)) = true
stores_ring (Some (unfinished.Unlink e b link)) = true
stores_ring _ = false

abbrev pub is_splice : Option Command → DriverRow → Bool
is_splice o (rows.Store b at v) = stores_ring o
is_splice o _ = false

abbrev pub RowsLeaveLinks : Type 0
RowsLeaveLinks = (s : Standing) (w : World) → IsMixedAt s w → is_splice w.driver.command (driver_row (driver_parts w)) ≡ false → (n : ℕ)
    → is_reached w.driver w.registers.doorbell n ≡ true → next_of (driver_next w).memory n ≡ next_of w.memory n

-- ---- a command

pub record RingAfter (w new : World) : Type 0 where
  pub reached : (n : ℕ) → is_reached w.driver w.registers.doorbell n ≡ true → is_reached new.driver new.registers.doorbell n ≡ true
  pub links : (n : ℕ) → is_reached w.driver w.registers.doorbell n ≡ true → next_of new.memory n ≡ next_of w.memory n
  pub more : (n : ℕ) → is_reached new.driver new.registers.doorbell n ≡ true → (is_reached w.driver w.registers.doorbell n ≡ true) ⊎ (next_of new.memory n ≡ next_of new.memory head_at)

abbrev pub CommandsLeaveRing : Type 0
CommandsLeaveRing = (s : Standing) (w : World) (line : ℕ) (cmd : Cmd) → IsOffered w.driver.room cmd → IsMixedAt s w → RingAfter w (commanded w line cmd)
