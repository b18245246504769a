-- What left the ring or the frame list is given back only after the controller has shown that it let go of it (EHCI 1.0, 2.3.2, 2.3.4, 4.6 and 4.8.2): a
-- queue head of the ring after the doorbell was rung since its unlinking and USBSTS was then read with Async Advance; what stood in the frame list after two
-- readings of FRINDEX since then, with different frame numbers. What is given back the controller touches no more until it is lent again.
--     is_drivers orders       the next event is one of the driver
--     Does s k row            event k of the run of a script is this row of the driver
--     LeavesRing xs ys e      endpoint e of these is linked in the ring before an event, and not after it
--     LeavesFrames xs ys e    .. in the frame list
--     IsUnlinkedAt s k what   by event k this has left the frame list: a descriptor by its one store, an endpoint by its last one
--     frindex_read row p      what the row reads of FRINDEX
--     Reads s k n             event k of the run reads this there
--     HeardAdvance s e k      before event k endpoint e left the ring, then the doorbell was rung, then Async Advance was read
--     SawTwoFrames s what k   before event k this left the frame list, and then two frame numbers were read that differ
--     IsLetGo s k             what event k of the run gives back was let go so
--     GivesBackLast s         so it is at each event of the run of a script
--     IsGivenBack s k b       event k gives block b back: it is Lent before, and Free after
--     IsUnlentSince s k i b   block b isn't Lent at any moment behind event k, up to moment i
--     IsSameBut b m n         the memories agree in all but the words of block b
--     LeavesBlock fixed w b   the controller's next event writes no word of block b, and whatever these words are, it leaves the same
--     StaysUntouched s        so it leaves what a script's run gave back, until it is lent again
use Rattle.std.specs.Prelude.{◌≡◌, ◌≢◌, ℕ, suc, ◌+◌, ◌*◌, ◌/◌, ◌<◌, ◌≤◌, Bool, true, false, List, [], ◌∷◌, length, slice_get, slice_index}
use Rattle.std.specs.Prelude.{Option, Some, None}
use Rattle.script_types.specs.declared.scripts.Event.TheVariants as events
use Rattle.script_types.specs.declared.scripts.Script.{Script}
use Rattle.word_mem.specs.declared.blocks.BlockState.TheVariants.{Free, Lent}
use Rattle.word_mem.specs.Memory.{Mem, state_at, word_at}
use Rattle.drv_chains.specs.Boundary.{frame_number}
use Rattle.drv_periodic_table.specs.declared.content.Removed.{Removed}
use Rattle.drv_periodic_table.specs.declared.content.Removed.TheVariants as removed
use Rattle.drv_table.specs.declared.content.Endpoint.{Endpoint}
use Rattle.drv_table.specs.declared.rows.DriverRow.{DriverRow}
use Rattle.drv_table.specs.declared.rows.DriverRow.TheVariants as rows
use Rattle.drv_table.specs.Parts.{Parts}
use Rattle.drv_table.specs.Rows.{driver_row}
use Rattle.bus_world.specs.Orders.{Left, Events, Microframes, Answer, Command, Plugs}
use Rattle.bus_world.specs.World.{World, controller_next, driver_parts}
use Rattle.bus_world.specs.Budgets.{moment}
use Rattle.bus_wire.specs.Bus.{Fixed, fixed_of}
use Rattle.claims_world.specs.Lent.{AreSameWhereLent}

-- each event of the controller in a microframe is followed by one of the driver
abbrev pub is_drivers : List Left → Bool
is_drivers [] = false
is_drivers (Events events.D (suc n) ∷ rest) = true
is_drivers (Answer ended n ∷ rest) = true
is_drivers (_ ∷ rest) = false

pub record Does (s : Script) (k : ℕ) (row : DriverRow) : Type 0 where
  pub turn : is_drivers (moment s k).orders ≡ true
  pub row_is : driver_row (driver_parts (moment s k).world) ≡ row

-- ---- what is unlinked

pub record LeavesRing (xs ys : List Endpoint) (e : ℕ) : Type 0 where
  pub before : Endpoint
  pub after : Endpoint
  pub here : slice_get xs e ≡ Some before
  pub linked : before.linked ≡ true
  pub there : slice_get ys e ≡ Some after
  pub unlinked : after.linked ≡ false

pub record LeavesFrames (xs ys : List Endpoint) (e : ℕ) : Type 0 where
  pub before : Endpoint
  pub after : Endpoint
  pub here : slice_get xs e ≡ Some before
  pub linked : before.chained ≡ true
  pub there : slice_get ys e ≡ Some after
  pub unlinked : after.chained ≡ false

-- with nothing to unlink, the acceptance of its cancel takes an endpoint out of the frames
abbrev pub IsUnlinkedAt : Script → ℕ → Removed → Type 0
IsUnlinkedAt s k (removed.Descriptor t) = Does s k (rows.Unlink t)
IsUnlinkedAt s k (removed.Endpoint e) = LeavesFrames (moment s k).world.driver.endpoints (moment s (suc k)).world.driver.endpoints e

-- ---- what is read (2.3.4)

-- also where a command's descriptors get their frames
abbrev pub frindex_read : DriverRow → Parts → Option ℕ
frindex_read (rows.ReadFrame n) p = Some n
frindex_read rows.Frames p = Some p.registers.frame_index
frindex_read _ p = None

pub record Reads (s : Script) (k n : ℕ) : Type 0 where
  pub turn : is_drivers (moment s k).orders ≡ true
  pub reads : frindex_read (driver_row (driver_parts (moment s k).world)) (driver_parts (moment s k).world) ≡ Some n

-- ---- what is given back

pub record HeardAdvance (s : Script) (e k : ℕ) : Type 0 where
  pub unlinking : ℕ
  pub ringing : ℕ
  pub reading : ℕ
  pub left : LeavesRing (moment s unlinking).world.driver.endpoints (moment s (suc unlinking)).world.driver.endpoints e
  pub rang : Does s ringing rows.RingBell
  pub heard : Does s reading (rows.ReadStatus true)
  pub one : unlinking < ringing
  pub two : ringing < reading
  pub three : reading < k

pub record SawTwoFrames (s : Script) (what : Removed) (k : ℕ) : Type 0 where
  pub unlinking : ℕ
  pub first : ℕ
  pub second : ℕ
  pub n : ℕ
  pub m : ℕ
  pub left : IsUnlinkedAt s unlinking what
  pub read : Reads s first n
  pub again : Reads s second m
  pub differ : frame_number n ≢ frame_number m
  pub one : unlinking < first
  pub two : first < second
  pub three : second < k

pub record IsLetGo (s : Script) (k : ℕ) : Type 0 where
  pub ring : (e : ℕ) → Does s k (rows.ReleaseEndpoint e) → HeardAdvance s e k
  pub frames : (what : Removed) → Does s k (rows.ReleaseRemoved what) → SawTwoFrames s what k

abbrev pub GivesBackLast : Script → Type 0
GivesBackLast s = (k : ℕ) → IsLetGo s k

-- ---- afterwards

pub record IsGivenBack (s : Script) (k b : ℕ) : Type 0 where
  pub lent : state_at (moment s k).world.memory b ≡ Some Lent
  pub free : state_at (moment s (suc k)).world.memory b ≡ Some Free

abbrev pub IsUnlentSince : Script → ℕ → ℕ → ℕ → Type 0
IsUnlentSince s k i b = (j : ℕ) → k < j → j ≤ i → state_at (moment s j).world.memory b ≢ Some Lent

pub record IsSameBut (b : ℕ) (m n : Mem) : Type 0 where
  pub states : n.states ≡ m.states
  pub size : length n.words ≡ length m.words
  pub refusals : n.foreign ≡ m.foreign
  pub words : (at : ℕ) → at / 32 ≢ b → word_at n at ≡ word_at m at

pub record LeavesBlock (fixed : Fixed) (w : World) (b : ℕ) : Type 0 where
  pub writes : (i : ℕ) → i < 8 → slice_index (controller_next fixed w).memory.words (8 * b + i) ≡ slice_index w.memory.words (8 * b + i)
  pub reads :
      (m : Mem) → IsSameBut b w.memory m
      → AreSameWhereLent (controller_next fixed w) (controller_next fixed (record w { memory = m }))

abbrev pub StaysUntouched : Script → Type 0
StaysUntouched s = (k b i : ℕ) → IsGivenBack s k b → k < i → IsUnlentSince s k i b → LeavesBlock (fixed_of s) (moment s i).world b
