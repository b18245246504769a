-- At each moment of a script's run the controller's next event reads and writes words of Lent blocks alone: whatever the other words hold,
-- it is the same (EHCI 1.0, 2.3.2, 4.6 and 4.10). What the driver's next event gives back is Free right after it, and a Free block holds
-- zeros.
--     WritesLentOnly m new      the words of each block that isn't Lent are the same, and so are the states of all blocks
--     AreFreeBlocksClean m      each word of a Free block is 0
--     AreSameWhereLent w v      the worlds are the same but for the words of blocks that aren't Lent
--     ReadsLentOnly fixed w     whatever the words of the blocks that aren't Lent are, the controller's next event leaves the same
--     KeepsToLent fixed w       its next event reads and writes so; what the driver's next event gives back is Free right after it, at
--                               the advance interrupt (4.8.2) as elsewhere; and Free blocks are clean
--     KeepsToLentThroughout s   .. at each moment of the run of a script: so, by the moments that follow, no word of what was given back is
--                               touched until it is lent again
use Rattle.std.specs.Prelude.{◌≡◌, ◌≢◌, ℕ, ◌+◌, ◌*◌, ◌<◌, length, slice_index, Some}
use Rattle.script_types.specs.declared.scripts.Script.{Script}
use Rattle.word_mem.specs.declared.blocks.BlockState.TheVariants.{Free, Lent}
use Rattle.word_mem.specs.Memory.{Mem, state_at}
use Rattle.drv_table.specs.Rows.{driver_row}
use Rattle.bus_wire.specs.Bus.{Fixed, fixed_of}
use Rattle.bus_world.specs.Budgets.{moment}
use Rattle.bus_world.specs.World.{World, driver_parts, driver_next, controller_next}
use Rattle.claims_base.specs.Controller.{IsSameWhereLent}
use Rattle.claims_driver.specs.Released.{IsReleased}

pub record WritesLentOnly (m new : Mem) : Type 0 where
  pub states : new.states ≡ m.states
  pub size : length new.words ≡ length m.words
  pub words : (b i : ℕ) → state_at m b ≢ Some Lent → i < 8 → slice_index new.words (8 * b + i) ≡ slice_index m.words (8 * b + i)

abbrev pub AreFreeBlocksClean : Mem → Type 0
AreFreeBlocksClean m = (b i : ℕ) → state_at m b ≡ Some Free → i < 8 → slice_index m.words (8 * b + i) ≡ 0

-- registers, copies in hand and the bus are the same, and so is what stands in Lent blocks
pub record AreSameWhereLent (w v : World) : Type 0 where
  pub registers : v.registers ≡ w.registers
  pub control : v.control ≡ w.control
  pub bus : v.bus ≡ w.bus
  pub memory : IsSameWhereLent w.memory v.memory

abbrev pub ReadsLentOnly : Fixed → World → Type 0
ReadsLentOnly fixed w = (m : Mem) → IsSameWhereLent w.memory m → AreSameWhereLent (controller_next fixed w) (controller_next fixed (record w { memory = m }))

pub record KeepsToLent (fixed : Fixed) (w : World) : Type 0 where
  pub reads : ReadsLentOnly fixed w
  pub writes : WritesLentOnly w.memory (controller_next fixed w).memory
  pub released : IsReleased w.driver (driver_next w).memory (driver_row (driver_parts w))
  pub clean : AreFreeBlocksClean w.memory

abbrev pub KeepsToLentThroughout : Script → Type 0
KeepsToLentThroughout s = (k : ℕ) → KeepsToLent (fixed_of s) (moment s k).world
