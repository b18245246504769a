-- A run of a driver beside a controller (EHCI 1.0, 3.6.3 and 4.10): commands are offered, the driver has its events, and between any two the
-- controller may write what is lent to it.
--     IsElsewhere d m new     what the controller may make of the memory: states and Free blocks stay, and of each queue head the first three
--                             words, which it never writes
--     Move                    one move of a run
--     moved p move            what stands after it
--     IsAllowed p move        there is room for the command; the controller's writes are such
--     run p moves, AreAllowed p moves        .. and of a whole run
--     StaysInPlace p moves    everything is in place once these moves were made
use Rattle.std.specs.Prelude.{◌≡◌, ℕ, ◌+◌, ◌*◌, ◌<◌, List, [], ◌∷◌, length, slice_get, slice_index, Some, Result, Ok, Err}
use Rattle.usb_base.specs.declared.commands.Cmd.{Cmd}
use Rattle.usb_base.specs.declared.reports.OfferError.{OfferError}
use Rattle.word_mem.specs.Memory.{Mem, word_at}
use Rattle.word_mem.specs.declared.blocks.BlockState.TheVariants.{Free}
use Rattle.op_registers.specs.RegisterFile.{RegisterFile}
use Rattle.drv_table.specs.DriverContent.{DriverContent}
use Rattle.drv_table.specs.Accepting.{Offered}
use Rattle.drv_table.specs.Offers.{offered, IsOffered}
use Rattle.drv_table.specs.Parts.{Parts}
use Rattle.drv_table.specs.Rows.{driver_row, after_driver_row}
use Rattle.law_driver.specs.queue_head_words.Overlay.{HasQueueHead}
use Rattle.law_driver.specs.in_place.InPlace.{IsInPlace}

pub record IsElsewhere (d : DriverContent) (m new : Mem) : Type 0 where
  pub states : new.states ≡ m.states
  pub size : length new.words ≡ length m.words
  pub free : (b i : ℕ) → slice_get m.states b ≡ Some Free → i < 8 → slice_index new.words (8 * b + i) ≡ slice_index m.words (8 * b + i)
  pub heads : (b i : ℕ) → HasQueueHead d b → i < 3 → word_at new (32 * b + 4 * i) ≡ word_at m (32 * b + 4 * i)

pub data Move : Type 0 where
  Offer : Cmd → Move
  Event : Move
  Controller : RegisterFile → Mem → Move

abbrev pub accepted : Parts → Result Offered OfferError → Parts
accepted p (Ok o) = record p { driver = o.driver; memory = o.memory }
accepted p (Err why) = p

abbrev pub moved : Parts → Move → Parts
moved p (Offer cmd) = accepted p (offered p.driver p.memory cmd)
moved p Event = after_driver_row (driver_row p) p
moved p (Controller registers memory) = record p { registers = registers; memory = memory }

abbrev pub IsAllowed : Parts → Move → Type 0
IsAllowed p (Offer cmd) = IsOffered p.driver.room cmd
IsAllowed p Event = Unit {0}
IsAllowed p (Controller registers memory) = IsElsewhere p.driver p.memory memory

unfoldable pub run : Parts → List Move → Parts
run p [] = p
run p (move ∷ moves) = run (moved p move) moves

unfoldable pub AreAllowed : Parts → List Move → Type 0
AreAllowed p [] = Unit {0}
AreAllowed p (move ∷ moves) = IsAllowed p move × AreAllowed (moved p move) moves

abbrev pub StaysInPlace : Parts → List Move → Type 0
StaysInPlace p moves = AreAllowed p moves → IsInPlace (run p moves).memory (run p moves).driver
