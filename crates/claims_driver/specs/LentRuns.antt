-- Which runs the controller may touch (EHCI 1.0, 3): all that the driver has, but those that the unfinished command took and has still to lend.
--     begins_in b bs       one of these runs begins in block b
--     still_lends c made   the command has still to lend what it took, once so many of its events were made
--     AreLent d            a run that is kept was taken last, and what was taken last is what the command has still to lend
--     IsLent s             the slot's run is lent
use Rattle.std.specs.List.{list_any}
use Rattle.std.specs.Prelude.{◌≡◌, ℕ, Bool, ◌==◌, true, false, List, [], drop, Option, Some, None}
use Rattle.word_mem.specs.Runs.{Run}
use Rattle.mem_runs.specs.declared.slots.Slot.{Slot}
use Rattle.mem_runs.specs.declared.slots.Slot.TheVariants.{Empty, Keeps, Lends}
use Rattle.mem_runs.specs.Book.{slot_of}
use Rattle.drv_table.specs.declared.content.Command.{Command}
use Rattle.drv_table.specs.declared.rows.DriverRow.{DriverRow}
use Rattle.drv_table.specs.declared.rows.DriverRow.TheVariants as rows
use Rattle.drv_table.specs.DriverContent.{DriverContent}
use Rattle.drv_table.specs.Commands.{events_of}

abbrev pub begins_in : ℕ → List ℕ → Bool
begins_in b bs = list_any (λ c. c == b) bs

abbrev pub is_lending : DriverRow → Bool
is_lending rows.Lend = true
is_lending rows.LendDescriptors = true
is_lending _ = false

abbrev pub still_lends : Option Command → ℕ → Bool
still_lends None made = false
still_lends (Some c) made = list_any is_lending (drop made (events_of c))

pub record AreLent (d : DriverContent) : Type 0 where
  pub kept : (b : ℕ) (r : Run) → slot_of d.book.slots b ≡ Keeps r → begins_in b d.book.taken ≡ true
  pub lent : still_lends d.command d.made ≡ false → d.book.taken ≡ []

abbrev pub IsLent : Slot → Type 0
IsLent Empty = ⊥
IsLent (Keeps r) = ⊥
IsLent (Lends r) = Unit {0}
