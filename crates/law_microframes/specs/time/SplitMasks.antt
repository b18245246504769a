-- What a driver places is allowed, and so the masks of an endpoint below a hub are of one form (EHCI 1.0, 4.12.2.1 and 4.12.3.1; USB 2.0, 11.18).
--     HasSplitMasks p       no microframe of the C-mask stands in the S-mask, and those of the S-mask come one after the other
--     AllowedAreSplit       so it is of each allowed placement of an endpoint below a hub
--     NewIsAllowed, EventsKeepAllowed, CommandsKeepAllowed     all that is placed is allowed in a driver that was just built, after each of its events and after each accepted command
--     ScriptsKeepAllowed    so it is at each moment of each script that fits
use Rattle.std.specs.Prelude.{◌≡◌, ℕ, ◌<◌, ◌≤◌, true, false, Ok}
use Rattle.usb_base.specs.declared.commands.Cmd.{Cmd}
use Rattle.script_types.specs.declared.scripts.Script.{Script}
use Rattle.script_fits.specs.Fits.{IsFit}
use Rattle.word_mem.specs.Memory.{Mem}
use Rattle.bandwidth.specs.declared.placements.Placed.{Placed}
use Rattle.bandwidth.specs.declared.placements.Placement.{Placement}
use Rattle.bandwidth.specs.Placements.{has, first_in, is_classic}
use Rattle.drv_table.specs.DriverContent.{DriverContent}
use Rattle.drv_table.specs.Accepting.{Offered}
use Rattle.drv_table.specs.Offers.{offered}
use Rattle.drv_table.specs.Parts.{Parts}
use Rattle.drv_table.specs.Rows.{driver_row, after_driver_row}
use Rattle.bus_world.specs.Opening.{opening_world}
use Rattle.bus_world.specs.Budgets.{moment}
use Rattle.claims_world.specs.FrameHeads.{IsAllowed, AreAllowed}

pub record HasSplitMasks (p : Placement) : Type 0 where
  pub apart : (u : ℕ) → u < 8 → has p.cmask u ≡ true → has p.smask u ≡ false
  pub whole : (i u : ℕ) → first_in p.smask ≤ i → i < u → u < 8 → has p.smask u ≡ true → has p.smask i ≡ true

abbrev pub AllowedAreSplit : Type 0
AllowedAreSplit = (y : Placed) → IsAllowed y → is_classic y.want.speed ≡ true → HasSplitMasks y.placement

-- ---- the plan

abbrev pub NewIsAllowed : Type 0
NewIsAllowed = (s : Script) → AreAllowed (opening_world s).driver

abbrev pub EventsKeepAllowed : Type 0
EventsKeepAllowed = (p : Parts) → AreAllowed p.driver → AreAllowed (after_driver_row (driver_row p) p).driver

abbrev pub CommandsKeepAllowed : Type 0
CommandsKeepAllowed = (d : DriverContent) (m : Mem) (cmd : Cmd) (o : Offered) → AreAllowed d → offered d m cmd ≡ Ok o → AreAllowed o.driver

abbrev pub ScriptsKeepAllowed : Type 0
ScriptsKeepAllowed = (s : Script) → IsFit s → (k : ℕ) → AreAllowed (moment s k).world.driver
