-- What goes along a run with the recorded windows (EHCI 1.0, 4.10; USB 2.0, 8.5.3): what each event and each such command keeps of worlds, windows and
-- requests holds at each moment of them.
--     KindOfLine can l             a line's command, if any, can be of this kind
--     IsKeptWithWindows ..         each event, and each such command for which there is room, keeps it
--     HoldsWithWindows can holds   the law
use Rattle.std.specs.Prelude.{ℕ}
use Rattle.std.specs.List.{AllByRecursion}
use Rattle.usb_base.specs.declared.commands.Cmd.{Cmd}
use Rattle.script_types.specs.declared.scripts.Line.{Line}
use Rattle.script_types.specs.declared.scripts.Line.TheVariants as lines
use Rattle.script_types.specs.declared.scripts.Script.{Script}
use Rattle.script_fits.specs.Fits.{IsFit}
use Rattle.bus_wire.specs.Bus.{Fixed, fixed_of}
use Rattle.drv_table.specs.Offers.{IsOffered}
use Rattle.claims_report.specs.Requests.{Request}
use Rattle.bus_world.specs.World.{World, driver_next, controller_next, commanded}
use Rattle.bus_world.specs.Opening.{opening_world}
use Rattle.bus_world.specs.Budgets.{moment}
use Rattle.claims_world.specs.Requests.{Windows, no_windows, after_event, windows_at, no_asks, asks_then, asks_at}

abbrev pub KindOfLine : (Cmd → Type 0) → Line → Type 0
KindOfLine can (lines.Command cmd) = can cmd
KindOfLine can _ = Unit {0}

pub record IsKeptWithWindows (fixed : Fixed) (can : Cmd → Type 0) (holds : World → Windows → (ℕ → Request) → Type 0) : Type 0 where
  pub driver : (w : World) (v : Windows) (asks : ℕ → Request) → holds w v asks → holds (driver_next w) v asks
  pub controller : (w : World) (v : Windows) (asks : ℕ → Request) → holds w v asks → holds (controller_next fixed w) (after_event fixed w v) asks
  pub command : (w : World) (line : ℕ) (cmd : Cmd) (v : Windows) (asks : ℕ → Request) → can cmd → IsOffered w.driver.room cmd → holds w v asks
      → holds (commanded w line cmd) v (asks_then w.driver cmd asks)

abbrev pub HoldsWithWindows : (Cmd → Type 0) → (World → Windows → (ℕ → Request) → Type 0) → Type 0
HoldsWithWindows can holds = (s : Script) → IsFit s → AllByRecursion (λ line. KindOfLine can line.1) s.lines → holds (opening_world s) no_windows no_asks
    → IsKeptWithWindows (fixed_of s) can holds → (k : ℕ) → holds (moment s k).world (windows_at s k) (asks_at s k)
