-- A new world's control endpoints (USB 2.0, 8.5.3).
--     IsFirst s g                what a script has for its control endpoints is the devices of its bus
use Rattle.std.specs.Prelude.{◌≡◌, ℕ, Some}
use Rattle.script_types.specs.declared.scripts.Script.{Script}
use Rattle.bus_wire.specs.Bus.{opening_wired}
use Rattle.claims_report.specs.ControlSides.{Device}
use Rattle.law_devices.specs.Controls.{control_of}
use Rattle.law_reports.specs.requests.Asking.{Sides}

abbrev pub IsFirst : Script → Sides → Type 0
IsFirst s g = (addr num : ℕ) (c : Device) → g.first addr num ≡ Some c → control_of (opening_wired s) addr num ≡ Some c
