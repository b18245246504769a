-- What the names of a script are, where its report is to tell its streams (USB 2.0, 5.5, 8.3.2.1 and 9.6.6).
--     HasItsNames s       the script fits; each name of it is that of one endpoint, with its way and its seat on the bus; and each device
--                         has an address of its own
--     TextsHaveNames      so it is of each script that a text spells
use Rattle.std.specs.Prelude.{ℕ, List}
use Rattle.script_types.specs.declared.scripts.Script.{Script}
use Rattle.script_text.specs.Faults.{Spells}
use Rattle.script_fits.specs.Fits.{IsFit}
use Rattle.bus_wire.specs.Bus.{fixed_of, opening_bus}
use Rattle.law_devices.specs.opening_senders.Own.{HasOwnDevices}
use Rattle.law_opened.specs.Opened.{OpensOnce, OpensFit}
use Rattle.law_world.specs.streams.taken_reports.Seats.{IsSeatedBus}

pub record HasItsNames (s : Script) : Type 0 where
  pub fit : IsFit s
  pub own : HasOwnDevices s
  pub once : OpensOnce s
  pub ways : OpensFit s
  pub seated : IsSeatedBus s (fixed_of s) (opening_bus s)

abbrev pub TextsHaveNames : Type 0
TextsHaveNames = (text : List ℕ) (s : Script) → Spells text s → HasItsNames s
