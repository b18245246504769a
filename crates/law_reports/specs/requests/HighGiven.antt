-- What a script has for its control endpoints at high speed, whatever else it opens, and what its lines ask of them (USB 2.0, 5.5, 8.5.3
-- and 9.4); and a script for
-- worked rows.
--     high_sides_of s      for each control endpoint of a device that is no hub, and stands behind none, what `sides_of` has
--     SuitsLine g line     the command of a line suits
--     TextsSuit            so does each line of a script that a text spells
--     beat                 an interrupt endpoint of device 3
--     beside_interrupt     a script that opens device 3's control endpoint and this one, asks for 18 bytes, and cancels the control
--     endpoint
use Rattle.std.specs.Prelude.{ℕ, ◌&&◌, not, Bool, List, [], ◌∷◌, None, is_some}
use Rattle.std.specs.List.{AllByRecursion}
use Rattle.usb_base.specs.declared.commands.Cmd.TheVariants as commands
use Rattle.usb_base.specs.declared.endpoints.EpDesc.{EpDesc}
use Rattle.usb_base.specs.declared.packets.EpKind.TheVariants as kinds
use Rattle.usb_base.specs.declared.packets.Speed.TheVariants as speeds
use Rattle.usb_base.specs.declared.packets.Way.TheVariants as ways
use Rattle.script_types.specs.declared.scripts.Line.{Line}
use Rattle.script_types.specs.declared.scripts.Line.TheVariants as lines
use Rattle.script_types.specs.declared.scripts.Script.{Script}
use Rattle.drv_table.specs.Words.{is_high}
use Rattle.script_text.specs.Faults.{Spells}
use Rattle.law_devices.specs.declared_controls.Samples.{zero, reading, beside_bulk, zero_text}
use Rattle.law_reports.specs.requests.Asking.{Sides}
use Rattle.law_reports.specs.requests.Given.{is_of_device, its_kind, sides_of}
use Rattle.law_reports.specs.requests.HighAsking.{SuitsCommand}

abbrev pub is_high_device : Script → EpDesc → Bool
is_high_device s x = is_of_device s x && not (is_some x.hub)

abbrev pub high_sides_of : Script → Sides
high_sides_of s = record {
  asks = is_high_device s;
  controls = λ x on. (sides_of s).controls x (its_kind (is_of_device s x) (not (is_some x.hub)) on);
  speeds = is_high;
  first = (sides_of s).first;
  endpoint = (sides_of s).endpoint;
  whole = (sides_of s).whole;
}

abbrev pub SuitsLine : Sides → Line → Type 0
SuitsLine g (lines.Command cmd) = SuitsCommand g cmd
SuitsLine g _ = Unit {0}

abbrev pub TextsSuit : Type 0
TextsSuit = (text : List ℕ) (s : Script) → Spells text s → AllByRecursion (λ l. SuitsLine (high_sides_of s) l.1) s.lines

-- ---- worked

abbrev pub beat : EpDesc
beat = record {
  name = record { addr = 3; num = 1; way = ways.In };
  speed = speeds.High;
  kind = kinds.Interrupt;
  max = 8;
  period = 8;
  multi = 1;
  hub = None;
  port = 0;
  tt = 0;
}

abbrev pub beside_interrupt : Script
beside_interrupt = record beside_bulk {
  devices = record {
    addr = 3;
    speed = speeds.High;
    eps = zero_text ∷ record { desc = beat; items = []; room = 0; stuff = 0; clears = 0 } ∷ [];
  } ∷ [];
  endpoints = zero.name ∷ beat.name ∷ [];
  lines = (11, lines.Command (commands.OpenEp zero))
      ∷ (12, lines.Command (commands.OpenEp beat))
      ∷ (13, lines.Command (commands.Control zero.name reading []))
      ∷ (14, lines.Command (commands.Cancel zero.name))
      ∷ [];
}
