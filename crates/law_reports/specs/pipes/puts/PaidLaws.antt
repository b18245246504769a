-- Laws of what was taken of each OUT endpoint at high speed and of what is still to be sent, whatever else is open (EHCI 1.0, 3.5.4 and 4.6
-- to 4.10; USB 2.0, 5.7, 5.8, 8.5 and 8.6).
--     NewWorldIsPaid           before the first line nothing was put
--     ControllerKeepsPaid, DriverKeepsPaid, CommandKeepsPaid
--                              each event and each command leaves it so
--     ScriptsArePaid, TextsArePaid
--                              so it is at each moment of each script, of the puts until then
--     TextsTakeWhatWasPut      what the device of each OUT endpoint at high speed took begins what was put to it, also of one that left
--     TextsSendHighOuts        so what these devices took begins the OUT streams of the report at each moment of each script
--     TextsEndHighStreams      .. and once no line is left to do, all streams at high speed are right
--     TextsKeepAllHighStreams  so the streams at high speed are right at each moment of each script, and after its run
use Rattle.std.specs.Prelude.{ℕ, List}
use Rattle.usb_base.specs.declared.commands.Cmd.{Cmd}
use Rattle.script_types.specs.declared.scripts.Script.{Script}
use Rattle.script_text.specs.Faults.{Spells}
use Rattle.script_fits.specs.Fits.{IsFit}
use Rattle.bus_wire.specs.Bus.{Fixed, fixed_of}
use Rattle.drv_table.specs.Offers.{IsOffered}
use Rattle.law_scripts.specs.byte_answers.Bytes.{IsByteScript, IsByteCommand}
use Rattle.law_world.specs.memory.Opens.{OpensMixed}
use Rattle.law_world.specs.memory.PlacedLaws.{FitsMixed}
use Rattle.law_world.specs.streams.put_laws.HeldPuts.{puts_then}
use Rattle.law_world.specs.streams.put_laws.TakenPuts.{no_puts, puts_at}
use Rattle.bus_world.specs.Budgets.{moment}
use Rattle.bus_world.specs.Opening.{opening_world}
use Rattle.bus_world.specs.World.{World, driver_next, controller_next, commanded}
use Rattle.law_reports.specs.pipes.Declared.{Sides, sides_of}
use Rattle.law_reports.specs.pipes.PipedLaws.{OpensDeclared, DeclaresOpens}
use Rattle.claims_world.specs.HighStreams.{HighOutsAreSent, HighStreamsEndRight, KeepsAllHighStreams}
use Rattle.law_reports.specs.pipes.puts.Paid.{HasPaid}
use Rattle.law_reports.specs.pipes.puts.Takers.{TakenBeginsPuts}

abbrev pub ControllerKeepsPaid : Type 0
ControllerKeepsPaid = (fixed : Fixed) (x : Sides) (puts : ℕ → List ℕ) (w : World) → HasPaid fixed x puts w
    → HasPaid fixed x puts (controller_next fixed w)

abbrev pub DriverKeepsPaid : Type 0
DriverKeepsPaid = (fixed : Fixed) (x : Sides) (puts : ℕ → List ℕ) (w : World) → HasPaid fixed x puts w
    → HasPaid fixed x puts (driver_next w)

abbrev pub CommandKeepsPaid : Type 0
CommandKeepsPaid = (fixed : Fixed) (x : Sides) (puts : ℕ → List ℕ) (w : World) (line : ℕ) (cmd : Cmd) → OpensMixed cmd → OpensDeclared x cmd
    → IsByteCommand cmd → IsOffered w.driver.room cmd → HasPaid fixed x puts w
    → HasPaid fixed x (puts_then w.driver cmd puts) (commanded w line cmd)

abbrev pub NewWorldIsPaid : Type 0
NewWorldIsPaid = (s : Script) → IsFit s → IsByteScript s → HasPaid (fixed_of s) (sides_of s) no_puts (opening_world s)

abbrev pub ScriptsArePaid : Type 0
ScriptsArePaid = (s : Script) → IsFit s → IsByteScript s → FitsMixed s → DeclaresOpens s → (k : ℕ)
    → HasPaid (fixed_of s) (sides_of s) (puts_at s k) (moment s k).world

abbrev pub TextsArePaid : Type 0
TextsArePaid = (text : List ℕ) (s : Script) → Spells text s → (k : ℕ) → HasPaid (fixed_of s) (sides_of s) (puts_at s k) (moment s k).world

-- ---- the streams

abbrev pub TextsTakeWhatWasPut : Type 0
TextsTakeWhatWasPut = (text : List ℕ) (s : Script) → Spells text s → TakenBeginsPuts s

abbrev pub TextsSendHighOuts : Type 0
TextsSendHighOuts = (text : List ℕ) (s : Script) → Spells text s → HighOutsAreSent s

abbrev pub TextsEndHighStreams : Type 0
TextsEndHighStreams = (text : List ℕ) (s : Script) → Spells text s → HighStreamsEndRight s

abbrev pub TextsKeepAllHighStreams : Type 0
TextsKeepAllHighStreams = (text : List ℕ) (s : Script) → Spells text s → KeepsAllHighStreams s
