-- Root ports for worked rows: nothing at port 1, a high-speed thing at 2, a low-speed one at 3, a full-speed one at 4.
use Rattle.std.specs.Prelude.{ℕ, Bool, true, List, [], ◌∷◌, ◌++◌, replicate, reverse, Option, Some, None}
use Rattle.root_ports.specs.declared.port.Plugged.{Plugged}
use Rattle.root_ports.specs.declared.port.Plugged.TheVariants.{High, Full, Low}
use Rattle.root_ports.specs.declared.port_event.PortEvent.{PortEvent}
use Rattle.root_ports.specs.declared.port_event.PortEvent.TheVariants.{Write}
use Rattle.root_ports.specs.Ports.{port_status, opened, played}
use Rattle.root_ports.specs.Ready.{is_ready}

abbrev pub things : List (Option Plugged)
things = None ∷ Some High ∷ Some Low ∷ Some Full ∷ None ∷ None ∷ None ∷ None ∷ None ∷ None ∷ None ∷ None ∷ None ∷ None ∷ None ∷ []

-- PORTSC of a port of four after these events
abbrev pub word_after : ℕ → List PortEvent → ℕ
word_after port events = port_status port (played (opened things 4) events)

-- whether it was made ready by them, and not unmade since
abbrev pub ready_after_all : ℕ → List PortEvent → Bool
ready_after_all port events = is_ready (opened things 4) port (reverse events)

-- a reset of port 2 while the controller runs
abbrev pub reset_2 : List PortEvent
reset_2 = Write 2 0x1100 true ∷ Write 2 0x1000 true ∷ []

-- one event more
abbrev pub after : List PortEvent → PortEvent → List PortEvent
after events e = events ++ e ∷ []
