-- The seats of a script's bus at its opening and along its run (USB 2.0, 8.3.2.1 and 9.4.6): no event changes the address of a device.
--     addresses devices            the addresses
--     TextIsSeated                 before its first line the bus of a script that a text spells is seated
--     MicroframeKeepsAddresses, TransactionKeepsAddresses     what an event leaves
--     EventKeepsSeats, CommandKeepsSeats, RunKeepsSeats       the same in a world
--     MomentIsSeated               so it is at each moment of the run of such a script
use Rattle.std.specs.Prelude.{◌≡◌, ℕ, List, map}
use Rattle.usb_base.specs.declared.commands.Cmd.{Cmd}
use Rattle.usb_base.specs.declared.packets.Ask.{Ask}
use Rattle.script_types.specs.declared.scripts.Event.{Event}
use Rattle.script_types.specs.declared.scripts.Script.{Script}
use Rattle.script_text.specs.Faults.{Spells}
use Rattle.endpoint_script.specs.Device.{Device}
use Rattle.bus_wire.specs.Bus.{Fixed, Bus, fixed_of, opening_bus, begin_after, transact_after}
use Rattle.bus_world.specs.World.{World, next, commanded}
use Rattle.bus_world.specs.Orders.{OrderedWorld, ticks}
use Rattle.bus_world.specs.Budgets.{moment}
use Rattle.law_world.specs.streams.taken_reports.Seats.{IsSeatedBus}

abbrev pub addresses : List Device → List ℕ
addresses devices = map (λ d. d.address) devices

abbrev pub TextIsSeated : Type 0
TextIsSeated = (text : List ℕ) (s : Script) → Spells text s → IsSeatedBus s (fixed_of s) (opening_bus s)

abbrev pub MicroframeKeepsAddresses : Type 0
MicroframeKeepsAddresses = (fixed : Fixed) (frindex : ℕ) (b : Bus) → addresses (begin_after fixed frindex b).devices ≡ addresses b.devices

abbrev pub TransactionKeepsAddresses : Type 0
TransactionKeepsAddresses = (fixed : Fixed) (b : Bus) (ask : Ask) (out : List ℕ) → addresses (transact_after fixed b ask out).devices ≡ addresses b.devices

abbrev pub EventKeepsSeats : Type 0
EventKeepsSeats = (s : Script) (fixed : Fixed) (w : World) (event : Event) → IsSeatedBus s fixed w.bus → IsSeatedBus s fixed (next fixed w event).bus

abbrev pub CommandKeepsSeats : Type 0
CommandKeepsSeats = (s : Script) (fixed : Fixed) (w : World) (line : ℕ) (cmd : Cmd) → IsSeatedBus s fixed w.bus → IsSeatedBus s fixed (commanded w line cmd).bus

abbrev pub RunKeepsSeats : Type 0
RunKeepsSeats = (s : Script) (fixed : Fixed) (p : OrderedWorld) (k : ℕ) → IsSeatedBus s fixed p.world.bus → IsSeatedBus s fixed (ticks fixed p k).world.bus

abbrev pub MomentIsSeated : Type 0
MomentIsSeated = (text : List ℕ) (s : Script) (k : ℕ) → Spells text s → IsSeatedBus s (fixed_of s) (moment s k).world.bus
