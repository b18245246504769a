-- What holds of the control endpoints of each script that a text spells, and of a bus as its events go on.
--     TextsOpenControls       each high-speed control endpoint of a device that is opened is on the bus, with the replies and the NAKs of its lines
--     TextsNameEndpoints      each endpoint has a name of its type
--     TextsAskRequests        each request is of endpoint 0 and whole
--     AcceptedAreRequests     so is each that a report doesn't refuse
--     TextsLeaveZeroAlone     number 0 is that of control endpoints alone
--     TransactionLeavesZero   a transaction leaves it so
--     MicroframeLeavesZero    and so does the beginning of a microframe
--     ZeroIsNoStream          where it is so, no sender and no taker has number 0
--     ControlIsNoStream       no sender and no taker has the address and the number of a control endpoint
use Rattle.std.specs.Prelude.{◌≡◌, ℕ, List, Some}
use Rattle.std.specs.List.{AllByRecursion}
use Rattle.usb_base.specs.declared.endpoints.EpName.{EpName}
use Rattle.usb_base.specs.declared.packets.Ask.{Ask}
use Rattle.script_types.specs.declared.scripts.Script.{Script}
use Rattle.script_text.specs.Faults.{Spells}
use Rattle.bus_wire.specs.Bus.{Fixed, Bus, Wired, opening_bus, begin_after, transact_after}
use Rattle.claims_report.specs.Reports.{WholeReport}
use Rattle.claims_report.specs.Requests.{requests}
use Rattle.law_request.specs.Windows.{IsRequest}
use Rattle.claims_report.specs.ControlSides.{Device}
use Rattle.law_devices.specs.Controls.{control_of}
use Rattle.law_devices.specs.declared_controls.Opened.{OpensControls}
use Rattle.law_devices.specs.declared_controls.Names.{NamesEndpoints}
use Rattle.law_devices.specs.declared_controls.Requests.{AsksRequests}
use Rattle.law_devices.specs.declared_controls.Zero.{AreZeroesAlone, IsNoStream}

abbrev pub TextsOpenControls : Type 0
TextsOpenControls = (text : List ℕ) (s : Script) → Spells text s → OpensControls s

abbrev pub TextsNameEndpoints : Type 0
TextsNameEndpoints = (text : List ℕ) (s : Script) → Spells text s → NamesEndpoints s

abbrev pub TextsAskRequests : Type 0
TextsAskRequests = (text : List ℕ) (s : Script) → Spells text s → AsksRequests s

abbrev pub AcceptedAreRequests : Type 0
AcceptedAreRequests = (s : Script) (r : WholeReport) (name : EpName) → AsksRequests s → AllByRecursion IsRequest (requests s r name)

abbrev pub TextsLeaveZeroAlone : Type 0
TextsLeaveZeroAlone = (text : List ℕ) (s : Script) → Spells text s → AreZeroesAlone (opening_bus s)

abbrev pub TransactionLeavesZero : Type 0
TransactionLeavesZero = (fixed : Fixed) (b : Bus) (ask : Ask) (out : List ℕ) → AreZeroesAlone b → AreZeroesAlone (transact_after fixed b ask out)

abbrev pub MicroframeLeavesZero : Type 0
MicroframeLeavesZero = (fixed : Fixed) (frindex : ℕ) (b : Bus) → AreZeroesAlone b → AreZeroesAlone (begin_after fixed frindex b)

abbrev pub ZeroIsNoStream : Type 0
ZeroIsNoStream = (w : Wired) (addr : ℕ) → AreZeroesAlone w.bus → IsNoStream w addr 0

abbrev pub ControlIsNoStream : Type 0
ControlIsNoStream = (w : Wired) (addr num : ℕ) (d : Device) → control_of w addr num ≡ Some d → IsNoStream w addr num
