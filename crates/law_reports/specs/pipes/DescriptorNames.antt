-- What the words of a driver's iTDs and siTDs tell of their endpoints' names (EHCI 1.0, 3.3.3 and 3.4.2): address, number and direction.
--     TellsName addr ep dir_in x     these are the endpoint's so described
--     TellsBy split m b x            so the words of the siTD, or of the iTD, in block b tell
--     AreDescriptorsNamed d m        so is each descriptor that wasn't given back
--     NewDescriptorsNamed            so it is before the first line
--     ControllerKeepsNames, DriverKeepsNames, CommandKeepsNames      .. and after each event and command
--     NamesKeepBeside                so isochronous transactions ask none of the streams at high speed
use Rattle.std.specs.Prelude.{◌≡◌, ℕ, Bool, true, false, slice_get, Some}
use Rattle.usb_base.specs.declared.commands.Cmd.{Cmd}
use Rattle.usb_base.specs.declared.endpoints.EpDesc.{EpDesc}
use Rattle.script_types.specs.declared.scripts.Script.{Script}
use Rattle.bus_wire.specs.Bus.{Fixed}
use Rattle.word_mem.specs.Memory.{Mem}
use Rattle.drv_periodic_table.specs.Periodic.{note_at}
use Rattle.drv_periodic_table.specs.Descriptors.{is_in, sitd_in}
use Rattle.drv_table.specs.declared.content.Endpoint.{Endpoint}
use Rattle.drv_table.specs.declared.content.Transfer.{Transfer}
use Rattle.drv_table.specs.DriverContent.{DriverContent}
use Rattle.drv_table.specs.Offers.{IsOffered}
use Rattle.claims_driver.specs.Owners.{is_descriptor}
use Rattle.law_world.specs.memory.Mixed.{Standing, IsMixedAt}
use Rattle.law_world.specs.memory.Opens.{OpensMixed}
use Rattle.law_microframes.specs.visits.DescriptorFields.{itd_in}
use Rattle.law_microframes.specs.visits.WorldPipes.{IsIsoBeside}
use Rattle.bus_world.specs.Opening.{opening_world}
use Rattle.bus_world.specs.World.{World, driver_next, controller_next, commanded}
use Rattle.law_reports.specs.pipes.Declared.{Sides, AreDeclared}

pub record TellsName (addr ep : ℕ) (dir_in : Bool) (x : EpDesc) : Type 0 where
  pub address : addr ≡ x.name.addr
  pub number : ep ≡ x.name.num
  pub way : dir_in ≡ is_in x.name.way

abbrev pub TellsBy : Bool → Mem → ℕ → EpDesc → Type 0
TellsBy true m b x = TellsName (sitd_in m b).addr (sitd_in m b).ep (sitd_in m b).dir_in x
TellsBy false m b x = TellsName (itd_in m b).addr (itd_in m b).ep (itd_in m b).dir_in x

abbrev pub AreDescriptorsNamed : DriverContent → Mem → Type 0
AreDescriptorsNamed d m =
    (t : ℕ) (y : Transfer) (x : Endpoint) → slice_get d.transfers t ≡ Some y → is_descriptor y.sort ≡ true → y.released ≡ false
    → slice_get d.endpoints y.endpoint ≡ Some x → TellsBy (note_at d.periodic.notes y.first).split m y.first x.desc

-- ---- they stand

abbrev pub NewDescriptorsNamed : Type 0
NewDescriptorsNamed = (s : Script) → AreDescriptorsNamed (opening_world s).driver (opening_world s).memory

abbrev pub ControllerKeepsNames : Type 0
ControllerKeepsNames = (fixed : Fixed) (s : Standing) (w : World) → IsMixedAt s w → AreDescriptorsNamed w.driver w.memory
    → AreDescriptorsNamed (controller_next fixed w).driver (controller_next fixed w).memory

abbrev pub DriverKeepsNames : Type 0
DriverKeepsNames = (s : Standing) (w : World) → IsMixedAt s w → AreDescriptorsNamed w.driver w.memory
    → AreDescriptorsNamed (driver_next w).driver (driver_next w).memory

abbrev pub CommandKeepsNames : Type 0
CommandKeepsNames = (s : Standing) (w : World) (line : ℕ) (cmd : Cmd) → OpensMixed cmd → IsOffered w.driver.room cmd → IsMixedAt s w
    → AreDescriptorsNamed w.driver w.memory → AreDescriptorsNamed (commanded w line cmd).driver (commanded w line cmd).memory

-- ---- the streams

abbrev pub NamesKeepBeside : Type 0
NamesKeepBeside = (x : Sides) (s : Standing) (w : World) → IsMixedAt s w → AreDeclared x w.driver → AreDescriptorsNamed w.driver w.memory
    → IsIsoBeside s x.sends x.takes
