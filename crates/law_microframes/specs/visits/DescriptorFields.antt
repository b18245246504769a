-- What the words of a driver's iTDs tell of their endpoints (EHCI 1.0, 3.3.2, 3.3.3 and 4.7; USB 2.0, 5.9).
--     itd_in m b              the iTD in block b, as its words are
--     HaveItdFields v x p     it is of a high-speed endpoint so described at this placement: it has its largest packet and its transactions in a microframe, and is active
--                             in microframes of the placement alone
--     ItdsHaveFields d m      so is each iTD of the driver that wasn't given back
--     IsServed v              none of its microframes is active
--     HarvestedAreServed d m  so it is of each that was harvested and wasn't given back
--     IsReadItd x v           what is read is an iTD of the endpoint, as it is placed
--     ItdIsRead               in a mixed world the iTD that is met at n and waits for its harvest is read so
--     HarvestedIsRead         .. and of one that was harvested no microframe is active
--     IsMendedAt p b          the driver's next event is a store that the queue head in block b is owed
--     ItdsStand d m           the fields stand, and what was harvested is served
--     NewItdsStand, ControllerKeepsItds     so it is before the first line, and after each event of the controller
--     ItdWordsStay            an event of the driver leaves the words of an iTD that it has before and after it, but for its link; or it is a store that a queue head in its
--                             place is owed
--     DriverKeepsItdFields    in a mixed world each event of the driver leaves the fields
--     DriverKeepsItds         .. and what was harvested served
--     CommandKeepsItds        each command, refused or accepted, leaves them so
--     ScriptsKeepItds         so they are at each moment of each script that fits
use Rattle.std.specs.Prelude.{◌≡◌, ℕ, ◌+◌, ◌*◌, ◌<◌, ◌≤◌, ◌⊎◌, true, false, slice_get, Some}
use Rattle.usb_base.specs.declared.commands.Cmd.{Cmd}
use Rattle.usb_base.specs.declared.endpoints.EpDesc.{EpDesc}
use Rattle.usb_base.specs.declared.packets.Speed.TheVariants.{High}
use Rattle.script_types.specs.declared.scripts.Script.{Script}
use Rattle.script_fits.specs.Fits.{IsFit}
use Rattle.law_scripts.specs.byte_answers.Bytes.{IsByteScript}
use Rattle.bus_wire.specs.Bus.{Fixed}
use Rattle.word_mem.specs.Memory.{Mem, word_at}
use Rattle.word_mem.specs.Views.{words_at}
use Rattle.itd_sitd.specs.declared.itd.Itd.{Itd}
use Rattle.itd_sitd.specs.Itd.{slot_of, itd_at}
use Rattle.mem_descriptors.specs.Descriptors.{itd_at_address}
use Rattle.bandwidth.specs.declared.placements.Placement.{Placement}
use Rattle.bandwidth.specs.declared.placements.Placed.{Placed}
use Rattle.bandwidth.specs.Placements.{has}
use Rattle.drv_periodic_table.specs.Periodic.{note_at}
use Rattle.drv_table.specs.declared.content.Endpoint.{Endpoint}
use Rattle.drv_table.specs.declared.content.Transfer.{Transfer}
use Rattle.drv_table.specs.declared.content.Mend.{Mend}
use Rattle.drv_table.specs.declared.rows.DriverRow.TheVariants as rows
use Rattle.drv_table.specs.DriverContent.{DriverContent}
use Rattle.drv_table.specs.Parts.{Parts}
use Rattle.drv_table.specs.Rows.{driver_row, after_driver_row}
use Rattle.claims_driver.specs.Owners.{is_descriptor}
use Rattle.law_driver.specs.in_place.InPlace.{IsInPlace}
use Rattle.law_frames.specs.Met.{AnItd}
use Rattle.law_descriptors.specs.Meeting.{met}
use Rattle.law_budgets.specs.visit_prices.Spent.{IsItdOf}
use Rattle.bus_world.specs.World.{World, driver_next, controller_next, commanded}
use Rattle.bus_world.specs.Opening.{opening_world}
use Rattle.bus_world.specs.Budgets.{moment}
use Rattle.law_world.specs.memory.Mixed.{Standing, IsMixedAt, IsMixedWorld}
use Rattle.law_world.specs.memory.PlacedLaws.{FitsMixed}
use Rattle.law_microframes.specs.visits.Belonging.{placed_of, IsDescriptorAt, IsHarvestedAt}

abbrev pub itd_in : Mem → ℕ → Itd
itd_in m b = itd_at (words_at m (32 * b) 16)

-- ---- its fields

pub record HaveItdFields (v : Itd) (x : EpDesc) (p : Placement) : Type 0 where
  pub speed : x.speed ≡ High
  pub longest : v.max ≡ x.max
  pub multi : v.multi ≡ x.multi
  pub own : (u : ℕ) → u < 8 → (slot_of u v).active ≡ true → has p.smask u ≡ true

abbrev pub ItdsHaveFields : DriverContent → Mem → Type 0
ItdsHaveFields d m =
    (t : ℕ) (y : Transfer) (x : Endpoint) (p : Placement) → slice_get d.transfers t ≡ Some y → is_descriptor y.sort ≡ true → y.released ≡ false → (note_at d.periodic.notes y.first).split ≡ false
    → slice_get d.endpoints y.endpoint ≡ Some x → x.placement ≡ Some p → HaveItdFields (itd_in m y.first) x.desc p

abbrev pub IsServed : Itd → Type 0
IsServed v = (u : ℕ) → u < 8 → (slot_of u v).active ≡ false

abbrev pub HarvestedAreServed : DriverContent → Mem → Type 0
HarvestedAreServed d m =
    (t : ℕ) (y : Transfer) → slice_get d.transfers t ≡ Some y → is_descriptor y.sort ≡ true → y.reported ≡ true → y.released ≡ false → (note_at d.periodic.notes y.first).split ≡ false
    → IsServed (itd_in m y.first)

-- ---- what is read

pub record IsReadItd (x : Placed) (v : Itd) : Type 0 where
  pub of : IsItdOf x v
  pub multi : v.multi ≡ x.want.multi
  pub own : (u : ℕ) → u < 8 → (slot_of u v).active ≡ true → has x.placement.smask u ≡ true

abbrev pub ItdIsRead : Type 0
ItdIsRead = (s : Standing) (w : World) (n : ℕ) (v : Itd) (b : IsDescriptorAt w.driver n) → IsMixedAt s w → met w.driver s.recent n ≡ Some AnItd → ItdsHaveFields w.driver w.memory
    → itd_at_address w.memory n ≡ Some v → IsReadItd (placed_of b.belongs) v

abbrev pub HarvestedIsRead : Type 0
HarvestedIsRead = (s : Standing) (w : World) (n : ℕ) (v : Itd) → IsHarvestedAt w.driver n → IsMixedAt s w → met w.driver s.recent n ≡ Some AnItd → HarvestedAreServed w.driver w.memory
    → itd_at_address w.memory n ≡ Some v → IsServed v

-- ---- they stand

pub record IsMendedAt (p : Parts) (b : ℕ) : Type 0 where
  pub mend : Mend
  pub row : driver_row p ≡ rows.Mend mend
  pub queue : mend.queue ≡ b

pub record ItdsStand (d : DriverContent) (m : Mem) : Type 0 where
  pub fields : ItdsHaveFields d m
  pub served : HarvestedAreServed d m

abbrev pub NewItdsStand : Type 0
NewItdsStand = (s : Script) → ItdsStand (opening_world s).driver (opening_world s).memory

abbrev pub ControllerKeepsItds : Type 0
ControllerKeepsItds = (fixed : Fixed) (w : World) → IsMixedWorld w → ItdsStand w.driver w.memory → ItdsStand (controller_next fixed w).driver (controller_next fixed w).memory

abbrev pub ItdWordsStay : Type 0
ItdWordsStay = (p : Parts) (t i : ℕ) (y z : Transfer) → IsInPlace p.memory p.driver → slice_get p.driver.transfers t ≡ Some y → is_descriptor y.sort ≡ true → y.released ≡ false
    → (note_at p.driver.periodic.notes y.first).split ≡ false → slice_get (after_driver_row (driver_row p) p).driver.transfers t ≡ Some z → is_descriptor z.sort ≡ true → z.released ≡ false
    → z.first ≡ y.first → (note_at (after_driver_row (driver_row p) p).driver.periodic.notes z.first).split ≡ false → 1 ≤ i → i < 16
    → (word_at (after_driver_row (driver_row p) p).memory (32 * y.first + 4 * i) ≡ word_at p.memory (32 * y.first + 4 * i)) ⊎ IsMendedAt p y.first

abbrev pub DriverKeepsItdFields : Type 0
DriverKeepsItdFields = (w : World) → IsMixedWorld w → ItdsHaveFields w.driver w.memory → ItdsHaveFields (driver_next w).driver (driver_next w).memory

abbrev pub DriverKeepsItds : Type 0
DriverKeepsItds = (w : World) → IsMixedWorld w → ItdsStand w.driver w.memory → ItdsStand (driver_next w).driver (driver_next w).memory

abbrev pub CommandKeepsItds : Type 0
CommandKeepsItds = (w : World) (line : ℕ) (cmd : Cmd) → IsMixedWorld w → ItdsStand w.driver w.memory → ItdsStand (commanded w line cmd).driver (commanded w line cmd).memory

abbrev pub ScriptsKeepItds : Type 0
ScriptsKeepItds = (s : Script) → IsFit s → IsByteScript s → FitsMixed s → (k : ℕ) → ItdsStand (moment s k).world.driver (moment s k).world.memory
