-- The isochronous descriptors of one endpoint in one frame of the list (EHCI 1.0, 3.3, 3.4, 4.6, 4.7 and 4.12.3). The list has 1,024 elements, so a descriptor that was
-- harvested may still stand, or be met, in the frame that a later one of the endpoint gets; and both may be visited in one microframe. Nothing of it is active any more:
-- of those that are still active, at most one is of an endpoint and a frame.
--     AreServed d m                     what was harvested, and isn't given back, has nothing active
--     AreApartOutside d                 of an endpoint that is out of its frames no two descriptors that weren't harvested have one frame
--     HasOneActive d m                  both: what goes on from one event to the next
--     IsActiveDescriptor d m e f n      a descriptor of endpoint e for frame f, of which something is active, begins at byte address n
--     IsActiveSome d m n                so does one of some endpoint, for some frame
--     IsAloneAs d m n x                 where one begins at n, x stands in its frame alone
--     OneDescriptorEach                 two of one endpoint and one frame are the same
--     MetIsActive, MetSplitIsActive     each iTD or siTD in memory of which something is active is one
--     NewHasOneActive, ControllerKeepsOneActive, DriverKeepsOneActive, CommandKeepsOneActive     it goes on
--     IsActiveTransfer d m t y          something is active of transfer t, a descriptor that wasn't given back
--     WasActive d m new t z             so it was before, and its frame stays, if it had one
--     ControllerStartsNone, DriverStartsNone, CommandStartsNew     what is active after an event was so before it, or is newer: transfers that a command takes on
--     IsMixedOnce w                     a mixed world of which it is so
--     EachMomentHasOneActive            so is each moment of a script
use Rattle.std.specs.Prelude.{◌≡◌, ◌⊎◌, ℕ, ◌*◌, ◌<◌, ◌≤◌, true, false, length, slice_get, Some}
use Rattle.usb_base.specs.declared.commands.Cmd.{Cmd}
use Rattle.word_mem.specs.Memory.{Mem}
use Rattle.mem_runs.specs.Book.{slot_of}
use Rattle.script_types.specs.declared.scripts.Script.{Script}
use Rattle.script_fits.specs.Fits.{IsFit}
use Rattle.law_scripts.specs.byte_answers.Bytes.{IsByteScript}
use Rattle.drv_chains.specs.declared.members.Member.{Member}
use Rattle.drv_chains.specs.Chains.{stands_in}
use Rattle.bus_wire.specs.Bus.{Fixed}
use Rattle.itd_sitd.specs.declared.itd.Itd.{Itd}
use Rattle.itd_sitd.specs.declared.sitd.Sitd.{Sitd}
use Rattle.itd_sitd.specs.Itd.{slot_of as slot_in}
use Rattle.drv_periodic_table.specs.Periodic.{note_at}
use Rattle.drv_periodic_table.specs.Descriptors.{is_served}
use Rattle.drv_table.specs.declared.content.Transfer.{Transfer}
use Rattle.drv_table.specs.DriverContent.{DriverContent}
use Rattle.drv_table.specs.Offers.{IsOffered}
use Rattle.claims_driver.specs.Owners.{is_descriptor}
use Rattle.claims_driver.specs.LentRuns.{IsLent}
use Rattle.claims_driver.specs.FrameListMembers.{framed_in, is_chained}
use Rattle.claims_driver.specs.DueMembers.{framed_to}
use Rattle.law_structures.specs.lent_structures.Structures.{Isochronous, SplitIsochronous}
use Rattle.law_descriptors.specs.Both.{both}
use Rattle.bus_world.specs.World.{World, driver_next, controller_next, commanded}
use Rattle.bus_world.specs.Opening.{opening_world}
use Rattle.bus_world.specs.Budgets.{moment}
use Rattle.law_world.specs.memory.Mixed.{Standing, IsMixedAt, IsMixedWorld}
use Rattle.law_world.specs.memory.Laws.{OpensMixed}
use Rattle.law_world.specs.memory.PlacedLaws.{FitsMixed}

-- ---- what goes on

abbrev pub AreServed : DriverContent → Mem → Type 0
AreServed d m = (t : ℕ) (y : Transfer) → slice_get d.transfers t ≡ Some y → is_descriptor y.sort ≡ true → y.reported ≡ true → y.released ≡ false
    → is_served (note_at d.periodic.notes y.first) m y.first ≡ true

abbrev pub AreApartOutside : DriverContent → Type 0
AreApartOutside d = (e t u : ℕ) (y z : Transfer) → is_chained (framed_in d.endpoints e) ≡ false → slice_get d.transfers t ≡ Some y → slice_get d.transfers u ≡ Some z
    → is_descriptor y.sort ≡ true → is_descriptor z.sort ≡ true → y.endpoint ≡ e → z.endpoint ≡ e → y.reported ≡ false → z.reported ≡ false → y.released ≡ false → z.released ≡ false
    → (note_at d.periodic.notes y.first).frame ≡ (note_at d.periodic.notes z.first).frame → t ≡ u

pub record HasOneActive (d : DriverContent) (m : Mem) : Type 0 where
  pub served : AreServed d m
  pub apart : AreApartOutside d

-- ---- one of an endpoint and a frame

pub record IsActiveDescriptor (d : DriverContent) (m : Mem) (e f n : ℕ) : Type 0 where
  pub number : ℕ
  pub transfer : Transfer
  pub here : slice_get d.transfers number ≡ Some transfer
  pub descriptor : is_descriptor transfer.sort ≡ true
  pub held : transfer.released ≡ false
  pub lent : IsLent (slot_of d.book.slots transfer.first)
  pub endpoint : transfer.endpoint ≡ e
  pub frame : (note_at d.periodic.notes transfer.first).frame ≡ f
  pub at : n ≡ 32 * transfer.first
  pub active : is_served (note_at d.periodic.notes transfer.first) m transfer.first ≡ false

abbrev pub OneDescriptorEach : Type 0
OneDescriptorEach = (s : Standing) (w : World) (e f n l : ℕ) → IsMixedAt s w → HasOneActive w.driver w.memory → IsActiveDescriptor w.driver w.memory e f n
    → IsActiveDescriptor w.driver w.memory e f l → n ≡ l

-- ---- who they are

pub record IsActiveSome (d : DriverContent) (m : Mem) (n : ℕ) : Type 0 where
  pub endpoint : ℕ
  pub frame : ℕ
  pub is : IsActiveDescriptor d m endpoint frame n

abbrev pub MetIsActive : Type 0
MetIsActive = (s : Standing) (w : World) (n u : ℕ) (v : Itd) → IsMixedAt s w → both s.descs s.parts n n ≡ Some (Isochronous v) → u < 8 → (slot_in u v).active ≡ true
    → IsActiveSome w.driver w.memory n

abbrev pub MetSplitIsActive : Type 0
MetSplitIsActive = (s : Standing) (w : World) (n : ℕ) (v : Sitd) → IsMixedAt s w → both s.descs s.parts n n ≡ Some (SplitIsochronous v) → v.active ≡ true → IsActiveSome w.driver w.memory n

-- ---- where it stands

abbrev pub IsAloneAs : DriverContent → Mem → ℕ → Member → Type 0
IsAloneAs d m n x = (e f g : ℕ) → IsActiveDescriptor d m e f n → stands_in g x ≡ true → g ≡ f

-- ---- it goes on

abbrev pub NewHasOneActive : Type 0
NewHasOneActive = (s : Script) → IsFit s → IsByteScript s → HasOneActive (opening_world s).driver (opening_world s).memory

abbrev pub ControllerKeepsOneActive : Type 0
ControllerKeepsOneActive = (fixed : Fixed) (w : World) → IsMixedWorld w → HasOneActive w.driver w.memory
    → HasOneActive (controller_next fixed w).driver (controller_next fixed w).memory

abbrev pub DriverKeepsOneActive : Type 0
DriverKeepsOneActive = (w : World) → IsMixedWorld w → HasOneActive w.driver w.memory → HasOneActive (driver_next w).driver (driver_next w).memory

abbrev pub CommandKeepsOneActive : Type 0
CommandKeepsOneActive = (w : World) (line : ℕ) (cmd : Cmd) → OpensMixed cmd → IsOffered w.driver.room cmd → IsMixedWorld w → HasOneActive w.driver w.memory
    → HasOneActive (commanded w line cmd).driver (commanded w line cmd).memory

-- ---- what is active was so before

pub record IsActiveTransfer (d : DriverContent) (m : Mem) (t : ℕ) (y : Transfer) : Type 0 where
  pub here : slice_get d.transfers t ≡ Some y
  pub descriptor : is_descriptor y.sort ≡ true
  pub held : y.released ≡ false
  pub active : is_served (note_at d.periodic.notes y.first) m y.first ≡ false

pub record WasActive (d : DriverContent) (m : Mem) (new : DriverContent) (t : ℕ) (z : Transfer) : Type 0 where
  pub transfer : Transfer
  pub was : IsActiveTransfer d m t transfer
  pub endpoint : transfer.endpoint ≡ z.endpoint
  pub first : transfer.first ≡ z.first
  pub frame : t < framed_to d.command d.made (length d.transfers) → (note_at new.periodic.notes z.first).frame ≡ (note_at d.periodic.notes z.first).frame

abbrev pub ControllerStartsNone : Type 0
ControllerStartsNone = (fixed : Fixed) (w : World) (t : ℕ) (z : Transfer) → IsMixedWorld w → IsActiveTransfer (controller_next fixed w).driver (controller_next fixed w).memory t z
    → WasActive w.driver w.memory (controller_next fixed w).driver t z

abbrev pub DriverStartsNone : Type 0
DriverStartsNone = (w : World) (t : ℕ) (z : Transfer) → IsMixedWorld w → IsActiveTransfer (driver_next w).driver (driver_next w).memory t z → WasActive w.driver w.memory (driver_next w).driver t z

abbrev pub CommandStartsNew : Type 0
CommandStartsNew = (w : World) (line : ℕ) (cmd : Cmd) (t : ℕ) (z : Transfer) → IsMixedWorld w → IsActiveTransfer (commanded w line cmd).driver (commanded w line cmd).memory t z
    → WasActive w.driver w.memory (commanded w line cmd).driver t z ⊎ (length w.driver.transfers ≤ t)

-- ---- a script

pub record IsMixedOnce (w : World) : Type 0 where
  pub mixed : IsMixedWorld w
  pub one : HasOneActive w.driver w.memory

abbrev pub EachMomentHasOneActive : Type 0
EachMomentHasOneActive = (s : Script) → IsFit s → IsByteScript s → FitsMixed s → (k : ℕ) → IsMixedOnce (moment s k).world
