-- Structures that stand aside: no link of what is live leads to one, though the controller may still hold one that does (EHCI 1.0, 4.6, 4.8
-- and 4.8.2).
--     IsAside d owner c      the run that begins in block c is no frame list, no head, no qTD, no queue head in the ring, and no member of
--                            the frame list
--     HasLinkAt parts a      a queue head, an iTD or a siTD stands at the byte address a
--     DriverLeavesAside      an event of the driver leaves the link of such a structure, until it is given back
--     DriverLeavesLent       .. and that it is Lent
--     CommandLeavesAside     so does a command
--     ControllerLeavesAside  so does an event of the controller, of any structure that is told
use Rattle.std.specs.Prelude.{◌≡◌, ◌≢◌, ℕ, ◌*◌, ◌/◌, true, slice_get, Some}
use Rattle.usb_base.specs.declared.commands.Cmd.{Cmd}
use Rattle.word_mem.specs.declared.blocks.BlockState.TheVariants.{Lent}
use Rattle.word_mem.specs.Memory.{state_at}
use Rattle.mem_runs.specs.Book.{slot_of}
use Rattle.drv_chains.specs.declared.members.Member.{Member}
use Rattle.drv_chains.specs.Chains.{id_of}
use Rattle.drv_members.specs.Members.{is_linked}
use Rattle.drv_table.specs.declared.content.Endpoint.{Endpoint}
use Rattle.drv_table.specs.DriverContent.{DriverContent}
use Rattle.bus_wire.specs.Bus.{Fixed}
use Rattle.bus_world.specs.World.{World, driver_next, controller_next, commanded}
use Rattle.claims_driver.specs.Owners.{Owner, FrameList, Head, QueueHead, Element, HasRun, IsPlaced}
use Rattle.claims_driver.specs.Ring.{link_in}
use Rattle.law_structures.specs.lent_structures.Structures.{Structure, StructureSets}
use Rattle.law_controller.specs.frame_stores.Stores.{HasLink}
use Rattle.law_descriptors.specs.Both.{both}
use Rattle.law_world.specs.memory.Mixed.{Standing, IsMixedAt}
use Rattle.law_world.specs.memory.Owners.{EndsActive}

pub record IsAside (d : DriverContent) (owner : ℕ → Owner) (c : ℕ) : Type 0 where
  pub whose : Owner
  pub placed : IsPlaced (slot_of d.book.slots) owner c whose
  pub list : whose ≢ FrameList
  pub head : whose ≢ Head
  pub element : (t : ℕ) → whose ≢ Element t
  pub ring : (e : ℕ) (x : Endpoint) → slice_get d.endpoints e ≡ Some x → x.linked ≡ true → whose ≢ QueueHead e
  pub members : (x : Member) → is_linked d.periodic.list.members.schedule x ≡ true → id_of x / 32 ≢ c

pub record HasLinkAt (parts : StructureSets) (a : ℕ) : Type 0 where
  pub owner : ℕ
  pub structure : Structure
  pub here : parts owner a ≡ Some structure
  pub link : HasLink structure

abbrev pub owners_in : {s : Standing} {w : World} → IsMixedAt s w → ℕ → Owner
owners_in k = k.now.framed.place.sound.owners.owner

abbrev pub DriverLeavesAside : Type 0
DriverLeavesAside =
    (s : Standing) (w : World) (k : IsMixedAt s w) (c : ℕ) → IsAside w.driver (owners_in k) c → state_at w.memory c ≡ Some Lent
    → HasRun (slot_of (driver_next w).driver.book.slots c) → link_in (driver_next w).memory c ≡ link_in w.memory c

abbrev pub DriverLeavesLent : Type 0
DriverLeavesLent = (s : Standing) (w : World) → IsMixedAt s w → (c : ℕ) → state_at w.memory c ≡ Some Lent
    → HasRun (slot_of (driver_next w).driver.book.slots c) → state_at (driver_next w).memory c ≡ Some Lent

abbrev pub CommandLeavesAside : Type 0
CommandLeavesAside = (s : Standing) (w : World) → IsMixedAt s w → (line : ℕ) (cmd : Cmd) (c : ℕ) → state_at w.memory c ≡ Some Lent
    → (link_in (commanded w line cmd).memory c ≡ link_in w.memory c) × (state_at (commanded w line cmd).memory c ≡ Some Lent)

abbrev pub ControllerLeavesAside : Type 0
ControllerLeavesAside = (fixed : Fixed) (s : Standing) (w : World) → IsMixedAt s w → EndsActive w.control → (c : ℕ)
    → HasLinkAt (both s.descs s.parts) (32 * c)
    → (link_in (controller_next fixed w).memory c ≡ link_in w.memory c) × ((controller_next fixed w).memory.states ≡ w.memory.states)
