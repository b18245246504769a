-- The links of a frame list, where the controller walks it (EHCI 1.0, 3.1, 3.3.1, 3.4.1, 3.6.1 and 4.6): the words of its table, and the first word of each
-- of its members.
--     IsDescriptor o          an iTD or a siTD stands there
--     IsLinkAt m parts a      at a is the link of a queue head, of an iTD or of a siTD that is told, or a word that isn't in a Lent block
--     HasItsLinks m parts p   the table of the list p is told, and at each of its members there is a link
--     AreDescriptorsTold v parts
--                             each isochronous descriptor of a driver that is lent is told
--     IsTold base parts all m d
--                             memory has what the driver has lent: `parts` are the frame list, the ring, and the queues of endpoints, and `all` has
--                             isochronous descriptors too
use Rattle.std.specs.Prelude.{◌≡◌, ℕ, ◌*◌, true, false, List, length, Option, Some}
use Rattle.word_mem.specs.Memory.{Mem, reaches}
use Rattle.qh_qtd.specs.declared.queue_head.Qh.{Qh}
use Rattle.itd_sitd.specs.declared.itd.Itd.{Itd}
use Rattle.itd_sitd.specs.declared.sitd.Sitd.{Sitd}
use Rattle.drv_chains.specs.declared.members.Member.{Member}
use Rattle.drv_chains.specs.declared.members.Predecessor.TheVariants.{After}
use Rattle.drv_members.specs.Members.{is_linked}
use Rattle.drv_periodic.specs.Periodic.{Periodic, address_of}
use Rattle.drv_table.specs.DriverContent.{DriverContent}
use Rattle.claims_driver.specs.Owners.{TransferRuns, Views, views_of}
use Rattle.law_structures.specs.lent_structures.Structures.{Structure, QueueHead, Table, Isochronous, SplitIsochronous, StructureSets}
use Rattle.claims_base.specs.Controller.{Base}
use Rattle.law_controller.specs.controlled_streams.Control.{FrameList}
use Rattle.law_driver_ring.specs.Inventory.{sorts_of, IsLent, IsDriven}
use Rattle.law_driver.specs.in_place.InPlace.{IsInPlace}
use Rattle.law_descriptors.specs.frame_keeps.Leaving.{IsWithin}

pub data IsDescriptor (o : Option Structure) : Type 0 where
  an_itd : (v : Itd) → o ≡ Some (Isochronous v) → IsDescriptor o
  a_sitd : (v : Sitd) → o ≡ Some (SplitIsochronous v) → IsDescriptor o

pub data IsLinkAt (m : Mem) (parts : StructureSets) (a : ℕ) : Type 0 where
  of_queue : (n : ℕ) (q : Qh) → parts n a ≡ Some (QueueHead q) → IsLinkAt m parts a
  of_descriptor : (n : ℕ) → IsDescriptor (parts n a) → IsLinkAt m parts a
  unlent : reaches m a ≡ false → IsLinkAt m parts a

pub record HasItsLinks (m : Mem) (parts : StructureSets) (p : Periodic) : Type 0 where
  pub owner : ℕ
  pub words : List ℕ
  pub list : parts owner (32 * p.list) ≡ Some (Table words)
  pub size : length words ≡ 1024
  pub members : (x : Member) → is_linked p.members.schedule x ≡ true → IsLinkAt m parts (address_of p.list (After x))

-- ---- those of a driver

abbrev pub AreDescriptorsTold : Views → StructureSets → Type 0
AreDescriptorsTold v parts =
    (t : ℕ) (y : TransferRuns) → v.transfer t ≡ Some y → y.isochronous ≡ true → y.released ≡ false → IsLent (v.slot y.first)
    → IsDescriptor (parts (32 * y.first) (32 * y.first))

pub record IsTold (base : Base) (parts all : StructureSets) (m : Mem) (d : DriverContent) : Type 0 where
  pub place : IsInPlace m d
  pub driven : IsDriven (views_of d) (sorts_of parts)
  pub within : IsWithin parts all
  pub descriptors : AreDescriptorsTold (views_of d) all
  pub list : FrameList all base
  pub start : base.periodic_list_base ≡ 0
