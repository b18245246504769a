-- Whom the walk of the frames may meet, and what a driver owes to each, so that the controller never meets what it can't read (EHCI 1.0, 3.1, 3.3, 3.4, 3.6
-- and 4.6): links lead to structures of the kind that they tell, and whatever is active has its bytes. Nothing is said of the order of frames.
--     Kind                        a queue head of an interrupt endpoint, an iTD, or a siTD
--     LeadsTo met l               the link l ends the chain, or leads to one that is met, of the kind that it tells; a frame span traversal node isn't met
--     IsQueuePart n part          the queue head at n stands in its part, which is sound (law_ring)
--     IsLinkedPart member n part  .. and its link leads to a queue head of a ring
--     IsBuffered part pages from n  the n bytes from byte `from` of these pages on lie in one buffer
--     IsMetQueue, IsMetItd, IsMetSitd  what is owed to each kind of structure that is met
--     IsMetAs met n part kind     what is owed to one of this kind
use Rattle.std.specs.Prelude.{◌≡◌, ℕ, ◌+◌, ◌<◌, ◌≤◌, Bool, true, List, length, Option, Some}
use Rattle.link_words.specs.declared.kinds.Link.{Link}
use Rattle.link_words.specs.declared.kinds.Link.TheVariants as links
use Rattle.link_words.specs.Links.{link_of}
use Rattle.itd_sitd.specs.declared.itd.Itd.{Itd}
use Rattle.itd_sitd.specs.declared.sitd.Sitd.{Sitd}
use Rattle.itd_sitd.specs.Itd.{slot_of}
use Rattle.mem_bytes.specs.Bytes.{place}
use Rattle.hc_iso.specs.Sitd.{sitd_place}
use Rattle.hc_iso.specs.WriteBack.{itd_pages, slot_place, sitd_pages}
use Rattle.law_structures.specs.lent_structures.Structures.{Buffer, Isochronous, SplitIsochronous, Structures}
use Rattle.law_structures.specs.lent_structures.Sound.{LeadsAmong}
pub use Rattle.law_ring.specs.QueueParts.{IsQueuePart}

pub data Kind : Type 0 where
  AQueue : Kind
  AnItd : Kind
  ASitd : Kind

-- the type of a link tells the kind of what it leads to (3.1)
abbrev pub LeadsTo : (ℕ → Option Kind) → Link → Type 0
LeadsTo met links.End = Unit {0}
LeadsTo met (links.Itd a) = met a ≡ Some AnItd
LeadsTo met (links.Qh a) = met a ≡ Some AQueue
LeadsTo met (links.Sitd a) = met a ≡ Some ASitd
LeadsTo met (links.Fstn a) = ⊥

-- ---- a queue head (3.5, 3.6 and 4.10)

pub record IsLinkedPart (member : ℕ → Bool) (n : ℕ) (part : Structures) : Type 0 where
  pub part_is : IsQueuePart n part
  pub link : LeadsAmong member part_is.queue.link

-- of an endpoint of any speed (4.10, 4.12.2)
pub record IsMetQueue (met : ℕ → Option Kind) (n : ℕ) (part : Structures) : Type 0 where
  pub part_is : IsQueuePart n part
  pub link : LeadsTo met (link_of part_is.queue.link)

-- ---- isochronous descriptors (3.3, 3.4)

pub record IsBuffered (part : Structures) (pages : List ℕ) (from n : ℕ) : Type 0 where
  pub start : ℕ
  pub bytes : List ℕ
  pub here : part (place pages start) ≡ Some (Buffer pages start bytes)
  pub after : start ≤ from
  pub within : from + n ≤ start + length bytes

-- each microframe that is active has its bytes (3.3.2)
pub record IsMetItd (met : ℕ → Option Kind) (n : ℕ) (part : Structures) : Type 0 where
  pub itd : Itd
  pub here : part n ≡ Some (Isochronous itd)
  pub link : LeadsTo met (link_of itd.link)
  pub slots : (u : ℕ) → u < 8 → (slot_of u itd).active ≡ true → 0 < (slot_of u itd).length
      → IsBuffered part (itd_pages itd) (slot_place (slot_of u itd)) (slot_of u itd).length

-- where it is active, the bytes that are left are there (3.4.3, 3.4.4)
pub record IsMetSitd (met : ℕ → Option Kind) (n : ℕ) (part : Structures) : Type 0 where
  pub sitd : Sitd
  pub here : part n ≡ Some (SplitIsochronous sitd)
  pub link : LeadsTo met (link_of sitd.link)
  pub bytes : sitd.active ≡ true → 0 < sitd.total → IsBuffered part (sitd_pages sitd) (sitd_place sitd) sitd.total

abbrev pub IsMetAs : (ℕ → Option Kind) → ℕ → Structures → Kind → Type 0
IsMetAs met n part AQueue = IsMetQueue met n part
IsMetAs met n part AnItd = IsMetItd met n part
IsMetAs met n part ASitd = IsMetSitd met n part
