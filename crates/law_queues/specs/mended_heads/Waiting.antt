-- The queue heads of stalled control endpoints, until they are mended (EHCI 1.0, 3.6.3 and 4.10.3).
--     StandsHalted s part    the queue head is halted, and what is stored already stands there
--     AreAllPublished out part
--                            of these qTDs all are published
--     Waits s parts out      so it is, and what is out of its queue waits
--     AreStalled d parts out ss
--                            what the driver has still to store is what these queue heads are owed
--     MendsStand d parts out there are such
use Rattle.std.specs.Prelude.{◌≡◌, ℕ, ◌*◌, ◌≤◌, true, List, Some}
use Rattle.std.specs.List.{AllByRecursion}
use Rattle.link_words.specs.Links.{no_qtd}
use Rattle.qh_qtd.specs.declared.qtd.Qtd.{Qtd}
use Rattle.qh_qtd.specs.declared.queue_head.Qh.{Qh}
use Rattle.drv_table.specs.DriverContent.{DriverContent}
use Rattle.drv_table.specs.Words.{to_qtd}
use Rattle.law_structures.specs.lent_structures.Structures.{QueueHead, Element, Structures, StructureSets}
use Rattle.law_ring.specs.Order.{IsAmong}
use Rattle.law_queues.specs.mended_heads.Owed.{StalledQueue, all_left, IsOwed, AreApart}

pub record StandsHalted (s : StalledQueue) (part : Structures) : Type 0 where
  pub head : Qh
  pub here : part (32 * s.queue) ≡ Some (QueueHead head)
  pub halted : head.token.halted ≡ true
  pub next : 1 ≤ s.made → head.next ≡ to_qtd s.onward
  pub alternate : 2 ≤ s.made → head.alternate ≡ no_qtd

abbrev pub AreAllPublished : List ℕ → Structures → Type 0
AreAllPublished out part = (a : ℕ) (t : Qtd) → IsAmong a out → part a ≡ Some (Element t) → t.token.active ≡ true

-- what is out of its queue waits until it is mended
pub record Waits (s : StalledQueue) (parts : StructureSets) (out : ℕ → List ℕ) : Type 0 where
  pub stands : StandsHalted s (parts (32 * s.queue))
  pub published : AreAllPublished (out (32 * s.queue)) (parts (32 * s.queue))

-- ---- all of them

-- what is so of these queues
pub record AreStalled (d : DriverContent) (parts : StructureSets) (out : ℕ → List ℕ) (queues : List StalledQueue) : Type 0 where
  pub mends : d.mends ≡ all_left queues
  pub owed : AllByRecursion (IsOwed d) queues
  pub wait : AllByRecursion (λ s. Waits s parts out) queues
  pub apart : AreApart queues

pub record MendsStand (d : DriverContent) (parts : StructureSets) (out : ℕ → List ℕ) : Type 0 where
  pub queues : List StalledQueue
  pub are : AreStalled d parts out queues
