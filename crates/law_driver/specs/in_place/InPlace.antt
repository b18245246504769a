-- The runs and members of a driver are in place (EHCI 1.0, 3, 4.6 and 4.8), and the fixed words of its queue heads (3.6.2).
--     IsGood k m             the book stands in the memory, which has its shape
--     IsSound m d            what an event of the driver finds: its book stands in the memory, and its owners, its frame list and its ring
--     IsInPlace m d          each structure stands in a run of its own; runs are lent, but those that the command has still to lend; the
--                            frame list and the ring have their members, and each endpoint in its frames its queue head there; and the
--                            fixed words of queue heads are those of their endpoints
use Rattle.word_mem.specs.Memory.{Mem, IsShaped}
use Rattle.mem_runs.specs.Book.{Book, holding, Stands}
use Rattle.drv_table.specs.DriverContent.{DriverContent}
use Rattle.law_driver.specs.listed_members.Members.{IsListed}
use Rattle.claims_driver.specs.Leaving.{HasOwners}
use Rattle.claims_driver.specs.Ring.{link_in}
use Rattle.law_driver.specs.ring_members.Words.{IsRing}
use Rattle.law_driver.specs.listed_queues.Queues.{HasQueues}
use Rattle.claims_driver.specs.LentRuns.{AreLent}
use Rattle.claims_driver.specs.InPlace.{AreFixed}

pub record IsGood (k : Book) (m : Mem) : Type 0 where
  pub stands : Stands (holding k m)
  pub shape : IsShaped m

pub record IsSound (m : Mem) (d : DriverContent) : Type 0 where
  pub stands : Stands (holding d.book m)
  pub shape : IsShaped m
  pub owners : HasOwners d
  pub listed : IsListed d
  pub ring : IsRing (link_in m) d

pub record IsInPlace (m : Mem) (d : DriverContent) : Type 0 where
  pub sound : IsSound m d
  pub lent : AreLent d
  pub queues : HasQueues d
  pub fixed : AreFixed m d
