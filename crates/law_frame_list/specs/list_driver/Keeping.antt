-- The frame list of a driver in the words of memory, and what is still to be stored beside it (EHCI 1.0, 3.1, 3.3.1 and 4.6).
--     MendsAside d             none of what stalled endpoints are owed goes into the run of the frame list, which begins in block 0
--     LeadsOn word p x         the link of x leads to what stands first in its frame
--     AreLeading m d           once they were lent, so does that of each one that is still to be linked
--     IsToLink d first         before that nothing is under way, and once they have their frames each of them is to be linked
--     AreToLink d              so it is of an unfinished command with such descriptors
--     KeepsItsList m d         the words of memory stand for it; what a stalled endpoint is owed goes elsewhere; and isochronous
--                              descriptors that are still to be linked lead to what stands first in their frames
use Rattle.std.specs.List.{AllByRecursion}
use Rattle.std.specs.Prelude.{◌≡◌, ℕ, ◌≤◌, true, Some, None}
use Rattle.word_mem.specs.Memory.{Mem, word_at}
use Rattle.drv_chains.specs.declared.members.Member.{Member}
use Rattle.drv_chains.specs.declared.members.Predecessor.TheVariants.{After}
use Rattle.drv_chains.specs.Chains.{first_of, id_of, chain}
use Rattle.drv_members.specs.Members.{frame_of}
use Rattle.drv_periodic.specs.Periodic.{Periodic, link_to, address_of}
use Rattle.drv_table.specs.declared.content.Command.TheVariants as unfinished
use Rattle.drv_table.specs.DriverContent.{DriverContent}
use Rattle.claims_driver.specs.FrameListMembers.{Placed, member_of, placed_in}
use Rattle.law_driver.specs.listed_members.Members.{is_in_names}
use Rattle.claims_driver.specs.FrameWords.{ListStands}

abbrev pub MendsAside : DriverContent → Type 0
MendsAside d = AllByRecursion (λ w. 1 ≤ w.queue) d.mends

abbrev pub LeadsOn : (ℕ → ℕ) → Periodic → Member → Type 0
LeadsOn word p x = word (address_of p.list (After x)) ≡ link_to (first_of (chain p.members.schedule (frame_of x)))

abbrev pub AreLeading : Mem → DriverContent → Type 0
AreLeading m d =
    (e first count : ℕ) → d.command ≡ Some (unfinished.Iso e first count) → 2 ≤ d.made
    → AllByRecursion (LeadsOn (word_at m) d.periodic.list) d.periodic.queued

pub record IsToLink (d : DriverContent) (first : ℕ) : Type 0 where
  pub idle : d.periodic.list.work ≡ None
  pub all :
      d.made ≡ 1 → (t : ℕ) → (y : Placed) → first ≤ t → placed_in d.endpoints d.transfers t ≡ Some y
      → is_in_names (id_of (member_of d.periodic y)) d.periodic.queued ≡ true

abbrev pub AreToLink : DriverContent → Type 0
AreToLink d = (e first count : ℕ) → d.command ≡ Some (unfinished.Iso e first count) → d.made ≤ 1 → IsToLink d first

pub record KeepsItsList (m : Mem) (d : DriverContent) : Type 0 where
  pub list : ListStands m d
  pub mends : MendsAside d
  pub to_link : AreToLink d
  pub leading : AreLeading m d
