-- The stores by which a command links or unlinks members of the frame list, one after another (EHCI 1.0, 4.6).
--     IsLinkingStep p c     the command c is unfinished, links or unlinks members, and has made its own events: its next event is such a store
--     NextLeads p           the member that is linked next, where the store ends the linking of the one before it, has a link of its own that
--                           leads to the one that will be behind it
--     IsOfInterrupt c       it links or unlinks the queue head of an interrupt endpoint, or unlinks descriptors
use Rattle.std.specs.Prelude.{◌≡◌, ℕ, ◌≤◌, ◌⊎◌, true, List, ◌∷◌, length, Some}
use Rattle.word_mem.specs.Memory.{word_at}
use Rattle.mem_runs.specs.Book.{store}
use Rattle.drv_chains.specs.declared.members.Member.{Member}
use Rattle.drv_chains.specs.declared.members.Predecessor.TheVariants.{After}
use Rattle.drv_chains.specs.Chains.{successor}
use Rattle.drv_members.specs.Members.{with_member, frame_of}
use Rattle.drv_periodic.specs.declared.work.Store.{Store}
use Rattle.drv_periodic.specs.Periodic.{link_to, address_of, next_store, after_store}
use Rattle.drv_periodic_table.specs.Linking.{may_link}
use Rattle.drv_table.specs.declared.content.Command.{Command}
use Rattle.drv_table.specs.declared.content.Command.TheVariants as unfinished
use Rattle.drv_table.specs.Parts.{Parts}
use Rattle.drv_table.specs.Commands.{events_of, links}

pub record IsLinkingStep (p : Parts) (c : Command) : Type 0 where
  pub unfinished : p.driver.command ≡ Some c
  pub links : links c ≡ true
  pub late : length (events_of c) ≤ p.driver.made

abbrev pub NextLeads : Parts → Type 0
NextLeads p =
    (s : Store) (x : Member) (xs : List Member) → next_store p.driver.periodic.list ≡ Some s → p.driver.periodic.queued ≡ x ∷ xs → may_link (after_store p.driver.periodic.list) x ≡ true
    → word_at (store p.driver.book p.memory s.block s.at s.value) (address_of (after_store p.driver.periodic.list).list (After x))
    ≡ link_to (successor (with_member (after_store p.driver.periodic.list).members.schedule x) x (frame_of x))

abbrev pub IsOfInterrupt : Command → Type 0
IsOfInterrupt c = (c ≡ unfinished.Chain) ⊎ ((e : ℕ) × (c ≡ unfinished.Unchain e))
