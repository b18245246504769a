-- Whose runs the members of the frame list begin (EHCI 1.0, 4.6 and 4.7).
--     HaveRuns d owner          each member begins a run of its own endpoint or transfer
use Rattle.std.specs.Prelude.{ℕ, ◌/◌, Bool}
use Rattle.std.specs.List.{AllByRecursion}
use Rattle.drv_table.specs.DriverContent.{DriverContent}
use Rattle.mem_runs.specs.Book.{slot_of}
use Rattle.claims_driver.specs.Owners.{Owner, QueueHead, Described, IsPlaced}

-- the block in which a member begins, by its name
abbrev pub IsOwnedAs : DriverContent → (ℕ → Owner) → ℕ → Owner → Type 0
IsOwnedAs d owner id o = IsPlaced (slot_of d.book.slots) owner (id / 32) o

pub record HaveRuns (d : DriverContent) (owner : ℕ → Owner) : Type 0 where
  pub queues : AllByRecursion (λ q. (e : ℕ) × IsOwnedAs d owner q.id (QueueHead e)) d.periodic.list.members.schedule.queues
  pub descriptors : AllByRecursion (λ k. (split : Bool) × ((t : ℕ) × IsOwnedAs d owner k.id (Described split t))) d.periodic.list.members.schedule.descriptors
