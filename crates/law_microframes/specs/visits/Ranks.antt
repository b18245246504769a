-- The order in which links lead on from those that the walk of the frames may meet (EHCI 1.0, 3.1, 3.3.1, 3.4.1, 3.6.1, 4.6 and 4.7): a height is given to each, and
-- each link leads down. It is told of the words of memory alone, so that it is told also while a member is linked or unlinked, and of those that were unlinked in this
-- microframe, to which the walk may still come.
--     height_to height o      the height of what a link leads to; the end lies below all
--     IsRanked m d kept height who
--                             those that are `kept` are closed under their links, and have each that stands; the link of each leads to a lower one, which stands in
--                             each frame in which `who` stands there; and while a member is linked, each whose link leads where the member's does lies above it
use Rattle.std.specs.Prelude.{◌≡◌, ◌≢◌, ℕ, ◌<◌, ◌≤◌, Bool, true, false, Option, Some, None}
use Rattle.word_mem.specs.Memory.{Mem}
use Rattle.drv_chains.specs.declared.members.Member.{Member}
use Rattle.drv_chains.specs.Chains.{stands_in}
use Rattle.drv_members.specs.Members.{is_linked}
use Rattle.drv_periodic.specs.declared.work.Work.{Work}
use Rattle.drv_table.specs.DriverContent.{DriverContent}
use Rattle.law_frames.specs.Met.{Kind}
use Rattle.law_descriptors.specs.Meeting.{standing}
use Rattle.claims_driver.specs.Unlinked.{led}
use Rattle.claims_world.specs.Visits.{begins}
pub use Rattle.claims_world.specs.Visits.{name_of, next_of}

-- ---- where a link leads

abbrev pub height_to : (ℕ → ℕ) → Option ℕ → ℕ
height_to height None = 0
height_to height (Some k) = height k

-- ---- the whole

pub record IsRanked (m : Mem) (d : DriverContent) (kept : ℕ → Bool) (height : ℕ → ℕ) (who : ℕ → Member) : Type 0 where
  pub standing_are : (n : ℕ) (kind : Kind) → standing d n ≡ Some kind → kept n ≡ true
  pub closed : (n k : ℕ) → kept n ≡ true → next_of m n ≡ Some k → kept k ≡ true
  pub falls : (n : ℕ) → kept n ≡ true → height_to height (next_of m n) < height n
  pub shares : (n k f : ℕ) → f < 1024 → kept n ≡ true → next_of m n ≡ Some k → stands_in f (who n) ≡ true → stands_in f (who k) ≡ true
  pub named : (n : ℕ) → kept n ≡ true → begins (who n) ≡ n
  -- a member to which a word may lead
  pub stand : (x : Member) → is_linked (led d) x ≡ true → who (begins x) ≡ x
  -- at least one of the stores that link it was made, and another is to come
  pub linking : (w : Work) → d.periodic.list.work ≡ Some w → w.removes ≡ false → 1 ≤ w.made → (n : ℕ) → kept n ≡ true → n ≢ begins w.member
      → next_of m n ≡ next_of m (begins w.member) → height (begins w.member) < height n
