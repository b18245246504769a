-- The order in which links lead on from queue heads of the ring (EHCI 1.0, 3.6, 4.8, 4.8.1 and 4.8.2): a height is given to each that the walk may reach, and each link
-- leads down, but for one that leads to the head of the ring, which lies above all. It is told of the words of memory alone, so that it is told also between the stores of
-- an open or of a cancel, and of those that left the ring since the last answered doorbell, to which the walk may still come.
--     head_at                  the byte address of the head of the ring
--     LinksFall m d rings height
--                              each link but one to the head leads to a lower queue head; `rings`: the doorbell isn't answered yet
--     AreFalling height vs     each of these lies below all that follow it
use Rattle.std.specs.Prelude.{◌≡◌, ◌≢◌, ℕ, ◌*◌, ◌<◌, Bool, true, List, [], ◌∷◌, Some}
use Rattle.std.specs.List.{AllByRecursion}
use Rattle.word_mem.specs.Memory.{Mem}
use Rattle.drv_table.specs.DriverContent.{DriverContent}
use Rattle.drv_table.specs.Words.{head_block}
use Rattle.law_queues.specs.reached_rings.Reaching.{is_reached}
use Rattle.law_microframes.specs.visits.Ranks.{next_of}

abbrev pub head_at : ℕ
head_at = 32 * head_block

pub record LinksFall (m : Mem) (d : DriverContent) (rings : Bool) (height : ℕ → ℕ) : Type 0 where
  pub falls : (n k : ℕ) → is_reached d rings n ≡ true → next_of m n ≡ Some k → k ≢ head_at → height k < height n
  pub below_head : (n : ℕ) → is_reached d rings n ≡ true → n ≢ head_at → height n < height head_at

abbrev pub AreFalling : (ℕ → ℕ) → List ℕ → Type 0
AreFalling height [] = Unit {0}
AreFalling height (v ∷ vs) = AllByRecursion (λ u. height v < height u) vs × AreFalling height vs
