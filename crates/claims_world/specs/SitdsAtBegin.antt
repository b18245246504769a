-- What is due of split isochronous transfer descriptors as their microframe begins is done in it (EHCI 1.0, 3.1, 3.4, 4.4, 4.6 and 4.12.3;
-- USB 2.0, 5.6.4 and 11.18): whatever the walk of the frames comes to before.
--     IsSitdDueAtBegin b n       the siTD at n is linked in the frame of the microframe as it begins, which left the world b: the links of
--                                that frame lead there, and as a siTD; and by its words a transaction of it comes in this microframe: a
--                                part of an OUT, or the start-split or a complete-split of an IN
--     HasServed u n v ms         of the transactions that were written back, one is of the siTD at n, and is that of v in microframe u
--     SitdsAtBeginAreServed s    at each moment of the run of a script at which the walk of the frames is over, in a microframe that isn't
--                                held: each siTD of which a transaction was due as the microframe began had it and was written back after
--                                it, unless its endpoint was cancelled since, and it was unlinked; where no more than 4 microseconds went
--                                for complete-splits that were made again
use Rattle.std.specs.Prelude.{◌≡◌, ℕ, ◌≤◌, ◌⊎◌, false, List, [], ◌∷◌, Some}
use Rattle.script_types.specs.declared.scripts.Script.{Script}
use Rattle.itd_sitd.specs.declared.sitd.Sitd.{Sitd}
use Rattle.mem_descriptors.specs.Descriptors.{sitd_at_address}
use Rattle.hc_iso.specs.declared.held.SitdTurn.TheVariants as turns
use Rattle.hc_iso.specs.Sitd.{sitd_turn}
use Rattle.hc_interrupt.specs.Turns.{microframe_of}
use Rattle.bus_wire.specs.Bus.{fixed_of}
use Rattle.bus_world.specs.Budgets.{moment}
use Rattle.bus_world.specs.World.{World}
use Rattle.claims_world.specs.DueAtBegin.{begun}
use Rattle.claims_world.specs.Reach.{SitdAt}
use Rattle.claims_world.specs.Sitds.{SitdMade, sitds, IsServed}
use Rattle.claims_world.specs.SlotsAtBegin.{IsLinkedAs, StaysDue}
use Rattle.claims_world.specs.Visits.{IsPastFrames, is_held_now}
use Rattle.claims_world.specs.WithinLoad.{repeats}

pub record IsSitdDueAtBegin (b : World) (n : ℕ) : Type 0 where
  pub linked : IsLinkedAs SitdAt b n
  pub sitd : Sitd
  pub read : sitd_at_address b.memory n ≡ Some sitd
  pub comes : sitd_turn (microframe_of b.control.frame.index) sitd ≡ turns.Work

abbrev pub HasServed : ℕ → ℕ → Sitd → List SitdMade → Type 0
HasServed u n v [] = ⊥
HasServed u n v (m ∷ ms) = ((m.at ≡ n) × IsServed u v m) ⊎ HasServed u n v ms

-- 4,000,000 of the 125,000,000 ps of a microframe
abbrev pub SitdsAtBeginAreServed : Script → Type 0
SitdsAtBeginAreServed s = (k n : ℕ) → IsPastFrames (moment s k).world → is_held_now (fixed_of s) (moment s k).world ≡ false
    → repeats s k ≤ 4000000 → (due : IsSitdDueAtBegin (begun s k) n) → StaysDue SitdAt s k n
    → HasServed (microframe_of (begun s k).control.frame.index) n due.sitd (sitds s k).made
