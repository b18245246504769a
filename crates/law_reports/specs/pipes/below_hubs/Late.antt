-- A host below a hub that waits for complete-splits while a frame begins comes to none of them in a later one (EHCI 1.0, 4.6 and
-- 4.12.2.4.1; USB 2.0, 11.18): in microframe 0 of each frame that has its queue head the walk comes to that, and finds the miss.
--     IsHeldAt w n             the walk of the frames has a copy of the queue head at n in hand, and nothing was done with it
--     IsAtFirst .. n           in microframe 0: it is linked in the frame only if it was as the microframe began; and where it was visited
--                              it is in hand, or waits no more
--     IsLeftBehind w n         in a later microframe: it isn't linked in the frame, nor does the walk come to it, nor is it in hand
--     MissesFrame b w vs n     by the microframe, one of these
--     TextsMissLate            so it is at each moment of a script up to which the host has waited since a frame began
use Rattle.std.specs.Prelude.{◌≡◌, ◌≢◌, ℕ, ◌%◌, ◌⊎◌, List, Some, None}
use Rattle.script_types.specs.declared.scripts.Script.{Script}
use Rattle.script_text.specs.Faults.{Spells}
use Rattle.periodic_walk.specs.declared.state.Hand.TheVariants as hands
use Rattle.periodic_walk.specs.declared.state.HeldQueue.{HeldQueue}
use Rattle.periodic_walk.specs.Walk.{held_address}
use Rattle.hc_core.specs.declared.controller.MicroframePart.TheVariants.{Periodic}
use Rattle.bus_wire.specs.Bus.{Fixed, fixed_of}
use Rattle.bus_world.specs.Budgets.{moment}
use Rattle.bus_world.specs.World.{World}
use Rattle.claims_world.specs.Visits.{IsInChain, HasVisited, frame_in, began, visited}
use Rattle.law_microframes.specs.visits.Visited.{IsToCome}
use Rattle.law_reports.specs.pipes.Declared.{Sides, sides_of}
use Rattle.law_reports.specs.pipes.below_hubs.InwardLaws.{WaitsAt, IsLateSince}

pub record IsHeldAt (w : World) (n : ℕ) : Type 0 where
  pub part : w.control.part ≡ Periodic
  pub held : HeldQueue
  pub in_hand : w.control.frame.hand ≡ Some (hands.Queue held)
  pub at : held.copy.at ≡ n
  pub unsettled : held.copy.settled ≡ None

pub record IsAtFirst (fixed : Fixed) (x : Sides) (b w : World) (vs : List ℕ) (n : ℕ) : Type 0 where
  pub linked : IsInChain w (frame_in w.control.frame.index) n → IsInChain b (frame_in w.control.frame.index) n
  pub visited : HasVisited n vs → IsHeldAt w n ⊎ (WaitsAt fixed x w n → ⊥)

pub record IsLeftBehind (w : World) (n : ℕ) : Type 0 where
  pub unlinked : IsInChain w (frame_in w.control.frame.index) n → ⊥
  pub unreached : IsToCome w.memory w.control n → ⊥
  pub unheld : w.control.part ≡ Periodic → held_address w.control.frame.hand ≡ Some n → ⊥

pub record MissesFrame (fixed : Fixed) (x : Sides) (b w : World) (vs : List ℕ) (n : ℕ) : Type 0 where
  pub first : w.control.frame.index % 8 ≡ 0 → IsAtFirst fixed x b w vs n
  pub later : w.control.frame.index % 8 ≢ 0 → IsLeftBehind w n

-- b: the world as its microframe began
abbrev pub TextsMissLate : Type 0
TextsMissLate = (text : List ℕ) (s : Script) → Spells text s → (k n : ℕ) → IsLateSince s n k
    → MissesFrame (fixed_of s) (sides_of s) (began s k) (moment s k).world (visited s k) n
