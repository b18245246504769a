-- Worked rows of reasons (EHCI 1.0, 4.10, 4.10.3 and 4.12.2.4).
--     empty_script holds       a script with no endpoint whose controller has eight events, with these spans of microframes in which the bus may not be used
--     empty_at holds k         its world after k of them: the first is the Begin of microframe 1
--     visiting q index left    the walk of the frames has a copy of this queue head in hand, in the microframe of FRINDEX, with this time left
--     HasReason ..             it has a reason to be passed
--     HasReasonInRing q        so has this queue head of the ring
--     HasSplitReason ..        so has a siTD of an IN, which is in Do-Complete where `waiting` is true
use Rattle.std.specs.Prelude.{ℕ, Bool, None, List, [], ◌∷◌}
use Rattle.script_types.specs.declared.scripts.Event.TheVariants as events
use Rattle.script_types.specs.declared.scripts.Line.TheVariants as lines
use Rattle.script_types.specs.declared.scripts.Script.{Script}
use Rattle.qh_qtd.specs.declared.queue_head.Qh.{Qh}
use Rattle.async_walk.specs.Samples.{in_hand}
use Rattle.periodic_walk.specs.declared.state.Hand.TheVariants as hands
use Rattle.periodic_walk.specs.Place.{FramePlace}
use Rattle.periodic_walk.specs.Samples.{at_hand, queue, held_sitd}
use Rattle.bus_world.specs.World.{World}
use Rattle.bus_world.specs.Budgets.{moment}
use Rattle.claims_world.specs.Visits.{RingHasNothing, QueueHasNothing, SitdHasNothing}

abbrev pub empty_script : List (ℕ × ℕ) → Script
empty_script holds = record {
  words = 2048;
  hubs = [];
  devices = [];
  endpoints = [];
  fates = [];
  holds = holds;
  lines = (5, lines.Order events.C 8) ∷ [];
  version = 1;
  frames = 1024;
  park = 0;
  roots = [];
  classics = [];
  disks = [];
}

abbrev pub empty_at : List (ℕ × ℕ) → ℕ → World
empty_at holds k = (moment (empty_script holds) k).world

abbrev pub visiting : Qh → ℕ → ℕ → FramePlace
visiting q index left = at_hand (hands.Queue (queue q 0 None)) index left

abbrev pub HasReason : Qh → ℕ → ℕ → Type 0
HasReason q index left = QueueHasNothing (visiting q index left) (queue q 0 None)

abbrev pub HasReasonInRing : Qh → Type 0
HasReasonInRing q = RingHasNothing (in_hand q 125000000) (record { at = 0x1040; queue_head = q; settled = None })

abbrev pub HasSplitReason : Bool → ℕ → ℕ → Type 0
HasSplitReason waiting index left = SitdHasNothing (at_hand (hands.Sitd (held_sitd waiting None)) index left) (held_sitd waiting None)
