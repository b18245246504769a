-- A keyboard behind a hub whose host has waited for its complete-splits since frame 0, for worked rows (EHCI 1.0, 4.12.2.4.1).
--     late             its world: microframe 0 of frame 128 is about to begin
--     elsewhere        .. and here microframe 1 of frame 129, which doesn't have its queue head
--     visited_in w k   what the walk of the frames visited in the microframe after k events of the controller
--     Waits q          no copy of it is in hand, and its host may be late
--     Misses b w vs    the keyboard is passed by the frame in the world w, whose microframe began with b
--     cleared          the scanner's bus, where the hub has heard to clear a buffer last
use Rattle.std.specs.Prelude.{◌≡◌, ℕ, List, [], ◌∷◌, true, Some}
use Rattle.hub_class.specs.Worked as hubs
use Rattle.qh_qtd.specs.declared.queue_head.Qh.{Qh}
use Rattle.bus_wire.specs.Bus.{Wired, fixed_of, opening_wired}
use Rattle.bus_world.specs.World.{World}
use Rattle.claims_world.specs.Carried.{carried_from}
use Rattle.claims_world.specs.Visits.{visits_next}
use Rattle.law_structures.specs.lent_structures.Structures.{QueueHead}
use Rattle.law_ring.specs.Hand.{Empty}
use Rattle.law_world.specs.memory.Samples.{keyboard_and_disk}
use Rattle.law_microframes.specs.due.repeats.Samples.{waiting, waits_in}
use Rattle.law_reports.specs.due_at_begin.SplitSamples.{its_queue}
use Rattle.law_reports.specs.pipes.Declared.{Sides}
use Rattle.law_reports.specs.pipes.below_hubs.Inward.{may_be_late}
use Rattle.law_reports.specs.pipes.below_hubs.Late.{MissesFrame}
use Rattle.law_reports.specs.pipes.below_hubs.Samples.{scanner}

abbrev pub late : World
late = record waiting { registers = record waiting.registers { frame_index = 1023 } }

abbrev pub elsewhere : World
elsewhere = record waiting { registers = record waiting.registers { frame_index = 1032 } }

abbrev pub visited_in : World → ℕ → List ℕ
visited_in w k = carried_from visits_next (fixed_of keyboard_and_disk) (waits_in w) [] k

abbrev pub Waits : Qh → Type 0
Waits q = may_be_late Empty its_queue (Some (QueueHead q)) ≡ true

abbrev pub Misses : Sides → World → World → List ℕ → Type 0
Misses x b w vs = MissesFrame (fixed_of keyboard_and_disk) x b w vs its_queue

abbrev pub cleared : Wired
cleared = record (opening_wired scanner) {
  bus = record (opening_wired scanner).bus { hubs = hubs.told hubs.clear_first hubs.hub ∷ [] };
}
