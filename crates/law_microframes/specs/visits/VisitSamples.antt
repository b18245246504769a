-- What the walk of the frames has visited in the script with a keyboard and a disk of `law_world_memory` (EHCI 1.0, 4.4, 4.6 and 4.12.2).
--     typed_visits k       what was visited in the microframe, k events and commands after the open of the keyboard's endpoint was accepted
use Rattle.std.specs.Prelude.{ℕ, List, []}
use Rattle.bus_wire.specs.Bus.{fixed_of}
use Rattle.bus_world.specs.Orders.{at_place, orders_of}
use Rattle.law_world.specs.memory.Samples.{keyboard_and_disk, after_the_open, opened}
use Rattle.law_microframes.specs.visits.Visited.{visited_from}

abbrev pub typed_visits : ℕ → List ℕ
typed_visits k = visited_from (fixed_of keyboard_and_disk) (at_place opened (orders_of after_the_open)) [] k
