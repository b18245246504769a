-- What the walk of the ring has visited since it read the head in the script with a keyboard and a disk of `law_world_memory` (EHCI 1.0, 4.8 and 4.8.3).
--     typed_rounds k       the round, k events and commands after the open of the keyboard's endpoint was accepted
use Rattle.std.specs.Prelude.{ℕ, List, []}
use Rattle.bus_wire.specs.Bus.{fixed_of}
use Rattle.bus_world.specs.Orders.{at_place, orders_of}
use Rattle.law_world.specs.memory.Samples.{keyboard_and_disk, after_the_open, opened}
use Rattle.law_microframes.specs.time.Rounds.{round_from}

abbrev pub typed_rounds : ℕ → List ℕ
typed_rounds k = round_from (fixed_of keyboard_and_disk) (at_place opened (orders_of after_the_open)) [] k
