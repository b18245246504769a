-- The microphone's descriptor in its frame, for worked rows: its frame begins, and the walk comes to it; the slot of microframe 0 is
-- active.
--     due_from         the microphone's script of `law_world_memory` once the descriptor is linked, as its frame comes, with nine events
--     due_at k         its world k events after that: the microframe begins, the descriptor is fetched, its bytes are asked for, and it is
--                      written back
--     due_slots k      what the walk came to by then, and what is done
use Rattle.std.specs.Prelude.{ℕ, [], ◌∷◌}
use Rattle.script_types.specs.declared.scripts.Event.TheVariants as events
use Rattle.bus_wire.specs.Bus.{fixed_of}
use Rattle.bus_world.specs.Orders.{Events, OrderedWorld, at_place, ticks}
use Rattle.bus_world.specs.World.{World}
use Rattle.claims_world.specs.Carried.{carried_from}
use Rattle.law_world.specs.memory.MicrophoneSamples.{one_microphone, heard_at}
use Rattle.claims_world.specs.Slots.{Slots, no_slots, slots_next}

abbrev pub due_from : OrderedWorld
due_from = at_place (record (heard_at 4) { registers = record (heard_at 4).registers { frame_index = 15 } }) (Events events.C 9 ∷ [])

abbrev pub due_at : ℕ → World
due_at k = (ticks (fixed_of one_microphone) due_from k).world

abbrev pub due_slots : ℕ → Slots
due_slots k = carried_from slots_next (fixed_of one_microphone) due_from no_slots k
