-- What the visits of a microframe cost (EHCI 1.0, 4.6, 4.7, 4.10 and 4.12; USB 2.0, 5.11.3), as the run tells it: a microframe that begins leaves nothing, a structure that the
-- walk of the frames fetches has cost nothing so far, an event with its copy in hand adds what it takes of the time that is left, and every other event or command leaves all.
--     payments_from fixed p ps n        .. after n events and commands
--     names_in ps             the addresses alone
use Rattle.std.specs.Prelude.{ℕ, List, [], ◌∷◌}
use Rattle.bus_wire.specs.Bus.{Fixed}
use Rattle.bus_world.specs.Orders.{OrderedWorld}
use Rattle.claims_world.specs.Carried.{carried_from}
use Rattle.claims_world.specs.WithinLoad.{payments_next}

abbrev pub payments_from : Fixed → OrderedWorld → List (ℕ × ℕ) → ℕ → List (ℕ × ℕ)
payments_from fixed p ps n = carried_from payments_next fixed p ps n

-- ---- all of them

abbrev pub names_in : List (ℕ × ℕ) → List ℕ
names_in [] = []
names_in (x ∷ ps) = x.0 ∷ names_in ps
