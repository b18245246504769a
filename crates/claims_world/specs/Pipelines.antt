-- The translators of a world (USB 2.0, 11.14 and 11.18).
--     port_at multi place        the number by which plans name the translator at a place: 0 where it serves all ports
--     StuffsAtMost most fixed    no endpoint below a hub has more stuffed bits
--     EachPipeline P w g         P tells of the watched pipeline of each translator of the world
use Rattle.std.specs.Prelude.{◌≡◌, ℕ, ◌+◌, ◌%◌, ◌≤◌, Bool, if◌then◌else◌, List, slice_get, Some}
use Rattle.hub_keys.specs.declared.key.Key.{Key}
use Rattle.multi_tt.specs.Translators.{Translator}
use Rattle.hub_class.specs.HubContent.{HubContent}
use Rattle.bus_wire.specs.declared.seats.Seat.{Seat}
use Rattle.bus_wire.specs.Bus.{Fixed, stuff_of}
use Rattle.bus_world.specs.World.{World}
use Rattle.claims_world.specs.Gaps.{watched_of}
use Rattle.claims_world.specs.HubPlans.{plans_now}
use Rattle.claims_world.specs.Plans.{Plan}
use Rattle.claims_world.specs.Watched.{Watched}

-- the number by which plans name the translator at a place: 0 where it serves all ports
abbrev pub port_at : Bool → ℕ → ℕ
port_at multi place = if multi then place + 1 else 0

abbrev pub StuffsAtMost : ℕ → Fixed → Type 0
StuffsAtMost most fixed = (place : ℕ) (seat : Seat) → slice_get fixed.seats place ≡ Some seat → stuff_of seat.owner ≤ most

abbrev pub EachPipeline : (Plan → ℕ → List Watched → Type 0) → World → (ℕ → ℕ → Key → ℕ) → Type 0
EachPipeline P w g =
    (i j : ℕ) (h : HubContent) (t : Translator) → slice_get w.bus.hubs i ≡ Some h → slice_get h.translators.all j ≡ Some t
    → P (plans_now w.driver w.registers.frame_index h.address (port_at h.translators.multi j)) (w.registers.frame_index % 8)
    (watched_of (g i j) t.pipeline)
