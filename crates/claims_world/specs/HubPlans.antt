-- What a driver has placed below each translator in one frame (USB 2.0, 11.14 and 11.18.4; EHCI 1.0, 4.12).
--     placed_below hub port f P    those of a plan that this translator serves and that are active in frame f
--     placed_as key P k            the one of them whose key is k
--     plan_by key P                each with the microframe of its first start-split, and its byte-times
--     hub_plan key hub port f P    the translator's plan in this frame
--     key_at d y           the key of what is placed: address, number and direction of its endpoint, and its kind
--     plan_at d hub port f the plan of the translator of this hub that serves this port, 0 for all, in frame f
--     plans_now d index hub port   .. in the frame of this FRINDEX
use Rattle.std.specs.Prelude.{ℕ, Bool, true, false, ◌&&◌, nat_lt, List, [], map, filter, find, slice_get, Option, Some, None}
use Rattle.usb_base.specs.Cost.{byte_times}
use Rattle.hub_keys.specs.Keys.{is_same_key}
use Rattle.hub_keys.specs.declared.key.Key.{Key}
use Rattle.bandwidth.specs.declared.placements.Placed.{Placed}
use Rattle.bandwidth.specs.declared.placements.Want.{Want}
use Rattle.bandwidth.specs.Placements.{first_in}
use Rattle.bandwidth.specs.Sums.{is_translator, is_active}
use Rattle.drv_table.specs.declared.content.Endpoint.{Endpoint}
use Rattle.drv_table.specs.DriverContent.{DriverContent}
use Rattle.claims_world.specs.Visits.{frame_in}
use Rattle.claims_world.specs.Plans.{Plan}

abbrev pub is_below : ℕ → ℕ → ℕ → Placed → Bool
is_below hub port f y = is_translator y.want hub port && is_active y.placement f

abbrev pub placed_below : ℕ → ℕ → ℕ → List Placed → List Placed
placed_below hub port f placed = filter (is_below hub port f) placed

abbrev pub placed_as : (Placed → Key) → List Placed → Key → Option Placed
placed_as key placed k = find (λ y. is_same_key (key y) k) placed

-- the microframe of the first start-split of what is placed, and its byte-times, 0 for none
abbrev pub first_of : Option Placed → ℕ
first_of None = 0
first_of (Some y) = first_in y.placement.smask

abbrev pub time_in : Want → ℕ
time_in w = byte_times w.speed w.kind w.max

abbrev pub times_of : Option Placed → ℕ
times_of None = 0
times_of (Some y) = time_in y.want

abbrev pub plan_by : (Placed → Key) → List Placed → Plan
plan_by key placed =
    record { keys = map key placed; first = λ k. first_of (placed_as key placed k); times = λ k. times_of (placed_as key placed k) }

abbrev pub hub_plan : (Placed → Key) → ℕ → ℕ → ℕ → List Placed → Plan
hub_plan key hub port f placed = plan_by key (placed_below hub port f placed)

abbrev pub key_by : Option Endpoint → Placed → Key
key_by None y = record { addr = 0; ep = 0; dir = y.want.dir; kind = y.want.kind }
key_by (Some x) y = record { addr = x.desc.name.addr; ep = x.desc.name.num; dir = y.want.dir; kind = y.want.kind }

abbrev pub key_at : DriverContent → Placed → Key
key_at d y = key_by (slice_get d.endpoints y.want.id) y

abbrev pub plan_at : DriverContent → ℕ → ℕ → ℕ → Plan
plan_at d hub port f = hub_plan (key_at d) hub port f d.periodic.plan.placed

abbrev pub no_plan : Plan
no_plan = record { keys = []; first = λ k. 0; times = λ k. 0 }

-- a hub has an address below 128, and at most 15 translators
abbrev pub is_number : ℕ → ℕ → Bool
is_number hub port = nat_lt hub 128 && nat_lt port 16

abbrev pub if_number : Bool → Plan → Plan
if_number true p = p
if_number false p = no_plan

abbrev pub plans_now : DriverContent → ℕ → ℕ → ℕ → Plan
plans_now d index hub port = if_number (is_number hub port) (plan_at d hub port (frame_in index))
