-- In a microframe no device below a hub changes, and none of its packets is counted: its translator asks it as the next microframe begins
-- (USB 2.0, 11.14 and 11.18).
--     IsNotHigh fixed n      no endpoint of the device at place n is on the high-speed bus
--     StaysBelow n b c       the device at place n is in the bus c as it is in b, and so are the numbers of the next packets below hubs
--     BelowStays s           at each moment of the run of a script a device below a hub is as the Begin of the microframe left it, once an
--                            endpoint was open as that began
use Rattle.std.specs.Prelude.{◌≡◌, ◌≢◌, ℕ, List, slice_get, Some}
use Rattle.script_types.specs.declared.scripts.Script.{Script}
use Rattle.script_text.specs.Faults.{Spells}
use Rattle.drv_table.specs.declared.content.Endpoint.{Endpoint}
use Rattle.bus_wire.specs.declared.seats.Owner.TheVariants.{High}
use Rattle.bus_wire.specs.declared.seats.Seat.{Seat}
use Rattle.bus_wire.specs.Bus.{Bus, Fixed, fixed_of}
use Rattle.bus_world.specs.Budgets.{moment}
use Rattle.claims_world.specs.DueAtBegin.{begun}

abbrev pub IsNotHigh : Fixed → ℕ → Type 0
IsNotHigh fixed n = (place : ℕ) (seat : Seat) → slice_get fixed.seats place ≡ Some seat → seat.owner ≢ High n

pub record StaysBelow (n : ℕ) (b c : Bus) : Type 0 where
  pub device : slice_get c.devices n ≡ slice_get b.devices n
  pub numbers : c.below ≡ b.below

abbrev pub BelowStays : Script → Type 0
BelowStays s = (k e n : ℕ) (x : Endpoint) → slice_get (begun s k).driver.endpoints e ≡ Some x → IsNotHigh (fixed_of s) n
    → StaysBelow n (begun s k).bus (moment s k).world.bus

abbrev pub TextsLeaveBelow : Type 0
TextsLeaveBelow = (text : List ℕ) (s : Script) → Spells text s → BelowStays s
