-- An event leaves the driver's reserve as it was.
use Rattle.std.proofs.Common.{◌≡◌, refl}
use Rattle.script_types.specs.declared.scripts.Event.{Event}
use Rattle.script_types.specs.declared.scripts.Event.TheVariants as events
use Rattle.bus_wire.specs.Bus.{Fixed}
use Rattle.drv_table.specs.Rows.{driver_row}
use Rattle.bus_world.specs.World.{World, next, driver_parts}
use Rattle.bus_world.proofs.Kept.{row_keeps}

pub next_room : (fixed : Fixed) (w : World) (event : Event) → (next fixed w event).driver.room ≡ w.driver.room
next_room fixed w events.D = (row_keeps (driver_row (driver_parts w)) (driver_parts w)).room
next_room fixed w events.C = refl
