-- The world of a script before its first line: the end of microframe 0, with the driver built and nothing offered yet.
use Rattle.script_types.specs.declared.scripts.Script.{Script}
use Rattle.hc_core.specs.Controller.{new_control}
use Rattle.drv_table.specs.Parts.{Parts}
use Rattle.drv_table.specs.Opening.{opening}
use Rattle.bus_wire.specs.Bus.{fixed_of, opening_bus}
use Rattle.bus_world.specs.Rooms.{room_of_script}
use Rattle.bus_world.specs.World.{World, Standing}

abbrev pub opening_with : Parts → Script → World
opening_with p s = record { registers = p.registers; memory = p.memory; control = new_control; driver = p.driver; bus = opening_bus s }

-- the driver has room for every command of the script
abbrev pub opening_world : Script → World
opening_world s = opening_with (opening s.words (room_of_script s)) s

abbrev pub opening_standing : Script → Standing
opening_standing s = record { fixed = fixed_of s; world = opening_world s }
