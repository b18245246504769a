use Rattle.bus_world.specs.AtWork.{room_in}
use Rattle.bus_world.proofs.WaysAtWork.{command_line_offers, command_line_done, plug_line_done, unplug_line_done, command_line_room}
use Rattle.bus_world.proofs.world.World.line.Goals as goal

pub returns-in-Command-clause-done : goal.returns-in-Command-clause-done
returns-in-Command-clause-done c = command_line_done c.args.self.now c.offer.new.self c.args.line.now c.args.number c.in-Command.cmd c.in-Command.is c.offer.ensures

pub returns-in-Plug-clause-done : goal.returns-in-Plug-clause-done
returns-in-Plug-clause-done c = plug_line_done c.args.self.now c.args.line.now c.args.number c.in-Plug._port c.in-Plug.is

pub returns-in-Unplug-clause-done : goal.returns-in-Unplug-clause-done
returns-in-Unplug-clause-done c = unplug_line_done c.args.self.now c.args.line.now c.args.number c.in-Unplug._port c.in-Unplug.is

pub returns-in-Command-clause-room_left : goal.returns-in-Command-clause-room_left
returns-in-Command-clause-room_left c =
    command_line_room c.args.self.now c.offer.new.self c.args.line.now c.args.number c.in-Command.cmd c.in-Command.is c.offer.ensures c.requires.fits

pub offer-requires-clause-room : goal.offer-requires-clause-room
offer-requires-clause-room c = command_line_offers (room_in c.args.self.now.work) c.args.line.now c.in-Command.cmd c.in-Command.is c.requires.fits c.requires.room
