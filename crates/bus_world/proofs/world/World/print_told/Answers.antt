use Rattle.bus_world.proofs.world.World.print_told.Goals as goal

pub print_device-requires : goal.print_device-requires
print_device-requires g c = c.in-Some.ensures.few c.args.seat.now.name
