use Rattle.std.proofs.Common.{◌/◌, length, sym, subst, ap, arith}
use Rattle.std.specs.List.{AllByRecursion}
use Rattle.bus_wire.specs.Bus.{Wired}
use Rattle.drv_table.specs.DriverContent.{DriverContent}
use Rattle.drv_table.specs.Opening.{opening_book}
use Rattle.bus_world.specs.Sound.{IsRoomyDevice}
use Rattle.bus_world.proofs.Roomy.{opening_roomy}
use Rattle.bus_world.proofs.Sounds.{opening_sound}
use Rattle.bus_world.proofs.SoundsAtWork.{opening_at_work_sound}
use Rattle.bus_world.proofs.world.World.build.Goals as goal

pub of_parts-requires : goal.of_parts-requires
of_parts-requires c =
    opening_at_work_sound c.in_ok-driver.driver c.new-2.result c.build-3.new.mem c.in_ok-bus.bus.bus c.in_ok-marks.marks.items _
    (opening_sound c.in_ok-driver.driver c.build-3.new.mem c.in_ok-bus.bus.bus (opening_book (length c.in_ok-mem.mem.words / 8)) (length c.in_ok-mem.mem.words / 8) c.in-Some.reserve
    c.in_ok-driver.ensures.driver c.in_ok-driver.ensures.stands
    (subst (λ (w : Wired). AllByRecursion IsRoomyDevice w.bus.devices) (sym c.in_ok-bus.ensures) (opening_roomy c.args.script.now.devices c.requires.rooms)))
    c.new-2.ensures c.in_ok-marks.ensures.items
    (let room = ap (λ (d : DriverContent). d.room.reports) c.in_ok-driver.ensures.driver in omega (arith, room, c.in_ok-marks.ensures.capacity))
