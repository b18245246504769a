use Rattle.std.proofs.Common.{ap}
use Rattle.bus_world.specs.World.{Standing}
use Rattle.bus_world.proofs.Sounds.{controller_sound}
use Rattle.bus_world.proofs.SoundsAtWork.{controller_keeps, standing_with}
use Rattle.bus_world.proofs.Wire.{event_is}
use Rattle.bus_world.proofs.world.World.controller_event.Goals as goal

pub invariant_of-self : goal.invariant_of-self
invariant_of-self c =
    let s : Standing = record {
      fixed = c.self.inside.bus.fixed;
      world = record {
        registers = c.self.inside.registers;
        memory = c.self.inside.mem;
        control = c.self.inside.controller;
        driver = c.self.inside.driver.driver;
        bus = c.self.inside.bus.bus;
      };
    } in
    controller_keeps c.self.inside.driver c.self.inside.mem c.step.new.mem c.self.inside.bus.bus c.step.new.wire.bus _ _
    (controller_sound s c.step.new.mem c.step.new.wire.bus c.self.invariant.sound c.step.ensures.only_lent
    (ap (λ (x : Standing). x.world.bus) (event_is s c.step.new.self c.step.new.regs c.step.new.mem c.step.new.wire c.step.ensures.row)))
    c.self.invariant

pub returns-clause-work : goal.returns-clause-work
returns-clause-work c =
    rw (← c.self.view_is)
    (ap (λ (x : Standing). standing_with x c.self.inside.driver.job c.self.inside.marks.items) (event_is (record {
      fixed = c.self.inside.bus.fixed;
      world = record {
        registers = c.self.inside.registers;
        memory = c.self.inside.mem;
        control = c.self.inside.controller;
        driver = c.self.inside.driver.driver;
        bus = c.self.inside.bus.bus;
      };
    }) c.step.new.self c.step.new.regs c.step.new.mem c.step.new.wire c.step.ensures.row))
