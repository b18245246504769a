use Rattle.std.proofs.Common.{◌∙◌, ap, sym, Some, None, length}
use Rattle.std.specs.Prelude.{vec_capacity}
use Rattle.bus_wire.specs.Bus.{Wired}
use Rattle.bus_world.proofs.SoundsAtWork.{driver_sound_but, not_reset_sound, reset_sound}
use Rattle.bus_world.proofs.world.World.driver_event.Goals as goal

pub invariant_of-self : goal.invariant_of-self
invariant_of-self c =
    reset_sound c.step-step.new.self c.step-step.new.mem c.self.inside.bus.bus c.reset.new.bus.bus c.self.inside.marks.items
    c.reset.new.marks.items _ (vec_capacity c.self.inside.marks) (vec_capacity c.reset.new.marks) c.in-Some.name
    (driver_sound_but c.self.inside.driver c.step-step.new.self c.self.inside.registers c.step-step.new.regs c.self.inside.mem
    c.step-step.new.mem c.self.inside.bus.bus (length c.self.inside.marks.items) (vec_capacity c.self.inside.marks) c.step-step.result
    (Some c.in-Some.name) c.step-step.ensures.kind c.step-step.ensures.work (sym c.in-Some.ensures) c.step-step.ensures.stands
    c.self.invariant)
    (ap (λ (x : Wired). x.bus) c.reset.ensures.bus) c.reset.ensures.marks c.reset.ensures.capacity

pub invariant_of-self-in_default : goal.invariant_of-self-in_default
invariant_of-self-in_default c =
    not_reset_sound c.step-step.new.self c.step-step.new.mem c.self.inside.bus.bus (length c.self.inside.marks.items)
    (vec_capacity c.self.inside.marks)
    (driver_sound_but c.self.inside.driver c.step-step.new.self c.self.inside.registers c.step-step.new.regs c.self.inside.mem
    c.step-step.new.mem c.self.inside.bus.bus (length c.self.inside.marks.items) (vec_capacity c.self.inside.marks) c.step-step.result
    None c.step-step.ensures.kind c.step-step.ensures.work (sym c.reset_in.ensures ∙ c.in_default.is) c.step-step.ensures.stands c.self.invariant)
