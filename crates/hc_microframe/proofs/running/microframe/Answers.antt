use Rattle.std.proofs.Common.{refl}
use Rattle.hc_core.specs.Controller.{content}
use Rattle.hc_microframe.proofs.Going.{is_made}
use Rattle.hc_microframe.proofs.running.microframe.Goals as goal

pub returns-in-Over-clause-made : goal.returns-in-Over-clause-made
returns-in-Over-clause-made c n same =
    is_made c.args.state.now c.args.words.now c.args.desk.now c.in-Over.events n c.in-Over.held c.new-controller.result
    c.registers_of-regs.result c.enter.new.regs c.in-Ok.mem
    (content c.make.new.controller c.make.new.regs c.make.new.mem) c.make.new.desk c.left_by.result c.copy_back.new.words
    c.new-controller.ensures c.registers_of-regs.ensures c.enter.ensures c.in-Ok.ensures
    (c.make.ensures.over c.in-Over.events c.in-Over.held c.in-Over.is) c.left_by.ensures c.copy_back.ensures same

pub returns-in-Over-clause-stays : goal.returns-in-Over-clause-stays
returns-in-Over-clause-stays c other = absurd (other c.in-Over.events refl)
