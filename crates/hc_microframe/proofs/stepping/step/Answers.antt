use Rattle.std.proofs.Common.{Some, rules, refl, sym, ◌∙◌}
use Rattle.hc_microframe.proofs.OneEvent.{is_stepped, is_held_up, words_stay}
use Rattle.hc_microframe.proofs.stepping.step.Goals as goal

pub returns-clause-event : goal.returns-clause-event
returns-clause-event c k same =
    is_stepped c.args.whole.now c.args.words.now c.of-loan.result.words.now c.args.desk.now c.step_in-kind.result k
    (Some c.load.new.controller) c.load.new.controller c.registers_of-regs.result c.step_in-kind.new.controller c.step_in-kind.new.regs
    c.step_in-kind.new.loan.words.now c.step_in-kind.new.desk c.is_asked.result c.set.new.self _
    (sym (c.load.ensures.loaded (search rules))) refl c.registers_of-regs.ensures c.of-loan.ensures.words c.step_in-kind.ensures.kind
    c.step_in-kind.ensures.row c.is_asked.ensures c.if-is_asked.false c.set.ensures.registers c.set.ensures.control (search rules) same

pub returns-clause-stays : goal.returns-clause-stays
returns-clause-stays c other = absurd (other c.step_in-kind.result refl)

pub returns-then-is_asked-clause-wants : goal.returns-then-is_asked-clause-wants
returns-then-is_asked-clause-wants c same =
    is_held_up c.args.whole.now c.args.words.now c.of-loan.result.words.now c.args.desk.now (Some c.load.new.controller)
    c.load.new.controller c.registers_of-regs.result c.step_in-kind.new.controller c.step_in-kind.new.regs
    c.step_in-kind.new.loan.words.now c.step_in-kind.new.desk c.is_asked.result (sym (c.load.ensures.loaded (search rules)))
    refl c.registers_of-regs.ensures
    c.of-loan.ensures.words c.step_in-kind.ensures.row c.is_asked.ensures c.if-is_asked.true

pub returns-then-is_asked-clause-stays : goal.returns-then-is_asked-clause-stays
returns-then-is_asked-clause-stays c other = (
  refl,
  (search rules) ∙ words_stay c.args.words.now c.of-loan.result.words.now c.args.desk.now c.load.new.controller
      c.registers_of-regs.result c.step_in-kind.new.controller c.step_in-kind.new.regs c.step_in-kind.new.loan.words.now
      c.step_in-kind.new.desk c.is_asked.result c.requires c.of-loan.ensures.words c.step_in-kind.ensures.row c.is_asked.ensures
      c.if-is_asked.true,
)
