use Rattle.std.proofs.Common.{Some, rules, sym, refl}
use Rattle.hc_microframe.proofs.EventsInRow.{is_run, is_run_over, is_run_held_up, leaves_none, over_allowed, wants_allowed}
use Rattle.hc_microframe.proofs.several.run.Goals as goal

pub returns-clause-over : goal.returns-clause-over
returns-clause-over c n same =
    is_run_over c.args.whole.now c.args.words.now c.of-loan.result.words.now (Some c.load.new.controller) c.load.new.controller
    c.registers_of-regs.result
    c.run_in.result n c.args.desk.now c.args.most c.run_in.new.whole c.run_in.new.loan.words.now _
    c.run_in.new.desk (sym (c.load.ensures.loaded (search rules))) refl c.registers_of-regs.ensures c.of-loan.ensures.words
    c.run_in.ensures.leaves (search rules) same

pub returns-clause-wants : goal.returns-clause-wants
returns-clause-wants c n same =
    is_run_held_up c.args.whole.now c.args.words.now c.of-loan.result.words.now (Some c.load.new.controller) c.load.new.controller
    c.registers_of-regs.result
    c.run_in.result n c.args.desk.now c.args.most c.run_in.new.whole c.run_in.new.loan.words.now _
    c.run_in.new.desk (sym (c.load.ensures.loaded (search rules))) refl c.registers_of-regs.ensures c.of-loan.ensures.words
    c.run_in.ensures.leaves (search rules) same

pub returns-clause-long : goal.returns-clause-long
returns-clause-long c same =
    is_run c.args.whole.now c.args.words.now c.of-loan.result.words.now (Some c.load.new.controller) c.load.new.controller
    c.registers_of-regs.result c.run_in.result c.args.desk.now c.args.most c.run_in.new.whole c.run_in.new.loan.words.now _
    c.run_in.new.desk (sym (c.load.ensures.loaded (search rules))) refl c.registers_of-regs.ensures c.of-loan.ensures.words
    c.run_in.ensures.leaves (search rules) same

pub returns-clause-over_allowed : goal.returns-clause-over_allowed
returns-clause-over_allowed c n same = over_allowed c.run_in.result n _ _ _ _ _ _ c.run_in.ensures.leaves same

pub returns-clause-wants_allowed : goal.returns-clause-wants_allowed
returns-clause-wants_allowed c n same = wants_allowed c.run_in.result n _ _ _ _ _ _ c.run_in.ensures.leaves same

pub returns-clause-idle : goal.returns-clause-idle
returns-clause-idle c same = absurd ((leaves_none c.run_in.result _ _ _ _ _ _ c.run_in.ensures.leaves).0 same)

pub returns-clause-idle_stays : goal.returns-clause-idle_stays
returns-clause-idle_stays c same = absurd ((leaves_none c.run_in.result _ _ _ _ _ _ c.run_in.ensures.leaves).0 same)

pub returns-clause-unfit : goal.returns-clause-unfit
returns-clause-unfit c same few control = absurd ((leaves_none c.run_in.result _ _ _ _ _ _ c.run_in.ensures.leaves).1 same)

pub returns-clause-unfit_stays : goal.returns-clause-unfit_stays
returns-clause-unfit_stays c same = absurd ((leaves_none c.run_in.result _ _ _ _ _ _ c.run_in.ensures.leaves).1 same)

pub returns-clause-idle_desk : goal.returns-clause-idle_desk
returns-clause-idle_desk c same = absurd ((leaves_none c.run_in.result _ _ _ _ _ _ c.run_in.ensures.leaves).0 same)

pub returns-clause-unfit_desk : goal.returns-clause-unfit_desk
returns-clause-unfit_desk c same = absurd ((leaves_none c.run_in.result _ _ _ _ _ _ c.run_in.ensures.leaves).1 same)
