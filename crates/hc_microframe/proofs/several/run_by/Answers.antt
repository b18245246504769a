use Rattle.std.proofs.Common.{refl, ap}
use Rattle.word_mem.specs.Memory.{all_lent}
use Rattle.hc_core.specs.Controller.{content}
use Rattle.hc_microframe.proofs.EventsInRow.{leaves_from}
use Rattle.hc_microframe.proofs.several.run_by.Goals as goal

pub returns-clause-leaves : goal.returns-clause-leaves
returns-clause-leaves g c =
    leaves_from c.make_all.result c.make_all.result _ _ _ _ _ _ c.into_loan.result.words.now _ c.make_all.ensures.leaves
    (ap (λ ws. content c.args.controller.now c.args.regs.now (all_lent ws)) c.of-ram.ensures.words) c.into_loan.ensures.words refl
