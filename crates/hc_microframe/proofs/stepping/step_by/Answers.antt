use Rattle.std.proofs.Common.{◌≡◌, ℕ, List, ap, subst, ◌∙◌}
use Rattle.word_mem.specs.Memory.{Mem, all_lent}
use Rattle.lent_words.specs.Lent.{lent_mem}
use Rattle.hc_core.specs.Controller.{Content, content}
use Rattle.hc_microframe.specs.Microframe.{IsEvent}
use Rattle.hc_microframe.proofs.stepping.step_by.Goals as goal

pub returns-clause-row : goal.returns-clause-row
returns-clause-row g c =
    let lent : lent_mem c.of-ram.result.words.now c.of-ram.result.foreign ≡ all_lent c.args.loan.words.now =
    ap (λ (ws : List ℕ). lent_mem ws c.of-ram.result.foreign) c.of-ram.ensures.words
    ∙ ap (λ (n : ℕ). lent_mem c.args.loan.words.now n) c.of-ram.ensures.foreign
    in
    let end : Content = content c.step.new.self c.step.new.regs (lent_mem c.step.new.mem.words.now c.step.new.mem.foreign) in
    rw c.into_loan.ensures.words (record {
      refused = c.step.new.mem.foreign;
      event =
          subst
          (λ (m : Mem). IsEvent (content c.args.controller.now c.args.regs.now m) c.args.desk.now end c.step.new.wire)
          lent c.step.ensures.row;
    })
