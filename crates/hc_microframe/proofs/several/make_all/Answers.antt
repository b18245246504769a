use Rattle.std.proofs.Common.{◌≡◌, ℕ, arith, rules, refl, subst, ◌∙◌}
use Rattle.word_mem.specs.Memory.{all_lent}
use Rattle.hc_core.specs.Controller.{content}
use Rattle.hc_microframe.specs.Microframe.{Goes}
use Rattle.hc_microframe.specs.Microframe.Goes.{none}
use Rattle.hc_microframe.proofs.EventsInRow.{goes_on, reaches_end, reaches_ask}
use Rattle.hc_microframe.proofs.several.make_all.Goals as goal

pub loop-event-init : goal.loop-event-init
loop-event-init g c = record { goes = none; foreign = c.requires.foreign; answered = c.requires.wanted; length = refl }

pub loop-event-preserved : goal.loop-event-preserved
loop-event-preserved g c =
    let now = c.loop-event in
    let on =
    goes_on _ _ now.event now.controller now.regs now.ram.words.now now.ram.foreign now.desk c.in-Some.kind c.make_one.new.controller
    c.make_one.new.regs c.make_one.new.ram.words.now c.make_one.new.ram.foreign c.make_one.new.desk c.running.result c.is_last.result
    now.invariant.goes now.invariant.foreign (c.make_one.ensures.made c.in-Some.kind c.in-Some.is) c.running.ensures c.is_last.ensures
    c.if-is_last.false
    in
    record { goes = on.goes; foreign = on.foreign_none; answered = on.answered; length = c.make_one.ensures.length ∙ now.invariant.length }

pub returns-in-None-clause-leaves : goal.returns-in-None-clause-leaves
returns-in-None-clause-leaves g c =
    let now = c.loop-event in (
      omega (arith),
      reaches_ask _ _ now.event now.controller now.regs now.ram.words.now now.ram.foreign now.desk c.make_one.new.controller
          c.make_one.new.regs c.make_one.new.ram.words.now c.make_one.new.ram.foreign c.make_one.new.desk c.make_one.new.whole
          now.invariant.goes now.invariant.foreign now.invariant.answered (c.make_one.ensures.asks c.in-None.is),
    )

pub returns-then-is_last-clause-leaves : goal.returns-then-is_last-clause-leaves
returns-then-is_last-clause-leaves g c =
    let now = c.loop-event in (
      omega (arith),
      reaches_end _ _ now.event now.controller now.regs now.ram.words.now now.ram.foreign now.desk c.in-Some.kind
          c.make_one.new.controller c.make_one.new.regs c.make_one.new.ram.words.now c.make_one.new.ram.foreign c.make_one.new.desk
          c.running.result c.is_last.result c.set.new.self now.invariant.goes now.invariant.foreign
          (c.make_one.ensures.made c.in-Some.kind c.in-Some.is) c.running.ensures
          c.is_last.ensures c.if-is_last.true c.set.ensures.registers
          c.set.ensures.control,
    )

pub returns-clause-leaves : goal.returns-clause-leaves
returns-clause-leaves g c =
    let all : c.loop-event.event ≡ c.args.most = search rules in
    record {
      control = c.loop-event.controller;
      file = c.loop-event.regs;
      goes =
          subst
          (λ (n : ℕ).
          Goes (content c.args.controller.now c.args.regs.now (all_lent c.args.ram.now.words.now)) c.args.desk.now n
          (content c.loop-event.controller c.loop-event.regs (all_lent c.loop-event.ram.words.now)) c.loop-event.desk)
          all c.loop-event.invariant.goes;
      registers = c.set-2.ensures.registers;
      to = c.set-2.ensures.control;
    }
