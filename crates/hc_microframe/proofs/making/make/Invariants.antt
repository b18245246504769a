use Rattle.word_mem.specs.Access.{IsByController}
use Rattle.hc_core.specs.Controller.{content}
use Rattle.hc_microframe.specs.Microframe.{Goes}
use Rattle.hc_microframe.proofs.making.make.Given as goal

abbrev pub invariant-loop-event : goal.invariant-loop-event
invariant-loop-event l = record {
  goes : Goes (content l.initial.controller l.initial.regs l.initial.mem) l.initial.desk l.event (content l.controller l.regs l.mem) l.desk;
  only_lent : IsByController l.initial.mem l.mem;
}
