use Rattle.std.proofs.Common.{◌≡◌, None, length}
use Rattle.word_mem.specs.Memory.{all_lent}
use Rattle.hc_core.specs.Controller.{content}
use Rattle.hc_microframe.specs.Microframe.{Goes}
use Rattle.hc_microframe.proofs.several.make_all.Given as goal

abbrev pub invariant-loop-event : goal.invariant-loop-event
invariant-loop-event g l = record {
  goes :
      Goes (content l.initial.controller l.initial.regs (all_lent l.initial.ram.words.now)) l.initial.desk l.event
      (content l.controller l.regs (all_lent l.ram.words.now)) l.desk;
  foreign : l.ram.foreign ≡ 0;
  answered : l.desk.wanted ≡ None;
  length : length l.ram.words.now ≡ length l.initial.ram.words.now;
}
