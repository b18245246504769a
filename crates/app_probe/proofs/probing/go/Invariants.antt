use Rattle.std.proofs.Common.{◌≤◌}
use Rattle.word_mem.specs.Access.{IsByController}
use Rattle.hc_core.specs.Controller.{content}
use Rattle.app_probe.specs.Probe.{Events}
use Rattle.app_probe.proofs.probing.go.Given as goal

abbrev pub invariant-loop-event : goal.invariant-loop-event
invariant-loop-event g l = record {
  made : Events (content l.initial.controller l.initial.regs (g.M.HcMemory.mem l.initial.mem)) l._event l.steps (content l.controller l.regs (g.M.HcMemory.mem l.mem));
  few : l.steps ≤ l._event;
  only_lent : IsByController (g.M.HcMemory.mem l.initial.mem) (g.M.HcMemory.mem l.mem);
}
