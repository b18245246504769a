use Rattle.std.proofs.Common.{sym, subst, ◌∙◌}
use Rattle.hc_core.specs.declared.controller.ControllerRow.{ControllerRow}
use Rattle.hc_core.specs.Controller.{Control, content, HasRow, Walks}
use Rattle.hc_core.proofs.controller.Controller.step.Goals as goal

pub returns-in-Enter-clause-row : goal.returns-in-Enter-clause-row
returns-in-Enter-clause-row g c =
    subst (λ (r : ControllerRow). HasRow g.W.Wire.begins g.W.Wire.transacts r
    (content c.args.self.now c.args.regs.now (g.M.HcMemory.mem c.args.mem.now)) c.args.wire.now
    (content c.go.new.self c.go.new.regs (g.M.HcMemory.mem c.go.new.mem)) c.go.new.wire)
    (sym c.in-Enter.is ∙ c.row.ensures)
    (subst (λ (k : Control). Walks g.W.Wire.transacts (content k c.args.regs.now (g.M.HcMemory.mem c.args.mem.now)) c.args.wire.now
    (content c.go.new.self c.go.new.regs (g.M.HcMemory.mem c.go.new.mem)) c.go.new.wire) c.enter.ensures c.go.ensures.row)
