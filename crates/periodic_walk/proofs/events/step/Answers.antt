use Rattle.std.proofs.Common.{◌≡◌, sym, subst, ◌∙◌}
use Rattle.async_walk.specs.declared.state.WalkStep.{WalkStep}
use Rattle.periodic_walk.specs.Place.{FramePlace, place}
use Rattle.periodic_walk.specs.Rows.{step_of}
use Rattle.periodic_walk.proofs.Causing.{skips_for_a_reason, faults_for_a_reason}
use Rattle.periodic_walk.proofs.Caused.{skips_for_each_reason, faults_for_each_reason}
use Rattle.periodic_walk.specs.Causes.{IsWorked}
use Rattle.periodic_walk.proofs.Works.{works}
use Rattle.periodic_walk.proofs.Refusals.{refusals_are_faults}
use Rattle.periodic_walk.proofs.events.step.Goals as goal

pub returns-clause-skips : goal.returns-clause-skips
returns-clause-skips g c =
    let p : FramePlace = place c.args.st.now c.args.regs.now (g.M.HcMemory.mem c.args.mem.now) in
    let kind : c.turn.result ≡ step_of p = c.turn.ensures.kind in
    ((λ is. skips_for_a_reason p (sym kind ∙ is)), (λ nothing. kind ∙ skips_for_each_reason p nothing))

pub returns-clause-faults : goal.returns-clause-faults
returns-clause-faults g c =
    let p : FramePlace = place c.args.st.now c.args.regs.now (g.M.HcMemory.mem c.args.mem.now) in
    let kind : c.turn.result ≡ step_of p = c.turn.ensures.kind in
    ((λ is. faults_for_a_reason p (sym kind ∙ is)), (λ stuck. kind ∙ faults_for_each_reason p stuck))

pub returns-clause-works : goal.returns-clause-works
returns-clause-works g c =
    let p : FramePlace = place c.args.st.now c.args.regs.now (g.M.HcMemory.mem c.args.mem.now) in
    let kind : c.turn.result ≡ step_of p = c.turn.ensures.kind in
    subst (λ (step : WalkStep). IsWorked p step) (sym kind) (works p)

pub returns-clause-refused : goal.returns-clause-refused
returns-clause-refused g c =
    let p : FramePlace = place c.args.st.now c.args.regs.now (g.M.HcMemory.mem c.args.mem.now) in
    let new : FramePlace = place c.turn.new.st c.turn.new.regs (g.M.HcMemory.mem c.turn.new.mem) in
    refusals_are_faults g.W.Wire.transacts p new c.args.wire.now c.turn.new.wire c.turn.ensures.row
