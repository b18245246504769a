-- How events over the words of an image can end.
use Rattle.std.proofs.Common.{◌≡◌, ℕ, ◌+◌, ◌≤◌, Bool, true, false, ◌&&◌, not, if◌then◌else◌, arith, refl, ap, sym, subst, ◌∙◌, ◌⊎◌, ⊎_elim, inl, inr}
use Rattle.async_walk.specs.declared.state.WalkStep.{WalkStep}
use Rattle.async_walk.specs.declared.state.WalkStep.TheVariants as walks
use Rattle.op_registers.specs.RegisterFile.{RegisterFile}
use Rattle.periodic_walk.specs.Walk.{Walk as FrameWalk, is_over}
use Rattle.hc_core.specs.declared.controller.MicroframePart.{MicroframePart}
use Rattle.hc_core.specs.declared.controller.MicroframePart.TheVariants.{Over, Periodic, Asynchronous}
use Rattle.hc_core.specs.declared.controller.ControllerRow.{ControllerRow}
use Rattle.hc_core.specs.declared.controller.ControllerRow.TheVariants as rows
use Rattle.hc_core.specs.Controller.{Content, microframe_row, part_row, enter_row, ring_row, hc_step, frame_step, walk_step, entered, kind_of, HasRow}
use Rattle.image_show.specs.declared.image_at.ImageAt.{ImageAt}
use Rattle.app_probe.specs.declared.probing.Probed.{Probed}
use Rattle.app_probe.specs.Silence.{may_be_used, is_silent}
use Rattle.law_refusals.specs.Refusals.{IsOnce, Stops}
use Rattle.claims_base.specs.Controller.{GoesOn}
use Rattle.app_probe.specs.Probe.{opening, counted, IsSilentEvent, Events, IsProbe, EndsSo}
use Rattle.app_probe.specs.Probe.Events.{none, next}
use Rattle.law_refusals.proofs.Events.{each_event_counts_once}

-- ---- an event is a step exactly where the controller runs

walk_counted : (step : WalkStep) → counted (hc_step step) ≡ 1
walk_counted walks.Fetch = refl
walk_counted _ = refl

row_counted : (row : ControllerRow) (c : Content) → (row ≡ rows.Idle → ⊥) → counted (kind_of row c) ≡ 1
row_counted rows.Idle c busy = absurd (busy refl)
row_counted rows.Frame c busy = walk_counted (frame_step c)
row_counted rows.Enter c busy = walk_counted (walk_step (entered c))
row_counted rows.Go c busy = walk_counted (walk_step c)
row_counted _ c busy = refl

entering : (async : Bool) → enter_row async ≡ rows.Idle → ⊥
entering true is = cc
entering false is = cc

framing : (b async : Bool) → (if b then rows.Frame else enter_row async) ≡ rows.Idle → ⊥
framing true async is = cc
framing false async is = entering async is

going : (async : Bool) → ring_row async ≡ rows.Idle → ⊥
going true is = cc
going false is = cc

part_busy : (r : RegisterFile) (frame : FrameWalk) (part : MicroframePart) → part_row r frame part ≡ rows.Idle → ⊥
part_busy r frame Over is = cc
part_busy r frame Periodic is = framing (r.periodic_enable && not (is_over frame)) r.async_enable is
part_busy r frame Asynchronous is = going r.async_enable is

runs : (b : Bool) (row : ControllerRow) → b ≡ true → (if b then row else rows.Idle) ≡ row
runs true row is = refl
runs false row is = absurd cc

idles : (b : Bool) (row : ControllerRow) → b ≡ false → (if b then row else rows.Idle) ≡ rows.Idle
idles true row is = absurd cc
idles false row is = refl

step_counted : (c : Content) → c.registers.run ≡ true → counted (kind_of (microframe_row c.registers c.control) c) ≡ 1
step_counted c run =
    row_counted (microframe_row c.registers c.control) c
    (λ idle. part_busy c.registers c.control.frame c.control.part (sym (runs c.registers.run (part_row c.registers c.control.frame c.control.part) run) ∙ idle))

-- ---- after n events

record Runs (n steps : ℕ) (c : Content) : Type 0 where
  run : c.registers.run ≡ true
  error : c.registers.host_system_error ≡ false
  foreign : c.memory.foreign ≡ 0
  each : steps ≡ n

record Halted (n steps : ℕ) (c : Content) : Type 0 where
  run : c.registers.run ≡ false
  error : c.registers.host_system_error ≡ true
  foreign : c.memory.foreign ≤ 1
  few : steps ≤ n
  some : 1 ≤ steps

abbrev Stands : ℕ → ℕ → Content → Type 0
Stands n steps c = Runs n steps c ⊎ Halted n steps c

-- none was refused before
first_once : (before after : ℕ) → before ≡ 0 → IsOnce before after → after ≤ 1
first_once before after zero_before once =
    ⊎_elim (λ (same : after ≡ 0). omega (arith, same)) (λ (more : after ≡ 1). omega (arith, more)) (subst (λ (n : ℕ). IsOnce n after) zero_before once)

runs_on : (n steps : ℕ) (old new : Content) → Runs n steps old → IsSilentEvent old new → Stands (n + 1) (steps + counted (kind_of (microframe_row old.registers old.control) old)) new
runs_on n steps old new s e =
    let one : counted (kind_of (microframe_row old.registers old.control) old) ≡ 1 = step_counted old s.run in
    let each : steps ≡ n = s.each in
    ⊎_elim
    (λ (c : GoesOn old.registers old.memory new.registers new.memory).
    inl (record { run = c.run ∙ s.run; error = c.error ∙ s.error; foreign = c.count ∙ s.foreign; each = omega (arith, one, each) }))
    (λ (c : Stops old.memory new.registers new.memory).
    inr (record { run = c.run; error = c.error; foreign = first_once old.memory.foreign new.memory.foreign s.foreign c.count; few = omega (arith, one, each); some = omega (arith, one) }))
    (each_event_counts_once may_be_used is_silent old new e.before e.after e.event)

stays_halted : (n steps : ℕ) (old new : Content) → Halted n steps old → IsSilentEvent old new → Stands (n + 1) (steps + counted (kind_of (microframe_row old.registers old.control) old)) new
stays_halted n steps old new s e =
    let idle : microframe_row old.registers old.control ≡ rows.Idle = idles old.registers.run (part_row old.registers old.control.frame old.control.part) s.run in
    let none_more : counted (kind_of (microframe_row old.registers old.control) old) ≡ 0 = ap (λ (row : ControllerRow). counted (kind_of row old)) idle in
    let same : new ≡ old = (subst (λ (row : ControllerRow). HasRow may_be_used is_silent row old e.before new e.after) idle e.event).0 in
    let few : steps ≤ n = s.few in
    let some : 1 ≤ steps = s.some in
    inr (record {
      run = ap (λ (c : Content). c.registers.run) same ∙ s.run;
      error = ap (λ (c : Content). c.registers.host_system_error) same ∙ s.error;
      foreign = subst (λ (c : Content). c.memory.foreign ≤ 1) (sym same) s.foreign;
      few = omega (arith, none_more, few);
      some = omega (arith, none_more, some);
    })

stands : (i : ImageAt) (n steps : ℕ) (end : Content) → Events (opening i) n steps end → Stands n steps end
stands i _ _ _ none = inl (record { run = refl; error = refl; foreign = refl; each = refl })
stands i _ _ _ (next n steps old new earlier event) =
    ⊎_elim (λ (s : Runs n steps old). runs_on n steps old new s event) (λ (s : Halted n steps old). stays_halted n steps old new s event) (stands i n steps old earlier)

pub ends_so : (i : ImageAt) (n : ℕ) (p : Probed) → IsProbe i n p → EndsSo n p
ends_so i n p probe =
    ⊎_elim
    (λ (s : Runs n p.steps probe.end). inl (record { fault = probe.fault ∙ s.error; foreign = probe.foreign ∙ s.foreign; steps = s.each }))
    (λ (s : Halted n p.steps probe.end).
    inr (record { fault = probe.fault ∙ s.error; foreign = subst (λ (f : ℕ). f ≤ 1) (sym probe.foreign) s.foreign; steps = s.few; some = s.some }))
    (stands i n p.steps probe.end probe.made)
