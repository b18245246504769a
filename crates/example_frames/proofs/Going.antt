-- A ring and the frames under the controller stay, and the controller isn't idle and meets no refusal.
use Rattle.std.proofs.Common.{◌≡◌, ◌≢◌, ℕ, Bool, true, false, List, Option, ap, refl, sym, ◌∙◌, ⊎_elim, arith}
use Rattle.std.proofs.lemmas.Bool.{cases_eq, true≢false}
use Rattle.usb_base.specs.declared.packets.Ask.{Ask}
use Rattle.usb_base.specs.declared.packets.Reply.{Reply}
use Rattle.async_walk.specs.Causes.{AreRefusalsFaults}
use Rattle.hc_core.specs.declared.controller.HcStep.{HcStep}
use Rattle.hc_core.specs.declared.controller.HcStep.TheVariants as steps
use Rattle.hc_core.specs.Controller.{Content, microframe_row, HasRow}
use Rattle.claims_base.specs.Controller.{Base}
use Rattle.example_ring.specs.Runs.{made_by}
use Rattle.law_frames.specs.Met.{Kind}
use Rattle.law_controller.specs.frame_control.Both.{ControlsBoth}
use Rattle.law_controller.proofs.lemmas.frame_control.Running.{each_event_of_the_controller_over_both}
use Rattle.law_frames.proofs.Walking.{event_happens}
use Rattle.example_frames.specs.Runs.{BothAreTold, AreRunning, BothStay, AllAreMadeOverBoth, NothingIsRefused}

pub both_told : {W : Type 0} (begins : W → ℕ → Bool → W → Type 0) (transacts : W → Ask → List ℕ → Reply → W → Type 0) (old : Content) (before : W) (new : Content) (after : W) → HasRow begins transacts (microframe_row old.registers old.control) old before new after → BothAreTold begins transacts old before new after
both_told begins transacts old before new after row base member met parts hand frame on heard k =
    each_event_of_the_controller_over_both begins transacts base member met parts hand frame old before new after (event_happens transacts met parts frame) k on heard row

pub both_stay : {W : Type 0} (begins : W → ℕ → Bool → W → Type 0) (transacts : W → Ask → List ℕ → Reply → W → Type 0) (old : Content) (before : W) (new : Content) (after : W) → HasRow begins transacts (microframe_row old.registers old.control) old before new after → BothStay transacts old new
both_stay begins transacts old before new after row base member met running =
    let u = running.under_way in
    let c : ControlsBoth begins transacts base member met u.parts u.hand u.frame old.control before after new =
    both_told begins transacts old before new after row base member met u.parts u.hand u.frame running.on (running.hears before after) u.runs in
    record { on = running.on; hears = running.hears; under_way = record { parts = c.now; hand = c.later; frame = c.frame_later; runs = c.runs } }

-- the controller runs
pub runs_on : {W : Type 0} (transacts : W → Ask → List ℕ → Reply → W → Type 0) (base : Base) (member : ℕ → Bool) (met : ℕ → Option Kind) (c : Content) → AreRunning transacts base member met c → c.registers.run ≡ true
runs_on transacts base member met c running = ap (λ (b : Base). b.run) running.under_way.runs.ring.registers ∙ running.on.run

made_one : (step : HcStep) → step ≢ steps.Idle → made_by step ≡ 1
made_one steps.Idle not_idle = absurd (not_idle refl)
made_one _ not_idle = refl

pub event_made : {W : Type 0} (transacts : W → Ask → List ℕ → Reply → W → Type 0) (old : Content) (step : HcStep) → (step ≡ steps.Idle → old.registers.run ≡ false) → AllAreMadeOverBoth transacts old 1 (made_by step)
event_made transacts old step idle base member met running = made_one step (λ is. true≢false (sym (runs_on transacts base member met old running) ∙ idle is))

-- so an event of it is not idle
pub not_idle : {W : Type 0} (transacts : W → Ask → List ℕ → Reply → W → Type 0) (old : Content) (step : HcStep) (base : Base) (member : ℕ → Bool) (met : ℕ → Option Kind) → AllAreMadeOverBoth transacts old 1 (made_by step) → AreRunning transacts base member met old → step ≡ steps.Idle → ⊥
not_idle transacts old step base member met all running is = let e : 0 ≡ 1 = ap made_by (sym is) ∙ all base member met running in absurd (omega (arith, e))

-- it runs on, and a refusal would be the fault
pub none_refused : {W : Type 0} (begins : W → ℕ → Bool → W → Type 0) (transacts : W → Ask → List ℕ → Reply → W → Type 0) (old : Content) (before : W) (new : Content) (after : W) → HasRow begins transacts (microframe_row old.registers old.control) old before new after
    → AreRefusalsFaults old.memory new.memory new.registers → NothingIsRefused transacts old new
none_refused begins transacts old before new after row refused base member met running =
    ⊎_elim (λ (same : new.memory.foreign ≡ old.memory.foreign). same)
    (λ (other : new.memory.foreign ≢ old.memory.foreign).
    absurd (true≢false (sym (runs_on transacts base member met new (both_stay begins transacts old before new after row base member met running)) ∙ refused other)))
    (cases_eq new.memory.foreign old.memory.foreign)
