-- A ring under the controller stays one, and the controller isn't idle.
use Rattle.std.proofs.Common.{◌≡◌, ◌≢◌, ℕ, Bool, true, false, List, ap, refl, sym, ◌∙◌, arith}
use Rattle.std.proofs.lemmas.Bool.{true≢false}
use Rattle.usb_base.specs.declared.packets.Ask.{Ask}
use Rattle.usb_base.specs.declared.packets.Reply.{Reply}
use Rattle.hc_core.specs.declared.controller.HcStep.{HcStep}
use Rattle.hc_core.specs.declared.controller.HcStep.TheVariants as steps
use Rattle.hc_core.specs.Controller.{Content, microframe_row, HasRow}
use Rattle.claims_base.specs.Controller.{Base}
use Rattle.law_controller.proofs.lemmas.controlled_streams.Controlling.{each_event_of_the_controller}
use Rattle.example_ring.specs.Runs.{EventIsTold, IsRunning, StaysUnderWay, made_by, AllAreMade}

pub event_told : {W : Type 0} (begins : W → ℕ → Bool → W → Type 0) (transacts : W → Ask → List ℕ → Reply → W → Type 0) (old : Content) (before : W) (new : Content) (after : W) → HasRow begins transacts (microframe_row old.registers old.control) old before new after → EventIsTold begins transacts old before new after
event_told begins transacts old before new after row base member parts hand on heard k =
    each_event_of_the_controller begins transacts base member parts hand old before new after k on heard row

pub event_stays : {W : Type 0} (begins : W → ℕ → Bool → W → Type 0) (transacts : W → Ask → List ℕ → Reply → W → Type 0) (old : Content) (before : W) (new : Content) (after : W) → HasRow begins transacts (microframe_row old.registers old.control) old before new after → StaysUnderWay transacts old new
event_stays begins transacts old before new after row base member runs =
    let u = runs.under_way in
    let c = each_event_of_the_controller begins transacts base member u.parts u.hand old before new after u.controlled runs.on (runs.hears before after) row in
    record { on = runs.on; hears = runs.hears; under_way = record { parts = c.now; hand = c.later; controlled = c.controlled } }

-- the controller runs
pub runs_on : {W : Type 0} (transacts : W → Ask → List ℕ → Reply → W → Type 0) (base : Base) (member : ℕ → Bool) (c : Content) → IsRunning transacts base member c → c.registers.run ≡ true
runs_on transacts base member c runs = ap (λ (b : Base). b.run) runs.under_way.controlled.ring.registers ∙ runs.on.run

made_one : (step : HcStep) → step ≢ steps.Idle → made_by step ≡ 1
made_one steps.Idle not_idle = absurd (not_idle refl)
made_one _ not_idle = refl

pub event_made : {W : Type 0} (transacts : W → Ask → List ℕ → Reply → W → Type 0) (old : Content) (step : HcStep) → (step ≡ steps.Idle → old.registers.run ≡ false) → AllAreMade transacts old 1 (made_by step)
event_made transacts old step idle base member runs =
    made_one step (λ is. true≢false (sym (runs_on transacts base member old runs) ∙ idle is))

-- so an event of it is not idle
pub not_idle : {W : Type 0} (transacts : W → Ask → List ℕ → Reply → W → Type 0) (old : Content) (step : HcStep) (base : Base) (member : ℕ → Bool) → AllAreMade transacts old 1 (made_by step) → IsRunning transacts base member old → step ≡ steps.Idle → ⊥
not_idle transacts old step base member all runs is = let e : 0 ≡ 1 = ap made_by (sym is) ∙ all base member runs in absurd (omega (arith, e))
