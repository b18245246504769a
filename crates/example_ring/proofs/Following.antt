-- Events of the controller that follow each other: an idle one changes nothing, and where none is idle Run is 1.
use Rattle.std.proofs.Common.{◌≡◌, ℕ, Bool, true, false, List, ap, refl, sym, subst, if◌then◌else◌}
use Rattle.usb_base.specs.declared.packets.Ask.{Ask}
use Rattle.usb_base.specs.declared.packets.Reply.{Reply}
use Rattle.hc_core.specs.declared.controller.HcStep.{HcStep}
use Rattle.hc_core.specs.declared.controller.HcStep.TheVariants as steps
use Rattle.hc_core.specs.declared.controller.ControllerRow.{ControllerRow}
use Rattle.hc_core.specs.declared.controller.ControllerRow.TheVariants as rows
use Rattle.hc_core.specs.Controller.{Content, microframe_row, part_row, HasRow}
use Rattle.example_ring.specs.Runs.{EventsFollow}

-- it runs where it isn't halted
pub runs_by : (b : Bool) → (b ≡ false → ⊥) → b ≡ true
runs_by true going = refl
runs_by false going = absurd (going refl)

-- ---- an idle event changes nothing

halted_row : (c : Content) → c.registers.run ≡ false → microframe_row c.registers c.control ≡ rows.Idle
halted_row c halted = ap (λ (b : Bool). if b then part_row c.registers c.control.frame c.control.part else rows.Idle) halted

pub idle_keeps : {W : Type 0} (begins : W → ℕ → Bool → W → Type 0) (transacts : W → Ask → List ℕ → Reply → W → Type 0) (old : Content) (before : W) (new : Content) (after : W) (step : HcStep) → HasRow begins transacts (microframe_row old.registers old.control) old before new after
    → (step ≡ steps.Idle → old.registers.run ≡ false) → step ≡ steps.Idle → (new ≡ old) × (after ≡ before)
idle_keeps begins transacts old before new after step row idle is = subst (λ (r : ControllerRow). HasRow begins transacts r old before new after) (halted_row old (idle is)) row

pub follow_kept : {W : Type 0} (begins : W → ℕ → Bool → W → Type 0) (transacts : W → Ask → List ℕ → Reply → W → Type 0) (old : Content) (before : W) (n : ℕ) (mid : Content) (between : W) (new : Content) (after : W) → EventsFollow begins transacts old before n mid between
    → (new ≡ mid) × (after ≡ between) → EventsFollow begins transacts old before n new after
follow_kept {W} begins transacts old before n mid between new after k same =
    subst (λ (c : Content). EventsFollow begins transacts old before n c after) (sym same.0) (subst (λ (w : W). EventsFollow begins transacts old before n mid w) (sym same.1) k)
