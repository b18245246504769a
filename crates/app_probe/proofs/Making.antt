-- One event more.
use Rattle.std.proofs.Common.{◌≡◌, ℕ, ◌+◌, ap, sym, subst, ◌∙◌}
use Rattle.hc_core.specs.declared.controller.HcStep.{HcStep}
use Rattle.hc_core.specs.Controller.{Content, microframe_row, kind_of}
use Rattle.law_refusals.specs.Refusals.{IsEvent}
use Rattle.app_probe.specs.declared.silence.Silence.{Silence}
use Rattle.app_probe.specs.Silence.{may_be_used, is_silent}
use Rattle.app_probe.specs.Probe.{counted, Events}
use Rattle.app_probe.specs.Probe.Events.{next}

pub one_more_made : (start old new : Content) (n steps more : ℕ) (step : HcStep) (before after : Silence) → Events start n steps old → IsEvent may_be_used is_silent old before new after → step ≡ kind_of (microframe_row old.registers old.control) old → more ≡ counted step → Events start (n + 1) (steps + more) new
one_more_made start old new n steps more step before after made event kind is =
    subst (λ (k : ℕ). Events start (n + 1) (steps + k) new) (sym (is ∙ ap counted kind))
    (next n steps old new made (record { before = before; after = after; event = event }))
