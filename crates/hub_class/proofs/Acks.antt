-- What the host's ACK and the work of a microframe leave of a hub's ports.
use Rattle.std.proofs.Common.{◌≡◌, ℕ, Bool, true, false, List, refl, ap, if◌then◌else◌}
use Rattle.usb_base.specs.declared.packets.Ask.{Ask}
use Rattle.usb_base.specs.declared.packets.Reply.{Reply}
use Rattle.dev_control.specs.Stages.{Stages, stages_acked}
use Rattle.hub_class.specs.HubContent.{HubContent}
use Rattle.hub_class.specs.EndpointZero.{reply_under, suits, hub_acked}
use Rattle.hub_class.specs.Translating.{HubWorks}

acked_by : (b : Bool) (c : Stages) (h : HubContent) → (if b then record h { control = c } else h).ports ≡ h.ports
acked_by true c h = refl
acked_by false c h = refl

pub acked_ports : (ask : Ask) (h : HubContent) → (hub_acked ask h).ports ≡ h.ports
acked_ports ask h = acked_by (suits ask h) (stages_acked (reply_under h) h.control) h

pub work_ports : {W : Type 0} (transacts : W → Ask → List ℕ → Reply → W → Type 0) (frindex : ℕ) (old : HubContent) (before : W) (new : HubContent) (after : W) → HubWorks transacts frindex old before new after → new.ports ≡ old.ports
work_ports transacts frindex old before new after works = ap (λ h. h.ports) works.same
