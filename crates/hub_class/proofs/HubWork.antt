-- The work of the translators is the work of the hub.
use Rattle.std.proofs.Common.{◌≡◌, ℕ, Bool, List, ap}
use Rattle.usb_base.specs.declared.packets.Ask.{Ask}
use Rattle.usb_base.specs.declared.packets.Reply.{Reply}
use Rattle.dev_control.specs.Stages.{Stages}
use Rattle.hub_ports.specs.declared.port.Port.{Port}
use Rattle.multi_tt.specs.Translators.{Translators}
use Rattle.multi_tt.specs.Single.{AllWork}
use Rattle.hub_class.specs.Translating.{HubWorks}

pub hub_works : {W : Type 0} (transacts : W → Ask → List ℕ → Reply → W → Type 0) (frindex address : ℕ) (ports : List Port)
    (control : Stages) (old new : Translators) (before after : W)
    → AllWork transacts frindex old.all before after new.all → new.multi ≡ old.multi
    → HubWorks transacts frindex (record { address = address; ports = ports; control = control; translators = old }) before
    (record { address = address; ports = ports; control = control; translators = new }) after
hub_works transacts frindex address ports control old new before after work multi = record {
  work = work;
  same = ap (λ (b : Bool). record {
    address = address;
    ports = ports;
    control = control;
    translators = record { multi = b; all = new.all };
  }) multi;
}
