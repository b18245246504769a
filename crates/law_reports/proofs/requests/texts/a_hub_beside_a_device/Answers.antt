use Rattle.std.proofs.Common.{refl}
use Rattle.law_reports.proofs.requests.texts.a_hub_beside_a_device.Goals as goal

pub returns : goal.returns
returns c = record {
  only = (record { kind = refl; speed = refl }, (record { kind = refl; speed = refl }, (record { kind = refl; speed = refl }, (tt, (tt, tt)))));
  of_device = refl;
  of_hub = refl;
}
