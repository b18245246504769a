-- The worked controller may run.
use Rattle.std.proofs.Common.{◌≡◌, ℕ, List, refl}
use Rattle.usb_base.specs.declared.packets.Pid.{Pid}
use Rattle.usb_base.specs.declared.packets.Reply.TheVariants.{Bytes, Silent}
use Rattle.law_ring.specs.Hand.{Empty}
use Rattle.law_frames.specs.FrameHand.{Nothing}
use Rattle.law_controller.specs.frame_control.Samples.{base, member, met, parts, opening}
use Rattle.law_controller.proofs.lemmas.frame_control.Sampled.{both_run}
use Rattle.example_frames.specs.Runs.{AreRunning}
use Rattle.example_frames.specs.Samples.{silent}

no_bytes : (pid : Pid) (bs : List ℕ) → Bytes pid bs ≡ Silent → ⊥
no_bytes pid bs e = cc

pub under_way : AreRunning silent base member met opening
under_way = record {
  on = record { run = refl; async_enable = refl };
  hears = λ before after ask out pid bs heard i. absurd (no_bytes pid bs heard);
  under_way = record { parts = parts; hand = Empty; frame = Nothing; runs = both_run };
}
