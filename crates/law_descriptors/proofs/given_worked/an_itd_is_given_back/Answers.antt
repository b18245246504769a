use Rattle.std.proofs.Common.{refl}
use Rattle.law_ring.specs.Hand.{Empty}
use Rattle.claims_base.specs.Controller.{opening_base}
use Rattle.law_driver_ring.specs.PartOpened.{opening_parts, is_head}
use Rattle.law_frames.specs.FrameHand.{Nothing}
use Rattle.law_descriptors.specs.Meeting.{no_recent}
use Rattle.law_descriptors.specs.GivenWorked.{transfer, driver, memory, controller, descs}
use Rattle.law_descriptors.proofs.GivenBoth.{release_runs_both}
use Rattle.law_descriptors.proofs.GivenSampled.{has_owners, is_listed, is_given_back, none_recent}
use Rattle.law_descriptors.proofs.GivenThere.{told_now}
use Rattle.law_descriptors.proofs.GivenRunning.{stands_now, runs_now}
use Rattle.law_descriptors.proofs.given_worked.an_itd_is_given_back.Goals as goal

pub returns : goal.returns
returns c = record {
  before = refl;
  after = refl;
  runs = release_runs_both opening_base is_head no_recent descs opening_parts Empty Nothing controller 0 driver 0 transfer has_owners is_listed stands_now (none_recent 0)
      (is_given_back controller.registers memory) refl told_now runs_now;
}
