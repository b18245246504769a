use Rattle.std.proofs.Common.{refl}
use Rattle.law_descriptors.specs.GivenWorked.{memory, controller}
use Rattle.law_descriptors.proofs.GivenSampled.{has_owners, is_listed, is_given_back, none_recent}
use Rattle.law_descriptors.proofs.GivenThere.{told_now}
use Rattle.law_descriptors.proofs.GivenRunning.{stands_now, runs_now}
use Rattle.law_descriptors.proofs.given_worked.an_itd_is_to_go.Goals as goal

pub returns : goal.returns
returns c = record {
  row = refl;
  given = is_given_back controller.registers memory;
  owners = has_owners;
  listed = is_listed;
  stands = stands_now;
  recent = none_recent 0;
  told = told_now;
  runs = runs_now;
}
