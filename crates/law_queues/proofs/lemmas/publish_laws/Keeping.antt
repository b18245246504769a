-- What a qTD that is to be published needs of its part stays where structures are kept.
use Rattle.std.proofs.Common.{ℕ, ◌*◌, Bool}
use Rattle.law_queues.proofs.Common.{unnamed_still}
use Rattle.law_driver_ring.proofs.Common.{partly_idle}
use Rattle.qh_qtd.specs.declared.qtd.Qtd.{Qtd}
use Rattle.drv_table.specs.DriverContent.{DriverContent}
use Rattle.drv_table.specs.Words.{dummy_qtd}
use Rattle.law_structures.specs.lent_structures.Structures.{Structures, StructureSets}
use Rattle.law_structures.specs.lent_structures.Alters.{Alters}
use Rattle.law_structures.proofs.lemmas.lent_structures.Altering.{is_itself}
use Rattle.law_structures.proofs.lemmas.lent_structures.Members.{element_still}
use Rattle.law_controller.specs.controlled_streams.Kept.{KeepsEach}
use Rattle.law_driver_ring.specs.Published.{partly, IsPublishable}
use Rattle.law_queues.specs.publish_laws.Publishing.{IsBeingPublished}

pub publishable_still : (part now : Structures) (a : ℕ) (t : Qtd) → Alters part now → IsPublishable part a t → IsPublishable now a t
publishable_still part now a t alters k = record {
  sound = element_still part now t t alters (is_itself t) k.sound;
  own = unnamed_still part now a t alters k.own;
  blank = unnamed_still part now a dummy_qtd alters k.blank;
}

pub it_goes_on_beside_the_controller : (d : DriverContent) (member : ℕ → Bool) (parts now : StructureSets) (n b : ℕ) (t : Qtd) (k : ℕ) → KeepsEach parts now → IsBeingPublished d member parts n b t k → IsBeingPublished d member now n b t k
it_goes_on_beside_the_controller d member parts now n b t k keeps is = record {
  command = is.command;
  made = is.made;
  below = is.below;
  here = (keeps n).idle (32 * b) (partly t k) is.here (partly_idle t k is.below);
  range = is.range;
  may = λ on. publishable_still (parts n) (now n) (32 * b) t (keeps n).alters (is.may on);
}
