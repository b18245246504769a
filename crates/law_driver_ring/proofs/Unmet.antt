-- The walk doesn't meet a new endpoint before it is linked.
use Rattle.std.proofs.Common.{◌≡◌, ℕ, ◌*◌, Bool, true, false, ◌==◌, Option, Some, None, ap, refl, ◌∙◌, if◌then◌else◌}
use Rattle.drv_table.specs.Words.{dummy_qtd}
use Rattle.claims_driver.specs.Owners.{views_of}
use Rattle.law_structures.specs.lent_structures.Structures.{Structure, QueueHead, Element, Structures, with_structure, put}
use Rattle.law_structures.proofs.lemmas.lent_structures.Names.{put_here}
use Rattle.law_driver_ring.specs.LendOpened.{opened_parts}
use Rattle.law_driver_ring.specs.Linked.{opened_part, OpenIsUnmet}
use Rattle.law_driver_ring.proofs.LendOwning.{none_there}
use Rattle.law_driver_ring.proofs.LendOpening.{two_lent, lent_content, no_member}

pub open_is_unmet : OpenIsUnmet
open_is_unmet base member parts hand p d m e x q opened has k = (by_test (member (32 * x.queue)) refl, λ b. part_at b)
  where
    none : (b : ℕ) → parts (32 * x.queue) b ≡ None
    none b = none_there (views_of d) (views_of (lent_content d m)) has.owner e x parts b (two_lent d m e x q opened has) k.driven

    by_test : (b : Bool) → member (32 * x.queue) ≡ b → b ≡ false
    by_test false is = refl
    by_test true is = no_member member (32 * x.queue) parts (none (32 * x.queue)) (k.ring.members (32 * x.queue) is)

    part_at : (b : ℕ) → opened_parts parts x q (32 * x.queue) b ≡ opened_part x q b
    part_at b =
        let one = put parts (32 * x.queue) (32 * x.queue) (QueueHead q) in
        ap (λ (part : Structures). part b) (put_here one (32 * x.queue) (32 * x.dummy) (Element dummy_qtd))
        ∙ ap (λ (part : Structures). with_structure part (32 * x.dummy) (Element dummy_qtd) b) (put_here parts (32 * x.queue) (32 * x.queue) (QueueHead q))
        ∙ ap (λ (o : Option Structure). if b == 32 * x.dummy then Some (Element dummy_qtd) else (if b == 32 * x.queue then Some (QueueHead q) else o)) (none b)
