-- The part of a queue head stays sound, once a word of a qTD that is published was stored, wherever the queue head stands.
use Rattle.std.proofs.Common.{◌≡◌, ◌≢◌, ℕ, suc, ◌<◌, false, Some, ap, subst, ◌∙◌, ⊎_elim, arith}
use Rattle.std.proofs.lemmas.Bool.{cases_eq}
use Rattle.law_controller.proofs.Common.{new_own}
use Rattle.law_ring.proofs.Common.{element_not_buffer, element_not_head, changed_active}
use Rattle.law_driver_ring.proofs.Common.{sound_at, unnamed_at, partly_idle}
use Rattle.law_structures.proofs.Common.{element_is}
use Rattle.qh_qtd.specs.declared.qtd.Qtd.{Qtd}
use Rattle.qh_qtd.specs.Qtd.{IsQtdInRange}
use Rattle.law_structures.specs.lent_structures.Structures.{Element, Structures, with_structure}
use Rattle.law_structures.specs.lent_structures.Sound.{IsSoundElement}
use Rattle.law_structures.proofs.lemmas.lent_structures.Names.{with_here, with_there}
use Rattle.law_ring.specs.Stores.{IsUnnamed}
use Rattle.law_ring.proofs.Parting.{Spans, sound_spanned, queue_spanned, found_with}
use Rattle.law_driver_ring.specs.Published.{partly, IsPublishable}
use Rattle.law_frames.specs.Met.{IsQueuePart}

-- ---- an inactive qTD changes

changed_spans : (part : Structures) (a : ℕ) (d new : Qtd) → part a ≡ Some (Element d) → Spans part (with_structure part a (Element new))
changed_spans part a d new at = record {
  element = λ b t here.
      ⊎_elim (λ (same : b ≡ a). record { qtd = new; here = ap (with_structure part a (Element new)) same ∙ with_here part a (Element new) })
      (λ (differs : b ≢ a). record { qtd = t; here = with_there part a (Element new) b differs ∙ here }) (cases_eq b a);
  buffer = λ b pages k bs here. with_there part a (Element new) b (element_not_buffer part a b d pages k bs at here) ∙ here;
}

part_stored : (n : ℕ) (part : Structures) (a : ℕ) (d new : Qtd) → IsQueuePart n part → part a ≡ Some (Element d) → d.token.active ≡ false → IsSoundElement part new → IsUnnamed part a new → IsQueuePart n (with_structure part a (Element new))
part_stored n part a d new m at off sound unnamed =
    let now = with_structure part a (Element new) in
    let spans = changed_spans part a d new at in
    record {
      queue = m.queue;
      here = with_there part a (Element new) n (element_not_head part a n d m.queue at m.here) ∙ m.here;
      sound = queue_spanned part now m.queue spans (changed_active part a d new at off) m.sound;
      elements = λ b t found.
          ⊎_elim (λ (is : (b ≡ a) × (Element new ≡ Element t)). subst (IsSoundElement now) (element_is new t is.1) (sound_spanned part now new spans sound))
          (λ (there : (b ≢ a) × (part b ≡ Some (Element t))). sound_spanned part now t spans (m.elements b t there.1)) (found_with part a b (Element new) (Element t) found);
      own = new_own part a new unnamed m.own;
    }

-- ---- a store

pub part_published : (n : ℕ) (part : Structures) (a : ℕ) (t : Qtd) (k : ℕ) → k < 8 → part a ≡ Some (Element (partly t k)) → IsQtdInRange t → IsPublishable part a t → IsQueuePart n part → IsQueuePart n (with_structure part a (Element (partly t (suc k))))
part_published n part a t k below at range may part_is =
    part_stored n part a (partly t k) (partly t (suc k)) part_is at (partly_idle t k below) (sound_at part t (suc k) may.sound)
    (unnamed_at part a t (suc k) (let low = range.1.1.1.0.1.0 in omega (arith, low)) may.own may.blank)
