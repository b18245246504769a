-- A queue whose stall was harvested, and which is owed three stores.
use Rattle.std.proofs.Common.{◌≡◌, ◌≢◌, ℕ, [], ◌∷◌, Option, Some, None, ap, sym, ◌∙◌, ⊎_elim}
use Rattle.law_structures.proofs.Common.{element_is}
use Rattle.link_words.specs.Links.{qtd_link_of}
use Rattle.link_words.specs.declared.kinds.QtdLink.TheVariants as qtd_links
use Rattle.qh_qtd.specs.declared.qtd.Qtd.{Qtd}
use Rattle.drv_table.specs.Words.{dummy_qtd}
use Rattle.law_structures.specs.lent_structures.Structures.{Structure, QueueHead, Element}
use Rattle.law_ring.proofs.Parting.{found_with}
use Rattle.law_ring.specs.Front.{LinksRise}
use Rattle.law_queues.specs.mended_heads.Samples.{waiting, stalled, halted_head, nothing, first_part, first_parts, none_out}
use Rattle.law_queues.proofs.lemmas.mended_heads.Sampled.{waits}
use Rattle.law_world.specs.steps.control_queues.Controls.{ControlsStand}
use Rattle.law_world.specs.steps.control_queues.Samples.{head_part}

-- it has the inactive qTD alone
only_dummy : (a : ℕ) (t : Qtd) → first_part a ≡ Some (Element t) → t ≡ dummy_qtd
only_dummy a t found =
    ⊎_elim {C = t ≡ dummy_qtd} (λ (is : (a ≡ 4256) × (Element dummy_qtd ≡ Element t)). sym (element_is dummy_qtd t is.1))
    (λ (other : (a ≢ 4256) × (head_part a ≡ Some (Element t))).
    ⊎_elim {C = t ≡ dummy_qtd} (λ (is : (a ≡ 4160) × (QueueHead halted_head ≡ Element t)). absurd (never is.1)) (λ (rest : (a ≢ 4160) × (nothing a ≡ Some (Element t))). absurd (none rest.1))
    (found_with nothing 4160 a (QueueHead halted_head) (Element t) other.1))
    (found_with head_part 4256 a (Element dummy_qtd) (Element t) found)
  where
    never : QueueHead halted_head ≡ Element t → ⊥
    never same = cc

    none : ◌≡◌ {A = Option Structure} None (Some (Element t)) → ⊥
    none same = cc

no_link : (b : ℕ) → qtd_links.End ≡ qtd_links.To b → ⊥
no_link b to = cc

rises : LinksRise (λ a. a) first_part
rises = record {
  next = λ a t b is to. absurd (no_link b (sym (ap (λ (u : Qtd). qtd_link_of u.next) (only_dummy a t is)) ∙ to));
  alternate = λ a t b is to. absurd (no_link b (sym (ap (λ (u : Qtd). qtd_link_of u.alternate) (only_dummy a t is)) ∙ to));
}

pub owed_stands : ControlsStand waiting.driver first_parts (λ n a. a) none_out
owed_stands = record {
  rises = λ e x here there. rises;
  sorted = λ e x here there. tt;
  stops = λ e x here met. record { head = λ a t q among is halted there. absurd among; later = λ a e t u among is halted also less there. absurd among };
  mends = record { queues = stalled ∷ []; are = waits };
}
