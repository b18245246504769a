-- A new queue rests at its inactive qTD, its only one: it is sound (EHCI 1.0, 4.10.2).
use Rattle.std.proofs.Common.{◌≡◌, ℕ, ◌*◌, Some, ap, refl, sym, subst, ◌∙◌}
use Rattle.std.proofs.lemmas.Bool.{true≢false}
use Rattle.link_words.specs.declared.kinds.QtdLink.{QtdLink}
use Rattle.link_words.specs.declared.kinds.QtdLink.TheVariants as qtd_links
use Rattle.link_words.specs.Links.{qtd_link_of}
use Rattle.qh_qtd.specs.declared.qtd.Qtd.{Qtd}
use Rattle.hc_copy.specs.Visits.{next_pointer}
use Rattle.drv_table.specs.Words.{dummy_qtd}
use Rattle.drv_table.specs.declared.content.Endpoint.{Endpoint}
use Rattle.law_structures.specs.lent_structures.Structures.{Element, Structures}
use Rattle.law_structures.specs.lent_structures.Sound.{LeadsOn, IsSoundElement}
use Rattle.law_structures.proofs.lemmas.lent_structures.Altering.{found_element}
use Rattle.law_frames.specs.Met.{IsQueuePart}
use Rattle.law_queues.specs.open_laws.Queues.{IsNewPart}

module _ (x : Endpoint) (part : Structures) (k : IsNewPart x part) where
  pub its_qtd : (a : ℕ) (t : Qtd) → part a ≡ Some (Element t) → t ≡ dummy_qtd
  its_qtd a t here = found_element (part (32 * x.dummy)) t dummy_qtd (ap part (sym (k.only a t here)) ∙ here) k.dummy

  leads_there : (l : QtdLink) → ((b : ℕ) → l ≡ qtd_links.To b → b ≡ 32 * x.dummy) → LeadsOn part l
  leads_there qtd_links.End leads = tt
  leads_there (qtd_links.To b) leads = record { qtd = dummy_qtd; here = ap part (leads b refl) ∙ k.dummy }

  dummy_sound : IsSoundElement part dummy_qtd
  dummy_sound = record { next = tt; alternate = tt; work = λ on. absurd (true≢false (sym on)) }

  pub new_sound : IsQueuePart (32 * x.queue) part
  new_sound = record {
    queue = k.queue;
    here = k.here;
    sound = record { rest = λ off idle. leads_there (qtd_link_of (next_pointer k.queue)) k.rests.leads; work = λ on. absurd (true≢false (sym on ∙ k.rests.idle)) };
    elements = λ a t here. subst (IsSoundElement part) (sym (its_qtd a t here)) dummy_sound;
    own = λ a b t u pages j bs one other name there. k.only a t one ∙ sym (k.only b u other);
  }
