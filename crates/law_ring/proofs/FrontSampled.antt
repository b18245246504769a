-- A queue head that works on its qTD.
use Rattle.std.proofs.Common.{◌≡◌, ℕ, ◌/◌, [], ◌∷◌, ap, refl, subst, ◌∙◌}
use Rattle.std.proofs.lemmas.Bool.{true≢false}
use Rattle.link_words.specs.declared.kinds.QtdLink.TheVariants as qtd_links
use Rattle.link_words.specs.Links.{qtd_link_of}
use Rattle.qh_qtd.specs.declared.qtd.Qtd.{Qtd}
use Rattle.law_structures.proofs.lemmas.lent_structures.Altering.{found_queue}
use Rattle.law_ring.specs.StoreSamples.{queue, parts}
use Rattle.law_ring.proofs.StoreSampled.{one_element}
use Rattle.law_ring.specs.Order.{IsFresh}
use Rattle.law_ring.specs.Front.{IsFront, LinksRise, HasFront}

no_link : (b : ℕ) → qtd_links.End ≡ qtd_links.To b → ⊥
no_link b e = cc

pub links_rise : LinksRise (λ a. a / 64) (parts 64)
links_rise = record {
  next = λ a t b here leads. absurd (no_link b (ap (λ (u : Qtd). qtd_link_of u.next) (one_element a t here).1 ∙ leads));
  alternate = λ a t b here leads. absurd (no_link b (ap (λ (u : Qtd). qtd_link_of u.alternate) (one_element a t here).1 ∙ leads));
}

at_work : IsFront (λ a. a / 64) 2 queue
at_work = record { work = λ on. refl; rest = λ b off idle to. absurd (true≢false idle) }

pub has_front : HasFront (λ a. a / 64) 2 (128 ∷ []) 64 (parts 64)
has_front = record {
  queue = λ q here. subst (IsFront (λ a. a / 64) 2) (found_queue (parts 64 64) queue q refl here) at_work;
  passes = λ a b e t u among also here there over. absurd (true≢false (ap (λ (v : Qtd). v.token.active) (one_element a t here).1 ∙ over.done));
  fresh = λ a t among here on. subst (IsFresh (parts 64)) (one_element a t here).1 refl;
  behind = λ a t among here off. absurd (true≢false (ap (λ (u : Qtd). u.token.active) (one_element a t here).1 ∙ off));
}
