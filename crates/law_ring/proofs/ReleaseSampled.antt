-- The worked part may lose the qTD that was passed over.
use Rattle.std.proofs.Common.{◌≡◌, ◌≢◌, ℕ, ◌==◌, false, Some, None, ap, refl, sym, ◌∙◌, ⊎_elim}
use Rattle.std.proofs.lemmas.Bool.{true≢false}
use Rattle.law_structures.proofs.Common.{element_is}
use Rattle.link_words.specs.declared.kinds.QtdLink.{QtdLink}
use Rattle.link_words.specs.declared.kinds.QtdLink.TheVariants as qtd_links
use Rattle.link_words.specs.Links.{qtd_link_of}
use Rattle.qh_qtd.specs.Blank.{blank_qtd}
use Rattle.qh_qtd.specs.declared.qtd.Qtd.{Qtd}
use Rattle.law_structures.specs.lent_structures.Structures.{QueueHead, Element, Structures, with_structure}
use Rattle.law_ring.proofs.Parting.{found_with}
use Rattle.law_ring.specs.Fewer.{MayGo}
use Rattle.law_ring.specs.ReleaseSamples.{rested, passed, nothing, part, goes}

abbrev first : Structures
first = with_structure nothing 64 (QueueHead rested)

abbrev both : Structures
both = with_structure first 128 (Element passed)

none_there : (a : ℕ) (t : Qtd) → first a ≡ Some (Element t) → ⊥
none_there a t found =
    ⊎_elim (λ (is : (a ≡ 64) × (QueueHead rested ≡ Element t)). cc) (λ (there : (a ≢ 64) × (nothing a ≡ Some (Element t))). nowhere t there.1)
    (found_with nothing 64 a (QueueHead rested) (Element t) found)
  where
    nowhere : (t : Qtd) → None ≡ Some (Element t) → ⊥
    nowhere t bad = cc

-- a qTD that stays is the inactive one
other_is : (a : ℕ) (t : Qtd) → part a ≡ Some (Element t) → goes a ≡ false → blank_qtd ≡ t
other_is a t found stays =
    ⊎_elim (λ (is : (a ≡ 192) × (Element blank_qtd ≡ Element t)). element_is blank_qtd t is.1)
    (λ (there : (a ≢ 192) × (both a ≡ Some (Element t))).
    ⊎_elim (λ (is : (a ≡ 128) × (Element passed ≡ Element t)). absurd (true≢false (ap (λ (b : ℕ). b == 128) (sym is.0) ∙ stays))) (λ (other : (a ≢ 128) × (first a ≡ Some (Element t))). absurd (none_there a t other.1))
    (found_with first 128 a (Element passed) (Element t) there.1))
    (found_with both 192 a (Element blank_qtd) (Element t) found)

no_link : (b : ℕ) → qtd_links.End ≡ qtd_links.To b → ⊥
no_link b bad = cc

abbrev target : QtdLink → ℕ
target qtd_links.End = 0
target (qtd_links.To a) = a

pub may_go : MayGo goes 64 part rested
may_go = record {
  head = refl;
  work = λ on. absurd (true≢false (sym on));
  rest = λ a off idle to. ap goes (sym (ap target to));
  next = λ a b t here stays to. absurd (no_link b (ap (λ (u : Qtd). qtd_link_of u.next) (other_is a t here stays) ∙ to));
  alternate = λ a b t here stays to. absurd (no_link b (ap (λ (u : Qtd). qtd_link_of u.alternate) (other_is a t here stays) ∙ to));
  buffer = λ a t here stays on some. absurd (true≢false (sym on ∙ ap (λ (u : Qtd). u.token.active) (sym (other_is a t here stays))));
}
