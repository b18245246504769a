-- What is a tail.
use Rattle.std.proofs.Common.{◌≡◌, ◌≢◌, ℕ, ◌≤◌, true, Some, ap, sym, subst, ◌∙◌, ⊎_elim, arith}
use Rattle.std.proofs.lemmas.Bool.{cases_eq, true≢false}
use Rattle.link_words.specs.declared.kinds.QtdLink.{QtdLink}
use Rattle.link_words.specs.declared.kinds.QtdLink.TheVariants as qtd_links
use Rattle.link_words.specs.Links.{qtd_link_of}
use Rattle.qh_qtd.specs.declared.qtd.Qtd.{Qtd}
use Rattle.law_structures.specs.lent_structures.Structures.{Element}
use Rattle.law_structures.specs.lent_structures.Sound.{IsElement, LeadsOn}
use Rattle.law_structures.specs.lent_structures.Alters.{HadElement}
use Rattle.law_structures.proofs.lemmas.lent_structures.Altering.{found_element}
use Rattle.law_structures.proofs.lemmas.lent_structures.Members.{still_active}
use Rattle.law_ring.specs.Tail.{TailStays, LastIsTail, TailMoves}

pub tail_stays : TailStays
tail_stays order c part now alters k = record {
  below = λ a u here on reached.
      let was = before a u here on in k.below a u was on reached;
  next = λ a b u here on reached to. k.next a b u (before a u here on) on reached to;
  alternate = λ a b u here on reached to. k.alternate a b u (before a u here on) on reached to;
}
  where
    before : (a : ℕ) (u : Qtd) → now a ≡ Some (Element u) → u.token.active ≡ true → part a ≡ Some (Element u)
    before a u here on =
        let had : HadElement part a u = alters.element_before a u here in
        had.here ∙ ap (λ (t : Qtd). Some (Element t)) (sym (still_active had.qtd u had.after on))

pub last_is_tail : LastIsTail
last_is_tail member order c n part d m here idle last = record {
  below = λ a u there on reached. last a u there (not_tail a u there on);
  next = λ a b u there on reached to. reaches b (qtd_link_of u.next) (m.elements a u there).next to;
  alternate = λ a b u there on reached to. reaches b (qtd_link_of u.alternate) (m.elements a u there).alternate to;
}
  where
    not_tail : (a : ℕ) (u : Qtd) → part a ≡ Some (Element u) → u.token.active ≡ true → a ≢ c
    not_tail a u there on same = true≢false (sym on ∙ ap (λ (t : Qtd). t.token.active) (found_element (part a) u d there (ap part same ∙ here)) ∙ idle)

    reaches : (b : ℕ) (l : QtdLink) → LeadsOn part l → l ≡ qtd_links.To b → order b ≤ order c
    reaches b l leads is =
        let there : IsElement part b = subst (LeadsOn part) is leads in
        ⊎_elim (λ (same : b ≡ c). let e = ap order same in omega (arith, e)) (λ (differs : b ≢ c). let less = last b there.qtd there.here differs in omega (arith, less)) (cases_eq b c)

pub tail_moves : TailMoves
tail_moves order c later front n part up k = record {
  most = (let most = k.most in omega (arith, most, up));
  rest = λ q b here off idle to. let at = k.rest q b here off idle to in omega (arith, at, up);
}
