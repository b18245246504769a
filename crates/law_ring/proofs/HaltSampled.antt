-- A queue head that was halted.
use Rattle.std.proofs.Common.{◌≡◌, ◌≢◌, ℕ, ◌/◌, ◌⊎◌, true, false, Some, ap, refl, sym, subst, ◌∙◌, ⊎_elim, inl, inr, arith}
use Rattle.std.proofs.lemmas.Bool.{true≢false}
use Rattle.law_structures.proofs.Common.{element_is}
use Rattle.qh_qtd.specs.declared.qtd.Qtd.{Qtd}
use Rattle.qh_qtd.specs.declared.queue_head.Qh.{Qh}
use Rattle.law_structures.specs.lent_structures.Structures.{QueueHead, Element, with_structure}
use Rattle.law_structures.proofs.lemmas.lent_structures.Altering.{found_queue}
use Rattle.law_ring.proofs.Parting.{found_with}
use Rattle.law_ring.specs.Order.{IsFresh}
use Rattle.law_ring.specs.Front.{IsFront, IsBehind, HasFront}
use Rattle.law_ring.specs.Halted.{IsHalted, HaltStops}
use Rattle.law_ring.specs.HaltSamples.{halted_queue, halted_element, published_element, none, halted_part, both_out}

pub halted : IsHalted halted_element
halted = record { done = refl; halted = refl }

two : (a : ℕ) (t : Qtd) → halted_part a ≡ Some (Element t) → ((a ≡ 128) × (halted_element ≡ t)) ⊎ ((a ≡ 192) × (published_element ≡ t))
two a t found =
    ⊎_elim (λ (is : (a ≡ 192) × (Element published_element ≡ Element t)). inr (is.0, element_is published_element t is.1))
    (λ (second : (a ≢ 192) × (with_structure (with_structure none 64 (QueueHead halted_queue)) 128 (Element halted_element) a ≡ Some (Element t))).
    ⊎_elim (λ (is : (a ≡ 128) × (Element halted_element ≡ Element t)). inl (is.0, element_is halted_element t is.1))
    (λ (first : (a ≢ 128) × (with_structure none 64 (QueueHead halted_queue) a ≡ Some (Element t))).
    ⊎_elim (λ (is : (a ≡ 64) × (QueueHead halted_queue ≡ Element t)). cc) (λ (there : (a ≢ 64) × (none a ≡ Some (Element t))). let e = there.1 in cc)
    (found_with none 64 a (QueueHead halted_queue) (Element t) first.1))
    (found_with (with_structure none 64 (QueueHead halted_queue)) 128 a (Element halted_element) (Element t) second.1))
    (found_with (with_structure (with_structure none 64 (QueueHead halted_queue)) 128 (Element halted_element)) 192 a (Element published_element) (Element t) found)

at_rest : IsFront (λ a. a / 64) 3 halted_queue
at_rest = record { work = λ on. absurd (true≢false (sym on)); rest = λ b off idle to. absurd (true≢false off) }

behind : IsBehind (λ a. a / 64) 3 halted_part 128
behind = record { qtd = halted_element; here = refl; done = refl; before = omega arith; leads = λ b off to. absurd (true≢false off) }

-- the done one is halted and stands first, the other is published
idle_one : (a : ℕ) (t : Qtd) → halted_part a ≡ Some (Element t) → t.token.active ≡ false → (a ≡ 128) × (halted_element ≡ t)
idle_one a t here off =
    ⊎_elim (λ (is : (a ≡ 128) × (halted_element ≡ t)). is) (λ (is : (a ≡ 192) × (published_element ≡ t)). absurd (true≢false (ap (λ (u : Qtd). u.token.active) is.1 ∙ off))) (two a t here)

active_one : (a : ℕ) (t : Qtd) → halted_part a ≡ Some (Element t) → t.token.active ≡ true → (a ≡ 192) × (published_element ≡ t)
active_one a t here on =
    ⊎_elim (λ (is : (a ≡ 128) × (halted_element ≡ t)). absurd (true≢false (sym on ∙ ap (λ (u : Qtd). u.token.active) (sym is.1)))) (λ (is : (a ≡ 192) × (published_element ≡ t)). is) (two a t here)

pub has_front : HasFront (λ a. a / 64) 3 both_out 64 halted_part
has_front = record {
  queue = λ q here. subst (IsFront (λ a. a / 64) 3) (found_queue (halted_part 64) halted_queue q refl here) at_rest;
  behind = λ a t among here off. subst (IsBehind (λ a. a / 64) 3 halted_part) (sym (idle_one a t here off).0) behind;
  fresh = λ a t among here on. subst (IsFresh halted_part) (active_one a t here on).1 refl;
  passes = λ a b e t u among also here there over. absurd (true≢false (ap (λ (v : Qtd). v.token.halted) (idle_one a t here over.done).1 ∙ over.goes_on));
}

pub stops : HaltStops (λ a. a / 64) both_out 64 halted_part
stops = record {
  head = λ a t q among here is head. ap (λ (r : Qh). r.token.halted) (sym (found_queue (halted_part 64) halted_queue q refl head));
  later = λ a e t u among here is also less there.
      ⊎_elim
      (λ (other : (e ≡ 128) × (halted_element ≡ u)).
      let first = ap (λ (i : ℕ). i / 64) (idle_one a t here is.done).0 in let second = ap (λ (i : ℕ). i / 64) other.0 in absurd (omega (arith, less, first, second)))
      (λ (other : (e ≡ 192) × (published_element ≡ u)). ap (λ (v : Qtd). v.token.active) (sym other.1)) (two e u there);
}
