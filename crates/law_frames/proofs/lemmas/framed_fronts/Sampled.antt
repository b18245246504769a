-- A queue head of an interrupt endpoint that works on its qTD.
use Rattle.std.proofs.Common.{◌≡◌, ℕ, ◌/◌, [], ◌∷◌, true, Some, ap, refl, sym, subst, ◌∙◌, ⊎_elim, arith}
use Rattle.std.proofs.lemmas.Bool.{true≢false}
use Rattle.law_structures.proofs.Common.{element_is}
use Rattle.link_words.specs.declared.kinds.QtdLink.TheVariants as qtd_links
use Rattle.link_words.specs.Links.{qtd_link_of}
use Rattle.qh_qtd.specs.declared.qtd.Qtd.{Qtd}
use Rattle.hc_copy.specs.Overlay.{settled_queue}
use Rattle.async_walk.specs.declared.state.WalkStep.TheVariants as steps
use Rattle.law_structures.specs.lent_structures.Structures.{QueueHead, Element, Buffer, put}
use Rattle.law_structures.specs.lent_structures.StructureSamples.{queue as first, element, bytes, pages, nothing, parts as small_parts}
use Rattle.law_structures.proofs.lemmas.lent_structures.Names.{put_found}
use Rattle.law_structures.proofs.lemmas.lent_structures.Altering.{found_queue}
use Rattle.law_ring.specs.Order.{IsFresh}
use Rattle.law_ring.specs.Front.{IsFront, LinksRise, HasFront, FrontGoesOn}
use Rattle.law_ring.specs.Halted.{HaltStops}
use Rattle.law_frames.specs.FrameHand.{Nothing, OfSettled}
use Rattle.law_frames.specs.FrameEffects.{FrameEffect, writes, of_queue, was_worked}
use Rattle.law_frames.specs.QueueVisitSamples.{queue, parts, met, copy, settled, after}
use Rattle.law_frames.specs.QueueStepSamples.{made, is_heard}
use Rattle.law_frames.proofs.QueueBacks.{settled_facts}
use Rattle.law_frames.proofs.QueueVisitSampled.{settled_so}
use Rattle.law_frames.proofs.QueueStepSampled.{after_it}
use Rattle.law_frames.proofs.lemmas.framed_fronts.Running.{front_kept}

-- the qTD at 64 alone
record IsTheOne (a : ℕ) (t : Qtd) : Type 0 where
  at : a ≡ 64
  is : t ≡ element

the_first : (a : ℕ) (t : Qtd) → small_parts 0 a ≡ Some (Element t) → IsTheOne a t
the_first a t found =
    ⊎_elim (λ (is : (0 ≡ 0) × (a ≡ 100) × (Element t ≡ Buffer pages 100 bytes)). cc)
    (λ (second : put (put nothing 0 0 (QueueHead first)) 0 64 (Element element) 0 a ≡ Some (Element t)).
    ⊎_elim (λ (is : (0 ≡ 0) × (a ≡ 64) × (Element t ≡ Element element)). record { at = is.1; is = element_is t element is.2 })
    (λ (third : put nothing 0 0 (QueueHead first) 0 a ≡ Some (Element t)).
    ⊎_elim (λ (is : (0 ≡ 0) × (a ≡ 0) × (Element t ≡ QueueHead first)). cc) (λ (there : nothing 0 a ≡ Some (Element t)). cc)
    (put_found nothing 0 0 (QueueHead first) 0 a (Element t) third))
    (put_found (put nothing 0 0 (QueueHead first)) 0 64 (Element element) 0 a (Element t) second))
    (put_found (put (put nothing 0 0 (QueueHead first)) 0 64 (Element element)) 0 100 (Buffer pages 100 bytes) 0 a (Element t) found)

the_one : (a : ℕ) (t : Qtd) → parts 0 a ≡ Some (Element t) → IsTheOne a t
the_one a t found = ⊎_elim (λ (is : (0 ≡ 0) × (a ≡ 0) × (Element t ≡ QueueHead queue)). cc) (the_first a t) (put_found small_parts 0 0 (QueueHead queue) 0 a (Element t) found)

active_one : (a : ℕ) (t : Qtd) → parts 0 a ≡ Some (Element t) → t.token.active ≡ true
active_one a t here = ap (λ (u : Qtd). u.token.active) (the_one a t here).is

no_link : (b : ℕ) → qtd_links.End ≡ qtd_links.To b → ⊥
no_link b e = cc

pub links_rise : LinksRise (λ a. a / 64) (parts 0)
links_rise = record {
  next = λ a t b here leads. absurd (no_link b (sym (ap (λ (u : Qtd). qtd_link_of u.next) (the_one a t here).is) ∙ leads));
  alternate = λ a t b here leads. absurd (no_link b (sym (ap (λ (u : Qtd). qtd_link_of u.alternate) (the_one a t here).is) ∙ leads));
}

at_work : IsFront (λ a. a / 64) 1 queue
at_work = record { work = λ on. refl; rest = λ b off idle to. absurd (true≢false idle) }

pub has_front : HasFront (λ a. a / 64) 1 (64 ∷ []) 0 (parts 0)
has_front = record {
  queue = λ q here. subst (IsFront (λ a. a / 64) 1) (found_queue (parts 0 0) queue q refl here) at_work;
  behind = λ a t among here off. absurd (true≢false (sym (active_one a t here) ∙ off));
  fresh = λ a t among here on. subst (IsFresh (parts 0)) (sym (the_one a t here).is) refl;
  passes = λ a b e t u among also here there over. absurd (true≢false (sym (active_one a t here) ∙ over.done));
}

pub halt_stops : HaltStops (λ a. a / 64) (64 ∷ []) 0 (parts 0)
halt_stops = record {
  head = λ a t q among here halted there. absurd (true≢false (sym (active_one a t here) ∙ halted.done));
  later = λ a e t u among here halted also less there. absurd (true≢false (sym (active_one a t here) ∙ halted.done));
}

-- its two bytes are written back
pub back_happens : FrameEffect is_heard parts made.walk (OfSettled copy settled 1) 1 1 after Nothing steps.WriteBack
unfolding settled_queue
back_happens = writes (of_queue (record {
  copy = copy;
  settled = settled;
  made = 1;
  from = was_worked refl;
  element = element;
  here = refl;
  received_is = record {
    buffer = refl;
    pages_are = (settled_facts copy settled).pages;
    place_is = (settled_facts copy settled).place;
    fits = omega arith;
    bytes = settled_so.came_to.are_bytes;
  };
  now_is = refl;
  later_is = refl;
})) refl

pub front_goes_on : FrontGoesOn (λ a. a / 64) 1 (64 ∷ []) 0 parts after
front_goes_on = front_kept is_heard met parts made.walk (OfSettled copy settled 1) 1 1 after Nothing steps.WriteBack (λ a. a / 64) 1 (64 ∷ []) 0 queue after_it.members after_it.walk.in_hand back_happens refl links_rise has_front
