-- The queue head of an interrupt endpoint that was halted.
use Rattle.std.proofs.Common.{◌≡◌, ◌≢◌, ◌⊎◌, ℕ, ◌/◌, ◌==◌, Bool, true, false, Some, None, if◌then◌else◌, ap, refl, sym, subst, ◌∙◌, ⊎_elim, inl, inr, arith}
use Rattle.std.proofs.lemmas.Bool.{eqb-true, true≢false}
use Rattle.std.proofs.lemmas.Option.{same_Some}
use Rattle.law_structures.proofs.Common.{element_is}
use Rattle.qh_qtd.specs.declared.qtd.Qtd.{Qtd}
use Rattle.qh_qtd.specs.declared.queue_head.Qh.{Qh}
use Rattle.async_walk.specs.declared.state.WalkStep.TheVariants as steps
use Rattle.law_structures.specs.lent_structures.Structures.{QueueHead, Element, Buffer}
use Rattle.law_structures.specs.lent_structures.StructureSamples.{pages, bytes}
use Rattle.law_structures.specs.lent_structures.Sound.{buffer_name, IsSoundElement, AreOwn}
use Rattle.law_structures.proofs.lemmas.lent_structures.Altering.{found_queue}
use Rattle.law_ring.proofs.Parting.{found_with}
use Rattle.law_ring.specs.Order.{IsFresh}
use Rattle.law_ring.specs.Front.{IsFront, IsBehind, HasFront}
use Rattle.law_ring.specs.Halted.{HaltStops}
use Rattle.law_ring.specs.HaltSamples.{published_element}
use Rattle.law_frames.specs.Met.{Kind, AQueue, IsMetQueue, IsMetAs}
use Rattle.law_frames.specs.FrameHand.{Nothing, OfQueue, OfSettled}
use Rattle.law_frames.specs.Frame.{IsInFrame}
use Rattle.law_frames.specs.FrameEffects.{FrameEffect, passes}
use Rattle.law_frames.specs.QueueVisitSamples.{parts, met, copy, settled}
use Rattle.law_frames.specs.QueueStepSamples.{fetched, made, is_heard}
use Rattle.law_frames.proofs.QueueVisitSampled.{visit_is}
use Rattle.law_frames.proofs.QueueStepSampled.{after_it}
use Rattle.law_frames.specs.framed_fronts.FrameFronts.{AreMet}
use Rattle.law_frames.specs.framed_fronts.Samples.{halted_queue, halted_element, none, head_part, first_part, both_part, halted_part, halted_parts, halted_copy, both_out}

-- ---- before it is halted

pub works_met : AreMet met parts
works_met = after_it.members

pub works_in_hand : IsInFrame met parts made.walk.got made.walk.reply (OfSettled copy settled 1)
works_in_hand = after_it.walk.in_hand

-- ---- its two qTDs

two : (a : ℕ) (t : Qtd) → halted_part a ≡ Some (Element t) → ((a ≡ 64) × (halted_element ≡ t)) ⊎ ((a ≡ 128) × (published_element ≡ t))
two a t found =
    ⊎_elim (λ (is : (a ≡ 100) × (Buffer pages 100 bytes ≡ Element t)). cc)
    (λ (third : (a ≢ 100) × (both_part a ≡ Some (Element t))).
    ⊎_elim (λ (is : (a ≡ 128) × (Element published_element ≡ Element t)). inr (is.0, element_is published_element t is.1))
    (λ (second : (a ≢ 128) × (first_part a ≡ Some (Element t))).
    ⊎_elim (λ (is : (a ≡ 64) × (Element halted_element ≡ Element t)). inl (is.0, element_is halted_element t is.1))
    (λ (first : (a ≢ 64) × (head_part a ≡ Some (Element t))).
    ⊎_elim (λ (is : (a ≡ 0) × (QueueHead halted_queue ≡ Element t)). cc) (λ (there : (a ≢ 0) × (none a ≡ Some (Element t))). let e = there.1 in cc)
    (found_with none 0 a (QueueHead halted_queue) (Element t) first.1))
    (found_with head_part 64 a (Element halted_element) (Element t) second.1))
    (found_with first_part 128 a (Element published_element) (Element t) third.1))
    (found_with both_part 100 a (Buffer pages 100 bytes) (Element t) found)

-- the halted one stands first, the other is published
idle_one : (a : ℕ) (t : Qtd) → halted_part a ≡ Some (Element t) → t.token.active ≡ false → (a ≡ 64) × (halted_element ≡ t)
idle_one a t here off =
    ⊎_elim (λ (is : (a ≡ 64) × (halted_element ≡ t)). is) (λ (is : (a ≡ 128) × (published_element ≡ t)). absurd (true≢false (ap (λ (u : Qtd). u.token.active) is.1 ∙ off))) (two a t here)

active_one : (a : ℕ) (t : Qtd) → halted_part a ≡ Some (Element t) → t.token.active ≡ true → (a ≡ 128) × (published_element ≡ t)
active_one a t here on =
    ⊎_elim (λ (is : (a ≡ 64) × (halted_element ≡ t)). absurd (true≢false (sym on ∙ ap (λ (u : Qtd). u.token.active) (sym is.1)))) (λ (is : (a ≡ 128) × (published_element ≡ t)). is) (two a t here)

-- ---- the walk may meet it

halted_sound : IsSoundElement halted_part halted_element
halted_sound = record { next = record { qtd = published_element; here = refl }; alternate = tt; work = λ on. absurd (true≢false (sym on)) }

published_sound : IsSoundElement halted_part published_element
published_sound = record { next = tt; alternate = tt; work = λ on. record { goes_on = refl; start = refl; buffer = λ some. absurd (omega (arith, some)) } }

elements : (a : ℕ) (t : Qtd) → halted_part a ≡ Some (Element t) → IsSoundElement halted_part t
elements a t found =
    ⊎_elim {C = IsSoundElement halted_part t} (λ (is : (a ≡ 64) × (halted_element ≡ t)). subst (IsSoundElement halted_part) is.1 halted_sound)
    (λ (is : (a ≡ 128) × (published_element ≡ t)). subst (IsSoundElement halted_part) is.1 published_sound) (two a t found)

two_names : buffer_name halted_element ≡ buffer_name published_element → ⊥
two_names same = omega (arith, same)

names_apart : (t u : Qtd) → halted_element ≡ t → published_element ≡ u → buffer_name t ≡ buffer_name u → ⊥
names_apart t u first second same = two_names (ap (λ (v : Qtd). buffer_name v) first ∙ same ∙ sym (ap (λ (v : Qtd). buffer_name v) second))

own : AreOwn halted_part
own a b t u ps k bs one other same there =
    ⊎_elim {C = a ≡ b}
    (λ (is : (a ≡ 64) × (halted_element ≡ t)).
    ⊎_elim {C = a ≡ b} (λ (also : (b ≡ 64) × (halted_element ≡ u)). is.0 ∙ sym also.0) (λ (also : (b ≡ 128) × (published_element ≡ u)). absurd (names_apart t u is.1 also.1 same)) (two b u other))
    (λ (is : (a ≡ 128) × (published_element ≡ t)).
    ⊎_elim {C = a ≡ b} (λ (also : (b ≡ 64) × (halted_element ≡ u)). absurd (names_apart u t also.1 is.1 (sym same))) (λ (also : (b ≡ 128) × (published_element ≡ u)). is.0 ∙ sym also.0) (two b u other))
    (two a t one)

queue_met : IsMetQueue met 0 halted_part
queue_met = record {
  part_is = record {
    queue = halted_queue;
    here = refl;
    sound = record { rest = λ goes_on idle. absurd (true≢false goes_on); work = λ on. absurd (true≢false (sym on)) };
    elements = elements;
    own = own;
  };
  link = refl;
}

members_at : (b : Bool) (n : ℕ) (k : Kind) → (n == 0) ≡ b → (if b then Some AQueue else None) ≡ Some k → IsMetAs met n halted_part k
members_at true n k is on =
    subst (λ (kind : Kind). IsMetAs met n halted_part kind) (same_Some AQueue k on) (subst (λ (i : ℕ). IsMetQueue met i halted_part) (sym (eqb-true n 0 is)) queue_met)
members_at false n k is on = cc

pub halted_met : AreMet met halted_parts
halted_met n k on = members_at (n == 0) n k refl on

pub halted_in_hand : IsInFrame met halted_parts fetched.walk.got fetched.walk.reply (OfQueue halted_copy 0)
halted_in_hand = record { on = refl; here = refl; link = refl; range = visit_is.copied.range }

pub passed_by : FrameEffect is_heard halted_parts fetched.walk (OfQueue halted_copy 0) 1 1 halted_parts Nothing steps.Skip
passed_by = passes tt refl refl refl

-- ---- its halt stops it

at_rest : IsFront (λ a. a / 64) 2 halted_queue
at_rest = record { work = λ on. absurd (true≢false (sym on)); rest = λ b off idle to. absurd (true≢false off) }

behind : IsBehind (λ a. a / 64) 2 halted_part 64
behind = record { qtd = halted_element; here = refl; done = refl; before = omega arith; leads = λ b off to. absurd (true≢false off) }

pub halted_front : HasFront (λ a. a / 64) 2 both_out 0 halted_part
halted_front = record {
  queue = λ q here. subst (IsFront (λ a. a / 64) 2) (found_queue (halted_part 0) halted_queue q refl here) at_rest;
  behind = λ a t among here off. subst (IsBehind (λ a. a / 64) 2 halted_part) (sym (idle_one a t here off).0) behind;
  fresh = λ a t among here on. subst (IsFresh halted_part) (active_one a t here on).1 refl;
  passes = λ a b e t u among also here there over. absurd (true≢false (ap (λ (v : Qtd). v.token.halted) (idle_one a t here over.done).1 ∙ over.goes_on));
}

pub halt_stops : HaltStops (λ a. a / 64) both_out 0 halted_part
halt_stops = record {
  head = λ a t q among here is head. ap (λ (r : Qh). r.token.halted) (sym (found_queue (halted_part 0) halted_queue q refl head));
  later = λ a e t u among here is also less there.
      ⊎_elim
      (λ (other : (e ≡ 64) × (halted_element ≡ u)).
      let first = ap (λ (i : ℕ). i / 64) (idle_one a t here is.done).0 in let second = ap (λ (i : ℕ). i / 64) other.0 in absurd (omega (arith, less, first, second)))
      (λ (other : (e ≡ 128) × (published_element ≡ u)). ap (λ (v : Qtd). v.token.active) (sym other.1)) (two e u there);
}
