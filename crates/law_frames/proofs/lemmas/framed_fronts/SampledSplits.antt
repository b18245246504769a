-- A queue head of a full-speed interrupt endpoint in the frames: its start-split leaves the front, and a missed complete-split halts it.
use Rattle.std.proofs.Common.{◌≡◌, ℕ, ◌/◌, ◌==◌, Bool, true, false, if◌then◌else◌, [], ◌∷◌, Some, None, ap, refl, sym, subst, ◌∙◌, ⊎_elim, arith}
use Rattle.std.proofs.lemmas.Bool.{true≢false, eqb-true}
use Rattle.std.proofs.lemmas.Option.{same_Some}
use Rattle.link_words.specs.declared.kinds.QtdLink.TheVariants as qtd_links
use Rattle.link_words.specs.Links.{qtd_link_of}
use Rattle.qh_qtd.specs.declared.qtd.Qtd.{Qtd}
use Rattle.hc_copy.specs.Overlay.{settled_queue, moved}
use Rattle.hc_interrupt.specs.Copies.{with_split}
use Rattle.async_walk.specs.declared.state.WalkStep.TheVariants as steps
use Rattle.law_structures.specs.lent_structures.Structures.{Element}
use Rattle.law_structures.specs.lent_structures.StructureSamples.{element}
use Rattle.law_structures.proofs.lemmas.lent_structures.Altering.{found_queue}
use Rattle.law_ring.specs.Order.{IsFresh}
use Rattle.law_ring.specs.Front.{IsFront, LinksRise, HasFront, FrontGoesOn}
use Rattle.law_ring.specs.Halted.{HaltStops}
use Rattle.law_frames.specs.Met.{Kind, AQueue, IsMetQueue, IsMetAs}
use Rattle.law_frames.specs.FrameHand.{Nothing, OfQueue, OfSettled}
use Rattle.law_frames.specs.FrameEffects.{FrameEffect, writes, of_queue, was_worked, was_missed}
use Rattle.law_frames.specs.Visits.{IsWrittenBack, back_of}
use Rattle.law_frames.specs.QueueVisitSamples.{met}
use Rattle.law_frames.specs.SplitSamples.{split_queue, memory, parts, copy, started, waiting, missed, begun, is_silent}
use Rattle.law_frames.proofs.SplitSampled.{the_one, after_it, misses_it}
use Rattle.law_frames.specs.framed_fronts.FrameFronts.{AreMet}
use Rattle.law_frames.specs.framed_fronts.Samples.{lapsed}
use Rattle.law_frames.proofs.lemmas.framed_fronts.Running.{links_kept, front_kept, halts_kept}

-- ---- its qTD alone is out

active_one : (a : ℕ) (t : Qtd) → parts 0 a ≡ Some (Element t) → t.token.active ≡ true
active_one a t here = ap (λ (u : Qtd). u.token.active) (the_one a t here).is

no_link : (b : ℕ) → qtd_links.End ≡ qtd_links.To b → ⊥
no_link b e = cc

rises : LinksRise (λ a. a / 64) (parts 0)
rises = record {
  next = λ a t b here leads. absurd (no_link b (sym (ap (λ (u : Qtd). qtd_link_of u.next) (the_one a t here).is) ∙ leads));
  alternate = λ a t b here leads. absurd (no_link b (sym (ap (λ (u : Qtd). qtd_link_of u.alternate) (the_one a t here).is) ∙ leads));
}

at_work : IsFront (λ a. a / 64) 1 split_queue
at_work = record { work = λ on. refl; rest = λ b off idle to. absurd (true≢false idle) }

has_front : HasFront (λ a. a / 64) 1 (64 ∷ []) 0 (parts 0)
has_front = record {
  queue = λ q here. subst (IsFront (λ a. a / 64) 1) (found_queue (parts 0 0) split_queue q refl here) at_work;
  behind = λ a t among here off. absurd (true≢false (sym (active_one a t here) ∙ off));
  fresh = λ a t among here on. subst (IsFresh (parts 0)) (sym (the_one a t here).is) refl;
  passes = λ a b e t u among also here there over. absurd (true≢false (sym (active_one a t here) ∙ over.done));
}

halt_stops : HaltStops (λ a. a / 64) (64 ∷ []) 0 (parts 0)
halt_stops = record {
  head = λ a t q among here halted there. absurd (true≢false (sym (active_one a t here) ∙ halted.done));
  later = λ a e t u among here halted also less there. absurd (true≢false (sym (active_one a t here) ∙ halted.done));
}

-- ---- its start-split is written back

module _ (v : IsWrittenBack met memory parts copy started) where
  pub starts_so : FrameEffect is_silent parts begun.walk (OfSettled copy started 1) 1 1 v.now Nothing steps.WriteBack
  unfolding settled_queue with_split
  starts_so = writes (of_queue (v.writes begun.walk (OfSettled copy started 1) 1 (was_worked refl))) refl

  rises_on : LinksRise (λ a. a / 64) (v.now 0)
  rises_on = links_kept is_silent met parts begun.walk (OfSettled copy started 1) 1 1 v.now Nothing steps.WriteBack (λ a. a / 64) 0 split_queue after_it.members after_it.walk.in_hand starts_so refl rises

  pub front_stays : FrontGoesOn (λ a. a / 64) 1 (64 ∷ []) 0 parts v.now
  front_stays = front_kept is_silent met parts begun.walk (OfSettled copy started 1) 1 1 v.now Nothing steps.WriteBack (λ a. a / 64) 1 (64 ∷ []) 0 split_queue after_it.members after_it.walk.in_hand starts_so refl rises has_front

  halts_on : HaltStops (λ a. a / 64) (64 ∷ []) 0 (v.now 0)
  halts_on = halts_kept is_silent met parts begun.walk (OfSettled copy started 1) 1 1 v.now Nothing steps.WriteBack (λ a. a / 64) 1 (64 ∷ []) 0 split_queue after_it.members after_it.walk.in_hand starts_so refl has_front halt_stops

  members_at : (b : Bool) (n : ℕ) (k : Kind) → (n == 0) ≡ b → (if b then Some AQueue else None) ≡ Some k → IsMetAs met n (v.now n) k
  members_at true n k is on =
      subst (λ (kind : Kind). IsMetAs met n (v.now n) kind) (same_Some AQueue k on) (subst (λ (i : ℕ). IsMetQueue met i (v.now i)) (sym (eqb-true n 0 is)) v.visit.met_is)
  members_at false n k is on = cc

  all_met : AreMet met v.now
  all_met n k on = members_at (n == 0) n k refl on

  -- ---- a complete-split was missed

  module _ (w : IsWrittenBack met (back_of copy started memory).memory v.now waiting missed) where
    pub misses_so : FrameEffect is_silent v.now lapsed (OfQueue waiting 0) 1 1 w.now Nothing steps.WriteBack
    unfolding settled_queue moved
    misses_so = writes (of_queue (w.writes lapsed (OfQueue waiting 0) 0 (was_missed refl misses_it refl))) refl

    pub halts_so : HaltStops (λ a. a / 64) (64 ∷ []) 0 (w.now 0)
    halts_so =
        halts_kept is_silent met v.now lapsed (OfQueue waiting 0) 1 1 w.now Nothing steps.WriteBack (λ a. a / 64) front_stays.front_now (64 ∷ []) 0 waiting.queue all_met v.visit.copied misses_so v.visit.copied.here
        front_stays.has halts_on
