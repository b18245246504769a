-- No event of the driver and no command changes what a copy in hand goes on to (EHCI 1.0, 4.10.2): the token of a qTD that is active is the
-- controller's.
use Rattle.std.proofs.Common.{◌≡◌, ◌≢◌, ℕ, ◌+◌, ◌%◌, false, Some, None, ap, refl, sym, ◌∙◌, ⊎_elim, arith}
use Rattle.std.proofs.lemmas.Bool.{cases_eq}
use Rattle.law_microframes.proofs.Common.{frame_row}
use Rattle.usb_base.specs.declared.endpoints.EpName.{EpName}
use Rattle.word_mem.specs.Memory.{word_at}
use Rattle.link_words.specs.declared.kinds.QtdLink.TheVariants as qtd_links
use Rattle.link_words.specs.Links.{qtd_link_of}
use Rattle.qh_qtd.specs.declared.qtd.Qtd.{Qtd}
use Rattle.qh_qtd.specs.declared.queue_head.Qh.{Qh}
use Rattle.qh_qtd.specs.declared.token.Token.{Token}
use Rattle.qh_qtd.specs.Token.{token_at}
use Rattle.hc_copy.specs.Visits.{next_pointer}
use Rattle.hc_interrupt.specs.declared.turns.Turn.TheVariants as turns
use Rattle.hc_interrupt.specs.Turns.{microframe_of, turn_of}
use Rattle.hc_masks.specs.Masks.{has}
use Rattle.periodic_walk.specs.declared.state.Hand.TheVariants as hands
use Rattle.periodic_walk.specs.declared.state.HeldQueue.{HeldQueue}
use Rattle.hc_core.specs.declared.controller.ControllerRow.TheVariants as rows
use Rattle.hc_core.specs.declared.controller.MicroframePart.TheVariants.{Periodic}
use Rattle.hc_core.specs.Controller.{Control, frame_place}
use Rattle.bus_wire.specs.Bus.{Bus, Fixed, is_held as may_not_be_used}
use Rattle.bus_world.specs.World.{World, controller_parts, controller_row}
use Rattle.claims_world.specs.Owners.{IsControllers, of_token, LeavesControllers}
use Rattle.claims_world.specs.Reach.{Reaches, QueueAt, QtdAt, leads_to_qtd, held_link}
use Rattle.claims_world.specs.Reach.Reaches.{held, of_queue}
use Rattle.claims_world.specs.Reach.IsHeld.{of_frame}
use Rattle.claims_world.specs.Reach.IsQueueHeadAt.{in_frame}
use Rattle.claims_world.specs.Reach.IsPartOfQueue.{taken}
use Rattle.law_world.specs.memory.Mixed.{IsMixedWorld}
use Rattle.claims_world.specs.SoFar.{SoFar}
use Rattle.claims_world.specs.Due.{IsActiveToken}
use Rattle.law_microframes.proofs.lemmas.due.Fields.{its_token}
use Rattle.law_microframes.proofs.lemmas.due.Held.{GoesTo, to_itself, to_qtd, IsHeldAt, Stage, is_held, is_told, is_done, ready_as}
use Rattle.law_microframes.proofs.lemmas.due.Turning.{no_fault}
use Rattle.law_microframes.proofs.lemmas.due.Visiting.{turn_is, IsThere, is_there}

-- the walks and the bus are as they were, and so is each word of the controller's
pub record IsAside (w later : World) : Type 0 where
  pub control : later.control ≡ w.control
  pub bus : later.bus ≡ w.bus
  pub leaves : LeavesControllers (controller_parts w) later.memory

-- what the copy of a queue head in hand goes on to, where that is what it takes in this microframe
module _ (fixed : Fixed) (w later : World) (k : IsMixedWorld w) (aside : IsAside w later) (h : HeldQueue)
    (periodic : w.control.part ≡ Periodic) (hand : w.control.frame.hand ≡ Some (hands.Queue h)) (fresh : h.copy.settled ≡ None)
    (takes : (a : ℕ) → h.copy.queue_head.token.active ≡ false → h.copy.queue_head.token.halted ≡ false
    → qtd_link_of (next_pointer h.copy.queue_head) ≡ qtd_links.To a
    → turn_of w.control.frame.index h.copy.queue_head ≡ turns.Take (qtd_links.To a)) where
  abbrev q : Qh
  q = h.copy.queue_head

  module _ (a : ℕ) (t : Qtd) (idle : q.token.active ≡ false) (unhalted : q.token.halted ≡ false)
      (leads : qtd_link_of (next_pointer q) ≡ qtd_links.To a)
      (aligned : a % 4 ≡ 0) (word : token_at (word_at w.memory (a + 8)) ≡ t.token) (work : IsActiveToken t.token) where
    row : controller_row w ≡ rows.Frame
    row = frame_row w (hands.Queue h) k periodic hand

    found : IsThere (frame_place (controller_parts w)) h hand (no_fault fixed w row k) fresh a (takes a idle unhalted leads)
    found = is_there (frame_place (controller_parts w)) h hand (no_fault fixed w row k) fresh a (takes a idle unhalted leads)

    -- the controller comes to it
    comes : Reaches (controller_parts w) (QtdAt a)
    comes =
        of_queue h.copy.at q (QtdAt a)
        (held (QueueAt h.copy.at) (held_link (hands.Queue h)) (of_frame (hands.Queue h) periodic hand refl refl))
        (in_frame h periodic hand fresh refl refl)
        (taken unhalted idle (ap leads_to_qtd leads))

    its : IsControllers (controller_parts w) (a + 8)
    its =
        of_token a found.qtd comes found.here
        (ap (λ (x : Token). x.active) (sym (its_token w.memory a found.qtd found.here) ∙ word) ∙ work.active) refl

    same_word : word_at later.memory (a + 8) ≡ word_at w.memory (a + 8)
    same_word =
        ⊎_elim (λ (same : word_at later.memory (a + 8) ≡ word_at w.memory (a + 8)). same)
        (λ (differs : word_at later.memory (a + 8) ≢ word_at w.memory (a + 8)). absurd
        (aside.leaves (a + 8) (omega (arith, aligned)) differs its))
        (cases_eq (word_at later.memory (a + 8)) (word_at w.memory (a + 8)))

  pub goes_still : (v : Qh) → GoesTo w.memory h.copy.queue_head v → GoesTo later.memory h.copy.queue_head v
  goes_still _ (to_itself work) = to_itself work
  goes_still _ (to_qtd a t idle unhalted leads aligned word work) =
      to_qtd a t idle unhalted leads aligned (ap token_at (same_word a t idle unhalted leads aligned word work) ∙ word) work

module _ (fixed : Fixed) (w later : World) (k : IsMixedWorld w) (aside : IsAside w later) (n u : ℕ) (name : EpName) (bytes : ℕ) where
  module _ (s : IsHeldAt fixed w n u name bytes) where
    abbrev its_queue : Qh
    its_queue = s.held.copy.queue_head

    turn : (a : ℕ) → its_queue.token.active ≡ false → its_queue.token.halted ≡ false
        → qtd_link_of (next_pointer its_queue) ≡ qtd_links.To a
        → turn_of w.control.frame.index its_queue ≡ turns.Take (qtd_links.To a)
    turn a idle unhalted leads =
        turn_is w.control.frame.index its_queue false s.queue.high (ap (has its_queue.smask) s.index ∙ s.queue.bit) unhalted idle
        ∙ ap turns.Take leads

    held_still : IsHeldAt fixed later n u name bytes
    held_still = record {
      periodic = ap (λ (c : Control). c.part) aside.control ∙ s.periodic;
      index = ap (λ (c : Control). microframe_of c.frame.index) aside.control ∙ s.index;
      held = s.held;
      hand = ap (λ (c : Control). c.frame.hand) aside.control ∙ s.hand;
      at = s.at;
      fresh = s.fresh;
      queue = s.queue;
      free = ap (λ (b : Bus). may_not_be_used fixed.holds b.microframe) aside.bus ∙ s.free;
      works = s.works;
      goes = goes_still fixed w later k aside s.held s.periodic s.hand s.fresh turn s.works s.goes;
      can = ready_as fixed w.bus later.bus name s.works s.works bytes (sym aside.bus) refl refl s.can;
      pid = s.pid;
    }

  pub aside_stays : (t : SoFar) → Stage fixed w t n u name bytes → Stage fixed later t n u name bytes
  aside_stays t (is_held s) = is_held (held_still s)
  aside_stays t (is_told s) = is_told (record {
    periodic = ap (λ (c : Control). c.part) aside.control ∙ s.periodic;
    index = ap (λ (c : Control). microframe_of c.frame.index) aside.control ∙ s.index;
    held = s.held;
    hand = ap (λ (c : Control). c.frame.hand) aside.control ∙ s.hand;
    at = s.at;
    settled = s.settled;
  })
  aside_stays t (is_done d) = is_done d
