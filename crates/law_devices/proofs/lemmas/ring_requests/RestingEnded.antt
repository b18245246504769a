-- The last request of a queue has ended, or its queue head is halted: the queue is at rest.
use Rattle.std.proofs.Common.{◌≡◌, ◌≢◌, ℕ, suc, Bool, true, false, Option, Some, ap, refl, sym, subst, ◌∙◌, ⊎_elim, arith}
use Rattle.std.proofs.lemmas.Bool.{cases_eq, false≢true}
use Rattle.law_common.proofs.Booleans.{off_by}
use Rattle.usb_base.specs.declared.packets.Reply.{Reply}
use Rattle.link_words.specs.declared.kinds.QtdLink.TheVariants.{To}
use Rattle.link_words.specs.Links.{qtd_link_of}
use Rattle.qh_qtd.specs.declared.queue_head.Qh.{Qh}
use Rattle.toggle_error.specs.declared.host.HostSide.{HostSide}
use Rattle.hc_copy.specs.Planning.{host_in}
use Rattle.law_structures.specs.lent_structures.Structures.{StructureSets}
use Rattle.law_structures.specs.lent_structures.Sound.{IsWorking, IsSoundQueue, IsMember}
use Rattle.law_structures.proofs.lemmas.lent_structures.Altering.{found_queue}
use Rattle.law_request.specs.Host.{Done}
use Rattle.claims_report.specs.ControlSides.{Device}
use Rattle.law_ring.specs.Hand.{Hand}
use Rattle.law_ring.specs.Ring.{IsInHand}
use Rattle.law_devices.specs.ring_requests.Laid.{IsLinkBehind}
use Rattle.law_devices.specs.ring_requests.Shown.{hand_side, pointer_at, IsPending, Ends}
use Rattle.law_devices.specs.ring_requests.Windows.{Queue, sent_at, Lines, HasEnded, IsQueue, stage_of, is_done}
use Rattle.law_devices.specs.ring_requests.Resting.{IsAtRest, HasRest, IsStopped, DoneRests, HaltRests}
use Rattle.law_devices.proofs.lemmas.ring_requests.Taking.{ends_only}
use Rattle.law_devices.proofs.lemmas.ring_requests.Telling.{either_side, working, none_pending, stage_done, behind_pending, queue_ended}

module _ (member : ℕ → Bool) (parts : StructureSets) (hand : Hand) (reply : Reply) (n i b : ℕ) (v : Queue) (l : Lines) (o : Option Device) (m : IsMember member n (parts n)) (in_hand : IsInHand member parts reply hand) (w : IsQueue v l hand parts n o) (last : suc i ≡ v.count) (behind : (v.places i).behind ≡ Some b) where
  abbrev q : Qh
  q = w.window.queue

  sound : IsSoundQueue (parts n) q
  sound = subst (IsSoundQueue (parts n)) (found_queue (parts n n) m.queue q m.here w.window.head) m.sound

  unsettled : q.token.active ≡ false → hand_side hand n q ≡ host_in q
  unsettled idle = either_side (λ (s : HostSide). s ≡ host_in q) member hand parts reply n q in_hand w.window.head refl (λ s on. absurd (false≢true (sym idle ∙ on)))

  rests : q.token.active ≡ false → (q.token.halted ≡ false → qtd_link_of (pointer_at q.token.total q) ≡ To b) → IsAtRest v.endpoint (l.line l.under).device b hand parts n o
  rests idle leads = record {
    queue = q;
    head = w.window.head;
    control = w.window.control;
    idle = idle;
    unsettled = unsettled idle;
    leads = leads;
    tail = w.tail i b last behind;
    max = w.window.stands.device_max;
    device = w.window.device;
  }

  -- ---- it is halted

  halt_rests : IsStopped parts n → IsAtRest v.endpoint (l.line l.under).device b hand parts n o
  halt_rests k =
      let halted : q.token.halted ≡ true = ap (λ (x : Qh). x.token.halted) (found_queue (parts n n) q k.queue w.window.head k.head) ∙ k.halted in
      rests (off_by q.token.active (λ on. let going : IsWorking (parts n) q = sound.work on in false≢true (sym going.goes_on ∙ halted)))
      (λ goes_on. absurd (false≢true (sym goes_on ∙ halted)))

  -- ---- the last one is done

  module _ (ended : HasEnded (sent_at v i) parts n) where
    is_under : l.under ≡ i
    is_under =
        ⊎_elim {C = l.under ≡ i} (λ (same : l.under ≡ i). same)
        (λ (differs : l.under ≢ i). let within = w.within in absurd (behind_pending (sent_at v i) hand parts n (w.behind i (omega (arith, differs, within, last)) (omega (arith, last))) ended)) (cases_eq l.under i)

    here : HasEnded (sent_at v l.under) parts n
    here = subst (λ (j : ℕ). HasEnded (sent_at v j) parts n) (sym is_under) ended

    done : stage_of l ≡ Done
    done = stage_done member parts hand reply n m in_hand q w.window.head (sent_at v l.under) here (l.line l.under).host w.window.shown

    end : Ends (v.places l.under) (parts n) (hand_side hand n q) q (l.line l.under).host
    end = ends_only v.endpoint (v.requests l.under) (v.places l.under) (parts n) (hand_side hand n q) q (l.line l.under).host (ap is_done done) w.window.shown

    idle : q.token.active ≡ false
    idle = off_by q.token.active (λ on.
        none_pending member parts hand reply n m in_hand q w.window.head (sent_at v l.under) here (l.line l.under).host
        (subst (IsPending (parts n)) (end.worked on) (working member parts hand reply n m in_hand q w.window.head (sent_at v l.under) here (l.line l.under).host on)))

    leads : qtd_link_of (pointer_at q.token.total q) ≡ To b
    leads =
        subst (λ (s : HostSide). qtd_link_of (pointer_at s.left q) ≡ To b) (unsettled idle)
        (subst (λ (x : Option ℕ). IsLinkBehind (parts n) x (pointer_at (hand_side hand n q).left q)) (ap (λ (j : ℕ). (v.places j).behind) is_under ∙ behind) end.behind)

    done_rests : HasRest v l b i hand parts n o
    done_rests = record {
      last = is_under;
      once = queue_ended member parts hand reply n i v l o m in_hand (omega (arith, last)) w ended;
      rest = subst (λ (j : ℕ). IsAtRest v.endpoint (l.line j).device b hand parts n o) is_under (rests idle (λ goes_on. leads));
    }

pub queue_done : DoneRests
queue_done member parts hand reply n i b v l o m in_hand w last behind ended = done_rests member parts hand reply n i b v l o m in_hand w last behind ended

pub queue_halted : HaltRests
queue_halted member parts hand reply n i b v l o m in_hand w last behind k = halt_rests member parts hand reply n i b v l o m in_hand w last behind k
