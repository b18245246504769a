-- The first of several requests has ended: the others go on.
use Rattle.std.proofs.Common.{◌≡◌, ℕ, zero, suc, ◌<◌, Bool, false, Option, ap, refl, sym, subst, ◌∙◌, arith}
use Rattle.std.proofs.lemmas.Bool.{false≢true}
use Rattle.law_common.proofs.Booleans.{off_by}
use Rattle.usb_base.specs.declared.packets.Reply.{Reply}
use Rattle.toggle_error.specs.declared.host.HostSide.{HostSide}
use Rattle.hc_copy.specs.Planning.{host_in}
use Rattle.law_structures.specs.lent_structures.Structures.{StructureSets}
use Rattle.law_structures.specs.lent_structures.Sound.{IsMember}
use Rattle.law_request.specs.Host.{Done}
use Rattle.law_request.specs.Line.{Line}
use Rattle.law_request.proofs.Steps.{window_opens}
use Rattle.claims_report.specs.ControlSides.{Device}
use Rattle.law_ring.specs.Hand.{Hand}
use Rattle.law_ring.specs.Ring.{IsInHand}
use Rattle.law_devices.specs.ring_requests.Shown.{hand_side, IsPending, Waits, Ends, Shows}
use Rattle.law_devices.specs.ring_requests.Shown.Shows.{waits}
use Rattle.law_devices.specs.ring_requests.Windows.{Queue, sent_at, Lines, opened, is_done, IsWindow, IsBehind, HasEnded, IsActedOnce, IsQueue}
use Rattle.law_devices.proofs.lemmas.ring_requests.Taking.{ends_only, next_waits}
use Rattle.law_devices.proofs.lemmas.ring_requests.Telling.{either_side, working, none_pending, stage_done, queue_ended}
use Rattle.law_devices.specs.request_stores.Published.{without_first}
use Rattle.law_reports.specs.requests.Courses.{AreInLine}
use Rattle.law_reports.specs.requests.QueueChanges.{lines_from, IsFirstDone, FirstEnds}

module _ (member : ℕ → Bool) (parts : StructureSets) (hand : Hand) (reply : Reply) (n b : ℕ) (v : Queue) (l : Lines) (o : Option Device) (m : IsMember member n (parts n)) (in_hand : IsInHand member parts reply hand) (line : AreInLine v b) (w : IsQueue v l hand parts n o) (some : 1 < v.count) (ended : HasEnded (sent_at v 0) parts n) where
  once : IsActedOnce (sent_at v 0) (l.line 0) hand parts n
  once = queue_ended member parts hand reply n 0 v l o m in_hand (omega (arith, some)) w ended

  -- ---- it is under way yet

  module _ (is : l.under ≡ 0) where
    abbrev first : Line
    first = l.line 0

    window : IsWindow (sent_at v 0) (l.line 0) hand parts n o
    window = subst (λ (j : ℕ). IsWindow (sent_at v j) (l.line j) hand parts n o) is w.window

    done : (l.line 0).host.stage ≡ Done
    done = stage_done member parts hand reply n m in_hand window.queue window.head (sent_at v 0) ended first.host window.shown

    end : Ends (v.places 0) (parts n) (hand_side hand n window.queue) window.queue (l.line 0).host
    end = ends_only v.endpoint (v.requests 0) (v.places 0) (parts n) (hand_side hand n window.queue) window.queue first.host (ap is_done done) window.shown

    idle : window.queue.token.active ≡ false
    idle = off_by window.queue.token.active (λ on.
        none_pending member parts hand reply n m in_hand window.queue window.head (sent_at v 0) ended first.host
        (subst (IsPending (parts n)) (end.worked on) (working member parts hand reply n m in_hand window.queue window.head (sent_at v 0) ended first.host on)))

    unsettled : hand_side hand n window.queue ≡ host_in window.queue
    unsettled = either_side (λ (s : HostSide). s ≡ host_in window.queue) member hand parts reply n window.queue in_hand window.head refl (λ s on. absurd (false≢true (sym idle ∙ on)))

    end_told : Ends (v.places 0) (parts n) (host_in window.queue) window.queue (l.line 0).host
    end_told = subst (λ (s : HostSide). Ends (v.places 0) (parts n) s window.queue first.host) unsettled end

    next : IsBehind (sent_at v 1) hand parts n
    next = w.behind 1 (omega (arith, is)) some

    next_shown : Waits v.endpoint (v.requests 1) (v.places 1) (parts n) (host_in window.queue) window.queue (opened v 1 (l.line 0)).host
    next_shown = next_waits v.endpoint (v.places 0) (parts n) window.queue first.host (v.requests 1) (v.places 1) idle (line.chained 0 some) end_told next.fresh

    next_window : IsWindow (sent_at v 1) (opened v 1 (l.line 0)) hand parts n o
    next_window = record {
      queue = window.queue;
      head = window.head;
      control = window.control;
      shown = subst (λ (s : HostSide). Shows v.endpoint (v.requests 1) (v.places 1) (parts n) s window.queue (opened v 1 first).host) (sym unsettled) (waits next_shown);
      among = λ on. absurd (false≢true (sym idle ∙ on));
      moved = next.none_told;
      device = window.device;
      stands = window_opens v.endpoint (v.requests 1) first.host.side.ping first.device window.stands.device_max;
    }

  -- ---- what is left

  left_by : (u : ℕ) → l.under ≡ u → IsQueue (without_first v) (lines_from v u l.line) hand parts n o
  left_by zero is = record {
    within = omega (arith, some);
    window = next_window is;
    finished = λ i less. absurd (omega (arith, less));
    behind = λ i more few. w.behind (suc i) (omega (arith, is)) (omega (arith, few));
    tail = λ i a last leads. w.tail (suc i) a (omega (arith, last, some)) leads;
  }
  left_by (suc u) is = record {
    within = let within = w.within in omega (arith, within, is);
    window = subst (λ (j : ℕ). IsWindow (sent_at v j) (l.line j) hand parts n o) is w.window;
    finished = λ i less. w.finished (suc i) (omega (arith, less, is));
    behind = λ i more few. w.behind (suc i) (omega (arith, more, is)) (omega (arith, few));
    tail = λ i a last leads. w.tail (suc i) a (omega (arith, last, some)) leads;
  }

  first_done : IsFirstDone v l hand parts n o
  first_done = record { once = once; queue = left_by l.under refl }

pub first_ends : FirstEnds
first_ends member parts hand reply n b v l o m in_hand line w some ended = first_done member parts hand reply n b v l o m in_hand line w some ended
