-- A halted queue head is stored over: it stays halted, or it goes on where its first request stands.
use Rattle.std.proofs.Common.{◌≡◌, ◌≢◌, ℕ, zero, suc, ◌<◌, Bool, true, false, Option, ap, refl, sym, subst, ◌∙◌, ⊎_elim, arith}
use Rattle.std.proofs.lemmas.Bool.{cases_eq, false≢true}
use Rattle.std.proofs.lemmas.Option.{same_Some}
use Rattle.usb_base.specs.declared.packets.Reply.{Reply}
use Rattle.link_words.specs.declared.kinds.QtdLink.TheVariants.{To}
use Rattle.link_words.specs.Links.{qtd_link_of}
use Rattle.qh_qtd.specs.declared.queue_head.Qh.{Qh}
use Rattle.hc_copy.specs.Visits.{next_pointer}
use Rattle.hc_copy.specs.Planning.{host_in}
use Rattle.law_structures.specs.lent_structures.Structures.{QueueHead, Structures, StructureSets, put}
use Rattle.law_structures.proofs.lemmas.lent_structures.Names.{put_same, put_beside}
use Rattle.law_structures.proofs.lemmas.lent_structures.Altering.{found_queue}
use Rattle.dev_control.specs.Stages.{Stages}
use Rattle.claims_report.specs.ControlSides.{Device}
use Rattle.law_devices.specs.request_calls.Stages.{IsEndpoint}
use Rattle.law_ring.specs.Hand.{Hand}
use Rattle.law_ring.specs.Ring.{IsInHand}
use Rattle.law_ring.specs.Stores.{hand_stale}
use Rattle.law_ring.specs.Told.{HasEndpoint, endpoint_of}
use Rattle.law_ring.proofs.SparedSparing.{stale_hand_is_same}
use Rattle.law_devices.specs.ring_requests.Laid.{IsIdle}
use Rattle.law_devices.specs.ring_requests.Shown.{hand_side}
use Rattle.law_devices.specs.ring_requests.Windows.{Queue, sent_at, lines_at, IsBehind, AreLaid}
use Rattle.law_devices.proofs.lemmas.ring_requests.RestingSpared.{endpoint_same, stale_side, idle_side}
use Rattle.law_devices.proofs.lemmas.ring_requests.Telling.{requests_open_their_windows}
use Rattle.law_reports.specs.requests.Courses.{Course, Rests, has_queue, queue_in, IsAsking, IsResting, IsCourse, CoursesStand, with_course}
use Rattle.law_reports.specs.requests.Spared.{KeepsQtds, KeepsEndpoints}
use Rattle.law_reports.specs.requests.QueueChanges.{first_from, mended_from, mended_course, IsMendedTo, MendStands, MendGoesOn}
use Rattle.law_reports.proofs.lemmas.requests.QueueChanging.{one_changes, all_kept}
use Rattle.law_reports.proofs.lemmas.requests.Keeping.{behind_idle}
use Rattle.law_reports.proofs.lemmas.requests.Writing.{same_kept, linked_element, linked_before, linked_buffer}

module _ (v : Queue) (b n : ℕ) (c : Stages) (member : ℕ → Bool) (hand : Hand) (reply : Reply) (parts : StructureSets) (o : Option Device) (q new : Qh) (k : IsResting v b c hand parts n o) (in_hand : IsInHand member parts reply hand) (m : IsMendedTo parts n q new) where
  abbrev now : StructureSets
  now = put parts n n (QueueHead new)

  abbrev later : Hand
  later = hand_stale n hand

  same : k.rest.queue ≡ q
  same = found_queue (parts n n) k.rest.queue q k.rest.head m.here

  idle : q.token.active ≡ false
  idle = ap (λ (z : Qh). z.token.active) (sym same) ∙ k.rest.idle

  control : IsEndpoint v.endpoint new
  control = endpoint_same v.endpoint k.rest.queue new (m.endpoint ∙ ap endpoint_of (sym same)) k.rest.control

  unsettled : hand_side (hand_stale n hand) n new ≡ host_in new
  unsettled = stale_side n n hand new ∙ idle_side member parts reply n q new hand in_hand m.here idle

  qtds : KeepsQtds v (parts n) (put parts n n (QueueHead new) n)
  qtds = record { place = λ i s t few. linked_element parts n q new m.here n _ t; before = λ i s t few. linked_before parts n q new m.here n _ t; buffer = λ i s t few there. linked_buffer parts n q new m.here n t }

  behind : (i : ℕ) → i < v.count → IsBehind (sent_at v i) (hand_stale n hand) (put parts n n (QueueHead new)) n
  behind i few = behind_idle v b parts now n k.line qtds hand later q new m.here idle (put_same parts n n (QueueHead new)) m.idle i few (k.behind i few)

  tail : IsIdle (put parts n n (QueueHead new) n) b
  tail = let t = k.rest.tail in record { qtd = t.qtd; here = linked_element parts n q new m.here n b t.qtd t.here; idle = t.idle }

  rests : (new.token.halted ≡ false → qtd_link_of (next_pointer new) ≡ To b) → (0 < v.count → new.token.halted ≡ true) → IsResting v b c (hand_stale n hand) (put parts n n (QueueHead new)) n o
  rests leads wait = record {
    line = k.line;
    rest = record {
      queue = new;
      head = put_same parts n n (QueueHead new);
      control = control;
      idle = m.idle;
      unsettled = unsettled;
      leads = leads;
      tail = tail;
      max = k.rest.max;
      device = k.rest.device;
    };
    wait = wait;
    behind = behind;
  }

  -- the first of those that wait is begun
  laid : 0 < v.count → qtd_link_of (next_pointer new) ≡ To (v.places 0).setup → AreLaid v (hand_stale n hand) (put parts n n (QueueHead new)) n new
  laid some leads = record {
    some = some;
    first = record {
      head = put_same parts n n (QueueHead new);
      control = control;
      idle = m.idle;
      nothing_made = unsettled;
      leads = leads;
      fresh = (behind 0 some).fresh;
      none_told = (behind 0 some).none_told;
    };
    behind = λ i more few. behind i few;
    tail = λ i a last is. subst (IsIdle (now n)) (same_Some b a (sym (k.line.last i last) ∙ is)) tail;
  }

  asks : 0 < v.count → qtd_link_of (next_pointer new) ≡ To (v.places 0).setup → IsAsking v b (lines_at v new.token.ping c) (hand_stale n hand) (put parts n n (QueueHead new)) n o
  asks some leads = record {
    line = k.line;
    queue =
        requests_open_their_windows v later now n new c o (laid some leads) k.rest.max k.rest.device;
  }

module _ {W : Type 0} (device : W → ℕ → ℕ → Option Device) (member : ℕ → Bool) (courses : ℕ → Course) (parts : StructureSets) (hand : Hand) (reply : Reply) (wire : W) (n b : ℕ) (v : Queue) (c : Stages) (q new : Qh) (is : courses n ≡ Rests v b c) (in_hand : IsInHand member parts reply hand) (m : IsMendedTo parts n q new) (stand : CoursesStand device member courses parts hand wire) where
  abbrev mended : StructureSets
  mended = put parts n n (QueueHead new)

  here : IsResting v b c hand parts n (device wire v.endpoint.addr v.endpoint.num)
  here = subst (IsCourse device parts hand wire n) is (stand.each n)

  others : (k : ℕ) → k ≢ n → IsCourse device parts hand wire k (courses k) → IsCourse device (put parts n n (QueueHead new)) (hand_stale n hand) wire k (courses k)
  others k differs = same_kept device parts mended hand (hand_stale n hand) wire k (stale_side n k hand) (stale_hand_is_same n hand) (put_beside parts n n (QueueHead new) k differs) (courses k)

  ends : KeepsEndpoints member parts (put parts n n (QueueHead new))
  ends k own met has =
      ⊎_elim {C = HasEndpoint mended k own}
      (λ (at : k ≡ n).
      record {
        queue = new;
        head = ap (λ (j : ℕ). mended j j) at ∙ put_same parts n n (QueueHead new);
        is = has.is ∙ ap endpoint_of (found_queue (parts n n) has.queue q (ap (λ (j : ℕ). parts j j) (sym at) ∙ has.head) m.here) ∙ sym m.endpoint;
      })
      (λ (differs : k ≢ n). record { queue = has.queue; head = ap (λ (part : Structures). part k) (put_beside parts n n (QueueHead new) k differs) ∙ has.head; is = has.is }) (cases_eq k n)

  still : new.token.halted ≡ true → CoursesStand device member courses (put parts n n (QueueHead new)) (hand_stale n hand) wire
  still halted =
      all_kept device member courses parts mended hand (hand_stale n hand) wire
      (λ k z.
      ⊎_elim {C = IsCourse device mended (hand_stale n hand) wire k (courses k)}
      (λ (at : k ≡ n).
      subst (λ (j : ℕ). IsCourse device mended (hand_stale n hand) wire j (courses j)) (sym at)
      (subst (IsCourse device mended (hand_stale n hand) wire n) (sym is)
      (rests v b n c member hand reply parts (device wire v.endpoint.addr v.endpoint.num) q new here in_hand m (λ goes_on. absurd (false≢true (sym goes_on ∙ halted))) (λ some. halted))))
      (λ (differs : k ≢ n). others k differs z) (cases_eq k n)) ends stand

  mine : (count : ℕ) → v.count ≡ count → new.token.halted ≡ false → qtd_link_of (next_pointer new) ≡ To (first_from count v b) → IsCourse device (put parts n n (QueueHead new)) (hand_stale n hand) wire n (mended_from count v b new.token.ping c)
  mine zero none goes_on leads =
      rests v b n c member hand reply parts (device wire v.endpoint.addr v.endpoint.num) q new here in_hand m (λ on. leads) (λ some. absurd (omega (arith, some, none)))
  mine (suc j) some goes_on leads = asks v b n c member hand reply parts (device wire v.endpoint.addr v.endpoint.num) q new here in_hand m (omega (arith, some)) leads

  has_from : (count : ℕ) → has_queue (mended_from count v b new.token.ping c) ≡ true
  has_from zero = refl
  has_from (suc j) = refl

  same_from : (count : ℕ) → (queue_in (mended_from count v b new.token.ping c)).endpoint ≡ v.endpoint
  same_from zero = refl
  same_from (suc j) = refl

  goes_on : new.token.halted ≡ false → qtd_link_of (next_pointer new) ≡ To (first_from v.count v b)
      → CoursesStand device member (with_course courses n (mended_course v b new.token.ping c)) (put parts n n (QueueHead new)) (hand_stale n hand) wire
  goes_on on leads =
      one_changes courses n (mended_course v b new.token.ping c) device member parts mended hand (hand_stale n hand) wire stand ends others (mine v.count refl on leads) (ap has_queue is) (has_from v.count)
      (same_from v.count ∙ ap (λ (u : Course). (queue_in u).endpoint) (sym is))

pub mend_stands : {W : Type 0} (device : W → ℕ → ℕ → Option Device) → MendStands device
mend_stands device member courses parts hand reply wire n b v c q new is in_hand m halted stand = still device member courses parts hand reply wire n b v c q new is in_hand m stand halted

pub mend_goes_on : {W : Type 0} (device : W → ℕ → ℕ → Option Device) → MendGoesOn device
mend_goes_on device member courses parts hand reply wire n b v c q new is in_hand m on leads stand = goes_on device member courses parts hand reply wire n b v c q new is in_hand m stand on leads
