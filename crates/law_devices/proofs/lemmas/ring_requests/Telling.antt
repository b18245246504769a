-- A request that is laid out window_opens its window, and so does a queue of them; one whose status memory shows to be done was acted on exactly once.
use Rattle.std.proofs.Common.{◌≡◌, ◌≢◌, ℕ, ◌<◌, ◌≤◌, ◌==◌, Bool, true, false, if◌then◌else◌, List, Option, Some, ap, refl, sym, subst, ◌∙◌, ⊎_elim, inl, inr, arith}
use Rattle.std.specs.Prelude.{◌⊎◌}
use Rattle.std.proofs.lemmas.Bool.{cases_eq, cases_lt, false≢true}
use Rattle.law_devices.proofs.Common.{status_comes}
use Rattle.law_common.proofs.Numbers.{other_number}
use Rattle.usb_base.specs.declared.packets.Reply.{Reply}
use Rattle.qh_qtd.specs.declared.qtd.Qtd.{Qtd}
use Rattle.qh_qtd.specs.declared.queue_head.Qh.{Qh}
use Rattle.toggle_error.specs.declared.host.HostSide.{HostSide}
use Rattle.hc_copy.specs.Planning.{host_in}
use Rattle.law_structures.specs.lent_structures.Structures.{QueueHead, Element, Structures, StructureSets}
use Rattle.law_structures.specs.lent_structures.Sound.{IsWorking, IsSoundQueue, IsMember}
use Rattle.law_structures.proofs.lemmas.lent_structures.Altering.{found_queue, found_element}
use Rattle.law_ring.specs.Hand.{Hand, Settled}
use Rattle.law_ring.specs.Ring.{IsInHand}
use Rattle.law_ring.specs.Told.{Told}
use Rattle.dev_control.specs.Stages.{Stages}
use Rattle.claims_report.specs.Requests.{Request}
use Rattle.law_request.specs.Host.{Host, Stage, Setup, Data, Status, Done, Halted, has_data, is_over, next_stage}
use Rattle.law_request.specs.Line.{Line, line_at}
use Rattle.law_request.specs.Windows.{IsRight}
use Rattle.law_request.proofs.Steps.{window_is_right, window_opens}
use Rattle.claims_report.specs.ControlSides.{Device}
use Rattle.law_devices.specs.request_calls.Bus.{device_of}
use Rattle.law_devices.specs.ring_requests.Laid.{place_at, comes}
use Rattle.law_devices.specs.ring_requests.Shown.{hand_side, IsPending, Works, Halts, Shows}
use Rattle.law_devices.specs.ring_requests.Shown.Shows.{works, waits, ends, halts}
use Rattle.law_devices.specs.ring_requests.Windows.{Sent, Queue, sent_at, Lines, lines_at, IsWindow, IsFinished, IsBehind, IsLaid, IsGoing, HasEnded, IsActedOnce, IsQueue, AreLaid}
use Rattle.law_devices.proofs.lemmas.ring_requests.Moving.{fresh_pending}

-- ---- a window window_opens

pub a_request_opens_its_window : (v : Sent) (hand : Hand) (parts : StructureSets) (n : ℕ) (q : Qh) (c : Stages) (o : Option Device) → IsLaid v hand parts n q → c.max ≡ v.endpoint.max → o ≡ Some (device_of v.endpoint c) → IsWindow v (line_at v.endpoint v.request q.token.ping c) hand parts n o
a_request_opens_its_window v hand parts n q c o k max device = record {
  queue = q;
  head = k.head;
  control = k.control;
  shown = subst (λ (s : HostSide). Shows v.endpoint v.request v.places (parts n) s q (line_at v.endpoint v.request q.token.ping c).host) (sym k.nothing_made)
      (waits (record { goes_on = refl; idle = k.idle; side_is = refl; leads = k.leads; fresh = k.fresh; beside = λ on. absurd (false≢true (sym k.idle ∙ on)) }));
  among = λ on. absurd (false≢true (sym k.idle ∙ on));
  moved = k.none_told;
  device = device;
  stands = window_opens v.endpoint v.request q.token.ping c max;
}

pub requests_open_their_windows : (v : Queue) (hand : Hand) (parts : StructureSets) (n : ℕ) (q : Qh) (c : Stages) (o : Option Device) → AreLaid v hand parts n q → c.max ≡ v.endpoint.max → o ≡ Some (device_of v.endpoint c) → IsQueue v (lines_at v q.token.ping c) hand parts n o
requests_open_their_windows v hand parts n q c o k max device = record {
  within = k.some;
  window = a_request_opens_its_window (sent_at v 0) hand parts n q c o k.first max device;
  finished = λ i less. absurd (omega (arith, less));
  behind = k.behind;
  tail = k.tail;
}

-- ---- requests that are done

pub finished_once : (v : Sent) (l : Line) (hand : Hand) (parts : StructureSets) (n : ℕ) → IsFinished v l hand parts n → IsActedOnce v l hand parts n
finished_once v l hand parts n k =
    let is : IsRight v.endpoint v.request l = window_is_right v.endpoint v.request l k.stands in
    record { acts = is.done_once k.done; told = λ some. subst (λ (xs : List ℕ). Told hand parts n v.places.data_at xs) (is.done_whole k.done) (k.moved some) }

-- ---- what memory tells

-- the hand has the transaction of a queue head that is active in memory, or none of it
pub either_side : (P : HostSide → Type 0) (member : ℕ → Bool) (hand : Hand) (parts : StructureSets) (reply : Reply) (n : ℕ) (q : Qh) → IsInHand member parts reply hand → parts n n ≡ Some (QueueHead q) → P (host_in q) → ((s : HostSide) → q.token.active ≡ true → P s) → P (hand_side hand n q)
either_side P member (Settled c z) parts reply n q in_hand here as_told settled =
    ⊎_elim {C = P (if c.at == n then z.host else host_in q)}
    (λ (same : c.at ≡ n).
    let is : c.queue ≡ q = found_queue (parts n n) c.queue q (ap (λ (i : ℕ). parts i i) (sym same) ∙ in_hand.0.here) here in
    settled (if c.at == n then z.host else host_in q) (ap (λ (x : Qh). x.token.active) (sym is) ∙ in_hand.1.works))
    (λ (differs : c.at ≢ n). subst (λ (b : Bool). P (if b then z.host else host_in q)) (sym (other_number c.at n differs)) as_told) (cases_eq c.at n)
either_side P member _ parts reply n q in_hand here as_told settled = as_told

not_pending : (part : Structures) (a : ℕ) (t : Qtd) → part a ≡ Some (Element t) → t.token.active ≡ false → IsPending part a → ⊥
not_pending part a t here off k = false≢true (sym off ∙ ap (λ (u : Qtd). u.token.active) (found_element (part a) t k.qtd here k.here) ∙ k.published)

status_last : (r : Request) (s : Stage) → is_over s ≡ false → comes r s Status ≡ true
status_last r Done going = absurd (false≢true (sym going))
status_last r (Halted cause) going = absurd (false≢true (sym going))
status_last r _ going = refl

module _ (member : ℕ → Bool) (parts : StructureSets) (hand : Hand) (reply : Reply) (n : ℕ) (m : IsMember member n (parts n)) (in_hand : IsInHand member parts reply hand) (q : Qh) (head : parts n n ≡ Some (QueueHead q)) (v : Sent) (k : HasEnded v parts n) (h : Host) where
  pub working : q.token.active ≡ true → IsPending (parts n) q.current
  working on =
      let is : m.queue ≡ q = found_queue (parts n n) m.queue q m.here head in
      let w : IsWorking (parts n) q = (subst (IsSoundQueue (parts n)) is m.sound).work on in
      record { qtd = w.element; here = w.here; published = w.published }

  active_side : (hand_side hand n q).active ≡ true → q.token.active ≡ true
  active_side = either_side (λ (s : HostSide). s.active ≡ true → q.token.active ≡ true) member hand parts reply n q in_hand head (λ on. on) (λ s on other. on)

  pub none_pending : IsPending (parts n) v.places.status → ⊥
  none_pending pending = not_pending (parts n) v.places.status k.qtd k.here k.ended pending

  by_stage : (s : Stage) → h.stage ≡ s → is_over s ≡ false → Works v.endpoint v.request v.places (parts n) (hand_side hand n q) q h → ⊥
  by_stage Status is going w = none_pending (subst (IsPending (parts n)) (w.current ∙ ap (place_at v.places) is) (working (active_side w.active)))
  by_stage Setup is going w =
      none_pending (fresh_pending v.endpoint v.request v.places (parts n) Status (w.later Status (ap (λ (s : Stage). comes v.request (next_stage v.request s) Status) is ∙ status_comes v.request (has_data v.request))))
  by_stage Data is going w = none_pending (fresh_pending v.endpoint v.request v.places (parts n) Status (w.later Status (ap (λ (s : Stage). comes v.request (next_stage v.request s) Status) is)))
  by_stage _ is going w = false≢true (sym going)

  halted_side : q.token.halted ≡ false → (hand_side hand n q).halted ≡ true → q.token.active ≡ true
  halted_side goes_on = either_side (λ (s : HostSide). s.halted ≡ true → q.token.active ≡ true) member hand parts reply n q in_hand head (λ on. absurd (false≢true (sym goes_on ∙ on))) (λ s on other. on)

  not_halted : (k.qtd.token.halted ≡ false) ⊎ IsGoing parts n → Halts v.places (parts n) (hand_side hand n q) q h → ⊥
  not_halted (inl whole) w = false≢true (sym whole ∙ w.status k.qtd k.here k.ended)
  not_halted (inr going) w =
      let same : going.queue ≡ q = found_queue (parts n n) going.queue q going.head head in
      none_pending (w.pending (halted_side (ap (λ (z : Qh). z.token.halted) (sym same) ∙ going.goes_on) w.halted))

  pub stage_done : Shows v.endpoint v.request v.places (parts n) (hand_side hand n q) q h → h.stage ≡ Done
  stage_done (works w) = absurd (by_stage h.stage refl w.goes_on w)
  stage_done (waits w) = absurd (none_pending (fresh_pending v.endpoint v.request v.places (parts n) Status (w.fresh Status (status_last v.request h.stage w.goes_on))))
  stage_done (ends w) = w.done
  stage_done (halts w) = absurd (not_halted k.goes_on w)

ended_once : (member : ℕ → Bool) (parts : StructureSets) (hand : Hand) (reply : Reply) (n : ℕ) (v : Sent) (l : Line) (o : Option Device) → IsMember member n (parts n) → IsInHand member parts reply hand → IsWindow v l hand parts n o → HasEnded v parts n → IsActedOnce v l hand parts n
ended_once member parts hand reply n v l o m in_hand w k =
    finished_once v l hand parts n (record { done = stage_done member parts hand reply n m in_hand w.queue w.head v k l.host w.shown; moved = w.moved; stands = w.stands })

-- a request that isn't begun hasn't ended
pub behind_pending : (v : Sent) (hand : Hand) (parts : StructureSets) (n : ℕ) → IsBehind v hand parts n → HasEnded v parts n → ⊥
behind_pending v hand parts n w k = not_pending (parts n) v.places.status k.qtd k.here k.ended (fresh_pending v.endpoint v.request v.places (parts n) Status (w.fresh Status refl))

pub queue_ended : (member : ℕ → Bool) (parts : StructureSets) (hand : Hand) (reply : Reply) (n i : ℕ) (v : Queue) (l : Lines) (o : Option Device) → IsMember member n (parts n) → IsInHand member parts reply hand → i < v.count → IsQueue v l hand parts n o → HasEnded (sent_at v i) parts n
    → IsActedOnce (sent_at v i) (l.line i) hand parts n
queue_ended member parts hand reply n i v l o m in_hand few w k =
    ⊎_elim {C = IsActedOnce (sent_at v i) (l.line i) hand parts n} (λ (less : i < l.under). finished_once (sent_at v i) (l.line i) hand parts n (w.finished i less))
    (λ (other : l.under ≤ i).
    ⊎_elim {C = IsActedOnce (sent_at v i) (l.line i) hand parts n}
    (λ (same : i ≡ l.under).
    subst (λ (j : ℕ). HasEnded (sent_at v j) parts n → IsActedOnce (sent_at v j) (l.line j) hand parts n) (sym same)
    (ended_once member parts hand reply n (sent_at v l.under) (l.line l.under) o m in_hand w.window) k)
    (λ (differs : i ≢ l.under). absurd (behind_pending (sent_at v i) hand parts n (w.behind i (omega (arith, other, differs)) few) k)) (cases_eq i l.under)) (cases_lt i l.under)
