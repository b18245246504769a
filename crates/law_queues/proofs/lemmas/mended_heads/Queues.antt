-- The streams of other queue heads, fronts and tails, and the driver's queues, once the store that is owed is made.
use Rattle.std.proofs.Common.{◌≡◌, ◌≢◌, ℕ, ◌*◌, ◌≤◌, ◌⊎◌, Bool, false, List, length, Option, Some, ap, sym, subst, ◌∙◌, ⊎_elim, inl, inr}
use Rattle.law_queues.proofs.Common.{none_published}
use Rattle.law_common.proofs.Numbers.{streamed_apart}
use Rattle.qh_qtd.specs.declared.qtd.Qtd.{Qtd}
use Rattle.qh_qtd.specs.declared.queue_head.Qh.{Qh}
use Rattle.drv_table.specs.declared.content.Endpoint.{Endpoint}
use Rattle.drv_table.specs.declared.content.QtdNote.{QtdNote}
use Rattle.drv_table.specs.declared.content.Sort.{Sort}
use Rattle.drv_table.specs.DriverContent.{DriverContent}
use Rattle.drv_table.specs.Harvests.{note_at}
use Rattle.drv_table.specs.Parts.{Parts as DriverParts}
use Rattle.drv_table.specs.Words.{dummy_qtd}
use Rattle.law_structures.specs.lent_structures.Structures.{Structure, QueueHead, Element, Buffer, StructureSets}
use Rattle.law_structures.specs.lent_structures.Sound.{element_pages, buffer_name, HasBuffer}
use Rattle.law_ring.specs.Hand.{Hand}
use Rattle.law_ring.specs.Told.{Endpoint as Told}
use Rattle.law_ring.specs.Order.{IsOrdered, Accounts}
use Rattle.law_ring.specs.Front.{HasFront, LinksRise, HasTail}
use Rattle.law_ring.specs.Bus.{Sender}
use Rattle.law_ring.specs.Pipes.{IsIn, IsNotIn, IsElsewhere}
use Rattle.law_ring.proofs.SparedSparing.{stale_hand_is_same, spared_pipes_agree, accounts_are_spared}
use Rattle.claims_driver.specs.Owners.{note_in}
use Rattle.law_driver.specs.chained_transfers.Chains.{piece_at}
use Rattle.law_driver_ring.specs.fed_queues.Fed.{IsPieceFed, AreFed, sized}
use Rattle.law_driver_ring.specs.fed_queues.Places.{IsThere, IsMet, HasHead, AreMet, HaveStreams, AreLast, AreStillOut}
use Rattle.law_queues.specs.mended_heads.Owed.{StalledQueue}
use Rattle.law_queues.specs.mended_heads.Mended.{mended, driver_mended, IsAtMend, head_at, parts_then, hand_then}
use Rattle.law_queues.specs.mended_heads.Queues.{MendLeavesPipes, MendLeavesAccounts, MendSparesRest, MendAddsNone, MendLeavesFront, MendLeavesTail, MendLeavesPassed, MendLeavesWithin, MendLeavesRising, MendLeavesMet, MendLeavesEnds, MendLeavesFed, MendLeavesLast, MendLeavesOut}
use Rattle.law_queues.proofs.lemmas.mended_heads.Mending.{idle_goes, still_front}
use Rattle.law_queues.proofs.lemmas.mended_heads.Parts.{stays, spares_head, had_rest, head_was, element_stays, element_was, buffer_stays, spares_element, front_stays, passed_stays, within_stays, tail_stays}
use Rattle.law_queues.proofs.lemmas.mended_heads.Row.{mend_row, mend_spares_heads, mend_spares_endpoints}

module _ (p : DriverParts) (parts : StructureSets) (out : ℕ → List ℕ) (k : IsAtMend p parts out) where
  abbrev s : StalledQueue
  s = k.stalled

  abbrev own : ℕ
  own = 32 * s.queue

  abbrev head : Qh
  head = head_at k

  abbrev new : Qh
  new = mended s head

  abbrev now : StructureSets
  now = parts_then k

  here : parts own own ≡ Some (QueueHead head)
  here = k.are.wait.0.stands.here

  was : (m a : ℕ) (t : Qtd) → now m a ≡ Some (Element t) → parts m a ≡ Some (Element t)
  was m a t is = element_was parts own head new here m a t is

  -- ---- IN pipes

  ins_stay : (n : ℕ) → IsIn (parts n) → IsIn (now n)
  ins_stay n ins a t is on = ins a t (was n a t is) on

  nots_stay : (n : ℕ) → IsNotIn (parts n) → IsNotIn (now n)
  nots_stay n nots a t is on = nots a t (was n a t is) on

  elsewhere_stays : (stream : ℕ → ℕ → Bool) (n : ℕ) (x : Told) → IsElsewhere stream parts n x → IsElsewhere stream now n x
  elsewhere_stays stream n x old = (
    mend_spares_endpoints p parts out k n x old.0,
    ⊎_elim {C = (stream x.addr x.ep ≡ false) ⊎ IsNotIn (now n)} (λ (none : stream x.addr x.ep ≡ false). inl none) (λ (nots : IsNotIn (parts n)). inr (nots_stay n nots)) old.1,
  )

  -- ---- published qTDs

  ordered_still : (order : ℕ → ℕ) (at n : ℕ) → n ≢ own → IsOrdered order at n (parts n) → IsOrdered order at n (now n)
  ordered_still order at n differs o = record {
    next = λ a t b is to. o.next a t b (was n a t is) to;
    alternate = λ a t b is to. o.alternate a t b (was n a t is) to;
    queue = λ r is. o.queue r (head_was parts own head new here n r differs is);
    fresh = λ a t is on from. o.fresh a t (was n a t is) on from ∙ ap length (sym (buffer_stays parts own head new here n t));
  }

  accounts_stay : (order : ℕ → ℕ) (at : ℕ) (sent : List ℕ) (hand : Hand) (n : ℕ) (xs : List ℕ) → n ≢ own → Accounts order at sent hand parts n xs → Accounts order at sent (hand_then k hand) now n xs
  accounts_stay order at sent hand n xs differs r =
      accounts_are_spared order order at at sent hand (hand_then k hand) parts now n xs (stale_hand_is_same own hand) (spares_head parts own head new here n differs)
      (λ e among. spares_element parts own head new here n e) (ordered_still order at n differs r.ordered) r.sorted
      (λ a t among is from. r.published a t among (was n a t is) from) (λ a t is active. r.complete a t (was n a t is) active) r

  -- ---- fronts and tails

  front_now : (order : ℕ → ℕ) (front : ℕ) (sent : List ℕ) (m : ℕ) → (m ≡ own → front ≤ order (32 * s.onward)) → HasFront order front sent m (parts m) → HasFront order front sent m (now m)
  front_now order front sent m from f =
      front_stays parts own head new here order front sent m
      (λ same. still_front order front s.onward s.made head k.are.wait.0.stands.halted k.are.wait.0.stands.next (from same)
      (f.queue head (ap (λ (i : ℕ). parts i i) same ∙ here))) f

  tail_now : (order : ℕ → ℕ) (c front m : ℕ) → (m ≡ own → order (32 * s.onward) ≤ order c) → HasTail order c front m (parts m) → HasTail order c front m (now m)
  tail_now order c front m most f =
      tail_stays parts own head new here order c front m
      (λ same b off idle to. subst (λ (a : ℕ). order a ≤ order c) (sym (idle_goes s.onward s.made b head k.are.wait.0.stands.halted k.are.wait.0.stands.next off to)) (most same)) f

  rising_now : (order : ℕ → ℕ) (n : ℕ) → LinksRise order (parts n) → LinksRise order (now n)
  rising_now order n r = record { next = λ a t b is to. r.next a t b (was n a t is) to; alternate = λ a t b is to. r.alternate a t b (was n a t is) to }

  -- ---- the driver's queues

  no_buffer : (pages : List ℕ) (j : ℕ) (bs : List ℕ) (r : Qh) → Buffer pages j bs ≢ QueueHead r
  no_buffer pages j bs r same = cc

  fed_now : (sort : Sort) (m : ℕ) (note : QtdNote) (b end : ℕ) → IsPieceFed sort (parts m) note b end → IsPieceFed sort (now m) note b end
  fed_now sort m note b end g = record {
    qtd = g.qtd;
    here = element_stays parts own head new here m (32 * b) g.qtd g.here;
    noted = g.noted;
    buffer = λ some.
        let has : HasBuffer (parts m) g.qtd note.told = g.buffer some in
        let buffer : Structure = Buffer (element_pages g.qtd) g.qtd.offset has.bytes in
        record { bytes = has.bytes; here = stays parts own head new here m (buffer_name g.qtd) buffer (no_buffer (element_pages g.qtd) g.qtd.offset has.bytes) has.here; size = has.size };
    long = ap length (buffer_stays parts own head new here m g.qtd) ∙ g.long;
    places = g.places;
    fresh = g.fresh;
    blank = g.blank;
  }

  abbrev f : DriverContent
  f = driver_mended p.driver

  there_was : (x : Endpoint) → IsThere f x → IsThere p.driver x
  there_was x t = record { linked = t.linked; kept = t.kept }

  met_was : (i : ℕ) (x : Endpoint) → IsMet f i x → IsMet p.driver i x
  met_was i x m = record { there = there_was x m.there; near = m.near }

  head_still : (n : ℕ) → HasHead p.driver n → HasHead f n
  head_still n h = record { number = h.number; endpoint = h.endpoint; here = h.here; met = record { there = record { linked = h.met.there.linked; kept = h.met.there.kept }; near = h.met.near }; at = h.at }

  met_then : (member : ℕ → Bool) → AreMet p.driver member → AreMet f member
  met_then member q = record {
    head = q.head;
    each = λ i x there met. q.each i x there (met_was i x met);
    only = λ n on. ⊎_elim {C = (n ≡ 4096) ⊎ HasHead f n} (λ (head : n ≡ 4096). inl head) (λ (h : HasHead p.driver n). inr (head_still n h)) (q.only n on);
  }

  ends_then : (streams : ℕ → Bool) (ends : ℕ → Told) → HaveStreams p.driver streams ends → HaveStreams f streams ends
  ends_then streams ends q = record { each = λ i x there met. q.each i x there (met_was i x met); only = λ n on. head_still n (q.only n on) }

  fed_then : AreFed p.driver parts → AreFed f now
  fed_then q = record {
    dummies = λ i x there kept lent. element_stays parts own head new here (32 * x.queue) (32 * x.dummy) dummy_qtd (q.dummies i x there kept lent);
    pieces = λ t j y x there held of_x from below. fed_now y.sort (32 * x.queue) (sized y.sort j (note_at p.driver.notes (piece_at (note_in p.driver.notes) y.first j))) (piece_at (note_in p.driver.notes) y.first j) (piece_at (note_in p.driver.notes) y.first y.qtds) (q.pieces t j y x there held of_x from below);
    publishes = λ b words command. absurd (none_published b words (sym k.idle ∙ command));
  }

  last_then : (order : ℕ → ℕ → ℕ) → AreLast p.driver parts order → AreLast f now order
  last_then order q = record {
    dummies = λ i x there kept lent b t is differs. q.dummies i x there kept lent b t (was (32 * x.queue) b t is) differs;
    taken = λ b words t y x command made newest there first here_x. absurd (none_published b words (sym k.idle ∙ command));
    sorted = λ b words t y x command made newest there first here_x. absurd (none_published b words (sym k.idle ∙ command));
  }

  out_then : (sent : ℕ → List ℕ) → AreStillOut p.driver sent → AreStillOut f sent
  out_then sent q i x there is = q i x there (there_was x is)

-- ---- the laws

pub leaves_pipes : {W : Type 0} (sender : W → ℕ → ℕ → Option Sender) → MendLeavesPipes sender
leaves_pipes sender stream packets member streams ends acc wire hand p parts out k off piped =
    let own = 32 * k.stalled.queue in
    spared_pipes_agree sender stream packets member member streams ends acc hand (hand_then k hand) parts (parts_then k) wire (stale_hand_is_same own hand)
    (λ n on. mend_spares_heads p parts out k n (streamed_apart streams own n off on))
    (λ n on. ins_stay p parts out k n (piped.pipes n on).ins)
    (λ n on none. elsewhere_stays p parts out k stream n (ends n) (piped.others n on none)) piped

pub mend_leaves_accounts : MendLeavesAccounts
mend_leaves_accounts order at sent hand n xs p parts out k differs r = accounts_stay p parts out k order at sent hand n xs differs r

pub mend_spares_rest : MendSparesRest
mend_spares_rest p parts out k n r differs is = had_rest parts (32 * k.stalled.queue) (head_at k) (mended k.stalled (head_at k)) k.are.wait.0.stands.here n r differs is

pub mend_adds_none : MendAddsNone
mend_adds_none p parts out k n a t is = was p parts out k n a t is

pub mend_leaves_front : MendLeavesFront
mend_leaves_front order front sent n p parts out k from f = front_now p parts out k order front sent n from f

pub mend_leaves_tail : MendLeavesTail
mend_leaves_tail order c front n p parts out k most f = tail_now p parts out k order c front n most f

pub mend_leaves_passed : MendLeavesPassed
mend_leaves_passed order front n a p parts out k f = passed_stays parts (32 * k.stalled.queue) (head_at k) (mended k.stalled (head_at k)) k.are.wait.0.stands.here order front n a f

pub mend_leaves_within : MendLeavesWithin
mend_leaves_within order c n p parts out k f = within_stays parts (32 * k.stalled.queue) (head_at k) (mended k.stalled (head_at k)) k.are.wait.0.stands.here order c n f

pub mend_leaves_rising : MendLeavesRising
mend_leaves_rising order n p parts out k r = rising_now p parts out k order n r

pub mend_leaves_met : MendLeavesMet
mend_leaves_met p parts out member k q = subst (λ (d : DriverContent). AreMet d member) (sym (mend_row p parts out k).driver) (met_then p parts out k member q)

pub mend_leaves_ends : MendLeavesEnds
mend_leaves_ends p parts out streams ends k q = subst (λ (d : DriverContent). HaveStreams d streams ends) (sym (mend_row p parts out k).driver) (ends_then p parts out k streams ends q)

pub mend_leaves_fed : MendLeavesFed
mend_leaves_fed p parts out k q = subst (λ (d : DriverContent). AreFed d (parts_then k)) (sym (mend_row p parts out k).driver) (fed_then p parts out k q)

pub mend_leaves_last : MendLeavesLast
mend_leaves_last p parts out order k q = subst (λ (d : DriverContent). AreLast d (parts_then k) order) (sym (mend_row p parts out k).driver) (last_then p parts out k order q)

pub mend_leaves_out : MendLeavesOut
mend_leaves_out p parts out sent k q = subst (λ (d : DriverContent). AreStillOut d sent) (sym (mend_row p parts out k).driver) (out_then p parts out k sent q)
