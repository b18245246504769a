-- A halt stays at each event of a queue.
use Rattle.std.proofs.Common.{◌≡◌, ◌≢◌, ℕ, ◌<◌, Bool, true, false, if◌then◌else◌, List, Some, ap, refl, sym, subst, ◌∙◌, ⊎_elim, arith}
use Rattle.std.proofs.lemmas.Bool.{cases_eq, true≢false}
use Rattle.qh_qtd.specs.declared.qtd.Qtd.{Qtd}
use Rattle.qh_qtd.specs.declared.queue_head.Qh.{Qh}
use Rattle.law_structures.specs.lent_structures.Structures.{QueueHead, Element, Structures}
use Rattle.law_structures.proofs.lemmas.lent_structures.Altering.{found_queue, found_element}
use Rattle.law_ring.specs.Order.{IsAmong}
use Rattle.law_ring.specs.Front.{HasFront}
use Rattle.law_ring.specs.Halted.{IsHalted, HaltStops}
use Rattle.law_frames.proofs.lemmas.framed_fronts.Queues.{Advances, left_by, Settles, QueueEvent, stays, advances, settles}

-- the overlay of a qTD that is halted by its write-back is halted too
halted_by : (q : Qh) (t : Qtd) (b : Bool) → t.token.active ≡ true → q.token.active ≡ b → IsHalted (left_by q t) → q.token.halted ≡ true
halted_by q t true published on halted =
    absurd (true≢false (sym published ∙ ap (λ (c : Bool). (if c then t else record t { token = q.token }).token.active) (sym on) ∙ halted.done))
halted_by q t false published off halted = ap (λ (c : Bool). (if c then t else record t { token = q.token }).token.halted) (sym off) ∙ halted.halted

module _ (part now : Structures) (order : ℕ → ℕ) (front : ℕ) (out : List ℕ) (n : ℕ) (k : HasFront order front out n part) (stops : HaltStops order out n part) where
  -- none is halted where a qTD is taken
  advanced_stops : Advances n part now → HaltStops order out n now
  advanced_stops t = record {
    head = λ a u q among found halted here. absurd (true≢false (sym (stops.head a u t.queue among (t.before a u found) halted t.here) ∙ t.goes_on));
    later = λ a e u v among found halted also less there. stops.later a e u v among (t.before a u found) halted also less (t.before e v there);
  }

  module _ (s : Settles n part now) where
    -- none was halted before
    it_is : (a : ℕ) (t : Qtd) → IsAmong a out → now a ≡ Some (Element t) → IsHalted t → a ≡ s.queue.current
    it_is a t among found halted =
        ⊎_elim (λ (same : a ≡ s.queue.current). same)
        (λ (differs : a ≢ s.queue.current). absurd (true≢false (sym (stops.head a t s.queue among (s.before a t found differs) halted s.here) ∙ s.goes_on))) (cases_eq a s.queue.current)

    waits_yet : (e : ℕ) (u : Qtd) (c : Bool) → IsAmong e out → part e ≡ Some (Element u) → front < order e → u.token.active ≡ c → u.token.active ≡ true
    waits_yet e u true among there from on = on
    waits_yet e u false among there from over = absurd (let less = (k.behind e u among there over).before in omega (arith, less, from))

    settled_stops : HaltStops order out n now
    settled_stops = record {
      head = λ a t q among found halted here.
          let at : a ≡ s.queue.current = it_is a t among found halted in
          let same : t ≡ left_by s.new s.element = found_element (now s.queue.current) t (left_by s.new s.element) (ap now (sym at) ∙ found) s.written in
          ap (λ (r : Qh). r.token.halted) (sym (found_queue (now n) s.new q s.head_now here)) ∙ halted_by s.new s.element s.new.token.active s.published refl (subst IsHalted same halted);
      later = λ a e t u among found halted also less there.
          let at = ap order (it_is a t among found halted) in
          let at_front : order s.queue.current ≡ front = (k.queue s.queue s.here).work s.works in
          let past : front < order e = omega (arith, less, at, at_front) in
          let differs : e ≢ s.queue.current = λ same. let other = ap order same in omega (arith, less, at, other) in
          waits_yet e u u.token.active also (s.before e u there differs) past refl;
    }

  pub halts_by : QueueEvent n part now → HaltStops order out n now
  halts_by (stays same) = subst (HaltStops order out n) (sym same) stops
  halts_by (advances t) = advanced_stops t
  halts_by (settles s) = settled_stops s

-- a queue head that is halted takes no qTD, and works on none
pub halted_stays : (n : ℕ) (q : Qh) (part now : Structures) → part n ≡ Some (QueueHead q) → q.token.halted ≡ true → QueueEvent n part now → now ≡ part
halted_stays n q part now here halted (stays same) = same
halted_stays n q part now here halted (advances t) = absurd (true≢false (sym halted ∙ ap (λ (r : Qh). r.token.halted) (found_queue (part n) q t.queue here t.here) ∙ t.goes_on))
halted_stays n q part now here halted (settles s) = absurd (true≢false (sym halted ∙ ap (λ (r : Qh). r.token.halted) (found_queue (part n) q s.queue here s.here) ∙ s.goes_on))
