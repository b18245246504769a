-- A halt stays at each event of the walk.
use Rattle.std.proofs.Common.{◌≡◌, ◌≢◌, ℕ, ◌<◌, Bool, true, false, if◌then◌else◌, List, Some, ap, refl, sym, subst, ◌∙◌, ⊎_elim, arith}
use Rattle.std.proofs.lemmas.Bool.{cases_eq, true≢false}
use Rattle.law_ring.proofs.Common.{through_head, through_bytes}
use Rattle.usb_base.specs.declared.packets.Ask.{Ask}
use Rattle.usb_base.specs.declared.packets.Reply.{Reply}
use Rattle.qh_qtd.specs.declared.qtd.Qtd.{Qtd}
use Rattle.qh_qtd.specs.declared.queue_head.Qh.{Qh}
use Rattle.hc_copy.specs.Overlay.{advanced}
use Rattle.hc_copy.specs.WriteBack.{moved_by}
use Rattle.async_walk.specs.declared.state.WalkStep.{WalkStep}
use Rattle.law_structures.specs.lent_structures.Structures.{QueueHead, Element, StructureSets, put}
use Rattle.law_structures.proofs.lemmas.lent_structures.Names.{put_beside, put_found}
use Rattle.law_structures.specs.lent_structures.WriteBack.{CanBeWritten, Received, received_parts}
use Rattle.law_structures.proofs.lemmas.lent_structures.Found.{back_head, back_element, back_beside}
use Rattle.law_structures.specs.lent_structures.Sound.{IsWorking, IsSoundQueue, IsMember}
use Rattle.law_structures.proofs.lemmas.lent_structures.Altering.{found_queue, found_element}
use Rattle.law_ring.specs.Hand.{settled_queue_of, Hand}
use Rattle.law_ring.specs.Ring.{IsCopied, IsSettled, IsInHand}
use Rattle.law_ring.specs.Effects.{received_into, Takes, WritesBack, Effect}
use Rattle.law_ring.specs.Effects.Effect.{reads, passes, ends, takes, makes, writes_back}
use Rattle.law_ring.proofs.Writing.{settled_copy, settled_range, is_written, queue_written, element_written, all_parts}
use Rattle.law_ring.specs.Streams.{AreMembers}
use Rattle.law_ring.specs.Order.{IsAmong}
use Rattle.law_ring.specs.Front.{HasFront}
use Rattle.law_ring.specs.Halted.{IsHalted, HaltStops, WalkKeepsHalts, HaltedQueueStays}

module _ {W : Type 0} (transacts : W → Ask → List ℕ → Reply → W → Type 0) (member : ℕ → Bool) (parts : StructureSets) (hand : Hand) (reply : Reply) (wire after : W) (now : StructureSets) (later : Hand) (n : ℕ) (members : AreMembers member parts) (in_hand : IsInHand member parts reply hand) where
  -- the queue head whose transaction is written back works, and isn't halted
  module _ (w : WritesBack parts hand now later) (is : n ≡ w.copy.at) where
    both : IsCopied member parts w.copy × IsSettled w.copy.queue reply w.settled
    both = subst (IsInHand member parts reply) w.in_hand in_hand

    abbrev received : Received
    received = received_into (parts w.copy.at) w.copy.queue w.element w.settled.got

    abbrev settled_head : Qh
    settled_head = settled_queue_of w.copy w.settled

    abbrev all : StructureSets
    all = all_parts parts w.copy w.settled received w.element

    abbrev new_head : Qh
    new_head = queue_written w.copy w.settled

    abbrev new_element : Qtd
    new_element = element_written w.copy w.settled w.element

    abbrev current : ℕ
    current = w.copy.queue.current

    current_is : settled_head.current ≡ current
    current_is = (settled_copy w.copy w.settled).current

    can : CanBeWritten parts w.copy.at w.copy.at w.copy.queue settled_head w.settled.got received w.element
    can = record {
      copy = record { head = both.0.here; range = settled_range w.copy w.settled reply both.0.range both.1; front = (settled_copy w.copy w.settled).front };
      element = ap (parts w.copy.at) current_is ∙ w.here;
      received = w.received_is;
    }

    head : parts n n ≡ Some (QueueHead w.copy.queue)
    head = ap (λ (i : ℕ). parts i i) is ∙ both.0.here

    works : IsWorking (parts w.copy.at) w.copy.queue
    works =
        let m : IsMember member w.copy.at (parts w.copy.at) = members w.copy.at both.0.on in
        (subst (IsSoundQueue (parts w.copy.at)) (found_queue (parts w.copy.at w.copy.at) m.queue w.copy.queue m.here both.0.here) m.sound).work both.1.works

    published : w.element.token.active ≡ true
    published = ap (λ (t : Qtd). t.token.active) (sym (found_element (parts w.copy.at current) works.element w.element works.here w.here)) ∙ works.published

    now_at : (a : ℕ) → now n a ≡ all w.copy.at a
    now_at a = ap (λ (ps : StructureSets). ps n a) w.now_is ∙ ap (λ (i : ℕ). all i a) is

    head_now : now n n ≡ Some (QueueHead new_head)
    head_now = now_at n ∙ ap (all w.copy.at) is ∙ back_head parts w.copy.at w.copy.at w.copy.queue settled_head (moved_by w.settled.outcome) w.settled.got received w.element can

    element_now : now n current ≡ Some (Element new_element)
    element_now = now_at current ∙ ap (all w.copy.at) (sym current_is) ∙ back_element parts w.copy.at w.copy.at w.copy.queue settled_head (moved_by w.settled.outcome) w.settled.got received w.element

    before : (a : ℕ) (u : Qtd) → now n a ≡ Some (Element u) → a ≢ current → parts n a ≡ Some (Element u)
    before a u found differs =
        let first : StructureSets = received_parts parts w.copy.at w.settled.got received in
        let mid : StructureSets = put first w.copy.at w.copy.at (QueueHead new_head) in
        ⊎_elim (λ (last : (n ≡ w.copy.at) × (a ≡ settled_head.current) × (Element u ≡ Element new_element)). absurd (differs (last.1 ∙ current_is)))
        (λ (there : mid n a ≡ Some (Element u)). through_bytes parts w.copy.at w.settled.got received n a u (through_head first w.copy.at new_head n a u there))
        (put_found mid w.copy.at settled_head.current (Element new_element) n a (Element u) (sym (ap (λ (ps : StructureSets). ps n a) w.now_is) ∙ found))

    -- where the qTD is halted by it, the overlay is
    halted_by : (b : Bool) → w.settled.host.active ≡ b → IsHalted new_element → new_head.token.halted ≡ true
    halted_by true on halted =
        let same : new_element ≡ w.element = ap (λ (c : Bool). if c then w.element else record w.element { token = new_head.token }) ((is_written w.copy w.settled).active ∙ on) in
        absurd (true≢false (sym published ∙ ap (λ (t : Qtd). t.token.active) (sym same) ∙ halted.done))
    halted_by false off halted =
        let ended : new_element ≡ record w.element { token = new_head.token } = ap (λ (c : Bool). if c then w.element else record w.element { token = new_head.token }) ((is_written w.copy w.settled).active ∙ off) in
        ap (λ (t : Qtd). t.token.halted) (sym ended) ∙ halted.halted

    module _ (order : ℕ → ℕ) (front : ℕ) (out : List ℕ) (k : HasFront order front out n (parts n)) (stops : HaltStops order out n (parts n)) where
      at_front : order current ≡ front
      at_front = (k.queue w.copy.queue head).work both.1.works

      -- none was halted before
      none_before : (a : ℕ) (t : Qtd) → IsAmong a out → parts n a ≡ Some (Element t) → IsHalted t → ⊥
      none_before a t among here halted = true≢false (sym (stops.head a t w.copy.queue among here halted head) ∙ works.goes_on)

      it_is : (a : ℕ) (t : Qtd) → IsAmong a out → now n a ≡ Some (Element t) → IsHalted t → a ≡ current
      it_is a t among found halted = ⊎_elim (λ (same : a ≡ current). same) (λ (differs : a ≢ current). absurd (none_before a t among (before a t found differs) halted)) (cases_eq a current)

      by_test : (e : ℕ) (u : Qtd) (c : Bool) → IsAmong e out → parts n e ≡ Some (Element u) → front < order e → u.token.active ≡ c → u.token.active ≡ true
      by_test e u true among there from on = on
      by_test e u false among there from over = absurd (let less = (k.behind e u among there over).before in omega (arith, less, from))

      written_stops : HaltStops order out n (now n)
      written_stops = record {
        head = λ a t q among found halted here.
            let at : a ≡ current = it_is a t among found halted in
            let same : t ≡ new_element = found_element (now n current) t new_element (ap (now n) (sym at) ∙ found) element_now in
            ap (λ (r : Qh). r.token.halted) (sym (found_queue (now n n) new_head q head_now here)) ∙ halted_by w.settled.host.active refl (subst IsHalted same halted);
        later = λ a e t u among found halted also less there.
            let at = ap order (it_is a t among found halted) in
            let past : front < order e = omega (arith, less, at, at_front) in
            let differs : e ≢ current = λ same. let other = ap order same in omega (arith, less, at, other) in
            by_test e u u.token.active also (before e u there differs) past refl;
      }

  -- a queue head that takes a qTD isn't halted
  taking : (t : Takes parts hand now later) → n ≡ t.copy.at → (q : Qh) → parts n n ≡ Some (QueueHead q) → q.token.halted ≡ true → ⊥
  taking t is q here halted =
      let copied : IsCopied member parts t.copy = subst (IsInHand member parts reply) t.in_hand in_hand in
      let head : parts n n ≡ Some (QueueHead t.copy.queue) = ap (λ (i : ℕ). parts i i) is ∙ copied.here in
      true≢false (sym halted ∙ ap (λ (r : Qh). r.token.halted) (found_queue (parts n n) q t.copy.queue here head) ∙ t.goes_on)

  writing : (w : WritesBack parts hand now later) → n ≡ w.copy.at → (q : Qh) → parts n n ≡ Some (QueueHead q) → q.token.halted ≡ true → ⊥
  writing w is q here halted = true≢false (sym halted ∙ ap (λ (r : Qh). r.token.halted) (found_queue (parts n n) q w.copy.queue here (head w is)) ∙ (works w is).goes_on)

  -- the event leaves this queue, takes a qTD in it, or writes one of its transactions back
  by_event : (P : Type 0) (kind : WalkStep) → Effect transacts parts hand wire after now later kind → (now n ≡ parts n → P) → ((t : Takes parts hand now later) → n ≡ t.copy.at → P) → ((w : WritesBack parts hand now later) → n ≡ w.copy.at → P) → P
  by_event P kind (reads r same quiet) left taken written = left (ap (λ (ps : StructureSets). ps n) same)
  by_event P kind (passes r same quiet) left taken written = left (ap (λ (ps : StructureSets). ps n) same)
  by_event P kind (ends r same quiet) left taken written = left (ap (λ (ps : StructureSets). ps n) same)
  by_event P kind (makes m same) left taken written = left (ap (λ (ps : StructureSets). ps n) same)
  by_event P kind (takes t quiet) left taken written =
      ⊎_elim (λ (is : n ≡ t.copy.at). taken t is)
      (λ (differs : n ≢ t.copy.at). left (ap (λ (ps : StructureSets). ps n) t.now_is ∙ put_beside parts t.copy.at t.copy.at (QueueHead (advanced t.copy.queue t.element t.qtd)) n differs)) (cases_eq n t.copy.at)
  by_event P kind (writes_back w quiet) left taken written =
      ⊎_elim (λ (is : n ≡ w.copy.at). written w is)
      (λ (differs : n ≢ w.copy.at).
      left (ap (λ (ps : StructureSets). ps n) w.now_is ∙ back_beside parts w.copy.at w.copy.at w.copy.queue (settled_queue_of w.copy w.settled) (moved_by w.settled.outcome) w.settled.got (received_into (parts w.copy.at) w.copy.queue w.element w.settled.got) w.element n differs))
      (cases_eq n w.copy.at)

  -- none is halted where a qTD is taken
  taken_stops : (order : ℕ → ℕ) (out : List ℕ) (t : Takes parts hand now later) → n ≡ t.copy.at → HaltStops order out n (parts n) → HaltStops order out n (now n)
  taken_stops order out t is stops =
      let copied : IsCopied member parts t.copy = subst (IsInHand member parts reply) t.in_hand in_hand in
      let head : parts n n ≡ Some (QueueHead t.copy.queue) = ap (λ (i : ℕ). parts i i) is ∙ copied.here in
      let before : (a : ℕ) (u : Qtd) → now n a ≡ Some (Element u) → parts n a ≡ Some (Element u) = λ a u found. through_head parts t.copy.at (advanced t.copy.queue t.element t.qtd) n a u (sym (ap (λ (ps : StructureSets). ps n a) t.now_is) ∙ found) in
      record {
        head = λ a u q among found halted here. absurd (true≢false (sym (stops.head a u t.copy.queue among (before a u found) halted head) ∙ t.goes_on));
        later = λ a e u v among found halted also less there. stops.later a e u v among (before a u found) halted also less (before e v there);
      }

pub walk_keeps_halts : {W : Type 0} (transacts : W → Ask → List ℕ → Reply → W → Type 0) → WalkKeepsHalts transacts
walk_keeps_halts transacts member parts hand reply wire after now later kind order front out n members in_hand effect k stops =
    by_event transacts member parts hand reply wire after now later n members in_hand (HaltStops order out n (now n)) kind effect
    (λ same. subst (HaltStops order out n) (sym same) stops)
    (λ t is. taken_stops transacts member parts hand reply wire after now later n members in_hand order out t is stops)
    (λ w is. written_stops transacts member parts hand reply wire after now later n members in_hand w is order front out k stops)

pub halted_queue_stays : {W : Type 0} (transacts : W → Ask → List ℕ → Reply → W → Type 0) → HaltedQueueStays transacts
halted_queue_stays transacts member parts hand reply wire after now later kind n q members in_hand effect here halted =
    by_event transacts member parts hand reply wire after now later n members in_hand (now n ≡ parts n) kind effect (λ same. same)
    (λ t is. absurd (taking transacts member parts hand reply wire after now later n members in_hand t is q here halted))
    (λ w is. absurd (writing transacts member parts hand reply wire after now later n members in_hand w is q here halted))
