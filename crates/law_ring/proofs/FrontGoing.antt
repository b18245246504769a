-- The front goes on with each event of the walk.
use Rattle.std.proofs.Common.{◌≡◌, ◌≢◌, ℕ, ◌+◌, ◌<◌, ◌≤◌, ◌==◌, ◌&&◌, not, Bool, true, false, if◌then◌else◌, List, length, Some, ap, refl, sym, subst, ◌∙◌, ⊎_elim, inl, inr, arith}
use Rattle.std.proofs.lemmas.Bool.{cases_eq, true≢false}
use Rattle.law_ring.proofs.Common.{through_head, through_bytes, link_there, pointer_rises, same_pointer, own_there, pointer_within, behind_later, passed_later}
use Rattle.usb_base.specs.declared.packets.Ask.{Ask}
use Rattle.usb_base.specs.declared.packets.Reply.{Reply}
use Rattle.link_words.specs.declared.fields.ShortLink.{ShortLink}
use Rattle.link_words.specs.declared.kinds.QtdLink.{QtdLink}
use Rattle.link_words.specs.declared.kinds.QtdLink.TheVariants as qtd_links
use Rattle.link_words.specs.Links.{qtd_link_of}
use Rattle.qh_qtd.specs.declared.qtd.Qtd.{Qtd}
use Rattle.qh_qtd.specs.declared.queue_head.Qh.{Qh}
use Rattle.qh_qtd.specs.declared.token.Token.{Token}
use Rattle.hc_copy.specs.Overlay.{advanced}
use Rattle.hc_copy.specs.Visits.{next_pointer}
use Rattle.hc_copy.specs.WriteBack.{moved_by}
use Rattle.async_walk.specs.declared.state.WalkStep.{WalkStep}
use Rattle.law_structures.specs.lent_structures.Structures.{QueueHead, Element, Structures, StructureSets, put}
use Rattle.law_structures.proofs.lemmas.lent_structures.Names.{put_same, put_else, put_beside, put_found}
use Rattle.law_structures.specs.lent_structures.WriteBack.{CanBeWritten, Received, received_parts}
use Rattle.law_structures.proofs.lemmas.lent_structures.Found.{back_head, back_element, back_other_element, back_beside}
use Rattle.law_structures.specs.lent_structures.Sound.{buffer_name, IsWorking, IsSoundQueue, IsMember}
use Rattle.law_structures.specs.lent_structures.Alters.{HadElement, Alters}
use Rattle.law_structures.proofs.lemmas.lent_structures.Members.{still_active}
use Rattle.law_structures.proofs.lemmas.lent_structures.Altering.{found_queue, found_element, no_two}
use Rattle.law_ring.specs.Hand.{Copy, Settlement, settled_queue_of, Hand}
use Rattle.law_ring.specs.Ring.{IsCopied, IsSettled, IsInHand}
use Rattle.law_ring.specs.Effects.{buffer_of, received_into, Takes, WritesBack, Effect}
use Rattle.law_ring.specs.Effects.Effect.{reads, passes, ends, takes, makes, writes_back}
use Rattle.law_ring.proofs.Writing.{settled_copy, settled_range, is_written, queue_written, element_written, all_parts}
use Rattle.law_ring.specs.Streams.{AreMembers}
use Rattle.law_ring.proofs.Altered.{effect_alters, length_still}
use Rattle.law_ring.specs.Order.{IsFresh, IsAmong}
use Rattle.law_ring.specs.Front.{HasTail, own_pointer, IsFront, IsBehind, IsPassed, Passes, LinksRise, HasFront, FrontGoesOn, SameRest, IsSparedOrNew, FrontIsSpared, FrontIsRenumbered}

-- ---- where the front stands once a qTD is done

abbrev front_at : (ℕ → ℕ) → ℕ → QtdLink → ℕ
front_at order a qtd_links.End = order a + 1
front_at order a (qtd_links.To b) = order b

front_to : (order : ℕ → ℕ) (a b : ℕ) (l : QtdLink) → l ≡ qtd_links.To b → front_at order a l ≡ order b
front_to order a b l is = ap (front_at order a) is

front_past : (order : ℕ → ℕ) (a : ℕ) (l : QtdLink) → ((b : ℕ) → l ≡ qtd_links.To b → order a < order b) → order a < front_at order a l
front_past order a qtd_links.End rises = omega arith
front_past order a (qtd_links.To b) rises = rises b refl

-- and no further than its links lead
front_within : (order : ℕ → ℕ) (a top : ℕ) (l : QtdLink) → order a < top → ((b : ℕ) → l ≡ qtd_links.To b → order b ≤ top) → front_at order a l ≤ top
front_within order a top qtd_links.End below leads = omega (arith, below)
front_within order a top (qtd_links.To b) below leads = leads b refl

-- ---- the qTD that is taken or written

advanced_is : (q : Qh) (a : ℕ) (t : Qtd) → ((advanced q a t).token.active ≡ t.token.active) × ((advanced q a t).current ≡ a)
unfolding advanced
advanced_is q a t = (refl, refl)

-- the token that is written at the end is the overlay's
ended_token : (c : Copy) (z : Settlement) (t : Qtd) → z.host.active ≡ false → element_written c z t ≡ record t { token = (queue_written c z).token }
ended_token c z t off = ap (λ (b : Bool). if b then t else record t { token = (queue_written c z).token }) ((is_written c z).active ∙ off)

working_token : (c : Copy) (z : Settlement) (t : Qtd) → z.host.active ≡ true → element_written c z t ≡ t
working_token c z t on = ap (λ (b : Bool). if b then t else record t { token = (queue_written c z).token }) ((is_written c z).active ∙ on)

module _ {W : Type 0} (transacts : W → Ask → List ℕ → Reply → W → Type 0) (member : ℕ → Bool) (parts : StructureSets) (hand : Hand) (reply : Reply) (wire after : W) (now : StructureSets) (later : Hand) (order : ℕ → ℕ) (front : ℕ) (out : List ℕ) (n : ℕ) (members : AreMembers member parts) (in_hand : IsInHand member parts reply hand) (rise : LinksRise order (parts n)) (k : HasFront order front out n (parts n)) (alters : Alters (parts n) (now n)) where
  -- what is published yet is fresh still
  fresh_now : (a : ℕ) (u : Qtd) → IsAmong a out → now n a ≡ Some (Element u) → u.token.active ≡ true → IsFresh (now n) u
  fresh_now a u among here on =
      let had : HadElement (parts n) a u = alters.element_before a u here in
      let same : u ≡ had.qtd = still_active had.qtd u had.after on in
      ap (λ (x : Qtd). x.token.total) same ∙ k.fresh a had.qtd among had.here (ap (λ (x : Qtd). x.token.active) (sym same) ∙ on)
      ∙ sym (length_still (parts n) (now n) (buffer_name had.qtd) alters) ∙ ap (λ (x : Qtd). length (buffer_of (now n) x)) (sym same)

  -- this queue head's structures are as they were
  same_front : now n ≡ parts n → FrontGoesOn order front out n parts now
  same_front is = record {
    front_now = front;
    goes_on = omega arith;
    has = subst (HasFront order front out n) (sym is) k;
    still = λ a old. subst (λ (part : Structures). IsBehind order front part a) (sym is) old;
    passed = λ a old. subst (λ (part : Structures). IsPassed order front part a) (sym is) old;
    tail = λ c within old. subst (HasTail order c front n) (sym is) old;
  }

  -- ---- a qTD is taken

  taken_front : (t : Takes parts hand now later) → n ≡ t.copy.at → FrontGoesOn order front out n parts now
  taken_front t is =
      let copied : IsCopied member parts t.copy = subst (IsInHand member parts reply) t.in_hand in_hand in
      let new : Qh = advanced t.copy.queue t.element t.qtd in
      let put_now : StructureSets = put parts t.copy.at t.copy.at (QueueHead new) in
      let head : parts n n ≡ Some (QueueHead t.copy.queue) = ap (λ (i : ℕ). parts i i) is ∙ copied.here in
      let head_now : now n n ≡ Some (QueueHead new) = ap (λ (ps : StructureSets). ps n n) t.now_is ∙ ap (λ (i : ℕ). put_now i i) is ∙ put_same parts t.copy.at t.copy.at (QueueHead new) in
      let from : front ≤ order t.element = (k.queue t.copy.queue head).rest t.element t.goes_on t.idle t.leads in
      let is_new = advanced_is t.copy.queue t.element t.qtd in
      let on : new.token.active ≡ true = is_new.0 ∙ t.published in
      let before : (a : ℕ) (u : Qtd) → now n a ≡ Some (Element u) → parts n a ≡ Some (Element u) = λ a u found. through_head parts t.copy.at new n a u (sym (ap (λ (ps : StructureSets). ps n a) t.now_is) ∙ found) in
      let still : (a : ℕ) (u : Qtd) → parts n a ≡ Some (Element u) → now n a ≡ Some (Element u) = λ a u here.
      ap (λ (ps : StructureSets). ps n a) t.now_is ∙ ap (λ (i : ℕ). put_now i a) is
      ∙ put_else parts t.copy.at t.copy.at (QueueHead new) a (no_two (parts t.copy.at) a t.copy.at (Element u) (QueueHead t.copy.queue) (ap (λ (i : ℕ). parts i a) (sym is) ∙ here) copied.here (λ e. cc))
      ∙ ap (λ (i : ℕ). parts i a) (sym is) ∙ here in
      let later_one : (a : ℕ) → IsBehind order front (parts n) a → IsBehind order (order t.element) (now n) a = λ a old. behind_later order front (order t.element) (parts n) (now n) a from (λ u here off. still a u here) old in
      record {
        front_now = order t.element;
        goes_on = from;
        has = record {
          queue = λ q here. subst (IsFront order (order t.element)) (found_queue (now n n) new q head_now here) (record { work = λ active. ap order is_new.1; rest = λ b off idle to. absurd (true≢false (sym on ∙ idle)) });
          behind = λ a u among found off. later_one a (k.behind a u among (before a u found) off);
          fresh = fresh_now;
          passes = λ a b e v u among also here there over. k.passes a b e v u among also (before a v here) (before e u there) over;
        };
        still = later_one;
        passed = λ a old. passed_later order front (order t.element) (parts n) (now n) a from (still a) old;
        tail = λ c within old. record {
          most = old.rest t.copy.queue t.element head t.goes_on t.idle t.leads;
          rest = λ q b here off idle to. absurd (true≢false (sym on ∙ ap (λ (r : Qh). r.token.active) (found_queue (now n n) new q head_now here) ∙ idle));
        };
      }

  -- ---- a transaction is written back

  module _ (w : WritesBack parts hand now later) (is : n ≡ w.copy.at) where
    both : IsCopied member parts w.copy × IsSettled w.copy.queue reply w.settled
    both = subst (IsInHand member parts reply) w.in_hand in_hand

    abbrev received : Received
    received = received_into (parts w.copy.at) w.copy.queue w.element w.settled.got

    abbrev settled_head : Qh
    settled_head = settled_queue_of w.copy w.settled

    abbrev all : StructureSets
    all = all_parts parts w.copy w.settled received w.element

    abbrev new_head : Qh
    new_head = queue_written w.copy w.settled

    abbrev new_element : Qtd
    new_element = element_written w.copy w.settled w.element

    abbrev current : ℕ
    current = w.copy.queue.current

    current_is : settled_head.current ≡ current
    current_is = (settled_copy w.copy w.settled).current

    can : CanBeWritten parts w.copy.at w.copy.at w.copy.queue settled_head w.settled.got received w.element
    can = record {
      copy = record { head = both.0.here; range = settled_range w.copy w.settled reply both.0.range both.1; front = (settled_copy w.copy w.settled).front };
      element = ap (parts w.copy.at) current_is ∙ w.here;
      received = w.received_is;
    }

    head : parts n n ≡ Some (QueueHead w.copy.queue)
    head = ap (λ (i : ℕ). parts i i) is ∙ both.0.here

    here : parts n current ≡ Some (Element w.element)
    here = ap (λ (i : ℕ). parts i current) is ∙ w.here

    works : IsWorking (parts w.copy.at) w.copy.queue
    works =
        let m : IsMember member w.copy.at (parts w.copy.at) = members w.copy.at both.0.on in
        (subst (IsSoundQueue (parts w.copy.at)) (found_queue (parts w.copy.at w.copy.at) m.queue w.copy.queue m.here both.0.here) m.sound).work both.1.works

    element_is : works.element ≡ w.element
    element_is = found_element (parts w.copy.at current) works.element w.element works.here w.here

    published : w.element.token.active ≡ true
    published = ap (λ (t : Qtd). t.token.active) (sym element_is) ∙ works.published

    at_front : order current ≡ front
    at_front = (k.queue w.copy.queue head).work both.1.works

    now_at : (a : ℕ) → now n a ≡ all w.copy.at a
    now_at a = ap (λ (ps : StructureSets). ps n a) w.now_is ∙ ap (λ (i : ℕ). all i a) is

    head_now : now n n ≡ Some (QueueHead new_head)
    head_now = now_at n ∙ ap (all w.copy.at) is ∙ back_head parts w.copy.at w.copy.at w.copy.queue settled_head (moved_by w.settled.outcome) w.settled.got received w.element can

    element_now : now n current ≡ Some (Element new_element)
    element_now = now_at current ∙ ap (all w.copy.at) (sym current_is) ∙ back_element parts w.copy.at w.copy.at w.copy.queue settled_head (moved_by w.settled.outcome) w.settled.got received w.element

    -- each other qTD is as it was
    still : (a : ℕ) (u : Qtd) → parts n a ≡ Some (Element u) → a ≢ current → now n a ≡ Some (Element u)
    still a u there differs =
        now_at a
        ∙ back_other_element parts w.copy.at w.copy.at w.copy.queue settled_head (moved_by w.settled.outcome) w.settled.got received w.element a u can (ap (λ (i : ℕ). parts i a) (sym is) ∙ there) (λ same. differs (same ∙ current_is))

    done_still : (a : ℕ) (u : Qtd) → parts n a ≡ Some (Element u) → u.token.active ≡ false → now n a ≡ Some (Element u)
    done_still a u there off =
        still a u there (λ same. true≢false (sym published ∙ ap (λ (t : Qtd). t.token.active) (found_element (parts n a) w.element u (ap (parts n) same ∙ here) there) ∙ off))

    before : (a : ℕ) (u : Qtd) → now n a ≡ Some (Element u) → a ≢ current → parts n a ≡ Some (Element u)
    before a u found differs =
        let first : StructureSets = received_parts parts w.copy.at w.settled.got received in
        let mid : StructureSets = put first w.copy.at w.copy.at (QueueHead new_head) in
        ⊎_elim (λ (last : (n ≡ w.copy.at) × (a ≡ settled_head.current) × (Element u ≡ Element new_element)). absurd (differs (last.1 ∙ current_is)))
        (λ (there : mid n a ≡ Some (Element u)). through_bytes parts w.copy.at w.settled.got received n a u (through_head first w.copy.at new_head n a u there))
        (put_found mid w.copy.at settled_head.current (Element new_element) n a (Element u) (sym (ap (λ (ps : StructureSets). ps n a) w.now_is) ∙ found))

    -- what stands before the front isn't worked on
    not_passed : (a : ℕ) → order a < front → a ≢ current
    not_passed a less same = let at = ap order same in omega (arith, less, at, at_front)

    -- it works on
    works_on : w.settled.host.active ≡ true → FrontGoesOn order front out n parts now
    works_on on =
        let v = is_written w.copy w.settled in
        let later_one : (a : ℕ) → IsBehind order front (parts n) a → IsBehind order front (now n) a = λ a old. behind_later order front front (parts n) (now n) a (omega arith) (done_still a) old in
        let at_work : IsFront order front new_head = record { work = λ active. ap order v.current ∙ at_front; rest = λ b off idle to. absurd (true≢false (sym on ∙ sym v.active ∙ idle)) } in
        let same_one : now n current ≡ Some (Element w.element) = element_now ∙ ap (λ (t : Qtd). Some (Element t)) (working_token w.copy w.settled w.element on) in
        record {
          front_now = front;
          goes_on = omega arith;
          has = record {
            queue = λ q found. subst (IsFront order front) (found_queue (now n n) new_head q head_now found) at_work;
            behind = λ a u among found off.
                ⊎_elim (λ (same : a ≡ current). absurd (true≢false (sym published ∙ ap (λ (t : Qtd). t.token.active) (found_element (now n current) w.element u same_one (ap (now n) (sym same) ∙ found)) ∙ off)))
                (λ (differs : a ≢ current). later_one a (k.behind a u among (before a u found differs) off)) (cases_eq a current);
            fresh = fresh_now;
            passes = λ a b e v u among also found there over.
                let first : a ≢ current = λ same. true≢false (sym published ∙ ap (λ (t : Qtd). t.token.active) (found_element (now n current) w.element v same_one (ap (now n) (sym same) ∙ found)) ∙ over.done) in
                ⊎_elim (λ (same : e ≡ current). ap (λ (t : Qtd). t.token.active) (found_element (now n current) u w.element (ap (now n) (sym same) ∙ there) same_one) ∙ published)
                (λ (differs : e ≢ current). k.passes a b e v u among also (before a v found first) (before e u there differs) over) (cases_eq e current);
          };
          still = later_one;
          passed = λ a old. passed_later order front front (parts n) (now n) a (omega arith) (λ t there. still a t there (not_passed a old.before)) old;
          tail = λ c within old. record {
            most = old.most;
            rest = λ q b found rests idle to. absurd (true≢false (sym on ∙ sym v.active ∙ ap (λ (r : Qh). r.token.active) (found_queue (now n n) new_head q head_now found) ∙ idle));
          };
        }

    -- what it passes over is published, for all that is done stood before it
    waits_yet : (e : ℕ) (u : Qtd) → IsAmong e out → parts n e ≡ Some (Element u) → front ≤ order e → u.token.active ≡ true
    waits_yet e u among there from = by_test u.token.active refl
      where
        by_test : (c : Bool) → u.token.active ≡ c → u.token.active ≡ true
        by_test true on = on
        by_test false over = absurd (let less = (k.behind e u among there over).before in omega (arith, less, from))

    passes_on : w.settled.host.active ≡ false → (a b e : ℕ) (v u : Qtd) → IsAmong a out → IsAmong e out → now n a ≡ Some (Element v) → now n e ≡ Some (Element u) → Passes order a b v e → u.token.active ≡ true
    passes_on off a b e v u among also found there over =
        ⊎_elim (λ (first : a ≡ current).
        let after = over.after in
        let at = ap order first in
        let differs : e ≢ current = λ same. let other = ap order same in omega (arith, after, at, other) in
        waits_yet e u also (before e u there differs) (omega (arith, after, at, at_front)))
        (λ (not_first : a ≢ current).
        let old : parts n a ≡ Some (Element v) = before a v found not_first in
        let behind = k.behind a v among old over.done in
        let most : order b ≤ front = behind.leads b (ap (λ (t : Qtd). t.token.halted) (found_element (parts n a) behind.qtd v behind.here old) ∙ over.goes_on) (ap (λ (t : Qtd). qtd_link_of (own_pointer t)) (found_element (parts n a) behind.qtd v behind.here old) ∙ over.leads) in
        let less = over.before in
        let differs : e ≢ current = λ same. let other = ap order same in omega (arith, less, most, other, at_front) in
        k.passes a b e v u among also old (before e u there differs) over) (cases_eq a current)

    -- the qTD is done
    done : w.settled.host.active ≡ false → FrontGoesOn order front out n parts now
    done off =
        let v = is_written w.copy w.settled in
        let ended : new_element ≡ record w.element { token = new_head.token } = ended_token w.copy w.settled w.element off in
        let next : new_head.next ≡ w.element.next = v.next ∙ works.next ∙ ap (λ (t : Qtd). t.next) element_is in
        let alternate : new_head.alternate ≡ w.element.alternate = v.alternate ∙ works.alternate ∙ ap (λ (t : Qtd). t.alternate) element_is in
        let pointer : next_pointer new_head ≡ own_pointer (record w.element { token = new_head.token }) = same_pointer new_head (record w.element { token = new_head.token }) next alternate refl in
        let link : QtdLink = qtd_link_of (next_pointer new_head) in
        let to : ℕ = front_at order current link in
        let past : order current < to = front_past order current link
        (λ b leads. pointer_rises order (parts n) current w.element (not (new_head.token.total == 0) && not w.element.alternate.t) b rise here (sym (ap qtd_link_of pointer) ∙ leads)) in
        let grows : front ≤ to = omega (arith, past, at_front) in
        let later_one : (a : ℕ) → IsBehind order front (parts n) a → IsBehind order to (now n) a = λ a old. behind_later order front to (parts n) (now n) a grows (done_still a) old in
        let idle : new_head.token.active ≡ false = v.active ∙ off in
        let at_rest : IsFront order to new_head = record {
          work = λ on. absurd (true≢false (sym on ∙ idle));
          rest = λ b goes_on rests leads. let e = front_to order current b link leads in omega (arith, e);
        } in
        let this_one : IsBehind order to (now n) current = record {
          qtd = record w.element { token = new_head.token };
          here = element_now ∙ ap (λ (t : Qtd). Some (Element t)) ended;
          done = idle;
          before = past;
          leads = λ b goes_on leads. let e = front_to order current b link (ap qtd_link_of pointer ∙ leads) in omega (arith, e);
        } in
        record {
          front_now = to;
          goes_on = grows;
          has = record {
            queue = λ q found. subst (IsFront order to) (found_queue (now n n) new_head q head_now found) at_rest;
            behind = λ a u among found over.
                ⊎_elim (λ (same : a ≡ current). subst (IsBehind order to (now n)) (sym same) this_one)
                (λ (differs : a ≢ current). later_one a (k.behind a u among (before a u found differs) over)) (cases_eq a current);
            fresh = fresh_now;
            passes = λ a b e v u among also found there over. passes_on off a b e v u among also found there over;
          };
          still = later_one;
          passed = λ a old. passed_later order front to (parts n) (now n) a grows (λ t there. still a t there (not_passed a old.before)) old;
          tail = λ c within old.
              let most = old.most in
              let reached : order current ≤ order c = omega (arith, most, at_front) in
              let leads_within : (b : ℕ) → link ≡ qtd_links.To b → order b ≤ order c = λ b leads.
              pointer_within order c (parts n) current w.element (not (new_head.token.total == 0) && not w.element.alternate.t) b within here published reached (sym (ap qtd_link_of pointer) ∙ leads) in
              record {
                most = front_within order current (order c) link (within.below current w.element here published reached) leads_within;
                rest = λ q b found rests is_idle leads. leads_within b (ap (λ (r : Qh). qtd_link_of (next_pointer r)) (found_queue (now n n) new_head q head_now found) ∙ leads);
              };
        }

  -- ---- the event

  by_active : (b : Bool) (w : WritesBack parts hand now later) → n ≡ w.copy.at → w.settled.host.active ≡ b → FrontGoesOn order front out n parts now
  by_active true w is on = works_on w is on
  by_active false w is off = done w is off

  pub front_by : (kind : WalkStep) → Effect transacts parts hand wire after now later kind → FrontGoesOn order front out n parts now
  front_by kind (reads r all_same quiet) = same_front (ap (λ (ps : StructureSets). ps n) all_same)
  front_by kind (passes r all_same quiet) = same_front (ap (λ (ps : StructureSets). ps n) all_same)
  front_by kind (ends r all_same quiet) = same_front (ap (λ (ps : StructureSets). ps n) all_same)
  front_by kind (makes m all_same) = same_front (ap (λ (ps : StructureSets). ps n) all_same)
  front_by kind (takes t quiet) =
      ⊎_elim (λ (is : n ≡ t.copy.at). taken_front t is)
      (λ (differs : n ≢ t.copy.at). same_front (ap (λ (ps : StructureSets). ps n) t.now_is ∙ put_beside parts t.copy.at t.copy.at (QueueHead (advanced t.copy.queue t.element t.qtd)) n differs)) (cases_eq n t.copy.at)
  front_by kind (writes_back w quiet) =
      ⊎_elim (λ (is : n ≡ w.copy.at). by_active w.settled.host.active w is refl)
      (λ (differs : n ≢ w.copy.at).
      same_front (ap (λ (ps : StructureSets). ps n) w.now_is ∙ back_beside parts w.copy.at w.copy.at w.copy.queue (settled_queue_of w.copy w.settled) (moved_by w.settled.outcome) w.settled.got (received_into (parts w.copy.at) w.copy.queue w.element w.settled.got) w.element n differs))
      (cases_eq n w.copy.at)

pub each_event_moves_the_front_on : {W : Type 0} (transacts : W → Ask → List ℕ → Reply → W → Type 0) (member : ℕ → Bool) (parts : StructureSets) (hand : Hand) (reply : Reply) (wire after : W) (now : StructureSets) (later : Hand) (kind : WalkStep) (order : ℕ → ℕ) (front : ℕ) (out : List ℕ) (n : ℕ) → AreMembers member parts → IsInHand member parts reply hand
    → Effect transacts parts hand wire after now later kind → LinksRise order (parts n) → HasFront order front out n (parts n) → FrontGoesOn order front out n parts now
each_event_moves_the_front_on transacts member parts hand reply wire after now later kind order front out n members in_hand effect rise k = front_by transacts member parts hand reply wire after now later order front out n members in_hand rise k (effect_alters transacts member parts hand reply wire after now later kind in_hand effect n) kind effect

-- ---- a driver's rows

rest_same : (order : ℕ → ℕ) (front : ℕ) (q r : Qh) → SameRest q r → IsFront order front q → IsFront order front r
rest_same order front q r same k = record {
  work = λ on. ap order same.current ∙ k.work (ap (λ (t : Token). t.active) (sym same.token) ∙ on);
  rest = λ b off idle to.
      k.rest b (ap (λ (t : Token). t.halted) (sym same.token) ∙ off) (ap (λ (t : Token). t.active) (sym same.token) ∙ idle) (ap qtd_link_of (sym (pointer_same q r same)) ∙ to);
}
  where
    pointer_same : (q r : Qh) → SameRest q r → next_pointer r ≡ next_pointer q
    pointer_same q r same =
        ap (λ (t : Token). if not (t.total == 0) && not r.alternate.t then r.alternate else r.next) same.token
        ∙ ap (λ (l : ShortLink). if not (q.token.total == 0) && not l.t then l else r.next) same.alternate
        ∙ ap (λ (l : ShortLink). if not (q.token.total == 0) && not q.alternate.t then q.alternate else l) same.next

old_or_new : (P : Type 0) (order : ℕ → ℕ) (front : ℕ) (out : List ℕ) (part now : Structures) (a : ℕ) (t : Qtd) → IsSparedOrNew order front out part now a t
    → (IsAmong a out → part a ≡ Some (Element t) → length (buffer_of now t) ≡ length (buffer_of part t) → P) → (front ≤ order a → t.token.active ≡ true → IsFresh now t → P) → P
old_or_new P order front out part now a t (inl old) is_old is_new = is_old old.0 old.1 old.2
old_or_new P order front out part now a t (inr new) is_old is_new = is_new new.0 new.1 new.2

pub front_is_spared : FrontIsSpared
front_is_spared order front out out_now n part now k head spared = record {
  queue = λ r here. let had = head r here in rest_same order front had.queue r had.rest (k.queue had.queue had.here);
  behind = λ a t among here off.
      old_or_new (IsBehind order front now a) order front out part now a t (spared a t among here)
      (λ was there same.
      behind_later order front front part now a (omega arith) (λ u also over. subst (λ (v : Qtd). now a ≡ Some (Element v)) (found_element (part a) t u there also) here) (k.behind a t was there off))
      (λ from on fresh. absurd (true≢false (sym on ∙ off)));
  fresh = λ a t among here on.
      old_or_new (IsFresh now t) order front out part now a t (spared a t among here) (λ was there same. k.fresh a t was there on ∙ sym same) (λ from active fresh. fresh);
  passes = λ a b e t u among also here there over.
      old_or_new (u.token.active ≡ true) order front out part now e u (spared e u also there)
      (λ was_e there_e same_e.
      old_or_new (u.token.active ≡ true) order front out part now a t (spared a t among here) (λ was_a there_a same_a. k.passes a b e t u was_a was_e there_a there_e over)
      (λ from on fresh. absurd (true≢false (sym on ∙ over.done))))
      (λ from on fresh. on);
}

-- ---- orders

pub front_is_renumbered : FrontIsRenumbered
front_is_renumbered member order order_now front out n part m same k = record {
  queue = λ q here.
      let is : m.queue ≡ q = found_queue (part n) m.queue q m.here here in
      let sound : IsSoundQueue part q = subst (IsSoundQueue part) is m.sound in
      let old = k.queue q here in
      record {
        work = λ on. let w = sound.work on in same q.current w.element w.here ∙ old.work on;
        rest = λ b off idle to. let there = link_there part (qtd_link_of (next_pointer q)) b (sound.rest off idle) to in let e = same b there.qtd there.here in let from = old.rest b off idle to in omega (arith, e, from);
      };
  behind = λ a t among here off.
      let old = k.behind a t among here off in
      record {
        qtd = old.qtd;
        here = old.here;
        done = old.done;
        before = (let e = same a old.qtd old.here in let less = old.before in omega (arith, e, less));
        leads = λ b goes_on to.
            let there = own_there part old.qtd (not (old.qtd.token.total == 0) && not old.qtd.alternate.t) b (m.elements a old.qtd old.here) to in
            let e = same b there.qtd there.here in
            let at = old.leads b goes_on to in
            omega (arith, e, at);
      };
  fresh = k.fresh;
  passes = λ a b e t u among also here there over.
      let target = own_there part t (not (t.token.total == 0) && not t.alternate.t) b (m.elements a t here) over.leads in
      let first = same a t here in
      let second = same e u there in
      let third = same b target.qtd target.here in
      let after = over.after in
      let before = over.before in
      k.passes a b e t u among also here there (record { done = over.done; goes_on = over.goes_on; leads = over.leads; after = omega (arith, after, first, second); before = omega (arith, before, second, third) });
}
