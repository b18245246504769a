-- Each event keeps what is sent whole, and in turn.
use Rattle.std.proofs.Common.{◌≡◌, ◌≢◌, ℕ, ◌<◌, ◌≤◌, ◌==◌, ◌&&◌, not, Bool, true, false, if◌then◌else◌, List, [], ◌∷◌, Some, ap, refl, sym, subst, ◌∙◌, ⊎_elim, inl, inr, arith}
use Rattle.std.specs.Prelude.{◌⊎◌}
use Rattle.std.proofs.lemmas.Bool.{cases_eq, cases_lt, true≢false}
use Rattle.law_controller.proofs.Common.{lower_one}
use Rattle.law_ring.proofs.Common.{through_head, through_bytes}
use Rattle.usb_base.specs.declared.packets.Ask.{Ask}
use Rattle.usb_base.specs.declared.packets.Reply.{Reply}
use Rattle.link_words.specs.declared.fields.ShortLink.{ShortLink}
use Rattle.link_words.specs.Links.{qtd_link_of}
use Rattle.qh_qtd.specs.declared.qtd.Qtd.{Qtd}
use Rattle.qh_qtd.specs.declared.queue_head.Qh.{Qh}
use Rattle.hc_copy.specs.Overlay.{advanced, moved}
use Rattle.hc_copy.specs.Visits.{next_pointer}
use Rattle.hc_copy.specs.WriteBack.{moved_by}
use Rattle.async_walk.specs.declared.state.WalkStep.{WalkStep}
use Rattle.law_structures.specs.lent_structures.Changes.{relinked}
use Rattle.law_structures.specs.lent_structures.Structures.{QueueHead, Element, Structures, StructureSets, put}
use Rattle.law_structures.proofs.lemmas.lent_structures.Names.{put_same, put_beside, put_found}
use Rattle.law_structures.specs.lent_structures.WriteBack.{Received, received_parts, qtd_after}
use Rattle.law_structures.specs.lent_structures.Sound.{IsWorking, IsSoundQueue}
use Rattle.law_structures.proofs.lemmas.lent_structures.Altering.{found_queue, found_element}
use Rattle.law_ring.specs.Hand.{Copy, Settlement, settled_queue_of, Hand, Settled}
use Rattle.law_ring.specs.Ring.{IsCopied, IsSettled, IsInHand}
use Rattle.law_ring.specs.QueueParts.{IsQueuePart}
use Rattle.law_ring.specs.Effects.{received_into, taken, Takes, Makes, Effect, Asks}
use Rattle.law_ring.specs.Effects.Effect.{reads, passes, ends, takes, makes, writes_back}
use Rattle.law_ring.proofs.QueueParts.{member_part}
use Rattle.law_ring.proofs.Keeping.{IsUnsettled, empty_unsettled, copied_unsettled}
use Rattle.law_ring.proofs.Growing.{ring_asks}
use Rattle.law_ring.proofs.Written.{WritesCopy, beside, head_now, current_now, ring_writes}
use Rattle.law_ring.specs.Streams.{AreMembers}
use Rattle.law_ring.specs.Order.{IsSorted, IsAmong, Accounts}
use Rattle.law_controller.specs.controlled_streams.Control.{a_microframe, a_step}
use Rattle.law_ring.specs.OutPipes.{IsOut}
use Rattle.law_queues.specs.whole_sends.Whole.{EndsWhole, IsFirst, GoesInTurn, AreSentWhole}
use Rattle.law_queues.specs.whole_sends.Laws.{WalkKeepsWhole, ControlKeepsWhole}
use Rattle.law_queues.proofs.lemmas.whole_sends.Ending.{ends_whole}

-- ---- an order

-- no two of those in order have one number
pub apart : (order : ℕ → ℕ) (a b : ℕ) (es : List ℕ) → IsSorted order es → IsAmong a es → IsAmong b es → a ≢ b → order a ≢ order b
apart order a b [] sorted one other differs same = absurd one
apart order a b (e ∷ es) sorted (inl first) (inl second) differs same = differs (first ∙ sym second)
apart order a b (e ∷ es) sorted (inl first) (inr other) differs same = let less = lower_one order e b es sorted.0 other in let at = ap order first in omega (arith, less, at, same)
apart order a b (e ∷ es) sorted (inr one) (inl second) differs same = let less = lower_one order e a es sorted.0 one in let at = ap order second in omega (arith, less, at, same)
apart order a b (e ∷ es) sorted (inr one) (inr other) differs same = apart order a b es sorted.1 one other differs same

-- ---- what is in hand

pub with_hand : (order : ℕ → ℕ) (out : List ℕ) (hand later : Hand) (n : ℕ) (part : Structures) → EndsWhole later n
    → AreSentWhole order out hand n part → AreSentWhole order out later n part
with_hand order out hand later n part ends_now k = record
    { whole = k.whole; ends = ends_now; goes_on = k.goes_on; before = k.before; turn = k.turn; next = k.next }

-- this queue head's structures are as they were
pub same_whole : (order : ℕ → ℕ) (out : List ℕ) (hand later : Hand) (n : ℕ) (parts now : StructureSets) → now n ≡ parts n
    → EndsWhole later n → AreSentWhole order out hand n (parts n) → AreSentWhole order out later n (now n)
same_whole order out hand later n parts now is ends_so k = subst (AreSentWhole order out later n) (sym is)
    (with_hand order out hand later n (parts n) ends_so k)

pub unsettled_ends : (hand : Hand) (n : ℕ) → IsUnsettled hand → EndsWhole hand n
unsettled_ends (Settled c z) n un = absurd (un c z refl)
unsettled_ends _ n un = tt

-- a transaction of an OUT ends its qTD whole, or halts
pub asked_ends : {W : Type 0} (transacts : W → Ask → List ℕ → Reply → W → Type 0) (parts : StructureSets) (hand : Hand) (wire after : W)
    (later : Hand) (n : ℕ) → IsOut (parts n) → Asks transacts parts hand wire after later → EndsWhole later n
asked_ends transacts parts hand wire after later n outs m =
    subst (λ (h : Hand). EndsWhole h n) (sym m.later_is) (λ at off goes.
    let k : IsQueuePart m.copy.at (parts m.copy.at) = m.part_is in
    let sound : IsSoundQueue (parts m.copy.at) m.copy.queue = subst (IsSoundQueue (parts m.copy.at))
    (found_queue (parts m.copy.at m.copy.at) k.queue m.copy.queue k.here m.here) k.sound in
    let w : IsWorking (parts m.copy.at) m.copy.queue = sound.work m.works in
    let is : m.copy.at ≡ n = sym m.at_same ∙ at in
    ends_whole m.kind m.copy.queue m.out m.last m.reply m.works
    (w.pid ∙ outs m.copy.queue.current w.element (ap (λ (i : ℕ). parts i m.copy.queue.current) (sym is) ∙ w.here) w.published) off goes)

-- ---- the qTD that is taken or written

advanced_is : (q : Qh) (a : ℕ) (t : Qtd) → ((advanced q a t).token.active ≡ t.token.active) × ((advanced q a t).current ≡ a)
unfolding advanced
advanced_is q a t = (refl, refl)

-- once no bytes are left the next pointer is followed
goes_next : (q : Qh) (l : ShortLink) → q.token.total ≡ 0 → q.next ≡ l → next_pointer q ≡ l
goes_next q l none next = ap (λ (n : ℕ). if not (n == 0) && not q.alternate.t then q.alternate else q.next) none ∙ next

-- ---- a qTD is taken

module _ (parts : StructureSets) (hand : Hand) (now : StructureSets) (later : Hand) (order : ℕ → ℕ) (out : List ℕ) (n : ℕ)
    (t : Takes parts hand now later) (there : parts t.copy.at t.copy.at ≡ Some (QueueHead t.copy.queue)) (held held_later : Hand)
    (k : AreSentWhole order out held n (parts n)) (ends_so : EndsWhole held_later n) where
  abbrev new_taken : Qh
  new_taken = advanced t.copy.queue t.element t.qtd

  abbrev put_now : StructureSets
  put_now = put parts t.copy.at t.copy.at (QueueHead (advanced t.copy.queue t.element t.qtd))

  was_before : (a : ℕ) (u : Qtd) → now n a ≡ Some (Element u) → parts n a ≡ Some (Element u)
  was_before a u found = through_head parts t.copy.at new_taken n a u (sym (ap (λ (ps : StructureSets). ps n a) t.now_is) ∙ found)

  taken_whole : n ≡ t.copy.at → AreSentWhole order out held_later n (now n)
  taken_whole is =
      let q : Qh = t.copy.queue in
      let head : parts n n ≡ Some (QueueHead q) = ap (λ (i : ℕ). parts i i) is ∙ there in
      let new_there : now n n ≡ Some (QueueHead new_taken) = ap (λ (ps : StructureSets). ps n n) t.now_is ∙ ap
      (λ (i : ℕ). put_now i i) is ∙ put_same parts t.copy.at t.copy.at (QueueHead new_taken) in
      let is_new = advanced_is q t.element t.qtd in
      let first : IsFirst order (parts n) t.element = (k.turn q head).rest t.element t.goes_on t.idle t.leads in
      let turned : GoesInTurn order (now n) new_taken = record {
        work = λ on a u found active. subst (λ (i : ℕ). order i ≤ order a) (sym is_new.1) (first a u (was_before a u found) active);
        rest = λ b goes idle to. absurd (true≢false (sym (is_new.0 ∙ t.published) ∙ idle));
      } in
      record {
        whole = λ a u found off goes. k.whole a u (was_before a u found) off goes;
        ends = ends_so;
        goes_on = λ r a u here goes found off. k.goes_on q a u head t.goes_on (was_before a u found) off;
        before = λ a b v u among one other less off. k.before a b v u among (was_before a v one) (was_before b u other) less off;
        turn = λ r here. subst (GoesInTurn order (now n)) (found_queue (now n n) new_taken r new_there here) turned;
        next = λ c a b v u one other on active less to. k.next c a b v u (was_before c v one) (was_before a u other) on active less to;
      }

  pub take_sends : AreSentWhole order out held_later n (now n)
  take_sends =
      ⊎_elim taken_whole
      (λ (differs : n ≢ t.copy.at). same_whole order out held held_later n parts now
      (ap (λ (ps : StructureSets). ps n) t.now_is ∙ put_beside parts t.copy.at t.copy.at (QueueHead new_taken) n differs) ends_so k)
      (cases_eq n t.copy.at)

-- ---- a transaction is written back

module _ (parts : StructureSets) (hand : Hand) (now : StructureSets) (later : Hand) (c : Copy) (z : Settlement) (x : Qh)
    (w : WritesCopy parts hand now later c z x) (order : ℕ → ℕ) (out : List ℕ) (n : ℕ) (sound : IsQueuePart c.at (parts c.at))
    (sorted : IsSorted order out)
    (complete : (a : ℕ) (t : Qtd) → parts n a ≡ Some (Element t) → t.token.active ≡ true → IsAmong a out)
    (k : AreSentWhole order out hand n (parts n)) where
  abbrev new_head : Qh
  new_head = relinked c.queue (moved x (moved_by z.outcome))

  abbrev new_element : Qtd
  new_element = qtd_after (moved x (moved_by z.outcome)) w.element

  abbrev current : ℕ
  current = c.queue.current

  works : IsWorking (parts c.at) c.queue
  works = (subst (IsSoundQueue (parts c.at)) (found_queue (parts c.at c.at) sound.queue c.queue sound.here w.head) sound.sound).work w.works

  element_is : works.element ≡ w.element
  element_is = found_element (parts c.at current) works.element w.element works.here w.here

  published : w.element.token.active ≡ true
  published = ap (λ (t : Qtd). t.token.active) (sym element_is) ∙ works.published

  ends_now : EndsWhole later n
  ends_now = unsettled_ends later n w.unsettled

  -- the queue head worked, so none was halted
  goes : c.queue.token.halted ≡ false
  goes = works.goes_on

  working_token : z.host.active ≡ true → new_element ≡ w.element
  working_token on = ap (λ (b : Bool). if b then w.element else record w.element { token = new_head.token }) (w.written.active ∙ on)

  abbrev ended_one : Qtd
  ended_one = record w.element { token = new_head.token }

  ended_token : z.host.active ≡ false → new_element ≡ ended_one
  ended_token off = ap (λ (b : Bool). if b then w.element else record w.element { token = new_head.token }) (w.written.active ∙ off)

  module _ (is : n ≡ c.at) where
    head : parts n n ≡ Some (QueueHead c.queue)
    head = ap (λ (i : ℕ). parts i i) is ∙ w.head

    here : parts n current ≡ Some (Element w.element)
    here = ap (λ (i : ℕ). parts i current) is ∙ w.here

    new_there : now n n ≡ Some (QueueHead new_head)
    new_there = ap (λ (i : ℕ). now i i) is ∙ head_now parts hand now later c z x w

    element_there : now n current ≡ Some (Element new_element)
    element_there = ap (λ (i : ℕ). now i current) is ∙ current_now parts hand now later c z x w

    -- each other qTD was as it is
    was : (a : ℕ) (u : Qtd) → now n a ≡ Some (Element u) → a ≢ current → parts n a ≡ Some (Element u)
    was a u found differs =
        let received : Received = received_into (parts c.at) c.queue w.element z.got in
        let first_put : StructureSets = received_parts parts c.at z.got received in
        let mid : StructureSets = put first_put c.at c.at (QueueHead new_head) in
        ⊎_elim (λ (last : (n ≡ c.at) × (a ≡ x.current) × (Element u ≡ Element new_element)). absurd (differs (last.1 ∙ w.settled.current)))
        (λ (there : mid n a ≡ Some (Element u)). through_bytes parts c.at z.got received n a u
        (through_head first_put c.at new_head n a u there))
        (put_found mid c.at x.current (Element new_element) n a (Element u) (sym (ap (λ (ps : StructureSets). ps n a) w.now_is) ∙ found))

    first : IsFirst order (parts n) current
    first = (k.turn c.queue head).work w.works

    -- it works on
    works_on : z.host.active ≡ true → AreSentWhole order out later n (now n)
    works_on on = record {
      whole = λ a u found off goes_now. k.whole a u (old a u found) off goes_now;
      ends = ends_now;
      goes_on = λ r a u at goes_now found off. k.goes_on c.queue a u head goes (old a u found) off;
      before = λ a b v u among one other less off. k.before a b v u among (old a v one) (old b u other) less off;
      turn = λ r at. subst (GoesInTurn order (now n)) (found_queue (now n n) new_head r new_there at) turned;
      next = λ e a b v u one other active too less to. k.next e a b v u (old e v one) (old a u other) active too less to;
    }
      where
        old : (a : ℕ) (u : Qtd) → now n a ≡ Some (Element u) → parts n a ≡ Some (Element u)
        old a u found =
            ⊎_elim (λ (same : a ≡ current).
            let it : u ≡ w.element = found_element (now n current) u w.element (ap (now n) (sym same) ∙ found)
            (element_there ∙ ap (λ (t : Qtd). Some (Element t)) (working_token on)) in
            ap (parts n) same ∙ here ∙ ap (λ (t : Qtd). Some (Element t)) (sym it))
            (λ (differs : a ≢ current). was a u found differs) (cases_eq a current)

        turned : GoesInTurn order (now n) new_head
        turned = record {
          work = λ active a u found too. subst (λ (i : ℕ). order i ≤ order a) (sym w.written.current) (first a u (old a u found) too);
          rest = λ b goes_now idle to. absurd (true≢false (sym on ∙ sym w.written.active ∙ idle));
        }

    -- the qTD is done
    done : z.host.active ≡ false → AreSentWhole order out later n (now n)
    done off = record {
      whole = λ a u found over goes_now.
          ⊎_elim (λ (same : a ≡ current).
          let it : u ≡ ended_one = this_one a u same found in
          ap (λ (t : Qtd). t.token.total) it ∙ w.written.total ∙ left_none
          (sym w.written.halted ∙ ap (λ (t : Qtd). t.token.halted) (sym it) ∙ goes_now))
          (λ (differs : a ≢ current). k.whole a u (was a u found differs) over goes_now) (cases_eq a current);
      ends = ends_now;
      goes_on = λ r a u at goes_now found over.
          ⊎_elim (λ (same : a ≡ current). ap (λ (t : Qtd). t.token.halted) (this_one a u same found) ∙ ap (λ (q : Qh). q.token.halted)
          (found_queue (now n n) new_head r new_there at) ∙ goes_now)
          (λ (differs : a ≢ current). k.goes_on c.queue a u head goes (was a u found differs) over) (cases_eq a current);
      before = λ a b v u among one other less over. stands_before a b v u among one other less over;
      turn = λ r at. subst (GoesInTurn order (now n)) (found_queue (now n n) new_head r new_there at) turned;
      next = λ e a b v u one other on too less to. k.next e a b v u (was e v one (not_this e v one on))
          (was a u other (not_this a u other too)) on too less to;
    }
      where
        this_one : (a : ℕ) (u : Qtd) → a ≡ current → now n a ≡ Some (Element u) → u ≡ ended_one
        this_one a u same found = found_element (now n current) u ended_one (ap (now n) (sym same) ∙ found)
            (element_there ∙ ap (λ (t : Qtd). Some (Element t)) (ended_token off))

        left_none : z.host.halted ≡ false → z.host.left ≡ 0
        left_none goes_now = (subst (λ (h : Hand). EndsWhole h n) w.in_hand k.ends) (sym is) off goes_now

        -- an active one is another
        not_this : (a : ℕ) (u : Qtd) → now n a ≡ Some (Element u) → u.token.active ≡ true → a ≢ current
        not_this a u found on same = true≢false (sym on ∙ ap (λ (t : Qtd). t.token.active)
            (this_one a u same found) ∙ w.written.active ∙ off)

        -- what stood before it was done, for it was the first
        passed : (a : ℕ) (v : Qtd) → parts n a ≡ Some (Element v) → order a < order current → (v.token.active ≡ false) × (v.token.halted ≡ false)
        passed a v there less = by v.token.active refl
          where
            by : (b : Bool) → v.token.active ≡ b → (v.token.active ≡ false) × (v.token.halted ≡ false)
            by true on = absurd (let from = first a v there on in omega (arith, from, less))
            by false over = (over, k.goes_on c.queue a v head goes there over)

        stands_before : (a b : ℕ) (v u : Qtd) → IsAmong b out → now n a ≡ Some (Element v) → now n b ≡ Some (Element u) → order a < order b → u.token.active ≡ false → (v.token.active ≡ false) × (v.token.halted ≡ false)
        stands_before a b v u among one other less over =
            ⊎_elim (λ (same : b ≡ current).
            let at = ap order same in
            let differs : a ≢ current = λ too. let e = ap order too in omega (arith, e, at, less) in
            passed a v (was a v one differs) (omega (arith, less, at)))
            (λ (differs : b ≢ current).
            ⊎_elim (λ (same : a ≡ current). absurd (true≢false (sym published ∙ (k.before current b w.element u among here (was b u other differs) (let at = ap order same in omega (arith, at, less)) over).0)))
            (λ (too : a ≢ current). k.before a b v u among (was a v one too) (was b u other differs) less over) (cases_eq a current)) (cases_eq b current)

        turned : GoesInTurn order (now n) new_head
        turned = record {
          work = λ on. absurd (true≢false (sym on ∙ w.written.active ∙ off));
          rest = λ b goes_now idle to a u found on.
              let v = w.written in
              let none : new_head.token.total ≡ 0 = v.total ∙ left_none (sym v.halted ∙ goes_now) in
              let pointer : next_pointer new_head ≡ w.element.next = goes_next new_head w.element.next none (v.next ∙ works.next ∙ ap (λ (t : Qtd). t.next) element_is) in
              let differs : a ≢ current = not_this a u found on in
              let there : parts n a ≡ Some (Element u) = was a u found differs in
              let from : order current ≤ order a = first a u there on in
              let other : order current ≢ order a = apart order current a out sorted (complete current w.element here published)
              (complete a u there on) (λ same. differs (sym same)) in
              let less : order current < order a = ⊎_elim (λ (below : order current < order a). below) (λ (most : order a ≤ order current). absurd (other (omega (arith, from, most)))) (cases_lt (order current) (order a)) in
              k.next current a b w.element u here there published on less (ap qtd_link_of (sym pointer) ∙ to);
        }

    by_active : (b : Bool) → z.host.active ≡ b → AreSentWhole order out later n (now n)
    by_active true on = works_on on
    by_active false off = done off

  pub write_sends : AreSentWhole order out later n (now n)
  write_sends =
      ⊎_elim (λ (is : n ≡ c.at). by_active is z.host.active refl)
      (λ (differs : n ≢ c.at). same_whole order out hand later n parts now (beside parts hand now later c z x w n differs) ends_now k)
      (cases_eq n c.at)

-- ---- an event of a ring's walk

module _ {W : Type 0} (transacts : W → Ask → List ℕ → Reply → W → Type 0) (member : ℕ → Bool) (parts : StructureSets) (hand : Hand)
    (reply : Reply) (wire after : W) (now : StructureSets) (later : Hand) (order : ℕ → ℕ) (out : List ℕ) (n : ℕ)
    (members : AreMembers member parts) (in_hand : IsInHand member parts reply hand) (outs : IsOut (parts n))
    (sorted : IsSorted order out) (complete : (a : ℕ) (t : Qtd) → parts n a ≡ Some (Element t) → t.token.active ≡ true → IsAmong a out)
    (k : AreSentWhole order out hand n (parts n)) where
  unmoved : now n ≡ parts n → EndsWhole later n → AreSentWhole order out later n (now n)
  unmoved is ends_so = same_whole order out hand later n parts now is ends_so k

  asked : (m : Makes transacts parts hand wire after later) → Asks transacts parts hand wire after later
  asked m =
      let copied : IsCopied member parts m.copy = subst (IsInHand member parts reply) m.in_hand in_hand in
      ring_asks transacts parts hand wire after later m (member_part member m.copy.at (parts m.copy.at) (members m.copy.at copied.on))
      copied.here

  pub whole_by : (kind : WalkStep) → Effect transacts parts hand wire after now later kind → AreSentWhole order out later n (now n)
  whole_by kind (reads r all_same quiet) = unmoved (ap (λ (ps : StructureSets). ps n) all_same)
      (unsettled_ends later n (copied_unsettled later r.copy r.in_hand))
  whole_by kind (passes r all_same quiet) = unmoved (ap (λ (ps : StructureSets). ps n) all_same)
      (unsettled_ends later n (empty_unsettled later r.nothing))
  whole_by kind (ends r all_same quiet) = unmoved (ap (λ (ps : StructureSets). ps n) all_same)
      (unsettled_ends later n (empty_unsettled later r.nothing))
  whole_by kind (makes m all_same) = unmoved (ap (λ (ps : StructureSets). ps n) all_same)
      (asked_ends transacts parts hand wire after later n outs (asked m))
  whole_by kind (takes t quiet) =
      let copied : IsCopied member parts t.copy = subst (IsInHand member parts reply) t.in_hand in_hand in
      take_sends parts hand now later order out n t copied.here hand later k
      (unsettled_ends later n (copied_unsettled later (taken t.copy t.element t.qtd) t.later_is))
  whole_by kind (writes_back w quiet) =
      let both : IsCopied member parts w.copy × IsSettled w.copy.queue reply w.settled = subst
      (IsInHand member parts reply) w.in_hand in_hand in
      write_sends parts hand now later w.copy w.settled (settled_queue_of w.copy w.settled)
      (ring_writes member parts hand now later w reply both.0 both.1) order out n
      (member_part member w.copy.at (parts w.copy.at) (members w.copy.at both.0.on)) sorted complete k

pub walk_keeps_whole : {W : Type 0} (transacts : W → Ask → List ℕ → Reply → W → Type 0) → WalkKeepsWhole transacts
walk_keeps_whole transacts member parts hand reply wire after now later kind order place out n told members in_hand effect outs acc k =
    whole_by transacts member parts hand reply wire after now later order out n members in_hand outs acc.sorted acc.complete k kind effect

pub control_keeps_whole : {W : Type 0} (begins : W → ℕ → Bool → W → Type 0) (transacts : W → Ask → List ℕ → Reply → W → Type 0) → ControlKeepsWhole begins transacts
control_keeps_whole begins transacts member parts hand reply wire after now later order place out n told members in_hand (a_microframe b) outs acc k =
    subst (λ (h : Hand). AreSentWhole order out h n (now n)) (sym b.hand_stays) (subst (λ (ps : StructureSets). AreSentWhole order out hand n (ps n)) (sym b.parts_stay) k)
control_keeps_whole begins transacts member parts hand reply wire after now later order place out n told members in_hand (a_step s) outs acc
    k =
    whole_by transacts member parts hand reply wire after now later order out n members in_hand outs acc.sorted acc.complete k s.kind
    s.effect
