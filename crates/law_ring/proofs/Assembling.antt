-- The pipe of an OUT endpoint after each event.
use Rattle.std.proofs.Common.{◌≡◌, ◌≢◌, ℕ, ◌-◌, ◌==◌, min, Bool, true, false, not, if◌then◌else◌, List, [], ◌++◌, take, drop, Option, Some, ap, refl, sym, subst, ◌∙◌, ⊎_elim, inl, inr, arith}
use Rattle.std.specs.Prelude.{◌⊎◌}
use Rattle.std.proofs.lemmas.Bool.{cases_eq, eq-eqb, false≢true}
use Rattle.std.proofs.lemmas.List.{append-nil}
use Rattle.law_ring.proofs.Common.{bytes_beside_element, by_none}
use Rattle.law_common.proofs.Numbers.{other_number}
use Rattle.usb_base.specs.declared.packets.Ask.{Ask}
use Rattle.usb_base.specs.declared.packets.Pid.TheVariants as Packets
use Rattle.usb_base.specs.declared.packets.Reply.{Reply}
use Rattle.qh_qtd.specs.declared.qtd.Qtd.{Qtd}
use Rattle.qh_qtd.specs.declared.queue_head.Qh.{Qh}
use Rattle.transactions.specs.Asks.{pinged}
use Rattle.hc_copy.specs.Overlay.{settled_queue, buffer_place, moved, advanced}
use Rattle.hc_copy.specs.Planning.{pid_at, transaction_of}
use Rattle.hc_copy.specs.Transacting.{call_in}
use Rattle.hc_copy.specs.WriteBack.{moved_by}
use Rattle.async_walk.specs.declared.state.WalkStep.{WalkStep}
use Rattle.async_walk.specs.Naks.{kind_at}
use Rattle.law_structures.specs.lent_structures.Settles.{is_moved}
use Rattle.law_structures.specs.lent_structures.Structures.{QueueHead, Element, Structures, StructureSets, put}
use Rattle.law_structures.specs.lent_structures.Changes.{relinked}
use Rattle.law_structures.proofs.lemmas.lent_structures.Names.{put_beside, put_here}
use Rattle.law_structures.specs.lent_structures.WriteBack.{CanBeWritten, Nothing, qtd_after, parts_back}
use Rattle.law_structures.proofs.lemmas.lent_structures.WrittenBack.{between_element}
use Rattle.law_structures.proofs.lemmas.lent_structures.Found.{back_head, back_beside}
use Rattle.law_structures.specs.lent_structures.Sound.{buffer_name, IsWorking, IsSoundQueue, IsMember}
use Rattle.law_structures.specs.lent_structures.Alters.{HadElement, Alters}
use Rattle.law_structures.proofs.lemmas.lent_structures.Altering.{found_queue, found_element}
use Rattle.law_structures.proofs.lemmas.lent_structures.Members.{still_active}
use Rattle.law_ring.specs.Hand.{Copy, Settlement, settled_queue_of, Hand, Empty, Copied, Settled}
use Rattle.law_ring.specs.Ring.{IsCopied, IsSettled, IsInHand}
use Rattle.law_ring.specs.Effects.{bytes_in, buffer_of, AreSent, received_into, settlement, counted, taken, Takes, Makes, WritesBack, Effect, Asks, came_to}
use Rattle.law_ring.specs.QueueParts.{IsQueuePart}
use Rattle.law_ring.specs.Effects.Effect.{reads, passes, ends, takes, makes, writes_back}
use Rattle.law_ring.proofs.Writing.{settled_copy, settled_range, is_written, queue_written}
use Rattle.law_ring.specs.Told.{hand_toggle, HasToggle, Endpoint, endpoint_of, HasEndpoint, SameTold}
use Rattle.law_ring.specs.Streams.{AreMembers, moved_bytes, Grows, NoneBeside, StreamEffect}
use Rattle.law_ring.specs.Streams.StreamEffect.{same, aside, grows}
use Rattle.law_ring.proofs.Keeping.{copied_unsettled, unsettled_toggle, bytes_beside_head}
use Rattle.law_ring.proofs.Altered.{effect_alters}
use Rattle.law_ring.specs.Order.{bytes_of_effect}
use Rattle.law_ring.specs.OutBus.{Taker, IsOutAsk, IsOutBus}
use Rattle.law_ring.specs.OutPipes.{IsOut, IsNext, IsUnmoved, OutAgrees, level, ahead, ended, IsOutPipe}
use Rattle.law_ring.specs.OutPipeLaws.{SendsNone, IsBeside, IsOnlyEndpoint}
use Rattle.law_ring.proofs.Stopping.{out_only}
use Rattle.law_ring.proofs.Transporting.{carried, out_still}
use Rattle.law_ring.proofs.OutPipeEvents.{unmoved_made, made_by}

-- ---- a write-back without bytes leaves all buffers

endpoint_written : (c : Copy) (z : Settlement) → endpoint_of (queue_written c z) ≡ endpoint_of c.queue
unfolding moved settled_queue
endpoint_written c z = refl

silent_bytes : (parts : StructureSets) (n : ℕ) (q c : Qh) (count : ℕ) (t : Qtd) (a : ℕ) → CanBeWritten parts n n q c [] Nothing t → bytes_in (parts_back parts n n q c count [] Nothing t n a) ≡ bytes_in (parts n a)
silent_bytes parts n q c count t a can =
    let mid : StructureSets = put parts n n (QueueHead (relinked q (moved c count))) in
    ap (λ (part : Structures). bytes_in (part a)) (put_here mid n c.current (Element (qtd_after (moved c count) t)))
    ∙ bytes_beside_element (mid n) c.current t (qtd_after (moved c count) t) a (between_element parts n n q c (moved c count) [] Nothing t can)
    ∙ ap (λ (part : Structures). bytes_in (part a)) (put_here parts n n (QueueHead (relinked q (moved c count)))) ∙ bytes_beside_head (parts n) n q (relinked q (moved c count)) a can.copy.head

module _ {W : Type 0} (transacts : W → Ask → List ℕ → Reply → W → Type 0) (stream : ℕ → ℕ → Bool) (taker : W → ℕ → ℕ → Option Taker) (bus : IsOutBus transacts stream taker) (member : ℕ → Bool) (parts : StructureSets) (hand : Hand) (reply : Reply) (wire after : W) (now : StructureSets) (later : Hand) (n : ℕ) (x : Endpoint) (known : List ℕ) (members : AreMembers member parts) (members_now : AreMembers member now) (in_hand : IsInHand member parts reply hand) (only : IsOnlyEndpoint stream member parts n x) (pipe : IsOutPipe (taker wire x.addr x.ep) known parts hand n x) where
  -- ---- a write-back

  -- the qTD goes on: its next packet is the same
  next_still : (w : WritesBack parts hand now later) → n ≡ w.copy.at → IsSettled w.copy.queue reply w.settled → CanBeWritten parts w.copy.at w.copy.at w.copy.queue (settled_queue_of w.copy w.settled) w.settled.got (received_into (parts w.copy.at) w.copy.queue w.element w.settled.got) w.element
      → Alters (parts n) (now n) → parts n n ≡ Some (QueueHead w.copy.queue) → now n n ≡ Some (QueueHead (queue_written w.copy w.settled)) → w.copy.queue.token.pid ≡ 0 → is_moved w.settled.outcome ≡ false → w.settled.host.active ≡ true → (y : List ℕ) → IsNext (parts n) w.copy.queue y → IsNext (now n) (queue_written w.copy w.settled) y
  next_still w is settled can alters head head_now pid still on y next =
      let q : Qh = w.copy.queue in
      let r : Qh = queue_written w.copy w.settled in
      let v = is_written w.copy w.settled in
      let m0 : IsMember member n (parts n) = members n only.on in
      let m1 : IsMember member n (now n) = members_now n only.on in
      let w0 : IsWorking (parts n) q = (subst (IsSoundQueue (parts n)) (found_queue (parts n n) m0.queue q m0.here head) m0.sound).work settled.works in
      let w1 : IsWorking (now n) r = (subst (IsSoundQueue (now n)) (found_queue (now n n) m1.queue r m1.here head_now) m1.sound).work (v.active ∙ on) in
      let had : HadElement (parts n) r.current w1.element = alters.element_before r.current w1.element w1.here in
      let kept : w1.element ≡ had.qtd = still_active had.qtd w1.element had.after w1.published in
      let t0_is : w0.element ≡ next.element = found_element (parts n q.current) w0.element next.element w0.here next.here in
      let t1_is : w1.element ≡ next.element = kept ∙ found_element (parts n q.current) had.qtd next.element (ap (parts n) (sym v.current) ∙ had.here) next.here in
      let none : w.settled.got ≡ [] = settled.bytes.none (λ e. not_in (ap pid_at (sym pid) ∙ e)) in
      let zero = by_none w.settled.outcome still in
      let left = settled.host.left in
      let total_is = v.total in
      let total : r.token.total ≡ q.token.total = omega (arith, zero, left, total_is) in
      let place0 = w0.place in
      let place1 = w1.place in
      let o0 = ap (λ (u : Qtd). u.offset) t0_is in
      let o1 = ap (λ (u : Qtd). u.offset) t1_is in
      let e0 = ap (λ (u : Qtd). u.token.total) t0_is in
      let e1 = ap (λ (u : Qtd). u.token.total) t1_is in
      let place : buffer_place r ≡ buffer_place q = omega (arith, place0, place1, total, o0, o1, e0, e1) in
      let max : r.max ≡ q.max = ap (λ (e : Endpoint). e.max) (endpoint_written w.copy w.settled) in
      let back : List ℕ → StructureSets = λ (got : List ℕ). parts_back parts w.copy.at w.copy.at q (settled_queue_of w.copy w.settled) (moved_by w.settled.outcome) got (received_into (parts w.copy.at) q w.element got) w.element in
      let quiet : CanBeWritten parts w.copy.at w.copy.at q (settled_queue_of w.copy w.settled) [] Nothing w.element = record { copy = can.copy; element = can.element; received = refl } in
      let bytes : bytes_in (now n (buffer_name next.element)) ≡ bytes_in (parts n (buffer_name next.element)) =
      ap (λ (ps : StructureSets). bytes_in (ps n (buffer_name next.element))) w.now_is ∙ ap (λ (got : List ℕ). bytes_in (back got n (buffer_name next.element))) none
      ∙ ap (λ (i : ℕ). bytes_in (back [] i (buffer_name next.element))) is
      ∙ silent_bytes parts w.copy.at q (settled_queue_of w.copy w.settled) (moved_by w.settled.outcome) w.element (buffer_name next.element) quiet ∙ ap (λ (i : ℕ). bytes_in (parts i (buffer_name next.element))) (sym is) in
      record {
        element = next.element;
        here = w1.here ∙ ap (λ (u : Qtd). Some (Element u)) t1_is;
        is = next.is ∙ ap (λ (i : ℕ). take (min i q.token.total) (drop (buffer_place q - next.element.offset) (buffer_of (parts n) next.element))) (sym max)
            ∙ ap (λ (i : ℕ). take (min r.max i) (drop (buffer_place q - next.element.offset) (buffer_of (parts n) next.element))) (sym total)
            ∙ ap (λ (i : ℕ). take (min r.max r.token.total) (drop (i - next.element.offset) (buffer_of (parts n) next.element))) (sym place)
            ∙ ap (λ (ys : List ℕ). take (min r.max r.token.total) (drop (buffer_place r - next.element.offset) ys)) (sym bytes);
      }
    where
      not_in : Packets.Out ≡ Packets.In → ⊥
      not_in e = cc

  -- ---- the queue head as it was

  abbrev s : Taker
  s = pipe.taker

  unmoved_at : (l : Hand) → later ≡ l → IsUnmoved l n → IsUnmoved later n
  unmoved_at l is un = subst (λ (x : Hand). IsUnmoved x n) (sym is) un

  still : now n ≡ parts n → IsUnmoved later n → (t : HasToggle later now n pipe.toggle) → OutAgrees (now n) later n t.queue pipe.toggle known s
  still is un t = carried (parts n) (now n) hand later n pipe.expects.queue t.queue pipe.toggle known s is (found_queue (parts n n) t.queue pipe.expects.queue (sym (ap (λ (part : Structures). part n) is) ∙ t.head) pipe.expects.head) un pipe.agrees

  -- ---- a qTD is taken

  leveled : (q r : Qh) → q.token.active ≡ false → q.token.halted ≡ false → OutAgrees (parts n) hand n q pipe.toggle known s → OutAgrees (now n) later n r pipe.toggle known s
  leveled q r idle goes (level e t) = level e t
  leveled q r idle goes (ahead y e t own on next un) = absurd (false≢true (sym idle ∙ on))
  leveled q r idle goes (ended y e t off halted) = absurd (false≢true (sym goes ∙ halted))

  agreed_taking : (k : Takes parts hand now later) → (t : HasToggle later now n pipe.toggle) → OutAgrees (now n) later n t.queue pipe.toggle known s
  agreed_taking k t =
      let copied : IsCopied member parts k.copy = subst (IsInHand member parts reply) k.in_hand in_hand in
      ⊎_elim (λ (is : n ≡ k.copy.at). let here : parts n n ≡ Some (QueueHead k.copy.queue) = ap (λ (i : ℕ). parts i i) is ∙ copied.here in
      leveled k.copy.queue t.queue k.idle k.goes_on (subst (λ (q : Qh). OutAgrees (parts n) hand n q pipe.toggle known s) (found_queue (parts n n) pipe.expects.queue k.copy.queue pipe.expects.head here) pipe.agrees))
      (λ (differs : n ≢ k.copy.at). still (ap (λ (ps : StructureSets). ps n) k.now_is ∙ put_beside parts k.copy.at k.copy.at (QueueHead (advanced k.copy.queue k.element k.qtd)) n differs) (unmoved_at (Copied (taken k.copy k.element k.qtd)) k.later_is tt) t)
      (cases_eq n k.copy.at)

  -- ---- a transaction that told nothing

  agreed_making : (k : Makes transacts parts hand wire after later) → now ≡ parts → (t : HasToggle later now n pipe.toggle) → OutAgrees (now n) later n t.queue pipe.toggle known s
  agreed_making k all t =
      let copied : IsCopied member parts k.copy = subst (IsInHand member parts reply) k.in_hand in_hand in
      let z : Settlement = settlement k.copy.queue k.out k.reply in
      let un : k.copy.at ≡ n → (is_moved z.outcome ≡ false) × (z.host.active ≡ false → z.host.halted ≡ true) = λ is.
      let here : parts n n ≡ Some (QueueHead k.copy.queue) = ap (λ (i : ℕ). parts i i) (sym is) ∙ copied.here in
      let before : pipe.toggle ≡ k.copy.queue.token.toggle = pipe.expects.is ∙ unsettled_toggle hand n pipe.expects.queue (copied_unsettled hand k.copy k.in_hand) ∙ ap (λ (q : Qh). q.token.toggle) (found_queue (parts n n) pipe.expects.queue k.copy.queue pipe.expects.head here) in
      let behind : pipe.toggle ≡ z.host.toggle = t.is ∙ ap (λ (l : Hand). hand_toggle l n t.queue) k.later_is ∙ ap (λ (b : Bool). if b then z.host.toggle else t.queue.token.toggle) (eq-eqb k.copy.at n is) in
      unmoved_made (kind_at k.copy.queue.dtc) false (counted k.copy k.out k.reply) k.copy.queue k.out k.reply n k.works k.sent.all
      (sym behind ∙ before) is in
      still (ap (λ (ps : StructureSets). ps n) all) (unmoved_at (Settled (counted k.copy k.out k.reply) z) k.later_is un) t

  -- ---- a write-back

  agreed_writing : (w : WritesBack parts hand now later) → (alters : Alters (parts n) (now n)) → (t : HasToggle later now n pipe.toggle) → OutAgrees (now n) later n t.queue pipe.toggle known s
  agreed_writing w alters t = ⊎_elim here (λ (differs : n ≢ w.copy.at). still (ap (λ (ps : StructureSets). ps n) w.now_is ∙ back_beside parts w.copy.at w.copy.at w.copy.queue (settled_queue_of w.copy w.settled) (moved_by w.settled.outcome) w.settled.got (received_into (parts w.copy.at) w.copy.queue w.element w.settled.got) w.element n differs) (unmoved_at Empty w.nothing tt) t) (cases_eq n w.copy.at)
    where
      here : n ≡ w.copy.at → OutAgrees (now n) later n t.queue pipe.toggle known s
      here is =
          let both : IsCopied member parts w.copy × IsSettled w.copy.queue reply w.settled = subst (IsInHand member parts reply) w.in_hand in_hand in
          let can : CanBeWritten parts w.copy.at w.copy.at w.copy.queue (settled_queue_of w.copy w.settled) w.settled.got (received_into (parts w.copy.at) w.copy.queue w.element w.settled.got) w.element = record {
            copy = record { head = both.0.here; range = settled_range w.copy w.settled reply both.0.range both.1; front = (settled_copy w.copy w.settled).front };
            element = ap (parts w.copy.at) (settled_copy w.copy w.settled).current ∙ w.here;
            received = w.received_is;
          } in
          let q : Qh = w.copy.queue in
          let r : Qh = queue_written w.copy w.settled in
          let head : parts n n ≡ Some (QueueHead q) = ap (λ (i : ℕ). parts i i) is ∙ both.0.here in
          let head_now : now n n ≡ Some (QueueHead r) = ap (λ (ps : StructureSets). ps n n) w.now_is ∙ ap (λ (i : ℕ). parts_back parts w.copy.at w.copy.at q (settled_queue_of w.copy w.settled) (moved_by w.settled.outcome) w.settled.got (received_into (parts w.copy.at) q w.element w.settled.got) w.element i i) is
          ∙ back_head parts w.copy.at w.copy.at q (settled_queue_of w.copy w.settled) (moved_by w.settled.outcome) w.settled.got (received_into (parts w.copy.at) q w.element w.settled.got) w.element can in
          let w0 : IsWorking (parts n) q = (subst (IsSoundQueue (parts n)) (found_queue (parts n n) (members n only.on).queue q (members n only.on).here head) (members n only.on).sound).work both.1.works in
          let pid : q.token.pid ≡ 0 = w0.pid ∙ pipe.outs q.current w0.element w0.here w0.published in
          subst (λ (y : Qh). OutAgrees (now n) later n y pipe.toggle known s) (found_queue (now n n) r t.queue head_now t.head)
          (by both.1 can head head_now pid (subst (λ (y : Qh). OutAgrees (parts n) hand n y pipe.toggle known s) (found_queue (parts n n) pipe.expects.queue q pipe.expects.head head) pipe.agrees))
        where
          by : IsSettled w.copy.queue reply w.settled → CanBeWritten parts w.copy.at w.copy.at w.copy.queue (settled_queue_of w.copy w.settled) w.settled.got (received_into (parts w.copy.at) w.copy.queue w.element w.settled.got) w.element
              → parts n n ≡ Some (QueueHead w.copy.queue) → now n n ≡ Some (QueueHead (queue_written w.copy w.settled)) → w.copy.queue.token.pid ≡ 0 → OutAgrees (parts n) hand n w.copy.queue pipe.toggle known s → OutAgrees (now n) later n (queue_written w.copy w.settled) pipe.toggle known s
          by settled can head head_now pid (level e x) = level e x
          by settled can head head_now pid (ended y e x off halted) = absurd (false≢true (sym off ∙ settled.works))
          by settled can head head_now pid (ahead y e x own on next old) = goes w.settled.host.active refl
            where
              un : (is_moved w.settled.outcome ≡ false) × (w.settled.host.active ≡ false → w.settled.host.halted ≡ true)
              un = subst (λ (l : Hand). IsUnmoved l n) w.in_hand old (sym is)

              goes : (b : Bool) → w.settled.host.active ≡ b → OutAgrees (now n) later n (queue_written w.copy w.settled) pipe.toggle known s
              goes true active = ahead y e x (own ∙ sym ((is_written w.copy w.settled).toggle ∙ settled.host.toggle ∙ ap (λ (b : Bool). if b then not w.copy.queue.token.toggle else w.copy.queue.token.toggle) un.0)) ((is_written w.copy w.settled).active ∙ active)
                  (next_still w is settled can alters head head_now pid un.0 active y next) (unmoved_at Empty w.nothing tt)
              goes false over = ended y e x ((is_written w.copy w.settled).active ∙ over) ((is_written w.copy w.settled).halted ∙ un.1 over)

  -- ---- where nothing is told otherwise

  agreed : (kind : WalkStep) → Effect transacts parts hand wire after now later kind → (t : HasToggle later now n pipe.toggle) → OutAgrees (now n) later n t.queue pipe.toggle known s
  agreed kind (reads k all quiet) t = still (ap (λ (ps : StructureSets). ps n) all) (unmoved_at (Copied k.copy) k.in_hand tt) t
  agreed kind (passes k all quiet) t = still (ap (λ (ps : StructureSets). ps n) all) (unmoved_at Empty k.nothing tt) t
  agreed kind (ends k all quiet) t = still (ap (λ (ps : StructureSets). ps n) all) (unmoved_at Empty k.nothing tt) t
  agreed kind (takes k quiet) t = agreed_taking k t
  agreed kind (makes k all) t = agreed_making k all t
  agreed kind (writes_back k quiet) t = agreed_writing k (effect_alters transacts member parts hand reply wire after now later kind in_hand (writes_back k quiet) n) t

  quiet_pipe : (kind : WalkStep) → Effect transacts parts hand wire after now later kind → SameTold hand parts later now
      → taker after x.addr x.ep ≡ Some s → IsOutPipe (taker after x.addr x.ep) (known ++ []) now later n x
  quiet_pipe kind effect told taken =
      let t : HasToggle later now n pipe.toggle = told.toggle n pipe.toggle pipe.expects in
      record {
        named = told.endpoint n x pipe.named;
        outs = out_still (parts n) (now n) (effect_alters transacts member parts hand reply wire after now later kind in_hand effect n) pipe.outs;
        toggle = pipe.toggle;
        expects = t;
        taker = s;
        is = taken;
        agrees = subst (λ (xs : List ℕ). OutAgrees (now n) later n t.queue pipe.toggle xs s) (sym (append-nil known)) (agreed kind effect t);
      }

  -- ---- a transaction

  named_now : now ≡ parts → HasEndpoint now n x
  named_now all = subst (λ (ps : StructureSets). HasEndpoint ps n x) (sym all) pipe.named

  outs_now : now ≡ parts → IsOut (now n)
  outs_now all = subst (λ (ps : StructureSets). IsOut (ps n)) (sym all) pipe.outs

  abbrev grown : Asks transacts parts hand wire after later → List ℕ
  grown m = moved_bytes m.copy.queue m.sent.element (came_to m) (buffer_of (parts m.copy.at) m.sent.element)

  asked_member : (m : Asks transacts parts hand wire after later) → member m.copy.at ≡ true
  asked_member m = let copied : IsCopied member parts m.copy = subst (IsInHand member parts reply) m.in_hand in_hand in copied.on

  own_pipe : (m : Asks transacts parts hand wire after later) → now ≡ parts → Grows hand parts later m.copy (came_to m) m.sent.element
      → n ≡ m.copy.at → IsOutPipe (taker after x.addr x.ep) (known ++ (if m.copy.at == n then grown m else [])) now later n x
  own_pipe m all g is =
      let q : Qh = m.copy.queue in
      let z : Settlement = came_to m in
      let head : parts n n ≡ Some (QueueHead q) = ap (λ (i : ℕ). parts i i) is ∙ m.here in
      let before : (pipe.toggle ≡ q.token.toggle) × HasToggle later parts m.copy.at z.host.toggle = g.toggle pipe.toggle (subst (λ (i : ℕ). HasToggle hand parts i pipe.toggle) is pipe.expects) in
      let has : HasToggle later now n z.host.toggle = subst (λ (ps : StructureSets). HasToggle later ps n z.host.toggle) (sym all) (subst (λ (i : ℕ). HasToggle later parts i z.host.toggle) (sym is) before.1) in
      let is_x : x ≡ endpoint_of q = pipe.named.is ∙ ap endpoint_of (found_queue (parts n n) pipe.named.queue q pipe.named.head head) in
      let w0 : IsWorking (parts n) q = (subst (IsSoundQueue (parts n)) (found_queue (parts n n) (members n only.on).queue q (members n only.on).here head) (members n only.on).sound).work m.works in
      let pid : q.token.pid ≡ 0 = w0.pid ∙ pipe.outs q.current w0.element w0.here w0.published in
      let sent : AreSent (parts n) q (transaction_of m.kind q).bytes m.out = record {
        element = m.sent.element;
        here = ap (λ (i : ℕ). parts i q.current) is ∙ m.sent.here;
        are = m.sent.are ∙ ap (λ (i : ℕ). take (transaction_of m.kind q).bytes
            (drop (buffer_place q - m.sent.element.offset) (buffer_of (parts i) m.sent.element))) (sym is);
        all = m.sent.all;
      } in
      let made = made_by transacts stream taker bus wire after (parts n) hand later n m.held q x is_x pipe.toggle known s pipe.is
      (sym (ap (λ (e : Endpoint). e.speed) is_x) ∙ only.high) pid m.works before.0 only.streamed m.kind m.last m.asked_as m.out sent
      m.reply m.made m.later_is q.token.ping refl
      (subst (λ (y : Qh). OutAgrees (parts n) hand n y pipe.toggle known s) (found_queue (parts n n) pipe.expects.queue q pipe.expects.head head) pipe.agrees) in
      record {
        named = named_now all;
        outs = outs_now all;
        toggle = z.host.toggle;
        expects = has;
        taker = made.taker_now;
        is = made.is;
        agrees = subst (λ (xs : List ℕ). OutAgrees (now n) later n has.queue z.host.toggle (known ++ xs) made.taker_now) (ap (λ (i : ℕ). moved_bytes q m.sent.element z (buffer_of (parts i) m.sent.element)) is ∙ sym (ap (λ (b : Bool). if b then grown m else []) (eq-eqb m.copy.at n (sym is))))
            (subst (λ (y : Qh). OutAgrees (now n) later n y z.host.toggle (known ++ moved_bytes q m.sent.element z (buffer_of (parts n) m.sent.element)) made.taker_now) (found_queue (parts n n) q has.queue head (sym (ap (λ (ps : StructureSets). ps n n) all) ∙ has.head))
            (subst (λ (part : Structures). OutAgrees part later n q z.host.toggle (known ++ moved_bytes q m.sent.element z (buffer_of (parts n) m.sent.element)) made.taker_now) (sym (ap (λ (ps : StructureSets). ps n) all)) made.agrees));
      }

  other_pipe : (m : Asks transacts parts hand wire after later) → now ≡ parts → Grows hand parts later m.copy (came_to m) m.sent.element
      → n ≢ m.copy.at → IsOutPipe (taker after x.addr x.ep) (known ++ (if m.copy.at == n then grown m else [])) now later n x
  other_pipe m all g differs =
      let q : Qh = m.copy.queue in
      let beside : IsBeside parts m.copy.at x = only.others m.copy.at (asked_member m) (λ (e : m.copy.at ≡ n). differs (sym e)) in
      let has : HasToggle later now n pipe.toggle = subst (λ (ps : StructureSets). HasToggle later ps n pipe.toggle) (sym all) (g.other_toggles n pipe.toggle differs pipe.expects) in
      record {
        named = named_now all;
        outs = outs_now all;
        toggle = pipe.toggle;
        expects = has;
        taker = s;
        is = bus.others wire (call_in (transaction_of m.kind q) m.out m.last).ask
            (call_in (transaction_of m.kind q) m.out m.last).out m.reply after x.addr x.ep s m.made only.streamed pipe.is
            (unasked beside beside.apart);
        agrees = subst (λ (xs : List ℕ). OutAgrees (now n) later n has.queue pipe.toggle xs s) (sym (append-nil known) ∙ ap (λ (xs : List ℕ). known ++ xs) (sym (ap (λ (b : Bool). if b then grown m else []) (other_number m.copy.at n (λ (e : m.copy.at ≡ n). differs (sym e))))))
            (still (ap (λ (ps : StructureSets). ps n) all)
            (unmoved_at (Settled m.held (came_to m)) m.later_is (λ (e : m.held.at ≡ n). absurd (differs (sym e ∙ m.at_same)))) has);
      }
    where
      unasked : (b : IsBeside parts m.copy.at x) → ((x.addr ≡ b.endpoint.addr → x.ep ≡ b.endpoint.ep → ⊥)) ⊎ SendsNone (parts m.copy.at)
          → IsOutAsk stream (call_in (transaction_of m.kind m.copy.queue) m.out m.last).ask
          → (x.addr ≡ (call_in (transaction_of m.kind m.copy.queue) m.out m.last).ask.addr) ×
          (x.ep ≡ (call_in (transaction_of m.kind m.copy.queue) m.out m.last).ask.ep) → ⊥
      unasked b (inl apart) asked e =
          let is : endpoint_of m.copy.queue ≡ b.endpoint = sym
          (b.named.is ∙ ap endpoint_of (found_queue (parts m.copy.at m.copy.at) b.named.queue m.copy.queue b.named.head m.here)) in
          apart (e.0 ∙ ap (λ (y : Endpoint). y.addr) is) (e.1 ∙ ap (λ (y : Endpoint). y.ep) is)
      unasked b (inr none) asked e =
          let mk : IsQueuePart m.copy.at (parts m.copy.at) = m.part_is in
          let w0 : IsWorking (parts m.copy.at) m.copy.queue =
          (subst (IsSoundQueue (parts m.copy.at)) (found_queue (parts m.copy.at m.copy.at) mk.queue m.copy.queue mk.here m.here)
          mk.sound).work m.works in
          out_only m.copy.queue.token.pid false (m.copy.queue.token.pid == 1) (transaction_of m.kind m.copy.queue).split
          (pinged m.kind m.copy.queue.token.ping)
          (other_number m.copy.queue.token.pid 0 (λ (i : m.copy.queue.token.pid ≡ 0). none m.copy.queue.current w0.element w0.here
          w0.published (sym w0.pid ∙ i))) refl refl asked.token

  -- those that are beside the queue heads ask no such endpoint
  module _ {Beside : Ask → Type 0} (misses : (ask : Ask) → Beside ask → IsOutAsk stream ask → ⊥) where
    pub kept : (kind : WalkStep) → Effect transacts parts hand wire after now later kind
        → (z : StreamEffect Beside transacts parts hand wire after now later)
        → IsOutPipe (taker after x.addr x.ep) (known ++ bytes_of_effect n z) now later n x
    kept kind effect (same told quiet) = quiet_pipe kind effect told (ap (λ (w : W). taker w x.addr x.ep) quiet ∙ pipe.is)
    kept kind effect (aside told ask out answer beside made) =
        quiet_pipe kind effect told (bus.others wire ask out answer after x.addr x.ep s made only.streamed pipe.is
        (λ asked both. misses ask beside asked))
    kept kind effect (grows m all g) = ⊎_elim (λ (is : n ≡ m.copy.at). own_pipe m all g is)
        (λ (differs : n ≢ m.copy.at). other_pipe m all g differs) (cases_eq n m.copy.at)

pub each_event_keeps_an_out_pipe : {W : Type 0} (transacts : W → Ask → List ℕ → Reply → W → Type 0) (stream : ℕ → ℕ → Bool) (taker : W → ℕ → ℕ → Option Taker) (member : ℕ → Bool) (parts : StructureSets) (hand : Hand) (reply : Reply) (wire after : W) (now : StructureSets) (later : Hand) (kind : WalkStep) (n : ℕ) (x : Endpoint) (known : List ℕ)
    → IsOutBus transacts stream taker → AreMembers member parts → AreMembers member now → IsInHand member parts reply hand
    → Effect transacts parts hand wire after now later kind → (z : StreamEffect NoneBeside transacts parts hand wire after now later)
    → IsOnlyEndpoint stream member parts n x → IsOutPipe (taker wire x.addr x.ep) known parts hand n x → IsOutPipe (taker after x.addr x.ep) (known ++ bytes_of_effect n z) now later n x
each_event_keeps_an_out_pipe transacts stream taker member parts hand reply wire after now later kind n x known bus members members_now in_hand effect z only pipe =
    kept transacts stream taker bus member parts hand reply wire after now later n x known members members_now in_hand only pipe
    {Beside = NoneBeside} (λ ask none asked. none) kind effect z
