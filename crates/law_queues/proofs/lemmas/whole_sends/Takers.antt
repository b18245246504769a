-- While a queue head is idle its device takes nothing, and what it took is in order.
use Rattle.std.proofs.Common.{◌≡◌, ◌≢◌, ℕ, ◌==◌, Bool, true, false, if◌then◌else◌, List, [], ◌++◌, Some, ap, refl, sym, subst, ◌∙◌, inl, inr}
use Rattle.std.specs.Prelude.{◌⊎◌}
use Rattle.std.proofs.lemmas.Bool.{true≢false}
use Rattle.std.proofs.lemmas.List.{append_assoc}
use Rattle.law_queues.proofs.Common.{after_both}
use Rattle.law_common.proofs.Numbers.{other_number}
use Rattle.claims_base.specs.Prefix.{IsPrefix}
use Rattle.usb_base.specs.declared.packets.Ask.{Ask}
use Rattle.usb_base.specs.declared.packets.Reply.{Reply}
use Rattle.qh_qtd.specs.declared.queue_head.Qh.{Qh}
use Rattle.transactions.specs.Asks.{pinged}
use Rattle.hc_copy.specs.Transacting.{call_in}
use Rattle.hc_copy.specs.Planning.{transaction_of}
use Rattle.law_structures.specs.lent_structures.Structures.{QueueHead, StructureSets}
use Rattle.law_structures.specs.lent_structures.Sound.{IsWorking, IsSoundQueue, IsMember}
use Rattle.law_structures.proofs.lemmas.lent_structures.Altering.{found_queue}
use Rattle.law_ring.specs.Hand.{Hand}
use Rattle.law_ring.specs.Ring.{IsCopied, IsInHand}
use Rattle.law_ring.specs.Effects.{buffer_of, Asks, came_to}
use Rattle.law_ring.specs.Told.{Endpoint, endpoint_of}
use Rattle.law_ring.specs.Streams.{AreMembers, moved_bytes}
use Rattle.law_ring.specs.Streams.StreamEffect.{same, aside, grows}
use Rattle.law_ring.specs.OutBus.{Taker, IsOutAsk}
use Rattle.law_ring.specs.OutPipes.{IsNext, IsUnmoved, OutAgrees, level, ahead, ended}
use Rattle.law_ring.specs.OutPipeLaws.{SendsNone, IsBeside}
use Rattle.law_ring.proofs.Stopping.{out_only}
use Rattle.law_queues.specs.whole_sends.Whole.{buffers_of}
use Rattle.law_queues.specs.whole_sends.Laws.{IdleTakesNothing, IsStopped, TakenIsInOrder, TakenIsAhead}
use Rattle.law_queues.proofs.lemmas.whole_sends.Telling.{told_is_in_order, next_is_in_order, told_is_ahead, next_is_ahead}

-- the transaction of another queue head asks another endpoint, or is no OUT
unasked : {W : Type 0} (transacts : W → Ask → List ℕ → Reply → W → Type 0) (stream : ℕ → ℕ → Bool) (member : ℕ → Bool)
    (parts : StructureSets) (hand later : Hand) (wire after : W) (x : Endpoint) → AreMembers member parts
    → (m : Asks transacts parts hand wire after later) → IsCopied member parts m.copy
    → (b : IsBeside parts m.copy.at x) → ((x.addr ≡ b.endpoint.addr → x.ep ≡ b.endpoint.ep → ⊥)) ⊎ SendsNone (parts m.copy.at)
    → IsOutAsk stream (call_in (transaction_of m.kind m.copy.queue) m.out m.last).ask
    → (x.addr ≡ (call_in (transaction_of m.kind m.copy.queue) m.out m.last).ask.addr) ×
    (x.ep ≡ (call_in (transaction_of m.kind m.copy.queue) m.out m.last).ask.ep) → ⊥
unasked transacts stream member parts hand later wire after x members m copied b (inl apart) asked e =
    let is : endpoint_of m.copy.queue ≡ b.endpoint = sym (b.named.is ∙ ap endpoint_of (found_queue (parts m.copy.at m.copy.at) b.named.queue m.copy.queue b.named.head copied.here)) in
    apart (e.0 ∙ ap (λ (y : Endpoint). y.addr) is) (e.1 ∙ ap (λ (y : Endpoint). y.ep) is)
unasked transacts stream member parts hand later wire after x members m copied b (inr none) asked e =
    let k : IsMember member m.copy.at (parts m.copy.at) = members m.copy.at copied.on in
    let w : IsWorking (parts m.copy.at) m.copy.queue = (subst (IsSoundQueue (parts m.copy.at)) (found_queue (parts m.copy.at m.copy.at) k.queue m.copy.queue k.here copied.here) k.sound).work m.works in
    out_only m.copy.queue.token.pid false (m.copy.queue.token.pid == 1) (transaction_of m.kind m.copy.queue).split
    (pinged m.kind m.copy.queue.token.ping)
    (other_number m.copy.queue.token.pid 0 (λ (i : m.copy.queue.token.pid ≡ 0). none m.copy.queue.current w.element w.here w.published
    (sym w.pid ∙ i))) refl refl asked.token

pub idle_takes_nothing : {W : Type 0} (transacts : W → Ask → List ℕ → Reply → W → Type 0) → IdleTakesNothing transacts
idle_takes_nothing transacts stream taker member parts hand reply wire after now later n x s q bus members in_hand (same told quiet) only is head idle = (ap (λ w. taker w x.addr x.ep) quiet ∙ is, refl)
idle_takes_nothing transacts stream taker member parts hand reply wire after now later n x s q bus members in_hand
    (aside told ask out answer none made) only is head idle = absurd none
idle_takes_nothing transacts stream taker member parts hand reply wire after now later n x s q bus members in_hand (grows m all g) only is head idle =
    let copied : IsCopied member parts m.copy = subst (IsInHand member parts reply) m.in_hand in_hand in
    let other : m.copy.at ≢ n = λ at. true≢false (sym m.works ∙ ap (λ (r : Qh). r.token.active) (found_queue (parts n n) m.copy.queue q (ap (λ (i : ℕ). parts i i) (sym at) ∙ copied.here) head) ∙ idle) in
    let beside : IsBeside parts m.copy.at x = only.others m.copy.at copied.on other in (
      bus.others wire (call_in (transaction_of m.kind m.copy.queue) m.out m.last).ask
          (call_in (transaction_of m.kind m.copy.queue) m.out m.last).out m.reply after x.addr x.ep s m.made only.streamed is
          (unasked transacts stream member parts hand later wire after x members m copied beside beside.apart),
      ap (λ (b : Bool). if b then moved_bytes m.copy.queue m.sent.element (came_to m)
          (buffer_of (parts m.copy.at) m.sent.element) else []) (other_number m.copy.at n other),
    )

-- ---- what the device took

taken_begins : (parts : StructureSets) (hand : Hand) (n : ℕ) (q : Qh) (h : Bool) (told harvested bytes : List ℕ) (s : Taker) → parts n n ≡ Some (QueueHead q) → IsPrefix told bytes
    → ((y : List ℕ) → q.token.active ≡ true → IsUnmoved hand n → IsNext (parts n) q y → IsPrefix (told ++ y) bytes) → (IsStopped parts n → IsPrefix s.taken (harvested ++ bytes)) → OutAgrees (parts n) hand n q h (harvested ++ told) s → IsPrefix s.taken (harvested ++ bytes)
taken_begins parts hand n q h told harvested bytes s head begins next stopped (level e t) = subst (λ (zs : List ℕ). IsPrefix zs (harvested ++ bytes)) (sym t) (after_both harvested told bytes begins)
taken_begins parts hand n q h told harvested bytes s head begins next stopped (ahead y e t own on is_next un) =
    subst (λ (zs : List ℕ). IsPrefix zs (harvested ++ bytes)) (sym (t ∙ append_assoc harvested told y)) (after_both harvested (told ++ y) bytes (next y on un is_next))
taken_begins parts hand n q h told harvested bytes s head begins next stopped (ended y e t off halted) = stopped (q, head, off, halted)

pub taken_is_in_order : TakenIsInOrder
taken_is_in_order member parts hand reply order place out n told harvested o x m in_hand acc fresh k p stopped =
    taken_begins parts hand n p.expects.queue p.toggle told harvested (buffers_of (parts n) out) p.taker p.expects.head (told_is_in_order member parts hand reply order place out n told m in_hand p.outs acc fresh k)
    (λ y on un next. next_is_in_order member parts hand reply order place out n told p.expects.queue y m in_hand p.outs acc fresh k p.expects.head on un next) stopped p.agrees

pub taken_is_ahead : TakenIsAhead
taken_is_ahead member parts hand reply order place front before behind n e told harvested o x m in_hand acc fronts tail below k p stopped =
    taken_begins parts hand n p.expects.queue p.toggle told harvested (buffers_of (parts n) before) p.taker p.expects.head (told_is_ahead member parts hand reply order place front before behind n e told m in_hand p.outs acc fronts tail below k)
    (λ y on un next. next_is_ahead member parts hand reply order place front before behind n e told p.expects.queue y m in_hand p.outs acc fronts tail below k p.expects.head on un next) stopped p.agrees
