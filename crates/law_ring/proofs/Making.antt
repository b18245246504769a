-- The copy in hand has its transaction: the bytes that it sends are read, it is asked once, and what the reply came to is in hand.
use Rattle.std.proofs.Common.{◌≡◌, ℕ, zero, suc, ◌+◌, ◌-◌, ◌<◌, ◌≤◌, nat_le, Bool, true, false, ◌&&◌, if◌then◌else◌, List, [], length, take, drop, slice_index, Option, Some, None, ap, refl, sym, subst, ◌∙◌, arith}
use Rattle.std.proofs.lemmas.Bool.{le-leb}
use Rattle.std.proofs.lemmas.List.{length-take, length-drop}
use Rattle.law_structures.proofs.Common.{few_if, place_few}
use Rattle.usb_base.specs.declared.packets.Ask.{Ask}
use Rattle.usb_base.specs.declared.packets.Pid.{Pid}
use Rattle.usb_base.specs.declared.packets.Pid.TheVariants as Packets
use Rattle.usb_base.specs.declared.packets.Reply.{Reply}
use Rattle.usb_base.specs.declared.packets.Reply.TheVariants.{Bytes}
use Rattle.word_mem.specs.Memory.{Mem, refused}
use Rattle.mem_bytes.specs.Bytes.{places, bytes_at, all_reached}
use Rattle.qh_qtd.specs.declared.qtd.Qtd.{Qtd}
use Rattle.qh_qtd.specs.declared.queue_head.Qh.{Qh}
use Rattle.qh_qtd.specs.QueueHead.{IsQhInRange}
use Rattle.toggle_error.specs.declared.host.Outcome.{Outcome}
use Rattle.toggle_error.specs.declared.host.Outcome.TheVariants as outcomes
use Rattle.transactions.specs.Calls.{got_of}
use Rattle.hc_copy.specs.declared.held.Held.{Held}
use Rattle.hc_copy.specs.declared.held.Transaction.{Transaction}
use Rattle.hc_copy.specs.Planning.{pid_at, carries}
use Rattle.hc_copy.specs.Overlay.{settled_queue, pages_of, buffer_place}
use Rattle.hc_copy.specs.Buffer.{Reading, bytes_read, sending}
use Rattle.hc_copy.specs.Transacting.{call_in, outcome_in}
use Rattle.async_walk.specs.declared.rows.WalkRow.TheVariants as rows
use Rattle.async_walk.specs.declared.state.WalkStep.{WalkStep}
use Rattle.async_walk.specs.declared.state.WalkStep.TheVariants as steps
use Rattle.async_walk.specs.Naks.{kind_at, planned, counts, counted_queue}
use Rattle.async_walk.specs.Rows.{WalkPlace, step_of, sent_step, Leads, Sends, SentAt, Transacted, transacted, ring_copy}
use Rattle.async_walk.proofs.Ranges.{counted_in_range}
use Rattle.law_structures.specs.lent_structures.Settles.{Settles}
use Rattle.law_structures.proofs.lemmas.lent_structures.Settling.{a_transaction_settles}
use Rattle.law_structures.specs.lent_structures.Structures.{Buffer, Structures, StructureSets, HoldsBuffer, Tells}
use Rattle.law_structures.proofs.lemmas.lent_structures.Reading.{bytes_part, bytes_reached}
use Rattle.law_structures.specs.lent_structures.Sound.{element_pages, buffer_name, HasBuffer, IsReady, IsWorking}
use Rattle.law_ring.specs.Hand.{Copy, copied_queue, Copied, Settled, held_of}
use Rattle.claims_base.specs.Controller.{Base}
use Rattle.law_ring.specs.Ring.{IsRing}
use Rattle.law_ring.specs.Effects.{bytes_in, buffer_of, settlement, counted, AreBytesHeard, Happens}
use Rattle.law_ring.specs.Effects.Effect.{makes}
use Rattle.law_ring.proofs.Ringing.{cursor_same, ring_at}

-- ---- the bytes that go out

-- what a read of the buffer at the place of the overlay gives
record IsRead (m : Mem) (part : Structures) (q : Qh) (t : Qtd) (n : ℕ) (r : Reading) : Type 0 where
  bytes : r.bytes ≡ take n (drop (buffer_place q - t.offset) (buffer_of part t))
  count : length r.bytes ≡ n
  memory : r.memory ≡ m
  all : r.all ≡ true

none_reached : (m : Mem) (pages : List ℕ) (k : ℕ) → all_reached m pages k 0 ≡ true
unfolding all_reached places
none_reached m pages k = refl

none_read : (m : Mem) (pages : List ℕ) (k : ℕ) → bytes_at m pages k 0 ≡ []
unfolding bytes_at places
none_read m pages k = refl

is_read : (m : Mem) (part : Structures) (q : Qh) (t : Qtd) (n : ℕ) → buffer_place q + n ≤ 20480 → all_reached m (pages_of q) (buffer_place q) n ≡ true → bytes_at m (pages_of q) (buffer_place q) n ≡ take n (drop (buffer_place q - t.offset) (buffer_of part t)) → length (bytes_at m (pages_of q) (buffer_place q) n) ≡ n → IsRead m part q t n (bytes_read (pages_of q) (buffer_place q) n m)
is_read m part q t n within reached bytes count =
    let inside : nat_le (buffer_place q + n) 20480 ≡ true = le-leb (buffer_place q + n) 20480 within in
    record {
      bytes = bytes;
      count = count;
      memory = ap (λ (b : Bool). if b then (if all_reached m (pages_of q) (buffer_place q) n then m else refused m) else m) inside ∙ ap (λ (b : Bool). if b then m else refused m) reached;
      all = ap (λ (b : Bool). b && all_reached m (pages_of q) (buffer_place q) n) inside ∙ reached;
    }

some_read : (m : Mem) (parts : StructureSets) (at : ℕ) (q : Qh) (w : IsWorking (parts at) q) (n : ℕ) → Tells m parts → HasBuffer (parts at) w.element w.element.token.total → n ≤ q.token.total → IsRead m (parts at) q w.element n (bytes_read (pages_of q) (buffer_place q) n m)
some_read m parts at q w n tells has few =
    let t : Qtd = w.element in
    let j : ℕ = buffer_place q - t.offset in
    let place = w.place in
    let fewer = w.fewer in
    let size = has.size in
    let h : HoldsBuffer m (buffer_name t) (element_pages t) t.offset has.bytes = tells.each at (buffer_name t) (Buffer (element_pages t) t.offset has.bytes) has.here in
    let inside : j + n ≤ length has.bytes = omega (arith, place, fewer, size, few) in
    let from : t.offset + j ≡ buffer_place q = omega (arith, place, fewer) in
    let room = h.within in
    let bytes : bytes_at m (pages_of q) (buffer_place q) n ≡ take n (drop j has.bytes) =
    ap (λ (ps : List ℕ). bytes_at m ps (buffer_place q) n) w.pages ∙ ap (λ (k : ℕ). bytes_at m (element_pages t) k n) (sym from)
    ∙ bytes_part m parts at (buffer_name t) (element_pages t) t.offset has.bytes j n tells has.here inside in
    is_read m (parts at) q t n (omega (arith, inside, from, room))
    (ap (λ (ps : List ℕ). all_reached m ps (buffer_place q) n) w.pages ∙ ap (λ (k : ℕ). all_reached m (element_pages t) k n) (sym from)
    ∙ bytes_reached m parts at (buffer_name t) (element_pages t) t.offset has.bytes j n tells has.here inside)
    (bytes ∙ ap (λ (bs : List ℕ). take n (drop j bs)) (sym (ap bytes_in has.here)))
    (ap length bytes ∙ (let l = length-take n (drop j has.bytes) in let d = length-drop j has.bytes in omega (arith, l, d, inside)))

told_read : (m : Mem) (parts : StructureSets) (at : ℕ) (q : Qh) (w : IsWorking (parts at) q) (n : ℕ) → Tells m parts → IsReady (parts at) w.element → buffer_place q < 20480 → n ≤ q.token.total → IsRead m (parts at) q w.element n (bytes_read (pages_of q) (buffer_place q) n m)
told_read m parts at q w zero tells ready few within =
    is_read m (parts at) q w.element 0 (omega (arith, few)) (none_reached m (pages_of q) (buffer_place q)) (none_read m (pages_of q) (buffer_place q)) (ap length (none_read m (pages_of q) (buffer_place q)))
told_read m parts at q w (suc n) tells ready few within =
    some_read m parts at q w (suc n) tells (ready.buffer (let fewer = w.fewer in omega (arith, within, fewer))) within

-- ---- the copy after it

copy_settled : (c : Copy) (out : List ℕ) (reply : Reply) → Some (ring_copy (planned (copied_queue c)) out reply (record { at = c.at; queue_head = copied_queue c; settled = None })) ≡ held_of (Settled (counted c out reply) (settlement c.queue out reply))
unfolding counted_queue settled_queue
copy_settled c out reply = refl

counted_range : (c : Copy) (out : List ℕ) (reply : Reply) → IsQhInRange (copied_queue c) → IsQhInRange (copied_queue (counted c out reply))
unfolding counted_queue
counted_range c out reply range = counted_in_range (counts (outcome_in (planned c.queue) out false reply) reply) (copied_queue c) range

bytes_got : (pid : Pid) (o : Outcome) (reply : Reply) → ((sent : Pid) (bs : List ℕ) → reply ≡ Bytes sent bs → (i : ℕ) → slice_index bs i < 256) → (i : ℕ) → slice_index (got_of pid o reply) i < 256
bytes_got Packets.In (outcomes.Moved n) (Bytes sent bs) small i = small sent bs refl i
bytes_got _ _ _ small i = omega arith

module _ {W : Type 0} (transacts : W → Ask → List ℕ → Reply → W → Type 0) (base : Base) (member : ℕ → Bool) (parts : StructureSets) (wire after : W) where
  abbrev held_copy : Copy → Held
  held_copy c = record { at = c.at; queue_head = copied_queue c; settled = None }

  made_ring : (s : WalkPlace) (c : Copy) (out : List ℕ) (reply : Reply) → IsRing base member parts (Copied c) s → c.queue.token.active ≡ true → length out ≡ (planned c.queue).bytes → ((sent : Pid) (bs : List ℕ) → reply ≡ Bytes sent bs → (i : ℕ) → slice_index bs i < 256) → IsRing base member parts (Settled (counted c out reply) (settlement c.queue out reply)) (transacted (planned (copied_queue c)) (held_copy c) out reply s)
  made_ring s c out reply k on count small =
      let z : Settles (kind_at c.queue.dtc) c.queue out false reply =
      a_transaction_settles (kind_at c.queue.dtc) c.queue out false reply count in
      ring_at base member parts (Copied c) (Settled (counted c out reply) (settlement c.queue out reply)) s (transacted (planned (copied_queue c)) (held_copy c) out reply s) k refl refl
      (cursor_same member s (transacted (planned (copied_queue c)) (held_copy c) out reply s) refl refl k.cursor)
      (copy_settled c out reply) (
        record { on = k.in_hand.on; here = k.in_hand.here; link = k.in_hand.link; range = counted_range c out reply k.in_hand.range },
        record { works = on; host = z.host; bytes = z.bytes; got = refl; are_bytes = bytes_got (pid_at c.queue.token.pid) (outcome_in (planned c.queue) out false reply) reply small },
      )

  pub make_event : (s new : WalkPlace) (c : Copy) → IsRing base member parts (Copied c) s → AreBytesHeard transacts wire after → c.queue.token.active ≡ true → (w : IsWorking (parts c.at) c.queue) → IsReady (parts c.at) w.element → Leads transacts (rows.Transact (planned (copied_queue c))) s wire new after → Happens transacts base member parts (Copied c) wire after new (step_of (rows.Transact (planned (copied_queue c))) s)
  make_event s new c k heard on w ready lead =
      let t : Transaction = planned (copied_queue c) in
      let read : Reading = sending t (copied_queue c) s.memory in
      let is : IsRead s.memory (parts c.at) c.queue w.element t.bytes read = told_read s.memory parts c.at c.queue w t.bytes k.tells ready (place_few (copied_queue c) k.in_hand.range) (few_if (carries t.split t.pipe.pid t.host.ping) t.host) in
      let sent : Transacted transacts t (held_copy c) read.bytes (record s { memory = read.memory }) wire new after =
      subst (λ (b : Bool). SentAt transacts b t (held_copy c) read s wire new after) is.all (subst (λ (o : Option Held). Sends transacts t s o wire new after) k.held lead) in
      let kind : sent_step t s.memory s.walk.held ≡ steps.Transact = ap (sent_step t s.memory) k.held ∙ ap (λ (b : Bool). if b then steps.Transact else steps.Fault) is.all in
      subst (λ (step : WalkStep). Happens transacts base member parts (Copied c) wire after new step) (sym kind)
      (record {
        now = parts;
        later = Settled (counted c read.bytes sent.reply) (settlement c.queue read.bytes sent.reply);
        ring = subst (IsRing base member parts (Settled (counted c read.bytes sent.reply) (settlement c.queue read.bytes sent.reply)))
            (sym (sent.place ∙ ap (λ (m : Mem). transacted t (held_copy c) read.bytes sent.reply (record s { memory = m })) is.memory))
            (made_ring s c read.bytes sent.reply k on is.count
            (λ pid bs same. heard (call_in t read.bytes false).ask (call_in t read.bytes false).out pid bs (subst (λ (r : Reply). transacts wire (call_in t read.bytes false).ask (call_in t read.bytes false).out r after) same sent.made)));
        effect = makes (record {
          copy = c;
          in_hand = refl;
          works = on;
          out = read.bytes;
          sent = record { element = w.element; here = w.here; are = is.bytes; all = is.count };
          reply = sent.reply;
          made = sent.made;
          later_is = refl;
        }) refl;
      })
