-- A queue head whose copy is settled: by a transaction, which may be split, or by a missed microframe; and what its write-back leaves of it.
use Rattle.std.proofs.Common.{◌≡◌, ◌≢◌, ℕ, ◌+◌, ◌<◌, ◌≤◌, Bool, true, false, not, ◌&&◌, ◌==◌, if◌then◌else◌, List, [], length, take, slice_index, Option, Some, ap, refl, sym, subst, ◌∙◌, arith}
use Rattle.std.proofs.lemmas.Bool.{and_parts, false≢true}
use Rattle.law_ring.proofs.Common.{ended_after, received_alters}
use Rattle.usb_base.specs.declared.endpoints.EndCause.TheVariants.{Miss}
use Rattle.usb_base.specs.declared.packets.EpKind.TheVariants.{Interrupt}
use Rattle.usb_base.specs.declared.packets.Pid.{Pid}
use Rattle.usb_base.specs.declared.packets.Pid.TheVariants as Packets
use Rattle.usb_base.specs.declared.packets.Reply.{Reply}
use Rattle.usb_base.specs.declared.packets.Split.{Split}
use Rattle.usb_base.specs.declared.packets.Split.TheVariants.{Plain, Start, Complete}
use Rattle.mem_bytes.specs.Bytes.{place}
use Rattle.qh_qtd.specs.declared.qtd.Qtd.{Qtd}
use Rattle.qh_qtd.specs.declared.queue_head.Qh.{Qh}
use Rattle.qh_qtd.specs.QueueHead.{qh_words, IsQhInRange}
use Rattle.toggle_error.specs.declared.host.HostSide.{HostSide}
use Rattle.toggle_error.specs.declared.host.Outcome.TheVariants.{Wait, Halt}
use Rattle.transactions.specs.Calls.{got_of}
use Rattle.hc_masks.specs.Masks.{has, with_bit}
use Rattle.hc_masks.proofs.Room.{with_bit_small}
use Rattle.hc_copy.specs.declared.held.Transaction.{Transaction}
use Rattle.hc_copy.specs.declared.held.Visit.{Visit}
use Rattle.hc_copy.specs.declared.held.Visit.TheVariants as visits
use Rattle.hc_copy.specs.Overlay.{settled_queue, pages_of, buffer_place, moved}
use Rattle.hc_copy.specs.Planning.{pid_at, queue_pipe, host_in, split_at, transaction_at}
use Rattle.hc_copy.specs.Transacting.{outcome_in, host_after}
use Rattle.hc_copy.specs.WriteBack.{received}
use Rattle.hc_copy.specs.Visits.{visit_of}
use Rattle.hc_interrupt.specs.declared.turns.Turn.{Turn}
use Rattle.hc_interrupt.specs.declared.turns.Turn.TheVariants as turns
use Rattle.hc_interrupt.specs.Turns.{microframe_of, waits, is_missed, complete_turn, start_turn, turn_of, planned, is_last_of}
use Rattle.hc_interrupt.specs.Copies.{with_split, missed_queue, missed_copy}
use Rattle.periodic_walk.specs.Walk.{Walk}
use Rattle.law_structures.specs.lent_structures.Settles.{Leaves}
use Rattle.law_structures.specs.lent_structures.Structures.{QueueHead, Element, Structures, StructureSets, put}
use Rattle.law_structures.specs.lent_structures.Changes.{relinked}
use Rattle.law_structures.proofs.lemmas.lent_structures.Names.{put_here}
use Rattle.law_structures.specs.lent_structures.WriteBack.{Received, received_parts, CanBeWritten, qtd_after, parts_back}
use Rattle.law_structures.proofs.lemmas.lent_structures.WrittenBack.{head_is_no_buffer, received_else, between_element}
use Rattle.law_structures.specs.lent_structures.Alters.{Alters}
use Rattle.law_structures.proofs.lemmas.lent_structures.Altering.{altered_both, a_queue_head_alters_nothing, a_token_alters_its_qtd}
use Rattle.law_ring.specs.Hand.{Copy, copied_queue, settled_queue_of}
use Rattle.law_ring.proofs.Writing.{IsSettledCopy, IsWritten, settled_range as came_range}
use Rattle.law_frames.specs.Met.{Kind}
use Rattle.law_frames.specs.FrameHand.{QueueSettlement, came, settled_in, FrameHand, Nothing as Nowhere}
use Rattle.law_frames.specs.Frame.{IsQueueSettled, IsCopiedQueue, IsInFrame}
use Rattle.law_frames.specs.FrameEffects.{frame_settlement, queue_written, after_back, missed_settlement, IsSettledFrom, was_worked, was_missed}
use Rattle.law_frames.specs.QueueVisitLaws.{held_copy, held_settled, started_settlement, IsHaltedByMiss}

-- ---- the copy, and the queue head that stands there afterwards

pub settled_facts : (c : Copy) (z : QueueSettlement) → IsSettledCopy c (came z) (settled_in c z)
unfolding settled_queue qh_words
settled_facts c z = record { current = refl; place = refl; pages = refl; link = refl; pid = refl; front = refl }

pub written_facts : (c : Copy) (z : QueueSettlement) → IsWritten c (came z) (queue_written c z)
unfolding moved settled_queue
written_facts c z = record { link = refl; current = refl; next = refl; alternate = refl; pages = refl; active = refl; halted = refl; pid = refl; total = refl; toggle = refl }

-- ---- ranges

marked_range : (prog tag : ℕ) (q : Qh) → IsQhInRange q → prog < 256 → tag < 32 → IsQhInRange (record q { c_prog = prog; frame_tag = tag })
marked_range prog tag q (link, (chars, (caps, (current, (next, (alternate, (token, (first, ((page1, (old, _)), ((page2, (bytes, (before, _))), rest)))))))))) low small =
    (link, (chars, (caps, (current, (next, (alternate, (token, (first, ((page1, (omega (arith, low), tt)), ((page2, (bytes, (omega (arith, small), tt))), rest))))))))))

pub marks_small : (q : Qh) → IsQhInRange q → (q.c_prog < 256) × (q.frame_tag < 32)
marks_small q (link, (chars, (caps, (current, (next, (alternate, (token, (first, ((page1, (prog, _)), ((page2, (bytes, (tag, _))), rest)))))))))) = (omega (arith, prog), omega (arith, tag))

pub settled_range : (c : Copy) (z : QueueSettlement) (reply : Reply) → IsQhInRange (copied_queue c) → IsQueueSettled c.queue reply z → IsQhInRange (settled_in c z)
settled_range c z reply range is = marked_range z.c_prog z.frame_tag (settled_queue_of c (came z)) (came_range c (came z) reply range is.came_to) is.prog is.tag

pub split_prog : (f : ℕ) (s : Split) (q : Qh) → q.c_prog < 256 → (with_split f s q).c_prog < 256
unfolding with_split
split_prog f Plain q low = low
split_prog f (Start _ _ _) q low = omega arith
split_prog f (Complete _ _) q low = with_bit_small q.c_prog (microframe_of f) low (omega arith)

pub split_tag : (f : ℕ) (s : Split) (q : Qh) → q.frame_tag < 32 → (with_split f s q).frame_tag < 32
unfolding with_split
split_tag f (Start _ _ _) q small = omega arith
split_tag f _ q small = small

-- what a split transaction notes, it notes of the copy too
pub split_marks : (f : ℕ) (s : Split) (host : HostSide) (c : Copy)
    → with_split f s (settled_queue host (copied_queue c)) ≡ record (settled_queue host (copied_queue c)) { c_prog = (with_split f s c.queue).c_prog; frame_tag = (with_split f s c.queue).frame_tag }
unfolding with_split settled_queue
split_marks f Plain host c = refl
split_marks f _ host c = refl

abbrev came_from : ℕ → Qh → List ℕ → Reply → Transaction → QueueSettlement
came_from f q out reply t = record {
  host = host_after t out (is_last_of f q) reply;
  outcome = outcome_in t out (is_last_of f q) reply;
  got = received q (outcome_in t out (is_last_of f q) reply) reply;
  c_prog = (with_split f t.split q).c_prog;
  frame_tag = (with_split f t.split q).frame_tag;
}

abbrev with_speed : Qh → Bool → Bool → Transaction
with_speed q b state = transaction_at (split_at b state (queue_pipe Interrupt q)) (queue_pipe Interrupt q) (host_in q)

planned_slow : (q : Qh) (state : Bool) → (q.eps == 2) ≡ false → q.token.split_state ≡ state → planned q ≡ with_speed q false state
planned_slow q state slow is = ap (λ (b : Bool). with_speed q b q.token.split_state) slow ∙ ap (with_speed q false) is

none_waited : (pid : Pid) (reply : Reply) → got_of pid Wait reply ≡ []
none_waited Packets.In reply = refl
none_waited _ reply = refl

pub starts_split : (f : ℕ) (q : Qh) (out : List ℕ) (reply : Reply) → (q.eps == 2) ≡ false → q.token.split_state ≡ false → frame_settlement f q out reply ≡ started_settlement f q
unfolding with_split
starts_split f q out reply slow idle =
    ap (came_from f q out reply) (planned_slow q false slow idle)
    ∙ ap (λ (got : List ℕ). record (started_settlement f q) { got = got }) (none_waited (pid_at q.token.pid) reply)

pub completes_split : (f : ℕ) (q : Qh) (out : List ℕ) (reply : Reply) → (q.eps == 2) ≡ false → q.token.split_state ≡ true
    → ((frame_settlement f q out reply).c_prog ≡ with_bit q.c_prog (microframe_of f)) × ((frame_settlement f q out reply).frame_tag ≡ q.frame_tag)
unfolding with_split
completes_split f q out reply slow waiting =
    let is = planned_slow q true slow waiting in
    (ap (λ (t : Transaction). (with_split f t.split q).c_prog) is, ap (λ (t : Transaction). (with_split f t.split q).frame_tag) is)

pub stays_plain : (f : ℕ) (q : Qh) (out : List ℕ) (reply : Reply) → (q.eps == 2) ≡ true
    → ((frame_settlement f q out reply).c_prog ≡ q.c_prog) × ((frame_settlement f q out reply).frame_tag ≡ q.frame_tag)
unfolding with_split
stays_plain f q out reply high =
    let is : planned q ≡ with_speed q true q.token.split_state = ap (λ (b : Bool). with_speed q b q.token.split_state) high in
    (ap (λ (t : Transaction). (with_split f t.split q).c_prog) is, ap (λ (t : Transaction). (with_split f t.split q).frame_tag) is)

-- ---- a microframe was missed (4.12.2.4.1)

pub waits_active : (q : Qh) → waits q ≡ true → q.token.active ≡ true
waits_active q is =
    let split : (q.token.split_state && (q.token.active && not q.token.halted)) ≡ true = (and_parts (not (q.eps == 2)) (q.token.split_state && (q.token.active && not q.token.halted)) is).1 in
    let both : (q.token.active && not q.token.halted) ≡ true = (and_parts q.token.split_state (q.token.active && not q.token.halted) split).1 in
    (and_parts q.token.active (not q.token.halted) both).0

start_no_miss : (v : Visit) → start_turn v ≡ turns.Miss → ⊥
start_no_miss visits.Rest e = cc
start_no_miss _ e = cc

miss_by : (b : Bool) (t : Turn) (v : Visit) → (if b then t else start_turn v) ≡ turns.Miss → b ≡ true
miss_by true t v e = refl
miss_by false t v e = absurd (start_no_miss v e)

miss_active : (f : ℕ) (q : Qh) → turn_of f q ≡ turns.Miss → q.token.active ≡ true
miss_active f q turn = waits_active q (miss_by (waits q) (complete_turn (is_missed f q) (has q.cmask (microframe_of f))) (visit_of (has q.smask (microframe_of f)) q) turn)

none_got : (pid : Pid) (reply : Reply) → [] ≡ got_of pid (Halt Miss) reply
none_got Packets.In reply = refl
none_got _ reply = refl

pub miss_settles : (f : ℕ) (q : Qh) (reply : Reply) → turn_of f q ≡ turns.Miss → q.c_prog < 256 → q.frame_tag < 32 → IsQueueSettled q reply (missed_settlement q)
miss_settles f q reply turn low small = record {
  came_to = record {
    works = miss_active f q turn;
    host = record {
      left = omega arith;
      packets = refl;
      errors = omega arith;
      toggle = refl;
      went_on = λ on. absurd (false≢true on);
      goes_on = λ off on. absurd (false≢true on);
      some_left = λ on. absurd (false≢true on);
    };
    bytes = record { all = λ is. refl; none = λ differs. refl };
    got = none_got (pid_at q.token.pid) reply;
    are_bytes = λ i. omega arith;
  };
  prog = low;
  tag = small;
}

pub copy_misses : (c : Copy) → missed_copy (held_copy c) ≡ held_settled c (missed_settlement c.queue)
unfolding missed_queue settled_queue
copy_misses c = refl

pub miss_halts : (c : Copy) (made : ℕ) → IsHaltedByMiss c.queue (queue_written c (missed_settlement c.queue)) × (after_back c (missed_settlement c.queue) made ≡ Nowhere)
unfolding moved settled_queue
miss_halts c made = (record { missed = refl; halted = refl; idle = refl; left = refl; toggle = refl; current = refl }, refl)

-- ---- whatever is written back is settled

pub hand_is_settled : (met : ℕ → Option Kind) (parts : StructureSets) (w : Walk) (hand : FrameHand) (c : Copy) (z : QueueSettlement) (made : ℕ) → IsInFrame met parts w.got w.reply hand
    → IsSettledFrom w hand c z made → IsCopiedQueue met parts c × IsQueueSettled c.queue w.reply z
hand_is_settled met parts w hand c z made k (was_worked is) = subst (IsInFrame met parts w.got w.reply) is k
hand_is_settled met parts w hand c z made k (was_missed is turn same) =
    let copied : IsCopiedQueue met parts c = subst (IsInFrame met parts w.got w.reply) is k in
    let small = marks_small (copied_queue c) copied.range in
    (copied, subst (IsQueueSettled c.queue w.reply) (sym same) (miss_settles w.index c.queue w.reply turn small.0 small.1))

-- ---- the parts after a write-back

pub back_alters : (parts : StructureSets) (n : ℕ) (q x : Qh) (count : ℕ) (got : List ℕ) (r : Received) (t : Qtd) → CanBeWritten parts n n q x got r t → Alters (parts n) (parts_back parts n n q x count got r t n)
back_alters parts n q x count got r t can =
    let new : Qh = moved x count in
    let first : StructureSets = received_parts parts n got r in
    let mid : StructureSets = put first n n (QueueHead (relinked q new)) in
    let there : Alters (parts n) (mid n) =
    altered_both (parts n) (first n) (mid n) (received_alters parts n x got r can.received)
    (subst (Alters (first n)) (sym (put_here first n n (QueueHead (relinked q new))))
    (a_queue_head_alters_nothing (first n) n q (relinked q new) (received_else parts n x got r n (QueueHead q) can.received can.copy.head (head_is_no_buffer q)))) in
    altered_both (parts n) (mid n) (parts_back parts n n q x count got r t n) there
    (subst (Alters (mid n)) (sym (put_here mid n x.current (Element (qtd_after new t))))
    (a_token_alters_its_qtd (mid n) x.current t (qtd_after new t) (between_element parts n n q x new got r t can) (ended_after new t new.token.active refl)))
