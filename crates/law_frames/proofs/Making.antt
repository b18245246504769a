-- The bytes that a transaction sends, and what it came to.
use Rattle.std.proofs.Common.{◌≡◌, ℕ, zero, suc, ◌+◌, ◌-◌, ◌<◌, ◌≤◌, true, List, [], length, take, drop, slice_index, Option, Some, ap, refl, sym, subst, arith}
use Rattle.std.proofs.lemmas.List.{length-take, length-drop}
use Rattle.law_frames.proofs.Common.{bytes_few}
use Rattle.usb_base.specs.declared.packets.EpKind.TheVariants.{Interrupt}
use Rattle.usb_base.specs.declared.packets.Pid.{Pid}
use Rattle.usb_base.specs.declared.packets.Pid.TheVariants as Packets
use Rattle.usb_base.specs.declared.packets.Reply.{Reply}
use Rattle.usb_base.specs.declared.packets.Reply.TheVariants.{Bytes}
use Rattle.word_mem.specs.Memory.{Mem}
use Rattle.mem_bytes.specs.Bytes.{place}
use Rattle.qh_qtd.specs.declared.qtd.Qtd.{Qtd}
use Rattle.qh_qtd.specs.declared.queue_head.Qh.{Qh}
use Rattle.toggle_error.specs.declared.host.Outcome.{Outcome}
use Rattle.toggle_error.specs.declared.host.Outcome.TheVariants as outcomes
use Rattle.transactions.specs.Calls.{got_of}
use Rattle.hc_copy.specs.Planning.{pid_at}
use Rattle.hc_copy.specs.Overlay.{pages_of, buffer_place}
use Rattle.hc_copy.specs.Transacting.{outcome_in, host_after}
use Rattle.hc_interrupt.specs.Turns.{planned, is_last_of}
use Rattle.hc_interrupt.specs.Copies.{interrupt_copy}
use Rattle.law_structures.specs.lent_structures.Settles.{Settles}
use Rattle.law_structures.proofs.lemmas.lent_structures.Settling.{a_transaction_settles}
use Rattle.law_structures.specs.lent_structures.Structures.{Buffer, StructureSets}
use Rattle.law_structures.proofs.lemmas.lent_structures.WrittenBack.{sent_is_told, nothing_is_sent}
use Rattle.law_structures.specs.lent_structures.Sound.{HasBuffer, IsReady, IsWorking, IsSoundElement}
use Rattle.law_ring.specs.Hand.{Copy, copied_queue}
use Rattle.law_frames.specs.Met.{Kind}
use Rattle.law_frames.specs.Frame.{IsQueueSettled}
use Rattle.law_frames.specs.FrameEffects.{frame_settlement}
use Rattle.law_frames.specs.Visits.{IsQueueVisit, AreAllSent}
use Rattle.law_frames.specs.QueueVisitLaws.{HasBytes, held_copy, held_settled}
use Rattle.law_frames.proofs.QueueBacks.{split_prog, split_tag, split_marks}
use Rattle.law_frames.proofs.Taking.{sound_there}

-- ---- the bytes that go out

some_sent : (met : ℕ → Option Kind) (m : Mem) (parts : StructureSets) (c : Copy) → IsQueueVisit met m parts c → (w : IsWorking (parts c.at) c.queue) → HasBuffer (parts c.at) w.element w.element.token.total → AreAllSent m parts c
some_sent met m parts c v w has =
    let t : Qtd = w.element in
    let n : ℕ = (planned c.queue).bytes in
    let j : ℕ = buffer_place c.queue - t.offset in
    let stands = w.place in
    let fewer = w.fewer in
    let size = has.size in
    let few = bytes_few c.queue in
    let here : parts c.at (place (pages_of c.queue) t.offset) ≡ Some (Buffer (pages_of c.queue) t.offset has.bytes) =
    subst (λ (ps : List ℕ). parts c.at (place ps t.offset) ≡ Some (Buffer ps t.offset has.bytes)) (sym w.pages) has.here in
    let inside : j + n ≤ length has.bytes = omega (arith, stands, fewer, size, few) in
    record {
      out = take n (drop j has.bytes);
      read = sent_is_told m parts c.at (place (pages_of c.queue) t.offset) (planned c.queue) (copied_queue c) t.offset has.bytes j v.tells here (omega (arith, stands, fewer)) inside;
      are = record {
        count = (let l = length-take n (drop j has.bytes) in let d = length-drop j has.bytes in omega (arith, l, d, inside));
        are = λ some. record { start = t.offset; bytes = has.bytes; here = here; after = omega (arith, stands, fewer); are = refl };
      };
    }

sent_by : (met : ℕ → Option Kind) (m : Mem) (parts : StructureSets) (c : Copy) → IsQueueVisit met m parts c → (w : IsWorking (parts c.at) c.queue) → IsReady (parts c.at) w.element → (n : ℕ) → (planned c.queue).bytes ≡ n → AreAllSent m parts c
sent_by met m parts c v w ready zero e = record {
  out = [];
  read = nothing_is_sent m (planned c.queue) (copied_queue c) v.copied.range e;
  are = record { count = sym e; are = λ some. absurd (omega (arith, some, e)) };
}
sent_by met m parts c v w ready (suc n) e =
    some_sent met m parts c v w (ready.buffer (let few = bytes_few c.queue in let fewer = w.fewer in omega (arith, few, fewer, e)))

pub transaction_sends_its_bytes : (met : ℕ → Option Kind) (m : Mem) (parts : StructureSets) (c : Copy) → IsQueueVisit met m parts c → c.queue.token.active ≡ true → AreAllSent m parts c
transaction_sends_its_bytes met m parts c v on =
    let w : IsWorking (parts c.at) c.queue = (sound_there met m parts c v).work on in
    let sound : IsSoundElement (parts c.at) w.element = v.met_is.part_is.elements c.queue.current w.element w.here in
    sent_by met m parts c v w (sound.work w.published) (planned c.queue).bytes refl

-- ---- what it came to

bytes_got : (pid : Pid) (o : Outcome) (reply : Reply) → HasBytes reply → (i : ℕ) → slice_index (got_of pid o reply) i < 256
bytes_got Packets.In (outcomes.Moved n) (Bytes sent bs) small i = small sent bs refl i
bytes_got _ _ _ small i = omega arith

pub settles : (f : ℕ) (q : Qh) (out : List ℕ) (reply : Reply) → q.token.active ≡ true → q.c_prog < 256 → q.frame_tag < 32 → length out ≡ (planned q).bytes → HasBytes reply
    → IsQueueSettled q reply (frame_settlement f q out reply)
settles f q out reply on low tag count small =
    let z : Settles Interrupt q out (is_last_of f q) reply = a_transaction_settles Interrupt q out (is_last_of f q) reply count in
    record {
      came_to = record {
        works = on;
        host = z.host;
        bytes = z.bytes;
        got = refl;
        are_bytes = bytes_got (pid_at q.token.pid) (outcome_in (planned q) out (is_last_of f q) reply) reply small;
      };
      prog = split_prog f (planned q).split q low;
      tag = split_tag f (planned q).split q tag;
    }

pub copy_settles : (f : ℕ) (c : Copy) (out : List ℕ) (reply : Reply) → interrupt_copy f (planned (copied_queue c)) out reply (held_copy c) ≡ held_settled c (frame_settlement f c.queue out reply)
copy_settles f c out reply =
    ap (λ (x : Qh). record (held_settled c (frame_settlement f c.queue out reply)) { queue_head = x })
    (split_marks f (planned (copied_queue c)).split (host_after (planned c.queue) out (is_last_of f c.queue) reply) c)
