-- A transaction that the walk of the frames makes of a queue head is one of a queue head: what it sends are bytes of its qTD's buffer.
use Rattle.std.proofs.Common.{◌≡◌, ℕ, ◌+◌, ◌-◌, ◌<◌, ◌≤◌, List, length, take, drop, ap, refl, sym, ◌∙◌, Option, ⊎_elim, arith}
use Rattle.std.proofs.lemmas.Bool.{cases_lt}
use Rattle.std.proofs.lemmas.List.{length-take, length-drop}
use Rattle.usb_base.specs.declared.packets.Ask.{Ask}
use Rattle.usb_base.specs.declared.packets.EpKind.TheVariants.{Interrupt}
use Rattle.usb_base.specs.declared.packets.Reply.{Reply}
use Rattle.word_mem.specs.Memory.{Mem}
use Rattle.qh_qtd.specs.declared.qtd.Qtd.{Qtd}
use Rattle.qh_qtd.specs.declared.queue_head.Qh.{Qh}
use Rattle.hc_copy.specs.Overlay.{pages_of, buffer_place}
use Rattle.hc_copy.specs.Planning.{transaction_of}
use Rattle.periodic_walk.specs.Place.{FramePlace}
use Rattle.law_common.proofs.Lists.{no_bytes}
use Rattle.law_structures.specs.lent_structures.Structures.{StructureSets, Tells}
use Rattle.law_structures.specs.lent_structures.Sound.{element_pages, buffer_name, HasBuffer, IsReady, IsWorking}
use Rattle.law_structures.proofs.lemmas.lent_structures.Reading.{bytes_part}
use Rattle.law_ring.specs.Effects.{bytes_in, buffer_of, AreSent, in_frames, Asks}
use Rattle.law_ring.specs.QueueParts.{IsQueuePart}
use Rattle.law_frames.proofs.Common.{bytes_few}
use Rattle.law_frames.specs.Frame.{IsCopiedQueue, IsFrame}
use Rattle.law_frames.specs.FrameEffects.{AreOfBuffer, AreOut, MakesOfQueue}
use Rattle.law_frames.specs.FrameHand.{FrameHand, queue_hand}
use Rattle.law_frames.specs.Met.{Kind}

-- both buffers have the bytes of memory
of_buffer : (m : Mem) (parts : StructureSets) (at : ℕ) (q : Qh) (n : ℕ) (out : List ℕ) (w : IsWorking (parts at) q) → Tells m parts
    → IsReady (parts at) w.element → n ≤ q.token.total → 0 < n → length out ≡ n
    → AreOfBuffer (parts at) (pages_of q) (buffer_place q) n out
    → out ≡ take n (drop (buffer_place q - w.element.offset) (buffer_of (parts at) w.element))
of_buffer m parts at q n out w tells ready few some count k =
    let t : Qtd = w.element in
    let fewer = w.fewer in
    let stands = w.place in
    let after = k.after in
    let has : HasBuffer (parts at) t t.token.total = ready.buffer (omega (arith, some, few, fewer)) in
    let size = has.size in
    let long = ap length (sym k.are) ∙ count in
    let taken = length-take n (drop (buffer_place q - k.start) k.bytes) in
    let left = length-drop (buffer_place q - k.start) k.bytes in
    let within : buffer_place q - k.start + n ≤ length k.bytes = omega (arith, some, long, taken, left) in
    let inside : buffer_place q - t.offset + n ≤ length has.bytes = omega (arith, stands, fewer, size, few) in
    let one = bytes_part m parts at _ (pages_of q) k.start k.bytes (buffer_place q - k.start) n tells k.here within in
    let two = bytes_part m parts at (buffer_name t) (element_pages t) t.offset has.bytes (buffer_place q - t.offset) n tells has.here
    inside in
    let first : k.start + (buffer_place q - k.start) ≡ buffer_place q = omega (arith, after) in
    let second : t.offset + (buffer_place q - t.offset) ≡ buffer_place q = omega (arith, stands, fewer) in
    let pages : element_pages t ≡ pages_of q = sym w.pages in
    let at_one = rw first at one in
    let at_two = rw pages at (rw second at two) in
    k.are ∙ sym at_one ∙ at_two ∙ ap (λ (bs : List ℕ). take n (drop (buffer_place q - t.offset) bs)) (sym (ap bytes_in has.here))

pub sent_so : (m : Mem) (parts : StructureSets) (at : ℕ) (q : Qh) (n : ℕ) (out : List ℕ) (w : IsWorking (parts at) q) → Tells m parts
    → IsReady (parts at) w.element → n ≤ q.token.total → AreOut (parts at) (pages_of q) (buffer_place q) n out → AreSent (parts at) q n out
sent_so m parts at q n out w tells ready few k = record {
  element = w.element;
  here = w.here;
  are =
      ⊎_elim (λ (some : 0 < n). of_buffer m parts at q n out w tells ready few some k.count (k.are some))
      (λ (none : n ≤ 0).
      let zero : n ≡ 0 = omega (arith, none) in
      no_bytes out (k.count ∙ zero)
      ∙ sym (ap (λ (i : ℕ). take i (drop (buffer_place q - w.element.offset) (buffer_of (parts at) w.element))) zero)) (cases_lt 0 n);
  all = k.count;
}

-- ---- a transaction of a queue head in the frames

module _ {W : Type 0} (transacts : W → Ask → List ℕ → Reply → W → Type 0) (met : ℕ → Option Kind) (parts : StructureSets)
    (hand : FrameHand) (p : FramePlace) (wire after : W) (later : FrameHand) (k : IsFrame met parts hand p) where
  abbrev pub frame_asks : (r : MakesOfQueue transacts parts p.walk hand wire after later) → IsCopiedQueue met parts r.copy
      → (part : IsQueuePart r.copy.at (parts r.copy.at)) → (w : IsWorking (parts r.copy.at) r.copy.queue)
      → Asks transacts parts (queue_hand hand) wire after (queue_hand later)
  frame_asks r copied part w = record {
    copy = r.copy;
    in_hand = ap queue_hand r.in_hand;
    here = copied.here;
    part_is = part;
    works = r.works;
    kind = Interrupt;
    last = _;
    asked_as = in_frames _;
    out = r.out;
    sent = sent_so p.memory parts r.copy.at r.copy.queue (transaction_of Interrupt r.copy.queue).bytes r.out w k.tells
        ((part.elements r.copy.queue.current w.element w.here).work w.published) (bytes_few r.copy.queue) r.sent;
    reply = r.reply;
    made = r.asked;
    held = r.copy;
    at_same = refl;
    queue_same = refl;
    later_is = ap queue_hand r.later_is;
  }
