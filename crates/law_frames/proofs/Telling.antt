-- What is told of queue heads where the walk of the frames reads, passes on, takes, asks or writes back.
use Rattle.std.proofs.Common.{◌≡◌, ◌≢◌, ℕ, ◌+◌, ◌-◌, ◌<◌, ◌≤◌, min, Bool, true, false, ◌&&◌, ◌==◌, if◌then◌else◌, List, length, take, drop, Option, Some, None, ap, refl, sym, subst, ◌∙◌, ⊎_elim, arith}
use Rattle.std.proofs.lemmas.Bool.{cases_eq, cases_lt}
use Rattle.std.proofs.lemmas.List.{length-take, length-drop}
use Rattle.law_frames.proofs.Common.{bytes_few}
use Rattle.law_frames.proofs.Common.{written_from}
use Rattle.law_common.proofs.Lists.{no_bytes}
use Rattle.law_common.proofs.Numbers.{other_number}
use Rattle.law_ring.proofs.Common.{endpoint_kept}
use Rattle.usb_base.specs.declared.packets.Ask.{Ask}
use Rattle.usb_base.specs.declared.packets.EpKind.TheVariants.{Interrupt}
use Rattle.usb_base.specs.declared.packets.Dir.TheVariants as Directions
use Rattle.usb_base.specs.declared.packets.DataPart.TheVariants.{All}
use Rattle.usb_base.specs.declared.packets.Pid.TheVariants as Pids
use Rattle.usb_base.specs.declared.packets.Reply.{Reply}
use Rattle.usb_base.specs.declared.packets.Split.TheVariants.{Start, Complete}
use Rattle.word_mem.specs.Memory.{Mem}
use Rattle.mem_bytes.specs.Bytes.{place, bytes_at}
use Rattle.qh_qtd.specs.declared.qtd.Qtd.{Qtd}
use Rattle.qh_qtd.specs.declared.queue_head.Qh.{Qh}
use Rattle.itd_sitd.specs.declared.itd.Itd.{Itd}
use Rattle.itd_sitd.specs.declared.sitd.Sitd.{Sitd}
use Rattle.hc_copy.specs.Overlay.{settled_queue, pages_of, buffer_place, moved, advanced}
use Rattle.hc_copy.specs.WriteBack.{moved_by}
use Rattle.hc_interrupt.specs.Turns.{planned, is_last_of}
use Rattle.hc_interrupt.specs.Copies.{goes_on}
use Rattle.hc_iso.specs.Itd.{itd_in, itd_out, itd_transaction}
use Rattle.hc_iso.specs.Sitd.{part_bytes, sitd_ask, sitd_with, sitd_in, sitd_out, sitd_transaction}
use Rattle.hc_iso.specs.declared.held.IsoTransaction.{IsoTransaction}
use Rattle.hc_iso.specs.WriteBack.{sitd_received, moved_by as sitd_moved_by}
use Rattle.async_walk.specs.declared.state.WalkStep.{WalkStep}
use Rattle.periodic_walk.specs.Walk.{Walk}
use Rattle.periodic_walk.specs.Place.{FramePlace}
use Rattle.law_structures.specs.lent_structures.Structures.{QueueHead, Buffer, Isochronous, SplitIsochronous, Structures, StructureSets, Tells, put}
use Rattle.law_structures.proofs.lemmas.lent_structures.Reading.{bytes_part}
use Rattle.law_structures.specs.lent_structures.WriteBack.{received_parts}
use Rattle.law_structures.proofs.lemmas.lent_structures.Names.{put_beside}
use Rattle.law_structures.proofs.lemmas.lent_structures.Found.{received_beside}
use Rattle.law_structures.specs.lent_structures.Sound.{element_pages, buffer_name, HasBuffer, IsReady, IsWorking, IsSoundQueue}
use Rattle.law_structures.proofs.lemmas.lent_structures.Altering.{found_queue}
use Rattle.law_ring.specs.Hand.{Copy, Settlement, Hand, Empty, Copied, Settled, Stale}
use Rattle.law_ring.specs.QueueParts.{IsQueuePart}
use Rattle.law_ring.specs.Effects.{bytes_in, buffer_of, AreSent, Takes, in_frames, Asks}
use Rattle.law_ring.specs.Told.{works_on, told_bytes, settled_bytes, hand_bytes, Told, hand_toggle, HasToggle, Endpoint, endpoint_of, HasEndpoint, SameTold}
use Rattle.law_ring.specs.Streams.{StreamEffect}
use Rattle.law_ring.specs.Streams.StreamEffect.{same, aside, grows}
use Rattle.law_ring.proofs.Keeping.{IsUnsettled as NothingSettled, empty_unsettled, copied_unsettled, unsettled_bytes, unsettled_toggle, bytes_kept, toggle_kept, same_kept, taking_tells_the_same}
use Rattle.law_ring.proofs.Growing.{overwritten_by_none, asked_grows}
use Rattle.law_ring.proofs.Written.{WritesCopy, write_tells_the_same}
use Rattle.law_frames.specs.Met.{Kind, AQueue, AnItd, ASitd, IsMetAs, IsMetQueue}
use Rattle.law_frames.specs.FrameHand.{QueueSettlement, came, settled_in, ItdCopy, SitdCopy, FrameHand, Nothing, OfQueue, OfSettled, OfItd, OfSitd, queue_hand}
use Rattle.law_frames.specs.Frame.{IsQueueSettled, IsCopiedQueue, IsCopiedItd, IsTurned, IsCopiedSitd, IsInFrame, IsFrame}
use Rattle.law_frames.specs.FrameEffects.{AreOfBuffer, AreOut, IsUnsettled, Fetches, TakesOne, MakesOfQueue, MakesOfItd, MakesOfSitd, MakesOne, missed_settlement, queue_written, after_back, IsSettledFrom, was_worked, was_missed, WritesQueue, itd_back, WritesItd, made, sitd_back, WritesSitd, WritesOne, of_queue, of_itd, of_sitd, FrameEffect}
use Rattle.law_frames.specs.FrameEffects.FrameEffect.{fetches, passes, ends, takes, makes, writes}
use Rattle.law_frames.specs.FrameStreams.{AsksIso, IsIsoAsk, FrameMovesStreams}
use Rattle.law_frames.proofs.QueueBacks.{settled_facts, settled_range, written_facts, hand_is_settled}

-- ---- hands

both_told : (one two three : Hand) (parts mid now : StructureSets) → SameTold one parts two mid → SameTold two mid three now
    → SameTold one parts three now
both_told one two three parts mid now first second = record {
  bytes = λ n e xs told. second.bytes n e xs (first.bytes n e xs told);
  toggle = λ n b has. second.toggle n b (first.toggle n b has);
  endpoint = λ n x has. second.endpoint n x (first.endpoint n x has);
}

pub passed_unsettled : (hand : FrameHand) → IsUnsettled hand → NothingSettled (queue_hand hand)
passed_unsettled Nothing un = absurd un
passed_unsettled (OfQueue c count) un = copied_unsettled (Copied c) c refl
passed_unsettled (OfSettled c s count) un = absurd un
passed_unsettled (OfItd c) un = empty_unsettled Empty refl
passed_unsettled (OfSitd c) un = empty_unsettled Empty refl

pub empty_is : (hand : FrameHand) → queue_hand hand ≡ Empty → NothingSettled (queue_hand hand)
empty_is hand is = empty_unsettled (queue_hand hand) is

pub fetched_unsettled : (parts : StructureSets) (w : Walk) (later : FrameHand) → Fetches parts w later → NothingSettled (queue_hand later)
fetched_unsettled parts w later (Fetches.of_queue r) = copied_unsettled (queue_hand later)
    (record { at = r.at; queue = r.queue; link = r.queue.link; naks = r.queue.nak_cnt }) (ap queue_hand r.in_hand)
fetched_unsettled parts w later (Fetches.of_itd r) = empty_is later (ap queue_hand r.in_hand)
fetched_unsettled parts w later (Fetches.of_sitd r) = empty_is later (ap queue_hand r.in_hand)

after_unsettled : (c : Copy) (b : Bool) (count : ℕ) → NothingSettled (queue_hand (if b then OfQueue c count else Nothing))
after_unsettled c true count = copied_unsettled (Copied c) c refl
after_unsettled c false count = empty_unsettled Empty refl

-- what stands at a place is no queue head, and nothing else is changed
head_stays : (parts now : StructureSets) (at : ℕ) → ((q : Qh) → parts at at ≡ Some (QueueHead q) → ⊥)
    → ((n : ℕ) → n ≢ at → now n ≡ parts n) → (n : ℕ) (q : Qh) → parts n n ≡ Some (QueueHead q) → now n ≡ parts n
head_stays parts now at none beside n q head =
    ⊎_elim (λ (is : n ≡ at). absurd (none q (ap (λ (i : ℕ). parts i i) (sym is) ∙ head))) (λ (differs : n ≢ at). beside n differs)
    (cases_eq n at)

told_beside : (hand later : Hand) (parts now : StructureSets) → ((n : ℕ) (q : Qh) → parts n n ≡ Some (QueueHead q) → now n ≡ parts n)
    → NothingSettled hand → NothingSettled later → SameTold hand parts later now
told_beside hand later parts now stays before after = record {
  bytes = λ n e xs told. bytes_kept hand later parts now n e xs (stays n told.queue told.head)
      (λ q t bs. unsettled_bytes later n q e t bs after ∙ sym (unsettled_bytes hand n q e t bs before)) told;
  toggle = λ n b has. toggle_kept hand later parts now n b (stays n has.queue has.head)
      (λ q. unsettled_toggle later n q after ∙ sym (unsettled_toggle hand n q before)) has;
  endpoint = λ n x has. endpoint_kept parts now n x (stays n has.queue has.head) has;
}

-- ---- a microframe was missed (4.12.2.4.1): nothing is moved

missed_bytes : (c : Copy) (n e : ℕ) (q : Qh) (t : Qtd) (bs : List ℕ) → q ≡ c.queue → (x : Bool) → (c.at == n && works_on q e) ≡ x
    → hand_bytes (Settled c (came (missed_settlement c.queue))) n q e t bs ≡ told_bytes q e t bs
missed_bytes c n e q t bs is false off = ap (λ (b : Bool). if b then settled_bytes q t
    (came (missed_settlement c.queue)) bs else told_bytes q e t bs) off
missed_bytes c n e q t bs is true on =
    ap (λ (b : Bool). if b then settled_bytes q t (came (missed_settlement c.queue)) bs else told_bytes q e t bs) on
    ∙ ap (take (length bs - c.queue.token.total)) (overwritten_by_none bs (buffer_place q - t.offset))
    ∙ ap (λ (r : Qh). take (length bs - r.token.total) bs) (sym is)
    ∙ sym (ap (λ (b : Bool). take (length bs - (if b then q.token.total else t.token.total)) bs) (works (c.at == n) (works_on q e) on))
  where
    works : (a b : Bool) → (a && b) ≡ true → b ≡ true
    works true b e = e
    works false b e = absurd cc

missed_told : (parts : StructureSets) (c : Copy) → parts c.at c.at ≡ Some (QueueHead c.queue)
    → SameTold (Copied c) parts (Settled c (came (missed_settlement c.queue))) parts
missed_told parts c here = record {
  bytes = λ n e xs told. record {
    queue = told.queue;
    head = told.head;
    qtd = told.qtd;
    here = told.here;
    are = told.are ∙ sym (bytes_by n e told.queue told.head told.qtd (buffer_of (parts n) told.qtd));
  };
  toggle = λ n b has. record { queue = has.queue; head = has.head; own = has.own; is = has.is ∙ sym (toggle_by n has.queue has.head) };
  endpoint = λ n x has. has;
}
  where
    -- of another queue head the hand tells nothing
    queue_is : (n : ℕ) (q : Qh) → parts n n ≡ Some (QueueHead q) → n ≡ c.at → q ≡ c.queue
    queue_is n q head same_one = found_queue (parts n n) q c.queue head (ap (λ (i : ℕ). parts i i) same_one ∙ here)

    bytes_by : (n e : ℕ) (q : Qh) → parts n n ≡ Some (QueueHead q) → (t : Qtd) (bs : List ℕ)
        → hand_bytes (Settled c (came (missed_settlement c.queue))) n q e t bs ≡ told_bytes q e t bs
    bytes_by n e q head t bs =
        ⊎_elim (λ (same_one : n ≡ c.at). missed_bytes c n e q t bs (queue_is n q head same_one) (c.at == n && works_on q e) refl)
        (λ (differs : n ≢ c.at). ap (λ (b : Bool). if b && works_on q e then settled_bytes q t
        (came (missed_settlement c.queue)) bs else told_bytes q e t bs) (other_number c.at n (λ is. differs (sym is)))) (cases_eq n c.at)

    toggle_at : (n : ℕ) (q : Qh) (b : Bool) → (b ≡ true → q ≡ c.queue)
        → (if b then c.queue.token.toggle else q.token.toggle) ≡ q.token.toggle
    toggle_at n q true is = ap (λ (r : Qh). r.token.toggle) (sym (is refl))
    toggle_at n q false is = refl

    toggle_by : (n : ℕ) (q : Qh) → parts n n ≡ Some (QueueHead q)
        → hand_toggle (Settled c (came (missed_settlement c.queue))) n q ≡ q.token.toggle
    toggle_by n q head =
        ⊎_elim (λ (same_one : n ≡ c.at). toggle_at n q (c.at == n) (λ on. queue_is n q head same_one))
        (λ (differs : n ≢ c.at). ap (λ (b : Bool). if b then c.queue.token.toggle else q.token.toggle)
        (other_number c.at n (λ is. differs (sym is)))) (cases_eq n c.at)

-- ---- the bytes that go out

-- those of a buffer are those of memory
bytes_there : (m : Mem) (parts : StructureSets) (at : ℕ) (pages : List ℕ) (from n : ℕ) (out : List ℕ) → Tells m parts → 0 < n
    → length out ≡ n → AreOfBuffer (parts at) pages from n out → out ≡ bytes_at m pages from n
bytes_there m parts at pages from n out tells some count k =
    let after = k.after in
    let long = ap length (sym k.are) ∙ count in
    let l = length-take n (drop (from - k.start) k.bytes) in
    let d = length-drop (from - k.start) k.bytes in
    let inside : from - k.start + n ≤ length k.bytes = omega (arith, some, long, l, d) in
    let same_place : k.start + (from - k.start) ≡ from = omega (arith, after) in
    k.are ∙ sym (bytes_part m parts at (place pages k.start) pages k.start k.bytes (from - k.start) n tells k.here inside) ∙ ap
    (λ (i : ℕ). bytes_at m pages i n) same_place

sent_some : (m : Mem) (parts : StructureSets) (at : ℕ) (q : Qh) (n : ℕ) (out : List ℕ) (w : IsWorking (parts at) q) → Tells m parts
    → IsReady (parts at) w.element → n ≤ q.token.total → 0 < n → AreOut (parts at) (pages_of q) (buffer_place q) n out
    → out ≡ take n (drop (buffer_place q - w.element.offset) (buffer_of (parts at) w.element))
sent_some m parts at q n out w tells ready few some k =
    let t : Qtd = w.element in
    let fewer = w.fewer in
    let stands = w.place in
    let has : HasBuffer (parts at) t t.token.total = ready.buffer (omega (arith, some, few, fewer)) in
    let size = has.size in
    let inside : buffer_place q - t.offset + n ≤ length has.bytes = omega (arith, stands, fewer, size, few) in
    let same_place : t.offset + (buffer_place q - t.offset) ≡ buffer_place q = omega (arith, stands, fewer) in
    bytes_there m parts at (pages_of q) (buffer_place q) n out tells some k.count (k.are some)
    ∙ ap (λ (ps : List ℕ). bytes_at m ps (buffer_place q) n) w.pages ∙ ap (λ (i : ℕ). bytes_at m (element_pages t) i n) (sym same_place)
    ∙ bytes_part m parts at (buffer_name t) (element_pages t) t.offset has.bytes (buffer_place q - t.offset) n tells has.here inside
    ∙ ap (λ (bs : List ℕ). take n (drop (buffer_place q - t.offset) bs)) (sym (ap bytes_in has.here))

sent_so : (m : Mem) (parts : StructureSets) (at : ℕ) (q : Qh) (n : ℕ) (out : List ℕ) (w : IsWorking (parts at) q) → Tells m parts
    → IsReady (parts at) w.element → n ≤ q.token.total → AreOut (parts at) (pages_of q) (buffer_place q) n out → AreSent (parts at) q n out
sent_so m parts at q n out w tells ready few k = record {
  element = w.element;
  here = w.here;
  are = ⊎_elim (λ (some : 0 < n). sent_some m parts at q n out w tells ready few some k)
      (λ (none : n ≤ 0). let zero : n ≡ 0 = omega (arith, none) in
      no_bytes out (k.count ∙ zero) ∙ sym (ap (λ (i : ℕ). take i
      (drop (buffer_place q - w.element.offset) (buffer_of (parts at) w.element))) zero)) (cases_lt 0 n);
  all = k.count;
}

-- ---- an isochronous descriptor

itd_asks : (met : ℕ → Option Kind) (parts : StructureSets) (got : List ℕ) (c : ItdCopy) → IsCopiedItd met parts got c
    → IsIsoAsk parts (itd_transaction c.held).ask
itd_asks met parts got c k = IsIsoAsk.of_itd c.held.at c.itd k.here (by c.held.itd.dir_in refl)
  where
    by : (b : Bool) → c.held.itd.dir_in ≡ b → AsksIso c.itd.addr c.itd.ep c.itd.dir_in (itd_transaction c.held).ask
    by true is = record {
      kind = ap (λ (x : Bool). (if x then itd_in c.held else itd_out c.held).ask.kind) is;
      address = ap (λ (x : Bool). (if x then itd_in c.held else itd_out c.held).ask.addr) is ∙ ap (λ (v : Itd). v.addr) k.same;
      number = ap (λ (x : Bool). (if x then itd_in c.held else itd_out c.held).ask.ep) is ∙ ap (λ (v : Itd). v.ep) k.same;
      token = ap (λ (x : Bool). (if x then itd_in c.held else itd_out c.held).ask.pid) is ∙ sym
          (ap (λ (x : Bool). if x then Pids.In else Pids.Out) (ap (λ (v : Itd). v.dir_in) (sym k.same) ∙ is));
    }
    by false is = record {
      kind = ap (λ (x : Bool). (if x then itd_in c.held else itd_out c.held).ask.kind) is;
      address = ap (λ (x : Bool). (if x then itd_in c.held else itd_out c.held).ask.addr) is ∙ ap (λ (v : Itd). v.addr) k.same;
      number = ap (λ (x : Bool). (if x then itd_in c.held else itd_out c.held).ask.ep) is ∙ ap (λ (v : Itd). v.ep) k.same;
      token = ap (λ (x : Bool). (if x then itd_in c.held else itd_out c.held).ask.pid) is ∙ sym
          (ap (λ (x : Bool). if x then Pids.In else Pids.Out) (ap (λ (v : Itd). v.dir_in) (sym k.same) ∙ is));
    }

abbrev sitd_completes : Sitd → IsoTransaction
sitd_completes v = sitd_with (sitd_ask v (Complete v.hub v.port) Pids.In) Directions.In 0 (part_bytes v)

abbrev sitd_starts : Sitd → IsoTransaction
sitd_starts v = sitd_with (sitd_ask v (Start v.hub v.port All) Pids.In) Directions.In 0 0

sitd_asked : (v : Sitd) → AsksIso v.addr v.ep v.dir_in (sitd_transaction v).ask
sitd_asked v = by v.dir_in refl
  where
    ins : (b : Bool) → v.split_state ≡ b → AsksIso v.addr v.ep true (sitd_in v).ask
    ins true is = subst (λ (x : Bool). AsksIso v.addr v.ep true (if x then sitd_completes v else sitd_starts v).ask) (sym is)
        (record { kind = refl; address = refl; number = refl; token = refl })
    ins false is = subst (λ (x : Bool). AsksIso v.addr v.ep true (if x then sitd_completes v else sitd_starts v).ask) (sym is)
        (record { kind = refl; address = refl; number = refl; token = refl })

    by : (b : Bool) → v.dir_in ≡ b → AsksIso v.addr v.ep v.dir_in (sitd_transaction v).ask
    by true is = subst (λ (x : Bool). AsksIso v.addr v.ep x (if x then sitd_in v else sitd_out v).ask) (sym is) (ins v.split_state refl)
    by false is = subst (λ (x : Bool). AsksIso v.addr v.ep x (if x then sitd_in v else sitd_out v).ask) (sym is)
        (record { kind = refl; address = refl; number = refl; token = refl })

sitd_asks : (met : ℕ → Option Kind) (parts : StructureSets) (reply : Reply) (c : SitdCopy) → IsCopiedSitd met parts reply c
    → c.held.settled ≡ None → IsIsoAsk parts (sitd_transaction c.held.sitd).ask
sitd_asks met parts reply c k unsettled =
    let same_one : record c.held.sitd { link = c.sitd.link } ≡ c.sitd = subst (IsTurned c reply) unsettled k.turn in
    IsIsoAsk.of_sitd c.held.at c.sitd k.here
    (subst (λ (v : Sitd). AsksIso v.addr v.ep v.dir_in (sitd_transaction c.held.sitd).ask) same_one (sitd_asked c.held.sitd))

no_itd : (parts : StructureSets) (c : ItdCopy) → parts c.held.at c.held.at ≡ Some (Isochronous c.itd) → (q : Qh)
    → parts c.held.at c.held.at ≡ Some (QueueHead q) → ⊥
no_itd parts c here q head = let e : Some (QueueHead q) ≡ Some (Isochronous c.itd) = sym head ∙ here in cc

no_sitd : (parts : StructureSets) (c : SitdCopy) → parts c.held.at c.held.at ≡ Some (SplitIsochronous c.sitd) → (q : Qh)
    → parts c.held.at c.held.at ≡ Some (QueueHead q) → ⊥
no_sitd parts c here q head = let e : Some (QueueHead q) ≡ Some (SplitIsochronous c.sitd) = sym head ∙ here in cc

-- ---- a queue head

endpoint_written : (c : Copy) (z : QueueSettlement) → endpoint_of (queue_written c z) ≡ endpoint_of c.queue
unfolding moved settled_queue
endpoint_written c z = refl

abbrev as_copy : Hand → Copy → Copy
as_copy (Copied c) other = c
as_copy _ other = other

pub same_copy : (c d : Copy) → Copied c ≡ Copied d → c ≡ d
same_copy c d e = ap (λ (h : Hand). as_copy h c) e

module _ {W : Type 0} (transacts : W → Ask → List ℕ → Reply → W → Type 0) (met : ℕ → Option Kind) (parts : StructureSets)
    (hand : FrameHand) (p : FramePlace) (wire after : W) (now : StructureSets) (later : FrameHand) (k : IsFrame met parts hand p) where
  abbrev Streamed : Type 0
  Streamed = StreamEffect (IsIsoAsk parts) transacts parts (queue_hand hand) wire after now (queue_hand later)

  in_queue : (c : Copy) (count : ℕ) → hand ≡ OfQueue c count → IsCopiedQueue met parts c
  in_queue c count is = subst (IsInFrame met parts p.walk.got p.walk.reply) is k.walk.in_hand

  in_itd : (c : ItdCopy) → hand ≡ OfItd c → IsCopiedItd met parts p.walk.got c
  in_itd c is = subst (IsInFrame met parts p.walk.got p.walk.reply) is k.walk.in_hand

  in_sitd : (c : SitdCopy) → hand ≡ OfSitd c → IsCopiedSitd met parts p.walk.reply c
  in_sitd c is = subst (IsInFrame met parts p.walk.got p.walk.reply) is k.walk.in_hand

  part_there : (c : Copy) → IsCopiedQueue met parts c → IsQueuePart c.at (parts c.at)
  part_there c copied = let m : IsMetQueue met c.at (parts c.at) = k.members c.at AQueue copied.on in m.part_is

  sound : (c : Copy) → IsCopiedQueue met parts c → IsSoundQueue (parts c.at) c.queue
  sound c copied =
      let part : IsQueuePart c.at (parts c.at) = part_there c copied in
      subst (IsSoundQueue (parts c.at)) (found_queue (parts c.at c.at) part.queue c.queue part.here copied.here) part.sound

  -- ---- a qTD is taken

  pub taken_there : (r : TakesOne parts hand now later) → parts r.takes.copy.at r.takes.copy.at ≡ Some (QueueHead r.takes.copy.queue)
  taken_there r =
      let t : Takes parts (Copied r.copy) now (Copied r.new) = r.takes in
      subst (λ (c : Copy). parts c.at c.at ≡ Some (QueueHead c.queue)) (same_copy r.copy t.copy t.in_hand)
      (in_queue r.copy r.made r.in_hand).here

  took : TakesOne parts hand now later → SameTold (queue_hand hand) parts (queue_hand later) now
  took r =
      subst (λ (h : Hand). SameTold h parts (queue_hand later) now) (sym (ap queue_hand r.in_hand))
      (subst (λ (l : Hand). SameTold (Copied r.copy) parts l now) (sym (ap queue_hand r.later_is))
      (taking_tells_the_same parts (Copied r.copy) now (Copied r.new) r.takes (taken_there r)))

  -- ---- a transaction is made

  pub asked : (r : MakesOfQueue transacts parts p.walk hand wire after later)
      → Asks transacts parts (queue_hand hand) wire after (queue_hand later)
  asked r =
      let copied : IsCopiedQueue met parts r.copy = in_queue r.copy r.made r.in_hand in
      let part : IsQueuePart r.copy.at (parts r.copy.at) = part_there r.copy copied in
      let w : IsWorking (parts r.copy.at) r.copy.queue = (sound r.copy copied).work r.works in
      record {
        copy = r.copy;
        in_hand = ap queue_hand r.in_hand;
        here = copied.here;
        part_is = part;
        works = r.works;
        kind = Interrupt;
        last = is_last_of p.walk.index r.copy.queue;
        asked_as = in_frames (is_last_of p.walk.index r.copy.queue);
        out = r.out;
        sent = sent_so p.memory parts r.copy.at r.copy.queue (planned r.copy.queue).bytes r.out w k.tells
            ((part.elements r.copy.queue.current w.element w.here).work w.published) (bytes_few r.copy.queue) r.sent;
        reply = r.reply;
        made = r.asked;
        held = r.copy;
        at_same = refl;
        queue_same = refl;
        later_is = ap queue_hand r.later_is;
      }

  made_one : MakesOne transacts parts p.walk hand wire after later → now ≡ parts → Streamed
  made_one (of_queue r) all =
      let m : Asks transacts parts (queue_hand hand) wire after (queue_hand later) = asked r in
      grows m all (asked_grows transacts parts (queue_hand hand) wire after (queue_hand later) m)
  made_one (of_itd r) all =
      aside (same_kept (queue_hand hand) (queue_hand later) parts now all (empty_is hand (ap queue_hand r.in_hand))
      (empty_is later (ap queue_hand r.later_is))) (itd_transaction r.copy.held).ask r.out r.reply
      (itd_asks met parts p.walk.got r.copy (in_itd r.copy r.in_hand)) r.asked
  made_one (of_sitd r) all =
      aside (same_kept (queue_hand hand) (queue_hand later) parts now all (empty_is hand (ap queue_hand r.in_hand))
      (empty_is later (ap queue_hand r.later_is))) (sitd_transaction r.copy.held.sitd).ask r.out r.reply
      (sitd_asks met parts p.walk.reply r.copy (in_sitd r.copy r.in_hand) r.unsettled) r.asked

  -- ---- a transaction is written back

  module _ (r : WritesQueue parts p.walk hand now later) where
    both : IsCopiedQueue met parts r.copy × IsQueueSettled r.copy.queue p.walk.reply r.settled
    both = hand_is_settled met parts p.walk hand r.copy r.settled r.made k.walk.in_hand r.from

    pub written_part : IsQueuePart r.copy.at (parts r.copy.at)
    written_part = part_there r.copy both.0

    -- what it came to is written back
    pub writes_copy : WritesCopy parts (Settled r.copy (came r.settled)) now (queue_hand later) r.copy (came r.settled)
        (settled_in r.copy r.settled)
    writes_copy = record {
      in_hand = refl;
      head = both.0.here;
      works = both.1.came_to.works;
      range = settled_range r.copy r.settled p.walk.reply both.0.range both.1;
      settled = settled_facts r.copy r.settled;
      written = written_facts r.copy r.settled;
      named = endpoint_written r.copy r.settled;
      element = r.element;
      here = r.here;
      received_is = r.received_is;
      now_is = r.now_is;
      unsettled = subst NothingSettled (sym (ap queue_hand r.later_is))
          (after_unsettled (record r.copy { queue = queue_written r.copy r.settled })
          (goes_on r.made (settled_in r.copy r.settled) r.settled.outcome) r.made);
    }

    from_settled : SameTold (Settled r.copy (came r.settled)) parts (queue_hand later) now
    from_settled =
        write_tells_the_same parts (Settled r.copy (came r.settled)) now (queue_hand later) r.copy (came r.settled)
        (settled_in r.copy r.settled) writes_copy written_part.own

    wrote_queue : IsSettledFrom p.walk hand r.copy r.settled r.made → SameTold (queue_hand hand) parts (queue_hand later) now
    wrote_queue (was_worked is) = subst (λ (h : Hand). SameTold h parts (queue_hand later) now) (sym (ap queue_hand is)) from_settled
    wrote_queue (was_missed is turn missed_is) =
        subst (λ (h : Hand). SameTold h parts (queue_hand later) now) (sym (ap queue_hand is))
        (both_told (Copied r.copy) (Settled r.copy (came r.settled)) (queue_hand later) parts parts now
        (subst (λ (z : QueueSettlement). SameTold (Copied r.copy) parts (Settled r.copy (came z)) parts) (sym missed_is)
        (missed_told parts r.copy both.0.here)) from_settled)

  -- a descriptor's write-back leaves all other parts
  no_itd_head : (r : WritesItd parts p.walk hand now later) (q : Qh) → parts r.copy.held.at r.copy.held.at ≡ Some (QueueHead q) → ⊥
  no_itd_head r q head = let copied : IsCopiedItd met parts p.walk.got r.copy = in_itd r.copy r.in_hand in
      no_itd parts r.copy copied.here q head

  beside_itd : (r : WritesItd parts p.walk hand now later) (n : ℕ) → n ≢ r.copy.held.at → now n ≡ parts n
  beside_itd r n differs =
      ap (λ (ps : StructureSets). ps n) r.now_is
      ∙ put_beside (received_parts parts r.copy.held.at p.walk.got r.into) r.copy.held.at r.copy.held.at
      (Isochronous (itd_back r.copy)) n differs
      ∙ received_beside parts r.copy.held.at p.walk.got r.into n differs

  no_sitd_head : (r : WritesSitd parts p.walk hand now later) (q : Qh) → parts r.back.held.at r.back.held.at ≡ Some (QueueHead q) → ⊥
  no_sitd_head r q head =
      let copied : IsCopiedSitd met parts p.walk.reply r.copy = in_sitd r.copy r.in_hand in
      no_sitd parts r.copy copied.here q (ap (λ (i : ℕ). parts i i) (sym (written_from p.walk r.copy r.back r.written)) ∙ head)

  beside_sitd : (r : WritesSitd parts p.walk hand now later) (n : ℕ) → n ≢ r.back.held.at → now n ≡ parts n
  beside_sitd r n differs =
      let got = sitd_received r.back.held.sitd.dir_in r.outcome p.walk.reply in
      ap (λ (ps : StructureSets). ps n) r.now_is
      ∙ put_beside (received_parts parts r.back.held.at got r.into) r.back.held.at r.back.held.at
      (SplitIsochronous (sitd_back r.back (sitd_moved_by r.outcome))) n differs
      ∙ received_beside parts r.back.held.at got r.into n differs

  -- of a queue head nothing
  pub itd_leaves : (r : WritesItd parts p.walk hand now later) (n : ℕ) (q : Qh) → parts n n ≡ Some (QueueHead q) → now n ≡ parts n
  itd_leaves r n q head = head_stays parts now r.copy.held.at (no_itd_head r) (beside_itd r) n q head

  pub sitd_leaves : (r : WritesSitd parts p.walk hand now later) (n : ℕ) (q : Qh) → parts n n ≡ Some (QueueHead q) → now n ≡ parts n
  sitd_leaves r n q head = head_stays parts now r.back.held.at (no_sitd_head r) (beside_sitd r) n q head

  wrote : WritesOne parts p.walk hand now later → SameTold (queue_hand hand) parts (queue_hand later) now
  wrote (of_queue r) = wrote_queue r r.from
  wrote (of_itd r) = told_beside (queue_hand hand) (queue_hand later) parts now (itd_leaves r) (empty_is hand (ap queue_hand r.in_hand))
      (empty_is later (ap queue_hand r.nothing))
  wrote (of_sitd r) = told_beside (queue_hand hand) (queue_hand later) parts now (sitd_leaves r) (empty_is hand (ap queue_hand r.in_hand))
      (empty_is later (ap queue_hand r.nothing))

  -- ---- the event

  pub streams_by : (kind : WalkStep) → FrameEffect transacts parts p.walk hand wire after now later kind → Streamed
  streams_by _ (fetches none r all quiet) = same (same_kept (queue_hand hand) (queue_hand later) parts now all
      (empty_is hand (ap queue_hand none)) (fetched_unsettled parts p.walk later r)) quiet
  streams_by _ (passes un nothing all quiet) = same
      (same_kept (queue_hand hand) (queue_hand later) parts now all (passed_unsettled hand un) (empty_is later (ap queue_hand nothing)))
      quiet
  streams_by _ (ends none nothing all quiet) = same
      (same_kept (queue_hand hand) (queue_hand later) parts now all (empty_is hand (ap queue_hand none))
      (empty_is later (ap queue_hand nothing))) quiet
  streams_by _ (takes r quiet) = same (took r) quiet
  streams_by _ (makes r all) = made_one r all
  streams_by _ (writes r quiet) = same (wrote r) quiet

pub frame_moves_streams : {W : Type 0} (transacts : W → Ask → List ℕ → Reply → W → Type 0) → FrameMovesStreams transacts
frame_moves_streams transacts met parts hand p wire after now later kind k effect =
    streams_by transacts met parts hand p wire after now later k kind effect
