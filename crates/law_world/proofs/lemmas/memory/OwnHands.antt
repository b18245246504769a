-- Each word that the next event may write of what is in hand is the controller's.
use Rattle.std.proofs.Common.{◌≡◌, ◌≢◌, ℕ, zero, suc, ◌+◌, ◌-◌, ◌*◌, ◌/◌, ◌%◌, ◌<◌, ◌≤◌, Bool, true, false, if◌then◌else◌, List, [], length}
use Rattle.std.proofs.Common.{Option, Some, None, ap, refl, sym, subst, ◌∙◌, arith, ⊎_elim, inl, inr}
use Rattle.std.specs.Prelude.{◌⊎◌, ◌==◌, IfSome}
use Rattle.std.proofs.lemmas.Bool.{cases_lt, cases_eq, eqb-true}
use Rattle.usb_base.specs.declared.packets.Pid.{Pid}
use Rattle.usb_base.specs.declared.packets.Pid.TheVariants.{In, Out, Setup}
use Rattle.usb_base.specs.declared.packets.Reply.{Reply}
use Rattle.mem_bytes.specs.Bytes.{place}
use Rattle.link_words.specs.declared.kinds.Link.{Link}
use Rattle.qh_qtd.specs.declared.queue_head.Qh.{Qh}
use Rattle.itd_sitd.specs.declared.itd.Itd.{Itd}
use Rattle.itd_sitd.specs.declared.slot.ItdSlot.{ItdSlot}
use Rattle.itd_sitd.specs.declared.sitd.Sitd.{Sitd}
use Rattle.itd_sitd.specs.Itd.{slot_of}
use Rattle.toggle_error.specs.declared.host.Outcome.{Outcome}
use Rattle.transactions.specs.Calls.{got_of}
use Rattle.mem_queues.specs.Structures.{queue_head_at_address, qtd_at_address}
use Rattle.mem_descriptors.specs.Descriptors.{itd_at_address, sitd_at_address, slot_address}
use Rattle.hc_copy.specs.declared.held.Held.{Held}
use Rattle.hc_copy.specs.Planning.{pid_at}
use Rattle.hc_copy.specs.Overlay.{pages_of, buffer_place}
use Rattle.hc_copy.specs.WriteBack.{moved_by, received}
use Rattle.hc_iso.specs.declared.held.HeldItd.{HeldItd}
use Rattle.hc_iso.specs.declared.held.HeldSitd.{HeldSitd}
use Rattle.hc_iso.specs.declared.held.IsoEnd.{IsoEnd}
use Rattle.hc_iso.specs.declared.held.SplitOutcome.{SplitOutcome}
use Rattle.hc_iso.specs.Sitd.{sitd_place}
use Rattle.hc_iso.specs.WriteBack.{itd_pages, slot_place, sitd_pages, sitd_received, moved_by as split_moved}
use Rattle.hc_core.specs.Controller.{Content}
use Rattle.claims_world.specs.Reach.{QueueAt, QtdAt, ItdAt, SitdAt, ByteAt, Reaches}
use Rattle.claims_world.specs.Reach as reach
use Rattle.claims_world.specs.Owners.{IsControllers}
use Rattle.claims_world.specs.Owners as owners
use Rattle.law_structures.specs.lent_structures.Settles.{Leaves, Brings}
use Rattle.law_structures.specs.lent_structures.Structures.{QueueHead, Element, Isochronous, SplitIsochronous, HoldsQueueHead, HoldsElement}
use Rattle.law_structures.specs.lent_structures.Structures.{HoldsIsochronous}
use Rattle.law_structures.specs.lent_structures.Structures.{HoldsSplitIsochronous, StructureSets, Tells}
use Rattle.law_structures.specs.lent_structures.Sound.{IsWorking, IsSoundQueue}
use Rattle.law_structures.proofs.lemmas.lent_structures.Reading.{head_read, element_read, itd_read_there, sitd_read_there}
use Rattle.law_ring.specs.Hand.{Copy, copied_queue, Settlement}
use Rattle.law_ring.specs.Ring.{IsSettled}
use Rattle.law_controller.specs.event_places.Places.{IsBesideBytes}
use Rattle.law_frames.specs.Met.{Kind}
use Rattle.law_frames.specs.FrameHand.{ItdCopy, SitdCopy}
use Rattle.law_frames.specs.Frame.{HasSameExtent, received_of, IsCopiedItd, IsCopiedSitd, IsMoved, IsTurned, turned}
use Rattle.law_world.proofs.lemmas.memory.OwnPlaces.{IsQueueLeft, IsItdLeft, IsSitdLeft}

-- ---- a place among several

record IsIndex (f : ℕ → ℕ) (v n : ℕ) : Type 0 where
  number : ℕ
  low : number < n
  is : v ≡ f number

abbrev IsNoIndex : (ℕ → ℕ) → ℕ → ℕ → Type 0
IsNoIndex f v n = (i : ℕ) → i < n → v ≢ f i

search : (f : ℕ → ℕ) (v n : ℕ) → IsIndex f v n ⊎ IsNoIndex f v n
search f v zero = inr (λ i low. absurd (omega (arith, low)))
search f v (suc n) =
    ⊎_elim (λ (here : v ≡ f n). inl (record { number = n; low = omega arith; is = here }))
    (λ (off : v ≢ f n).
    ⊎_elim (λ (k : IsIndex f v n). inl (record { number = k.number; low = let l = k.low in omega (arith, l); is = k.is }))
    (λ (none : IsNoIndex f v n).
    inr (λ i low. ⊎_elim (λ (less : i < n). none i less) (λ (most : n ≤ i). let e : i ≡ n = omega (arith, low, most) in λ same. off
    (same ∙ ap f e)) (cases_lt i n)))
    (search f v n)) (cases_eq v (f n))

-- ---- data come in

in_by : (out in_ : Bool) → (if out then Out else if in_ then In else Setup) ≡ In → in_ ≡ true
in_by true in_ is = absurd (cc is)
in_by false true is = refl
in_by false false is = absurd (cc is)

pid_in : (code : ℕ) → pid_at code ≡ In → code ≡ 1
pid_in code is = eqb-true code 1 (in_by (code == 0) (code == 1) is)

some_one : {X : Type 0} (x y : X) → Some x ≡ Some y → x ≡ y
some_one x y same = cc same

module _ (c : Content) (parts : StructureSets) (tells : Tells c.memory parts) (at : ℕ) (low : at % 4 ≡ 0) where
  -- ---- a queue head

  module _ (x : Copy) (here : parts x.at x.at ≡ Some (QueueHead x.queue)) (way : Reaches c (QueueAt x.at))
      (sound : IsSoundQueue (parts x.at) x.queue) where
    read : queue_head_at_address c.memory x.at ≡ Some x.queue
    read = head_read c.memory parts x.at x.at x.queue tells here

    aligned : x.at % 32 ≡ 0
    aligned = let h : HoldsQueueHead c.memory x.at x.queue = tells.each x.at x.at (QueueHead x.queue) here in h.aligned

    overlay_own : (i : ℕ) → x.queue.token.halted ≡ false → i < 9 → at / 4 ≡ (x.at + 12 + 4 * i) / 4 → IsControllers c at
    overlay_own i goes few same =
        let on = aligned in
        owners.of_overlay x.at x.queue (3 + i) way read goes (omega arith) (omega (arith, few)) (omega (arith, on, low, same))

    token_own : x.queue.token.active ≡ true → at / 4 ≡ (x.queue.current + 8) / 4 → IsControllers c at
    token_own active same =
        let w : IsWorking (parts x.at) x.queue = sound.work active in
        let h : HoldsElement c.memory x.queue.current w.element = tells.each x.at x.queue.current (Element w.element) w.here in
        let on = h.aligned in
        owners.of_token x.queue.current w.element
        (reach.of_queue x.at x.queue (QtdAt x.queue.current) way (reach.in_memory read) (reach.current w.goes_on active refl))
        (element_read c.memory parts x.at x.queue.current w.element tells w.here) w.published (omega (arith, on, low, same))

    byte_own : (i : ℕ) → x.queue.token.active ≡ true → x.queue.token.pid ≡ 1 → i < x.queue.token.total
        → at / 4 ≡ place (pages_of x.queue) (buffer_place x.queue + i) / 4 → IsControllers c at
    byte_own i active pid few same =
        let w : IsWorking (parts x.at) x.queue = sound.work active in
        owners.of_byte (place (pages_of x.queue) (buffer_place x.queue + i))
        (owners.by_queue x.at x.queue way read pid (reach.byte w.goes_on active i few refl)) (sym same)

    pub copied : (reply : Reply)
        → IsControllers c at ⊎ IsQueueLeft (record { at = x.at; queue_head = copied_queue x; settled = None }) reply at
    copied reply = by x.queue.token.halted refl
      where
        token_at : (none : (i : ℕ) → i < 9 → at / 4 ≢ (x.at + 12 + 4 * i) / 4) → (active : Bool) → x.queue.token.active ≡ active
            → (at / 4 ≡ (x.queue.current + 8) / 4) ⊎ (at / 4 ≢ (x.queue.current + 8) / 4)
            → IsControllers c at ⊎ IsQueueLeft (record { at = x.at; queue_head = copied_queue x; settled = None }) reply at
        token_at none true act (inl same) = inl (token_own act same)
        token_at none active act (inr off) = inr (record {
          overlay = λ goes. none;
          token = λ works. off;
          bytes = λ o some. absurd
              (cc some);
        })
        token_at none false act (inl same) =
            inr (record {
              overlay = λ goes. none;
              token = λ works. absurd (let w = (works refl).0 in cc (w, act));
              bytes = λ o some. absurd
                  (cc some);
            })

        by : (halted : Bool) → x.queue.token.halted ≡ halted
            → IsControllers c at ⊎ IsQueueLeft (record { at = x.at; queue_head = copied_queue x; settled = None }) reply at
        by true is = inr (record {
          overlay = λ goes. absurd (let g = goes refl in cc (g, is));
          token = λ works. absurd (let w = (works refl).1 in cc (w, is));
          bytes = λ o some. absurd (cc some);
        })
        by false is =
            ⊎_elim (λ (k : IsIndex (λ i. (x.at + 12 + 4 * i) / 4) (at / 4) 9). inl (overlay_own k.number is k.low k.is))
            (λ (none : IsNoIndex (λ i. (x.at + 12 + 4 * i) / 4) (at / 4) 9).
            token_at none x.queue.token.active refl (cases_eq (at / 4) ((x.queue.current + 8) / 4)))
            (search (λ i. (x.at + 12 + 4 * i) / 4) (at / 4) 9)

    module _ (reply : Reply) (s : Settlement) (g : Qh) (is : IsSettled x.queue reply s) (current : g.current ≡ x.queue.current)
        (pages : pages_of g ≡ pages_of x.queue) (start : buffer_place g ≡ buffer_place x.queue)
        (pid : g.token.pid ≡ x.queue.token.pid) where
      got_is : received g s.outcome reply ≡ s.got
      got_is = ap (λ (n : ℕ). got_of (pid_at n) s.outcome reply) pid ∙ sym is.got

      -- bytes come in, and no more than are left
      comes : (i : ℕ) → i < length s.got → (x.queue.token.pid ≡ 1) × (i < x.queue.token.total)
      comes i few =
          ⊎_elim
          (λ (one : x.queue.token.pid ≡ 1).
          let all : length s.got ≡ moved_by s.outcome = is.bytes.all (ap pid_at one) in
          let left : s.host.left + moved_by s.outcome ≡ x.queue.token.total = is.host.left in
          (one, omega (arith, few, all, left)))
          (λ (other : x.queue.token.pid ≢ 1).
          let none : length s.got ≡ 0 = ap length (is.bytes.none (λ same. other (pid_in x.queue.token.pid same))) in
          absurd (omega (arith, few, none)))
          (cases_eq x.queue.token.pid 1)

      byte_same : (i : ℕ) → place (pages_of g) (buffer_place g + i) / 4 ≡ place (pages_of x.queue) (buffer_place x.queue + i) / 4
      byte_same i = ap (λ (ps : List ℕ). place ps (buffer_place g + i) / 4) pages
          ∙ ap (λ (n : ℕ). place (pages_of x.queue) (n + i) / 4) start

      byte_found : (i : ℕ) → i < length s.got → at / 4 ≡ place (pages_of g) (buffer_place g + i) / 4 → IsControllers c at
      byte_found i few same = let k = comes i few in byte_own i is.works k.0 k.1 (same ∙ byte_same i)

      goes : x.queue.token.halted ≡ false
      goes = (sound.work is.works).goes_on

      pub settled : IsControllers c at ⊎ IsQueueLeft (record { at = x.at; queue_head = g; settled = Some s.outcome }) reply at
      settled =
          ⊎_elim (λ (k : IsIndex (λ i. (x.at + 12 + 4 * i) / 4) (at / 4) 9). inl (overlay_own k.number goes k.low k.is))
          (λ (overlay : IsNoIndex (λ i. (x.at + 12 + 4 * i) / 4) (at / 4) 9).
          ⊎_elim (λ (same : at / 4 ≡ (g.current + 8) / 4). inl (token_own is.works (same ∙ ap (λ (n : ℕ). (n + 8) / 4) current)))
          (λ (token : at / 4 ≢ (g.current + 8) / 4).
          ⊎_elim (λ (k : IsIndex (λ i. place (pages_of g) (buffer_place g + i) / 4) (at / 4) (length s.got)). inl
          (byte_found k.number k.low k.is))
          (λ (none : IsNoIndex (λ i. place (pages_of g) (buffer_place g + i) / 4) (at / 4) (length s.got)).
          inr (record {
            overlay = λ fresh. overlay;
            token = λ fresh. token;
            bytes = λ o some.
                subst (λ (p : Outcome). IsBesideBytes (pages_of g) (buffer_place g) (length (received g p reply)) at)
                (some_one s.outcome o some)
                (subst (λ (bs : List ℕ). IsBesideBytes (pages_of g) (buffer_place g) (length bs) at) (sym got_is)
                (λ i few same. none i few (sym same)));
          }))
          (search (λ i. place (pages_of g) (buffer_place g + i) / 4) (at / 4) (length s.got)))
          (cases_eq (at / 4) ((g.current + 8) / 4)))
          (search (λ i. (x.at + 12 + 4 * i) / 4) (at / 4) 9)

  -- ---- an iTD

  module _ (met : ℕ → Option Kind) (got : List ℕ) (x : ItdCopy) (is : IsCopiedItd met parts got x) (way : Reaches c (ItdAt x.held.at))
      (works : (e : IsoEnd) → x.held.ended ≡ Some e → x.held.slot.active ≡ true) where
    itd_read : itd_at_address c.memory x.held.at ≡ Some x.itd
    itd_read = itd_read_there c.memory parts x.held.at x.held.at x.itd tells is.here

    itd_aligned : x.held.at % 32 ≡ 0
    itd_aligned = let h : HoldsIsochronous c.memory x.held.at x.itd = tells.each x.held.at x.held.at
        (Isochronous x.itd) is.here in h.aligned

    itd_active : (e : IsoEnd) → x.held.ended ≡ Some e → (slot_of x.held.number x.itd).active ≡ true
    itd_active e ended = sym is.slot.active ∙ works e ended

    slot_own : (e : IsoEnd) → x.held.ended ≡ Some e → at / 4 ≡ slot_address x.held.at x.held.number / 4 → IsControllers c at
    slot_own e ended same =
        let on = itd_aligned in
        owners.of_slot x.held.at x.itd x.held.number way itd_read is.held.number (itd_active e ended) (omega (arith, on, low, same))

    pages_same : itd_pages x.held.itd ≡ itd_pages x.itd
    pages_same = ap itd_pages is.same

    start_same : slot_place x.held.slot ≡ slot_place (slot_of x.held.number x.itd)
    start_same = ap (λ (n : ℕ). n * 4096 + x.held.slot.offset) is.slot.page
        ∙ ap (λ (n : ℕ). (slot_of x.held.number x.itd).pg * 4096 + n) is.slot.offset

    itd_comes : (i : ℕ) → i < length got → (x.itd.dir_in ≡ true) × (i < (slot_of x.held.number x.itd).length)
    itd_comes i few = by x.held.itd.dir_in refl
      where
        by : (dir_in : Bool) → x.held.itd.dir_in ≡ dir_in → (x.itd.dir_in ≡ true) × (i < (slot_of x.held.number x.itd).length)
        by true dir =
            let count : length got ≡ x.held.moved = is.count ∙ ap (λ (b : Bool). received_of b x.held.moved) dir in
            let within = is.held.within in
            let long : x.held.slot.length ≡ (slot_of x.held.number x.itd).length = is.slot.length in
            (sym (ap (λ (v : Itd). v.dir_in) is.same) ∙ dir, omega (arith, few, count, within, long))
        by false dir =
            let count : length got ≡ 0 = is.count ∙ ap (λ (b : Bool). received_of b x.held.moved) dir in
            absurd (omega (arith, few, count))

    itd_byte : (e : IsoEnd) → x.held.ended ≡ Some e → (i : ℕ) → i < length got
        → at / 4 ≡ place (itd_pages x.held.itd) (slot_place x.held.slot + i) / 4
        → IsControllers c at
    itd_byte e ended i few same =
        let k = itd_comes i few in
        let there : place (itd_pages x.held.itd) (slot_place x.held.slot + i) / 4 ≡ place (itd_pages x.itd)
        (slot_place (slot_of x.held.number x.itd) + i) / 4 =
        ap (λ (ps : List ℕ). place ps (slot_place x.held.slot + i) / 4) pages_same
        ∙ ap (λ (n : ℕ). place (itd_pages x.itd) (n + i) / 4) start_same in
        owners.of_byte (place (itd_pages x.itd) (slot_place (slot_of x.held.number x.itd) + i))
        (owners.by_itd x.held.at x.itd way itd_read k.0 (reach.byte x.held.number is.held.number (itd_active e ended) i k.1 refl))
        (sym (same ∙ there))

    pub itd_own : IsControllers c at ⊎ IsItdLeft x.held got at
    itd_own = by x.held.ended refl
      where
        by : (o : Option IsoEnd) → x.held.ended ≡ o → IsControllers c at ⊎ IsItdLeft x.held got at
        by None ended = inr (record { slot = λ e some. absurd (cc (some, ended)); bytes = λ e some. absurd (cc (some, ended)) })
        by (Some e) ended =
            ⊎_elim (λ (same : at / 4 ≡ slot_address x.held.at x.held.number / 4). inl (slot_own e ended same))
            (λ (off : at / 4 ≢ slot_address x.held.at x.held.number / 4).
            ⊎_elim (λ (k : IsIndex (λ i. place (itd_pages x.held.itd) (slot_place x.held.slot + i) / 4) (at / 4) (length got)). inl
            (itd_byte e ended k.number k.low k.is))
            (λ (none : IsNoIndex (λ i. place (itd_pages x.held.itd) (slot_place x.held.slot + i) / 4) (at / 4) (length got)).
            inr (record { slot = λ f some. off; bytes = λ f some i few same. none i few (sym same) }))
            (search (λ i. place (itd_pages x.held.itd) (slot_place x.held.slot + i) / 4) (at / 4) (length got)))
            (cases_eq (at / 4) (slot_address x.held.at x.held.number / 4))

  -- ---- a siTD

  module _ (met : ℕ → Option Kind) (reply : Reply) (x : SitdCopy) (is : IsCopiedSitd met parts reply x)
      (way : Reaches c (SitdAt x.held.at)) where
    sitd_read : sitd_at_address c.memory x.held.at ≡ Some x.sitd
    sitd_read = sitd_read_there c.memory parts x.held.at x.held.at x.sitd tells is.here

    sitd_aligned : x.held.at % 32 ≡ 0
    sitd_aligned =
        let h : HoldsSplitIsochronous c.memory x.held.at x.sitd = tells.each x.held.at x.held.at
        (SplitIsochronous x.sitd) is.here in h.aligned

    state_own : (i : ℕ) → x.sitd.active ≡ true → i < 3 → at / 4 ≡ (x.held.at + 12 + 4 * i) / 4 → IsControllers c at
    state_own i active few same =
        let on = sitd_aligned in
        owners.of_state x.held.at x.sitd (3 + i) way sitd_read active (omega arith) (omega (arith, few)) (omega (arith, on, low, same))

    module _ (o : SplitOutcome) (m : IsMoved x reply o) where
      sitd_comes : (i : ℕ) → i < length (sitd_received x.held.sitd.dir_in o reply) → (x.sitd.dir_in ≡ true) × (i < x.sitd.total)
      sitd_comes i few = by x.held.sitd.dir_in refl
        where
          by : (dir_in : Bool) → x.held.sitd.dir_in ≡ dir_in → (x.sitd.dir_in ≡ true) × (i < x.sitd.total)
          by true dir =
              let count : length (sitd_received x.held.sitd.dir_in o reply) ≡ split_moved o = m.count
              ∙ ap (λ (b : Bool). received_of b (split_moved o)) dir in
              let left = m.left in
              (ap (λ (v : Sitd). v.dir_in) m.same ∙ dir, omega (arith, few, count, left))
          by false dir =
              let count : length (sitd_received x.held.sitd.dir_in o reply) ≡ 0 = m.count
              ∙ ap (λ (b : Bool). received_of b (split_moved o)) dir in
              absurd (omega (arith, few, count))

      sitd_byte : (i : ℕ) → i < length (sitd_received x.held.sitd.dir_in o reply)
          → at / 4 ≡ place (sitd_pages x.held.sitd) (sitd_place x.held.sitd + i) / 4
          → IsControllers c at
      sitd_byte i few same =
          let k = sitd_comes i few in
          let pages : sitd_pages x.sitd ≡ sitd_pages x.held.sitd = ap sitd_pages m.same in
          let start : sitd_place x.sitd ≡ sitd_place x.held.sitd = ap sitd_place m.same in
          let there : place (sitd_pages x.sitd) (sitd_place x.sitd + i) / 4 ≡ place (sitd_pages x.held.sitd)
          (sitd_place x.held.sitd + i) / 4 =
          ap (λ (ps : List ℕ). place ps (sitd_place x.sitd + i) / 4) pages
          ∙ ap (λ (n : ℕ). place (sitd_pages x.held.sitd) (n + i) / 4) start in
          owners.of_byte (place (sitd_pages x.sitd) (sitd_place x.sitd + i))
          (owners.by_sitd x.held.at x.sitd way sitd_read k.0 (reach.byte m.works i k.1 refl)) (there ∙ sym same)

      moved_own : x.held.settled ≡ Some o → IsControllers c at ⊎ IsSitdLeft x.held reply at
      moved_own set =
          ⊎_elim (λ (k : IsIndex (λ i. (x.held.at + 12 + 4 * i) / 4) (at / 4) 3). inl (state_own k.number m.works k.low k.is))
          (λ (state : IsNoIndex (λ i. (x.held.at + 12 + 4 * i) / 4) (at / 4) 3).
          ⊎_elim
          (λ (k : IsIndex (λ i. place (sitd_pages x.held.sitd) (sitd_place x.held.sitd + i) / 4) (at / 4)
          (length (sitd_received x.held.sitd.dir_in o reply))).
          inl (sitd_byte k.number k.low k.is))
          (λ (none : IsNoIndex (λ i. place (sitd_pages x.held.sitd) (sitd_place x.held.sitd + i) / 4) (at / 4)
          (length (sitd_received x.held.sitd.dir_in o reply))).
          inr (record {
            state = λ fresh. state;
            bytes = λ p some.
                subst (λ (r : SplitOutcome). IsBesideBytes (sitd_pages x.held.sitd) (sitd_place x.held.sitd)
                (length (sitd_received x.held.sitd.dir_in r reply)) at)
                (some_one o p (sym set ∙ some)) (λ i few same. none i few (sym same));
          }))
          (search (λ i. place (sitd_pages x.held.sitd) (sitd_place x.held.sitd + i) / 4) (at / 4)
          (length (sitd_received x.held.sitd.dir_in o reply))))
          (search (λ i. (x.held.at + 12 + 4 * i) / 4) (at / 4) 3)

    turned_own : x.held.settled ≡ None → record x.held.sitd { link = x.sitd.link } ≡ x.sitd
        → IsControllers c at ⊎ IsSitdLeft x.held reply at
    turned_own fresh same = by x.sitd.active refl
      where
        held_active : x.held.sitd.active ≡ x.sitd.active
        held_active = ap (λ (v : Sitd). v.active) same

        by : (active : Bool) → x.sitd.active ≡ active → IsControllers c at ⊎ IsSitdLeft x.held reply at
        by true active =
            ⊎_elim (λ (k : IsIndex (λ i. (x.held.at + 12 + 4 * i) / 4) (at / 4) 3). inl (state_own k.number active k.low k.is))
            (λ (state : IsNoIndex (λ i. (x.held.at + 12 + 4 * i) / 4) (at / 4) 3).
            inr (record { state = λ works. state; bytes = λ o some. absurd (cc (some, fresh)) }))
            (search (λ i. (x.held.at + 12 + 4 * i) / 4) (at / 4) 3)
        by false active = inr (record {
          state = λ works. absurd (let w = works fresh in cc
              (w, held_active, active));
          bytes = λ o some. absurd (cc (some, fresh));
        })

    pub sitd_own : IsControllers c at ⊎ IsSitdLeft x.held reply at
    sitd_own = by x.held.settled refl is.turn
      where
        by : (o : Option SplitOutcome) → x.held.settled ≡ o → IsTurned x reply o → IsControllers c at ⊎ IsSitdLeft x.held reply at
        by None set same = turned_own set same
        by (Some o) set m = moved_own o m set
