-- A transaction: the bytes of the current qTD grow by those that it moved.
use Rattle.std.proofs.Common.{◌≡◌, ◌≢◌, ℕ, ◌+◌, ◌-◌, ◌<◌, ◌≤◌, Bool, true, false, ◌&&◌, ◌==◌, if◌then◌else◌, List, [], ◌++◌, length, take, drop, Some, ap, refl, sym, subst, ◌∙◌, ⊎_elim, inl, inr, arith}
use Rattle.std.specs.Prelude.{◌⊎◌}
use Rattle.std.proofs.lemmas.Bool.{cases_eq, cases_lt, eq-eqb, eqb-true}
use Rattle.std.proofs.lemmas.List.{take-append-drop, take-take, drop-take, take_at, length-take, length-append, append_assoc, append-nil}
use Rattle.law_common.proofs.Lists.{no_bytes}
use Rattle.law_common.proofs.Numbers.{other_number}
use Rattle.usb_base.specs.declared.packets.Ask.{Ask}
use Rattle.usb_base.specs.declared.packets.Pid.TheVariants as pids
use Rattle.usb_base.specs.declared.packets.Reply.{Reply}
use Rattle.qh_qtd.specs.declared.qtd.Qtd.{Qtd}
use Rattle.qh_qtd.specs.declared.queue_head.Qh.{Qh}
use Rattle.hc_copy.specs.Overlay.{buffer_place}
use Rattle.hc_copy.specs.Planning.{pid_at, host_in}
use Rattle.hc_copy.specs.WriteBack.{moved_by}
use Rattle.async_walk.specs.Naks.{kind_at}
use Rattle.law_structures.specs.lent_structures.Settles.{Leaves, Brings, Settles}
use Rattle.law_structures.proofs.lemmas.lent_structures.Settling.{a_transaction_settles}
use Rattle.law_structures.specs.lent_structures.Structures.{QueueHead, Structures, StructureSets}
use Rattle.law_structures.specs.lent_structures.Changes.{overwritten}
use Rattle.law_structures.specs.lent_structures.Sound.{HasBuffer, IsReady, IsWorking, IsSoundQueue, IsMember}
use Rattle.law_structures.proofs.lemmas.lent_structures.Altering.{found_queue, found_element}
use Rattle.law_ring.specs.Hand.{Copy, Settlement, Hand, Settled}
use Rattle.law_ring.specs.Effects.{bytes_in, buffer_of, settlement, counted, Makes, in_ring, Asks, came_to}
use Rattle.law_ring.specs.QueueParts.{IsQueuePart}
use Rattle.law_ring.specs.Told.{works_on, told_bytes, settled_bytes, hand_bytes, Told, hand_toggle}
use Rattle.law_ring.specs.Streams.{moved_bytes, Grows}
use Rattle.law_ring.proofs.QueueParts.{member_part}
use Rattle.law_ring.proofs.Keeping.{copied_unsettled, unsettled_bytes, unsettled_toggle}

-- ---- lists

pub overwritten_by_none : (bs : List ℕ) (j : ℕ) → overwritten bs j [] ≡ bs
overwritten_by_none bs j = let z : j + 0 ≡ j = omega arith in ap (λ (i : ℕ). take j bs ++ drop i bs) z ∙ take-append-drop j bs

grown_in : (bs got : List ℕ) (j : ℕ) → j ≤ length bs → take (j + length got) (overwritten bs j got) ≡ take j bs ++ got
grown_in bs got j within =
    ap (take (j + length got)) (sym (append_assoc (take j bs) got (drop (j + length got) bs)))
    ∙ take_at (take j bs ++ got) (drop (j + length got) bs) (j + length got) (let a = length-append (take j bs) got in let t = length-take j bs in omega (arith, a, t, within))

grown_out : (bs : List ℕ) (j n : ℕ) → take (j + n) bs ≡ take j bs ++ take n (drop j bs)
grown_out bs j n =
    sym (take-append-drop j (take (j + n) bs))
    ∙ ap (λ (xs : List ℕ). xs ++ drop j (take (j + n) bs)) (take-take j (j + n) bs (omega arith))
    ∙ ap (λ (xs : List ℕ). take j bs ++ xs) (drop-take j n bs)

-- ---- the PID

in_at : (code : ℕ) → (code == 1) ≡ true → pid_at code ≡ pids.In
in_at code e = ap pid_at (eqb-true code 1 e)

not_in : (code : ℕ) (x : Bool) → (code == 0) ≡ x → (code == 1) ≡ false → pid_at code ≢ pids.In
not_in code x zero one is = by x (sym (ap (λ (b : Bool). if b then pids.Out else if code == 1 then pids.In else pids.Setup) zero ∙ ap (λ (b : Bool). if x then pids.Out else if b then pids.In else pids.Setup) one) ∙ is)
  where
    by : (y : Bool) → (if y then pids.Out else pids.Setup) ≡ pids.In → ⊥
    by true e = cc
    by false e = cc

-- ---- the bytes of the current qTD

-- the buffer has what is left, from the place on, or nothing is left
pub IsSized : Qh → Qtd → List ℕ → Type 0
IsSized q t bs = ((q.token.total ≤ length bs) × (buffer_place q - t.offset ≡ length bs - q.token.total)) ⊎ (q.token.total ≡ 0)

sized_by : (part : Structures) (q : Qh) (w : IsWorking part q) → IsReady part w.element → ((0 < q.token.total) ⊎ (q.token.total ≤ 0)) → IsSized q w.element (buffer_of part w.element)
unfolding IsSized
sized_by part q w ready (inr none) = inr (omega (arith, none))
sized_by part q w ready (inl some) =
    let has : HasBuffer part w.element w.element.token.total = ready.buffer (let fewer = w.fewer in omega (arith, some, fewer)) in
    let size = ap length (ap bytes_in has.here) ∙ has.size in
    let fewer = w.fewer in
    let place = w.place in
    inl (omega (arith, size, fewer), omega (arith, size, fewer, place))

pub sized : (part : Structures) (q : Qh) (w : IsWorking part q) → IsReady part w.element → IsSized q w.element (buffer_of part w.element)
sized part q w ready = sized_by part q w ready (cases_lt 0 q.token.total)

-- they grow by what was moved
grown_by : (q : Qh) (t : Qtd) (z : Settlement) (bs : List ℕ) (b : Bool) → (q.token.pid == 1) ≡ b → IsSized q t bs → Leaves (host_in q) z.outcome z.host → Brings (pid_at q.token.pid) z.outcome z.got
    → settled_bytes q t z bs ≡ take (length bs - q.token.total) bs ++ (if b then z.got else take (moved_by z.outcome) (drop (buffer_place q - t.offset) bs))
unfolding IsSized
grown_by q t z bs true is (inl (few, place)) host bytes =
    let got = bytes.all (in_at q.token.pid is) in
    let left = host.left in
    let end : length bs - z.host.left ≡ buffer_place q - t.offset + length z.got = omega (arith, few, place, got, left) in
    ap (λ (i : ℕ). take i (overwritten bs (buffer_place q - t.offset) z.got)) end ∙ grown_in bs z.got (buffer_place q - t.offset) (omega (arith, place)) ∙ ap (λ (i : ℕ). take i bs ++ z.got) place
grown_by q t z bs false is (inl (few, place)) host bytes =
    let none = bytes.none (not_in q.token.pid (q.token.pid == 0) refl is) in
    let left = host.left in
    let end : length bs - z.host.left ≡ buffer_place q - t.offset + moved_by z.outcome = omega (arith, few, place, left) in
    ap (λ (got : List ℕ). take (length bs - z.host.left) (overwritten bs (buffer_place q - t.offset) got)) none
    ∙ ap (take (length bs - z.host.left)) (overwritten_by_none bs (buffer_place q - t.offset))
    ∙ ap (λ (i : ℕ). take i bs) end ∙ grown_out bs (buffer_place q - t.offset) (moved_by z.outcome)
    ∙ ap (λ (i : ℕ). take i bs ++ take (moved_by z.outcome) (drop (buffer_place q - t.offset) bs)) place
grown_by q t z bs true is (inr zero) host bytes =
    let left = host.left in
    let got = bytes.all (in_at q.token.pid is) in
    let none : z.got ≡ [] = no_bytes z.got (omega (arith, got, left, zero)) in
    let same : length bs - z.host.left ≡ length bs - q.token.total = omega (arith, left, zero) in
    ap (λ (got : List ℕ). take (length bs - z.host.left) (overwritten bs (buffer_place q - t.offset) got)) none
    ∙ ap (take (length bs - z.host.left)) (overwritten_by_none bs (buffer_place q - t.offset)) ∙ ap (λ (i : ℕ). take i bs) same
    ∙ sym (append-nil (take (length bs - q.token.total) bs)) ∙ ap (λ (xs : List ℕ). take (length bs - q.token.total) bs ++ xs) (sym none)
grown_by q t z bs false is (inr zero) host bytes =
    let left = host.left in
    let none = bytes.none (not_in q.token.pid (q.token.pid == 0) refl is) in
    let nothing : moved_by z.outcome ≡ 0 = omega (arith, left, zero) in
    let same : length bs - z.host.left ≡ length bs - q.token.total = omega (arith, left, zero) in
    ap (λ (got : List ℕ). take (length bs - z.host.left) (overwritten bs (buffer_place q - t.offset) got)) none
    ∙ ap (take (length bs - z.host.left)) (overwritten_by_none bs (buffer_place q - t.offset)) ∙ ap (λ (i : ℕ). take i bs) same
    ∙ sym (append-nil (take (length bs - q.token.total) bs))
    ∙ ap (λ (i : ℕ). take (length bs - q.token.total) bs ++ take i (drop (buffer_place q - t.offset) bs)) (sym nothing)

-- ---- the law

pub works_here : (q : Qh) → q.token.active ≡ true → works_on q q.current ≡ true
works_here q on = ap (λ (b : Bool). b && q.current == q.current) on ∙ eq-eqb q.current q.current refl

pub works_not : (q : Qh) (e : ℕ) → q.current ≢ e → works_on q e ≡ false
works_not q e differs = ap (λ (b : Bool). q.token.active && b) (other_number q.current e differs) ∙ and_off q.token.active
  where
    and_off : (b : Bool) → (b && false) ≡ false
    and_off true = refl
    and_off false = refl

-- whether the hand tells of a queue head's qTD
pub hand_here : (at n : ℕ) (b : Bool) → at ≡ n → (at == n && b) ≡ b
hand_here at n b same = ap (λ (x : Bool). x && b) (eq-eqb at n same)

pub hand_not : (at n : ℕ) (b : Bool) → at ≢ n → (at == n && b) ≡ false
hand_not at n b differs = ap (λ (x : Bool). x && b) (other_number at n differs)

module _ {W : Type 0} (transacts : W → Ask → List ℕ → Reply → W → Type 0) (parts : StructureSets) (hand : Hand) (wire after : W)
    (later : Hand) (m : Asks transacts parts hand wire after later) where
  abbrev made : Settlement
  made = came_to m

  un : (c : Copy) (z : Settlement) → hand ≢ Settled c z
  un = copied_unsettled hand m.copy m.in_hand

  -- before it words tell
  told_here : (xs : List ℕ) → Told hand parts m.copy.at m.copy.queue.current xs
      → xs ≡ take (length (buffer_of (parts m.copy.at) m.sent.element) - m.copy.queue.token.total)
      (buffer_of (parts m.copy.at) m.sent.element)
  told_here xs told =
      let q : Qh = m.copy.queue in
      let e : ℕ = q.current in
      let part : Structures = parts m.copy.at in
      let same : told.queue ≡ q = found_queue (part m.copy.at) told.queue q told.head m.here in
      let element : told.qtd ≡ m.sent.element = found_element (part e) told.qtd m.sent.element told.here m.sent.here in
      let bs : List ℕ = buffer_of part m.sent.element in
      told.are ∙ unsettled_bytes hand m.copy.at told.queue e told.qtd (buffer_of part told.qtd) un
      ∙ ap (λ (x : Qh). told_bytes x e told.qtd (buffer_of part told.qtd)) same
      ∙ ap (λ (t : Qtd). told_bytes q e t (buffer_of part t)) element
      ∙ ap (λ (b : Bool). take (length bs - (if b then q.token.total else m.sent.element.token.total)) bs) (works_here q m.works)

  made_bytes : (xs : List ℕ) → Told hand parts m.copy.at m.copy.queue.current xs
      → Told later parts m.copy.at m.copy.queue.current
      (xs ++ moved_bytes m.copy.queue m.sent.element made (buffer_of (parts m.copy.at) m.sent.element))
  made_bytes xs told =
      let k : IsQueuePart m.copy.at (parts m.copy.at) = m.part_is in
      let q : Qh = m.copy.queue in
      let part : Structures = parts m.copy.at in
      let t : Qtd = m.sent.element in
      let bs : List ℕ = buffer_of part t in
      let s : Settles m.kind q m.out m.last m.reply = a_transaction_settles m.kind q m.out m.last m.reply m.sent.all in
      let same : k.queue ≡ q = found_queue (part m.copy.at) k.queue q k.here m.here in
      let sound : IsSoundQueue part q = subst (IsSoundQueue part) same k.sound in
      let w : IsWorking part q = sound.work m.works in
      let element : w.element ≡ t = found_element (part q.current) w.element t w.here m.sent.here in
      let size : IsSized q t bs = subst (λ (x : Qtd). IsSized q x (buffer_of part x)) element (sized part q w ((k.elements q.current w.element w.here).work w.published)) in
      record {
        queue = q;
        head = m.here;
        qtd = t;
        here = m.sent.here;
        are = ap (λ (ys : List ℕ). ys ++ moved_bytes q t made bs) (told_here xs told)
            ∙ sym (grown_by q t made bs (q.token.pid == 1) refl size s.host s.bytes)
            ∙ sym (ap (λ (h : Hand). hand_bytes h m.copy.at q q.current t bs) m.later_is
            ∙ ap (λ (b : Bool). if b then settled_bytes q t made bs else told_bytes q q.current t bs)
            (hand_here m.held.at m.copy.at (works_on q q.current) m.at_same ∙ works_here q m.works));
      }

  -- the hand tells nothing of other qTDs
  not_told : (n : ℕ) (q : Qh) (e : ℕ) (t : Qtd) (bs : List ℕ) → (m.held.at == n && works_on q e) ≡ false
      → hand_bytes later n q e t bs ≡ hand_bytes hand n q e t bs
  not_told n q e t bs off =
      ap (λ (h : Hand). hand_bytes h n q e t bs) m.later_is ∙ ap (λ (b : Bool). if b then settled_bytes q t made bs else told_bytes q e t bs) off ∙ sym (unsettled_bytes hand n q e t bs un)

  other_made : (n e : ℕ) (xs : List ℕ) → (((n ≡ m.copy.at) × (e ≡ m.copy.queue.current)) → ⊥) → Told hand parts n e xs
      → Told later parts n e xs
  other_made n e xs other told = record {
    queue = told.queue;
    head = told.head;
    qtd = told.qtd;
    here = told.here;
    are = told.are ∙ sym (not_told n told.queue e told.qtd (buffer_of (parts n) told.qtd)
        (⊎_elim (λ (same : m.copy.at ≡ n).
        let queue : told.queue ≡ m.copy.queue = found_queue (parts n n) told.queue m.copy.queue told.head
        (ap (λ (i : ℕ). parts i i) (sym same) ∙ m.here) in
        hand_here m.held.at n (works_on told.queue e) (m.at_same ∙ same) ∙ ap (λ (x : Qh). works_on x e) queue ∙ works_not m.copy.queue e
        (λ is. other (sym same, sym is)))
        (λ (differs : m.copy.at ≢ n). hand_not m.held.at n (works_on told.queue e) (λ is. differs (sym m.at_same ∙ is)))
        (cases_eq m.copy.at n)));
  }

  pub asked_grows : Grows hand parts later m.copy (came_to m) m.sent.element
  asked_grows = record {
    bytes = made_bytes;
    other_bytes = other_made;
    toggle = λ b has.
        let same : has.queue ≡ m.copy.queue = found_queue (parts m.copy.at m.copy.at) has.queue m.copy.queue has.head m.here in (
          has.is ∙ unsettled_toggle hand m.copy.at has.queue un ∙ ap (λ (x : Qh). x.token.toggle) same,
          record {
            queue = has.queue;
            head = has.head;
            own = has.own;
            is = sym (ap (λ (h : Hand). hand_toggle h m.copy.at has.queue) m.later_is ∙ ap
                (λ (x : Bool). if x then made.host.toggle else has.queue.token.toggle) (eq-eqb m.held.at m.copy.at m.at_same));
          },
        );
    other_toggles = λ n b differs has. record {
      queue = has.queue;
      head = has.head;
      own = has.own;
      is = has.is ∙ unsettled_toggle hand n has.queue un
          ∙ sym (ap (λ (h : Hand). hand_toggle h n has.queue) m.later_is ∙ ap
          (λ (x : Bool). if x then made.host.toggle else has.queue.token.toggle)
          (other_number m.held.at n (λ e. differs (sym e ∙ m.at_same))));
    };
  }

-- ---- in a ring

abbrev pub ring_asks : {W : Type 0} (transacts : W → Ask → List ℕ → Reply → W → Type 0) (parts : StructureSets) (hand : Hand)
    (wire after : W) (later : Hand) (m : Makes transacts parts hand wire after later)
    → IsQueuePart m.copy.at (parts m.copy.at) → parts m.copy.at m.copy.at ≡ Some (QueueHead m.copy.queue)
    → Asks transacts parts hand wire after later
ring_asks transacts parts hand wire after later m k here = record {
  copy = m.copy;
  in_hand = m.in_hand;
  here = here;
  part_is = k;
  works = m.works;
  kind = kind_at m.copy.queue.dtc;
  last = false;
  asked_as = in_ring;
  out = m.out;
  sent = m.sent;
  reply = m.reply;
  made = m.made;
  held = counted m.copy m.out m.reply;
  at_same = refl;
  queue_same = refl;
  later_is = m.later_is;
}

pub transaction_grows : {W : Type 0} (transacts : W → Ask → List ℕ → Reply → W → Type 0) (member : ℕ → Bool) (parts : StructureSets)
    (hand : Hand) (wire after : W) (later : Hand) (m : Makes transacts parts hand wire after later)
    → IsMember member m.copy.at (parts m.copy.at) → parts m.copy.at m.copy.at ≡ Some (QueueHead m.copy.queue)
    → Grows hand parts later m.copy (settlement m.copy.queue m.out m.reply) m.sent.element
transaction_grows transacts member parts hand wire after later m k here =
    asked_grows transacts parts hand wire after later
    (ring_asks transacts parts hand wire after later m (member_part member m.copy.at (parts m.copy.at) k) here)
