-- What was sent, and the next packet, begin the bytes of all published qTDs.
use Rattle.std.proofs.Common.{◌≡◌, ◌≢◌, ℕ, ◌+◌, ◌-◌, ◌<◌, min, Bool, true, false, if◌then◌else◌, List, [], ◌∷◌, ◌++◌, length, take, drop, Some, ap, refl, sym, subst, ◌∙◌, ⊎_elim, inl, inr, arith}
use Rattle.std.specs.Prelude.{◌⊎◌}
use Rattle.std.proofs.lemmas.Bool.{cases_eq, true≢false}
use Rattle.std.proofs.lemmas.List.{append_assoc, take-append-drop, take_all}
use Rattle.law_ring.proofs.Common.{among_either, by_none}
use Rattle.law_controller.proofs.Common.{lower_one}
use Rattle.law_queues.proofs.Common.{among_left, among_right, last_one}
use Rattle.law_common.proofs.Lists.{nothing_more}
use Rattle.claims_base.specs.Prefix.{IsPrefix}
use Rattle.usb_base.specs.declared.packets.Pid.TheVariants as Packets
use Rattle.usb_base.specs.declared.packets.Reply.{Reply}
use Rattle.qh_qtd.specs.declared.qtd.Qtd.{Qtd}
use Rattle.qh_qtd.specs.declared.queue_head.Qh.{Qh}
use Rattle.hc_copy.specs.Overlay.{buffer_place}
use Rattle.hc_copy.specs.Planning.{pid_at}
use Rattle.law_structures.specs.lent_structures.Structures.{QueueHead, Element, Structures, StructureSets}
use Rattle.law_structures.specs.lent_structures.Sound.{IsWorking, IsSoundQueue, IsMember}
use Rattle.law_structures.proofs.lemmas.lent_structures.Altering.{found_queue, found_element}
use Rattle.law_ring.specs.Hand.{Copy, Settlement, Hand, Settled}
use Rattle.law_ring.specs.Ring.{IsCopied, IsSettled, IsInHand}
use Rattle.law_ring.specs.Effects.{buffer_of}
use Rattle.law_ring.specs.Told.{works_on, told_bytes, settled_bytes, hand_bytes, Told}
use Rattle.law_ring.proofs.Growing.{overwritten_by_none, works_here, hand_here, hand_not}
use Rattle.law_ring.specs.Order.{AreAfter, IsSorted, IsAmong, AllTold, none_out, one_out}
use Rattle.law_ring.proofs.Ordering.{not_worked, works_by, a_done_qtd_is_told_by_memory}
use Rattle.law_ring.specs.Front.{HasFront, HasTail}
use Rattle.law_ring.specs.OutPipes.{IsOut, IsNext, IsUnmoved}
use Rattle.law_queues.specs.whole_sends.Whole.{AreSentWhole, bytes_of_element, buffer_at, buffers_of}
use Rattle.law_queues.specs.whole_sends.Laws.{AreFresh, ToldIsInOrder, NextIsInOrder, AllIsTold, ToldIsAhead, NextIsAhead, NothingPastHalted}

-- ---- lists

take_prefix : (i : ℕ) (bs : List ℕ) → IsPrefix (take i bs) bs
take_prefix i bs = (drop i bs, take-append-drop i bs)

-- the first ones, and those that come next
next_prefix : (j i : ℕ) (bs : List ℕ) → IsPrefix (take j bs ++ take i (drop j bs)) bs
next_prefix j i bs =
    (drop i (drop j bs), append_assoc (take j bs) (take i (drop j bs)) (drop i (drop j bs)) ∙ ap (λ (ys : List ℕ). take j bs ++ ys) (take-append-drop i (drop j bs)) ∙ take-append-drop j bs)

whole_then : (x b ys c : List ℕ) → x ≡ b → IsPrefix ys c → IsPrefix (x ++ ys) (b ++ c)
whole_then x b ys c is (rest, e) = (rest, append_assoc x ys rest ∙ ap (λ (zs : List ℕ). x ++ zs) e ∙ ap (λ (zs : List ℕ). zs ++ c) is)

-- ---- an OUT receives nothing

out_no_in : Packets.Out ≡ Packets.In → ⊥
out_no_in e = cc

pub silent : (q : Qh) (reply : Reply) (z : Settlement) → IsSettled q reply z → q.token.pid ≡ 0 → z.got ≡ []
silent q reply z settled pid = settled.bytes.none (λ e. out_no_in (ap pid_at (sym pid) ∙ e))

-- ---- what is told of the current qTD

record CurrentIs (hand : Hand) (n : ℕ) (q : Qh) (bs x : List ℕ) : Type 0 where
  left : ℕ
  is : x ≡ take (length bs - left) bs
  still : IsUnmoved hand n → left ≡ q.token.total

working_left : (q : Qh) (t : Qtd) (bs : List ℕ) → q.token.active ≡ true → told_bytes q q.current t bs ≡ take (length bs - q.token.total) bs
working_left q t bs on = ap (λ (b : Bool). take (length bs - (if b then q.token.total else t.token.total)) bs) (works_here q on)

module _ (member : ℕ → Bool) (parts : StructureSets) (reply : Reply) (n : ℕ) (q : Qh) (t : Qtd) (bs : List ℕ) (head : parts n n ≡ Some (QueueHead q)) (on : q.token.active ≡ true) (pid : q.token.pid ≡ 0) where
  settled_by : (c : Copy) (z : Settlement) → IsCopied member parts c × IsSettled c.queue reply z → (c.at ≡ n) ⊎ (c.at ≢ n) → CurrentIs (Settled c z) n q bs (hand_bytes (Settled c z) n q q.current t bs)
  settled_by c z both (inl at) =
      let same : c.queue ≡ q = found_queue (parts n n) c.queue q (ap (λ (i : ℕ). parts i i) (sym at) ∙ both.0.here) head in
      let none : z.got ≡ [] = silent c.queue reply z both.1 (ap (λ (x : Qh). x.token.pid) same ∙ pid) in
      record {
        left = z.host.left;
        is = ap (λ (b : Bool). if b then settled_bytes q t z bs else told_bytes q q.current t bs) (hand_here c.at n (works_on q q.current) at ∙ works_here q on)
            ∙ ap (λ (got : List ℕ). settled_bytes q t (record z { got = got }) bs) none ∙ ap (λ (ys : List ℕ). take (length bs - z.host.left) ys) (overwritten_by_none bs (buffer_place q - t.offset));
        still = λ un. let moved = by_none z.outcome (un at).0 in let left = both.1.host.left in let total = ap (λ (x : Qh). x.token.total) same in omega (arith, moved, left, total);
      }
  settled_by c z both (inr differs) = record {
    left = q.token.total;
    is = ap (λ (b : Bool). if b then settled_bytes q t z bs else told_bytes q q.current t bs) (hand_not c.at n (works_on q q.current) differs) ∙ working_left q t bs on;
    still = λ un. refl;
  }

  current_is : (hand : Hand) → IsInHand member parts reply hand → CurrentIs hand n q bs (hand_bytes hand n q q.current t bs)
  current_is (Settled c z) in_hand = settled_by c z in_hand (cases_eq c.at n)
  current_is _ in_hand = record { left = q.token.total; is = working_left q t bs on; still = λ un. refl }

-- ---- the published qTDs, from the first on

after_all : (order : ℕ → ℕ) (e : ℕ) (es : List ℕ) → ((b : ℕ) → IsAmong b es → order e < order b) → AreAfter order e es
after_all order e [] below = tt
after_all order e (b ∷ bs) below = (below b (inl refl), after_all order e bs (λ c among. below c (inr among)))

module _ (member : ℕ → Bool) (parts : StructureSets) (hand : Hand) (order : ℕ → ℕ) (out : List ℕ) (n : ℕ) (m : IsMember member n (parts n)) (k : AreSentWhole order out hand n (parts n)) where
  abbrev part : Structures
  part = parts n

  sound : (q : Qh) → part n ≡ Some (QueueHead q) → IsSoundQueue part q
  sound q head = subst (IsSoundQueue part) (found_queue (part n) m.queue q m.here head) m.sound

  buffer_is : (e : ℕ) (t : Qtd) → part e ≡ Some (Element t) → buffer_of part t ≡ buffer_at part e
  buffer_is e t here = ap (bytes_of_element part) (sym here)

  -- of one that is done and isn't halted all bytes are told
  whole_told : (e : ℕ) (x : List ℕ) (first : Told hand parts n e x) → first.qtd.token.active ≡ false → first.qtd.token.halted ≡ false → x ≡ buffer_at part e
  whole_told e x first off goes =
      let bs : List ℕ = buffer_of part first.qtd in
      let none = k.whole e first.qtd first.here off goes in
      a_done_qtd_is_told_by_memory member parts hand n e first.qtd x m first.here off first ∙ take_all (length bs - first.qtd.token.total) bs (omega (arith, none)) ∙ buffer_is e first.qtd first.here

  -- ---- past one that is active or halted nothing is told

  -- the overlay doesn't work behind it
  works_not_past : (e b : ℕ) (t : Qtd) (q : Qh) → part e ≡ Some (Element t) → (t.token.active ≡ false → t.token.halted ≡ false → ⊥) → part n ≡ Some (QueueHead q) → order e < order b → q.token.active ≡ true → q.current ≢ b
  works_not_past e b t q here stopped head less on is = by t.token.active refl
    where
      by : (c : Bool) → t.token.active ≡ c → ⊥
      by true active = let from = (k.turn q head).work on e t here active in let at = ap order is in omega (arith, from, at, less)
      by false off = stopped off (k.goes_on q e t head ((sound q head).work on).goes_on here off)

  untold : AreFresh out part → (b : ℕ) (x : List ℕ) (first : Told hand parts n b x) → IsAmong b out → first.qtd.token.active ≡ true → works_on first.queue b ≡ false → x ≡ []
  untold fresh b x first among on off =
      let bs : List ℕ = buffer_of part first.qtd in
      let all = fresh b first.qtd among first.here on in
      let none : length bs - first.qtd.token.total ≡ 0 = omega (arith, all) in
      first.are ∙ not_worked hand n first.queue b first.qtd bs off ∙ ap (λ (i : ℕ). take i bs) none

  none_past : AreFresh out part → (e : ℕ) (t : Qtd) (es ys : List ℕ) → part e ≡ Some (Element t) → (t.token.active ≡ false → t.token.halted ≡ false → ⊥) → AreAfter order e es → ((b : ℕ) → IsAmong b es → IsAmong b out) → AllTold hand parts n es ys → ys ≡ []
  none_past fresh e t es ys here stopped after inside none_out = refl
  none_past fresh e t es ys here stopped after inside (one_out b bs x xs first rest) =
      ap (λ (zs : List ℕ). zs ++ xs) (by first.qtd.token.active refl) ∙ none_past fresh e t bs xs here stopped after.1 (λ c among. inside c (inr among)) rest
    where
      by : (c : Bool) → first.qtd.token.active ≡ c → x ≡ []
      by true on = untold fresh b x first (inside b (inl refl)) on (works_by first.queue b first.queue.token.active refl (λ active. works_not_past e b t first.queue here stopped first.head after.0 active))
      by false off = let done = k.before e b t first.qtd (inside b (inl refl)) here first.here after.0 off in absurd (stopped done.0 done.1)

  -- ---- where all are done

  all_told : (es ys : List ℕ) → ((a : ℕ) (t : Qtd) → IsAmong a es → part a ≡ Some (Element t) → (t.token.active ≡ false) × (t.token.halted ≡ false)) → AllTold hand parts n es ys → ys ≡ buffers_of part es
  all_told es ys done none_out = refl
  all_told es ys done (one_out e bs x xs first rest) =
      let it = done e first.qtd (inl refl) first.here in
      ap (λ (zs : List ℕ). zs ++ xs) (whole_told e x first it.0 it.1) ∙ ap (λ (zs : List ℕ). buffer_at part e ++ zs) (all_told bs xs (λ a t among. done a t (inr among)) rest)

  -- ---- what was sent

  module _ (reply : Reply) (in_hand : IsInHand member parts reply hand) (outs : IsOut part) (fresh : AreFresh out part) where
    current_told : (e : ℕ) (x : List ℕ) (first : Told hand parts n e x) → first.queue.token.active ≡ true → first.queue.current ≡ e → CurrentIs hand n first.queue (buffer_of part first.qtd) x
    current_told e x first on is =
        let q : Qh = first.queue in
        let w : IsWorking part q = (sound q first.head).work on in
        let pid : q.token.pid ≡ 0 = w.pid ∙ outs q.current w.element w.here w.published in
        subst (CurrentIs hand n q (buffer_of part first.qtd)) (sym (first.are ∙ ap (λ (i : ℕ). hand_bytes hand n q i first.qtd (buffer_of part first.qtd)) (sym is)))
        (current_is member parts reply n q first.qtd (buffer_of part first.qtd) first.head on pid hand in_hand)

    -- of each one the first bytes of its buffer
    one_prefix : (e : ℕ) (x : List ℕ) → Told hand parts n e x → IsPrefix x (buffer_at part e)
    one_prefix e x first = subst (IsPrefix x) (buffer_is e first.qtd first.here) (by first.queue.token.active refl (cases_eq first.queue.current e))
      where
        idle : works_on first.queue e ≡ false → IsPrefix x (buffer_of part first.qtd)
        idle off = subst (λ (y : List ℕ). IsPrefix y (buffer_of part first.qtd)) (sym (first.are ∙ not_worked hand n first.queue e first.qtd (buffer_of part first.qtd) off)) (take_prefix (length (buffer_of part first.qtd) - first.qtd.token.total) (buffer_of part first.qtd))

        by : (c : Bool) → first.queue.token.active ≡ c → (first.queue.current ≡ e) ⊎ (first.queue.current ≢ e) → IsPrefix x (buffer_of part first.qtd)
        by true on (inl is) =
            let it : CurrentIs hand n first.queue (buffer_of part first.qtd) x = current_told e x first on is in
            subst (λ (y : List ℕ). IsPrefix y (buffer_of part first.qtd)) (sym it.is) (take_prefix (length (buffer_of part first.qtd) - it.left) (buffer_of part first.qtd))
        by true on (inr differs) = idle (works_by first.queue e true on (λ active. differs))
        by false off is = idle (works_by first.queue e false off (λ on. absurd (true≢false (sym on))))

    told_prefix : (es ys : List ℕ) → IsSorted order es → ((b : ℕ) → IsAmong b es → IsAmong b out) → AllTold hand parts n es ys → IsPrefix ys (buffers_of part es)
    told_prefix es ys sorted inside none_out = ([], refl)
    told_prefix es ys sorted inside (one_out e bs x xs first rest) =
        by (told_prefix bs xs sorted.1 (λ b among. inside b (inr among)) rest) first.qtd.token.active first.qtd.token.halted refl refl
      where
        stops : (first.qtd.token.active ≡ false → first.qtd.token.halted ≡ false → ⊥) → IsPrefix (x ++ xs) (buffer_at part e ++ buffers_of part bs)
        stops stopped =
            let none : xs ≡ [] = none_past fresh e first.qtd bs xs first.here stopped sorted.0 (λ b among. inside b (inr among)) rest in
            subst (λ (zs : List ℕ). IsPrefix zs (buffer_at part e ++ buffers_of part bs)) (nothing_more x xs none) (last_one x (buffer_at part e) (buffers_of part bs) (one_prefix e x first))

        by : IsPrefix xs (buffers_of part bs) → (c d : Bool) → first.qtd.token.active ≡ c → first.qtd.token.halted ≡ d → IsPrefix (x ++ xs) (buffer_at part e ++ buffers_of part bs)
        by further true d on halted = stops (λ off goes. true≢false (sym on ∙ off))
        by further false true off halted = stops (λ over goes. true≢false (sym halted ∙ goes))
        by further false false off goes = whole_then x (buffer_at part e) xs (buffers_of part bs) (whole_told e x first off goes) further

    -- ---- and the next packet

    module _ (q : Qh) (y : List ℕ) (head : part n ≡ Some (QueueHead q)) (on : q.token.active ≡ true) (un : IsUnmoved hand n) (next : IsNext part q y) where
      works : IsWorking part q
      works = (sound q head).work on

      -- those of the current qTD, and the next ones of its buffer
      current_next : IsAmong q.current out → (x : List ℕ) → Told hand parts n q.current x → IsPrefix (x ++ y) (buffer_at part q.current)
      current_next among x first =
          let t : Qtd = next.element in
          let bs : List ℕ = buffer_of part t in
          let same : first.queue ≡ q = found_queue (part n) first.queue q first.head head in
          let it : CurrentIs hand n first.queue (buffer_of part first.qtd) x = current_told q.current x first (ap (λ (r : Qh). r.token.active) same ∙ on) (ap (λ (r : Qh). r.current) same) in
          let element : first.qtd ≡ t = found_element (part q.current) first.qtd t first.here next.here in
          let working : works.element ≡ t = found_element (part q.current) works.element t works.here next.here in
          let left : it.left ≡ q.token.total = it.still un ∙ ap (λ (r : Qh). r.token.total) same in
          let told : x ≡ take (length bs - q.token.total) bs = it.is ∙ ap (λ (u : Qtd). take (length (buffer_of part u) - it.left) (buffer_of part u)) element ∙ ap (λ (i : ℕ). take (length bs - i) bs) left in
          let all = fresh q.current t among next.here (ap (λ (u : Qtd). u.token.active) (sym working) ∙ works.published) in
          let place = works.place in
          let fewer = works.fewer in
          let offset = ap (λ (u : Qtd). u.offset) working in
          let total = ap (λ (u : Qtd). u.token.total) working in
          let at : buffer_place q - t.offset ≡ length bs - q.token.total = omega (arith, all, place, fewer, offset, total) in
          let goes : y ≡ take (min q.max q.token.total) (drop (length bs - q.token.total) bs) = next.is ∙ ap (λ (i : ℕ). take (min q.max q.token.total) (drop i bs)) at in
          subst (IsPrefix (x ++ y)) (buffer_is q.current t next.here)
          (subst (λ (zs : List ℕ). IsPrefix (zs ++ y) bs) (sym told) (subst (λ (zs : List ℕ). IsPrefix (take (length bs - q.token.total) bs ++ zs) bs) (sym goes) (next_prefix (length bs - q.token.total) (min q.max q.token.total) bs)))

      next_in : (es ys : List ℕ) → IsSorted order es → ((b : ℕ) → IsAmong b es → IsAmong b out) → IsAmong q.current es → AllTold hand parts n es ys → IsPrefix (ys ++ y) (buffers_of part es)
      next_in es ys sorted inside among none_out = absurd among
      next_in es ys sorted inside among (one_out e bs x xs first rest) =
          by (λ (differs : q.current ≢ e). next_in bs xs sorted.1 (λ b in_it. inside b (inr in_it)) (further differs) rest) (cases_eq q.current e)
        where
          further : q.current ≢ e → IsAmong q.current bs
          further differs = ⊎_elim (λ (is : q.current ≡ e). absurd (differs is)) (λ (in_it : IsAmong q.current bs). in_it) among

          -- what stands before it is done
          is_done : q.current ≢ e → (first.qtd.token.active ≡ false) × (first.qtd.token.halted ≡ false)
          is_done differs = by_active first.qtd.token.active refl
            where
              by_active : (c : Bool) → first.qtd.token.active ≡ c → (first.qtd.token.active ≡ false) × (first.qtd.token.halted ≡ false)
              by_active true active = absurd (let less = lower_one order e q.current bs sorted.0 (further differs) in let from = (k.turn q head).work on e first.qtd first.here active in omega (arith, less, from))
              by_active false off = (off, k.goes_on q e first.qtd head works.goes_on first.here off)

          by : (q.current ≢ e → IsPrefix (xs ++ y) (buffers_of part bs)) → (q.current ≡ e) ⊎ (q.current ≢ e) → IsPrefix ((x ++ xs) ++ y) (buffer_at part e ++ buffers_of part bs)
          by then_on (inl is) =
              let active : first.qtd.token.active ≡ true = ap (λ (u : Qtd). u.token.active) (found_element (part e) first.qtd works.element first.here (ap part (sym is) ∙ works.here)) ∙ works.published in
              let none : xs ≡ [] = none_past fresh e first.qtd bs xs first.here (λ off goes. true≢false (sym active ∙ off)) sorted.0 (λ b in_it. inside b (inr in_it)) rest in
              subst (λ (zs : List ℕ). IsPrefix (zs ++ y) (buffer_at part e ++ buffers_of part bs)) (nothing_more x xs none)
              (last_one (x ++ y) (buffer_at part e) (buffers_of part bs) (subst (λ (i : ℕ). IsPrefix (x ++ y) (buffer_at part i)) is (current_next (inside q.current among) x (subst (λ (i : ℕ). Told hand parts n i x) (sym is) first))))
          by then_on (inr differs) =
              let done = is_done differs in
              subst (λ (zs : List ℕ). IsPrefix zs (buffer_at part e ++ buffers_of part bs)) (sym (append_assoc x xs y))
              (whole_then x (buffer_at part e) (xs ++ y) (buffers_of part bs) (whole_told e x first done.0 done.1) (then_on differs))

-- ---- those before the tail

after_left : (order : ℕ → ℕ) (e : ℕ) (es fs : List ℕ) → AreAfter order e (es ++ fs) → AreAfter order e es
after_left order e [] fs after = tt
after_left order e (d ∷ ds) fs after = (after.0, after_left order e ds fs after.1)

sorted_left : (order : ℕ → ℕ) (es fs : List ℕ) → IsSorted order (es ++ fs) → IsSorted order es
sorted_left order [] fs sorted = tt
sorted_left order (e ∷ es) fs sorted = (after_left order e es fs sorted.0, sorted_left order es fs sorted.1)

told_left : (hand : Hand) (parts : StructureSets) (n : ℕ) (es fs xs : List ℕ) → ((ys : List ℕ) → AllTold hand parts n fs ys → ys ≡ []) → AllTold hand parts n (es ++ fs) xs → AllTold hand parts n es xs
told_left hand parts n [] fs xs none all = subst (AllTold hand parts n []) (sym (none xs all)) none_out
told_left hand parts n (e ∷ es) fs xs none (one_out d ds x ys first rest) = one_out e es x ys first (told_left hand parts n es fs ys none rest)

module _ (member : ℕ → Bool) (parts : StructureSets) (hand : Hand) (order : ℕ → ℕ) (front : ℕ) (ahead behind : List ℕ) (n e : ℕ) (m : IsMember member n (parts n)) (k : AreSentWhole order (ahead ++ behind) hand n (parts n))
    (fronts : HasFront order front (ahead ++ behind) n (parts n)) (tail : HasTail order e front n (parts n)) (below : (b : ℕ) → IsAmong b behind → order e < order b) where
  -- the walk hasn't come to those behind it
  not_come : (b : ℕ) (q : Qh) → parts n n ≡ Some (QueueHead q) → IsAmong b behind → q.token.active ≡ true → q.current ≢ b
  not_come b q head among on is = let at = (fronts.queue q head).work on in let most = tail.most in let less = below b among in let i = ap order is in omega (arith, at, most, less, i)

  still_active : (b : ℕ) (t : Qtd) → IsAmong b behind → parts n b ≡ Some (Element t) → t.token.active ≡ true
  still_active b t among here = by t.token.active refl
    where
      by : (c : Bool) → t.token.active ≡ c → t.token.active ≡ true
      by true on = on
      by false off = absurd (let passed = (fronts.behind b t (among_right b ahead behind among) here off).before in let most = tail.most in let less = below b among in omega (arith, passed, most, less))

  none_behind : (es ys : List ℕ) → ((b : ℕ) → IsAmong b es → IsAmong b behind) → AllTold hand parts n es ys → ys ≡ []
  none_behind es ys inside none_out = refl
  none_behind es ys inside (one_out b bs x xs first rest) =
      let among : IsAmong b behind = inside b (inl refl) in
      ap (λ (zs : List ℕ). zs ++ xs)
      (untold member parts hand order (ahead ++ behind) n m k fronts.fresh b x first (among_right b ahead behind among) (still_active b first.qtd among first.here)
      (works_by first.queue b first.queue.token.active refl (λ on. not_come b first.queue first.head among on)))
      ∙ none_behind bs xs (λ c in_it. inside c (inr in_it)) rest

  told_before : (xs : List ℕ) → AllTold hand parts n (ahead ++ behind) xs → AllTold hand parts n ahead xs
  told_before xs all = told_left hand parts n ahead behind xs (λ ys rest. none_behind behind ys (λ b among. among) rest) all

-- ---- the laws

pub told_is_in_order : ToldIsInOrder
told_is_in_order member parts hand reply order place out n told m in_hand outs acc fresh k = told_prefix member parts hand order out n m k reply in_hand outs fresh out told acc.sorted (λ b among. among) acc.told

pub next_is_in_order : NextIsInOrder
next_is_in_order member parts hand reply order place out n told q x m in_hand outs acc fresh k head on un next =
    let w : IsWorking (parts n) q = (subst (IsSoundQueue (parts n)) (found_queue (parts n n) m.queue q m.here head) m.sound).work on in
    next_in member parts hand order out n m k reply in_hand outs fresh q x head on un next out told acc.sorted (λ b among. among) (acc.complete q.current w.element w.here w.published) acc.told

pub all_is_told : AllIsTold
all_is_told member parts hand order place out n told m acc k done = all_told member parts hand order out n m k out told done acc.told

pub nothing_past_halted : NothingPastHalted
nothing_past_halted member parts hand order place out n told e t m acc fresh k here off halted below =
    none_past member parts hand order out n m k fresh e t out told here (λ over goes. true≢false (sym halted ∙ goes)) (after_all order e out below) (λ b among. among) acc.told

pub told_is_ahead : ToldIsAhead
told_is_ahead member parts hand reply order place front ahead behind n e told m in_hand outs acc fronts tail below k =
    told_prefix member parts hand order (ahead ++ behind) n m k reply in_hand outs fronts.fresh ahead told (sorted_left order ahead behind acc.sorted) (λ b among. among_left b ahead behind among)
    (told_before member parts hand order front ahead behind n e m k fronts tail below told acc.told)

pub next_is_ahead : NextIsAhead
next_is_ahead member parts hand reply order place front ahead behind n e told q x m in_hand outs acc fronts tail below k head on un next =
    let w : IsWorking (parts n) q = (subst (IsSoundQueue (parts n)) (found_queue (parts n n) m.queue q m.here head) m.sound).work on in
    let current : IsAmong q.current ahead =
    ⊎_elim (λ (one : IsAmong q.current ahead). one) (λ (other : IsAmong q.current behind). absurd (not_come member parts hand order front ahead behind n e m k fronts tail below q.current q head other on refl))
    (among_either q.current ahead behind (acc.complete q.current w.element w.here w.published)) in
    next_in member parts hand order (ahead ++ behind) n m k reply in_hand outs fronts.fresh q x head on un next ahead told (sorted_left order ahead behind acc.sorted) (λ b among. among_left b ahead behind among) current
    (told_before member parts hand order front ahead behind n e m k fronts tail below told acc.told)
