-- A write-back of which nothing is refused, and the structures that it leaves.
use Rattle.std.proofs.Common.{◌≡◌, ◌≢◌, ℕ, ◌+◌, ◌≤◌, Bool, true, false, List, [], length, take, drop, if◌then◌else◌, Some, ap, refl, sym, subst, ◌∙◌, arith}
use Rattle.law_structures.proofs.Common.{read_whole, wrote_bytes, place_few}
use Rattle.word_mem.specs.Memory.{Mem, reaches}
use Rattle.mem_bytes.specs.Bytes.{place, with_bytes, AreReached}
use Rattle.mem_bytes.proofs.Reach.{all_reached_if, with_bytes_none}
use Rattle.mem_bytes.proofs.Loads.{bytes_at_none}
use Rattle.link_words.specs.Layout.{IsWordInRange}
use Rattle.qh_qtd.specs.declared.qtd.Qtd.{Qtd}
use Rattle.qh_qtd.specs.declared.queue_head.Qh.{Qh}
use Rattle.qh_qtd.specs.Token.{token_rows}
use Rattle.qh_qtd.specs.QueueHead.{qh_words, IsQhInRange}
use Rattle.toggle_error.specs.declared.host.Outcome.{Outcome}
use Rattle.mem_queues.specs.Structures.{token_written}
use Rattle.hc_copy.specs.declared.held.Transaction.{Transaction}
use Rattle.hc_copy.specs.Overlay.{advanced, pages_of, buffer_place, moved}
use Rattle.hc_copy.specs.Buffer.{Writing, size_of, bytes_read, sending}
use Rattle.hc_copy.specs.WriteBack.{moved_by, then_write, overlay_after, overlay_back, token_back, written_back}
use Rattle.hc_copy.proofs.Ranges.{advanced_in_range, moved_in_range}
use Rattle.law_structures.specs.lent_structures.Structures.{Structure, QueueHead, Element, Buffer, HoldsElement, HoldsBuffer, StructureSets, put, Tells}
use Rattle.law_structures.specs.lent_structures.Changes.{relinked, overwritten}
use Rattle.law_structures.proofs.lemmas.lent_structures.Names.{names_differ, put_else}
use Rattle.law_structures.proofs.lemmas.lent_structures.Telling.{change_is_told}
use Rattle.law_structures.proofs.lemmas.lent_structures.Reading.{head_reached, element_reached, bytes_part, bytes_reached, part_reached}
use Rattle.law_structures.proofs.lemmas.lent_structures.Storing.{bytes_are_told}
use Rattle.law_structures.proofs.lemmas.lent_structures.Writing.{overlay_is_told, token_is_told}
use Rattle.law_structures.specs.lent_structures.WriteBack.{IsCopy, parts_advanced, Received, Nothing, Into, IsReceived, received_parts, CanBeWritten, parts_back}

-- ---- kinds of structures

pub head_is_no_buffer : (q : Qh) (pages : List ℕ) (k : ℕ) (bs : List ℕ) → QueueHead q ≢ Buffer pages k bs
head_is_no_buffer q pages k bs same = cc

pub element_is_no_buffer : (t : Qtd) (pages : List ℕ) (k : ℕ) (bs : List ℕ) → Element t ≢ Buffer pages k bs
element_is_no_buffer t pages k bs same = cc

pub element_is_no_head : (t : Qtd) (q : Qh) → Element t ≢ QueueHead q
element_is_no_head t q same = cc

-- ---- an advance

advanced_front : (q c : Qh) (e : ℕ) (t : Qtd) → take 3 (qh_words (relinked q (advanced c e t))) ≡ take 3 (qh_words (relinked q c))
unfolding qh_words advanced
advanced_front q c e t = refl

pub advance_is_told : (m : Mem) (parts : StructureSets) (n a : ℕ) (q c : Qh) (e : ℕ) (t : Qtd) → Tells m parts → IsCopy parts n a q c → parts n e ≡ Some (Element t) → Tells (overlay_after m a (advanced c e t)) (parts_advanced parts n a q c e t)
unfolding overlay_after
advance_is_told m parts n a q c e t told copy element =
    let h : HoldsElement m e t = told.each n e (Element t) element in
    overlay_is_told m parts n a q (advanced c e t) told copy.head (advanced_in_range c e t copy.range h.aligned h.range) (advanced_front q c e t ∙ copy.front)

-- ---- the bytes that a transaction sends

pub sent_is_told : (m : Mem) (parts : StructureSets) (n b : ℕ) (t : Transaction) (c : Qh) (k : ℕ) (bs : List ℕ) (j : ℕ) → Tells m parts → parts n b ≡ Some (Buffer (pages_of c) k bs) → buffer_place c ≡ k + j → j + t.bytes ≤ length bs → sending t c m ≡ record { bytes = take t.bytes (drop j bs); memory = m; all = true }
sent_is_told m parts n b t c k bs j told buffer at within =
    let h : HoldsBuffer m b (pages_of c) k bs = told.each n b (Buffer (pages_of c) k bs) buffer in
    let room = h.within in
    ap (λ (from : ℕ). bytes_read (pages_of c) from t.bytes m) at
    ∙ read_whole (pages_of c) (k + j) t.bytes m (take t.bytes (drop j bs)) (omega (arith, room, within))
    (bytes_reached m parts n b (pages_of c) k bs j t.bytes told buffer within) (bytes_part m parts n b (pages_of c) k bs j t.bytes told buffer within)

pub nothing_is_sent : (m : Mem) (t : Transaction) (c : Qh) → IsQhInRange c → t.bytes ≡ 0 → sending t c m ≡ record { bytes = []; memory = m; all = true }
nothing_is_sent m t c range none =
    let low = place_few c range in
    ap (λ (n : ℕ). bytes_read (pages_of c) (buffer_place c) n m) none
    ∙ read_whole (pages_of c) (buffer_place c) 0 m [] (omega (arith, low)) (all_reached_if m (pages_of c) (buffer_place c) 0 (λ i below. absurd (omega (arith, below)))) (bytes_at_none m (pages_of c) (buffer_place c))

-- ---- received bytes

-- they lie in the pages, and the controller may touch them
pub received_fits : (m : Mem) (parts : StructureSets) (n : ℕ) (c : Qh) (got : List ℕ) (r : Received) → Tells m parts → IsQhInRange c → IsReceived (parts n) c got r → buffer_place c + length got ≤ size_of (pages_of c)
received_fits m parts n c got Nothing told range none = let low = place_few c range in let l = ap length none in omega (arith, low, l)
received_fits m parts n c got (Into pages k bs j) told range into =
    let h : HoldsBuffer m (place pages k) pages k bs = told.each n (place pages k) (Buffer pages k bs) into.buffer in
    let room = h.within in
    let five = ap length into.pages_are in
    let at = into.place_is in
    let fits = into.fits in
    omega (arith, room, five, at, fits)

pub received_reached : (m : Mem) (parts : StructureSets) (n : ℕ) (c : Qh) (got : List ℕ) (r : Received) → Tells m parts → IsReceived (parts n) c got r → AreReached m (pages_of c) (buffer_place c) (length got)
received_reached m parts n c got Nothing told none = λ i below. let l = ap length none in absurd (omega (arith, below, l))
received_reached m parts n c got (Into pages k bs j) told into =
    subst (λ (ps : List ℕ). AreReached m ps (buffer_place c) (length got)) (sym into.pages_are)
    (subst (λ (at : ℕ). AreReached m pages at (length got)) (sym into.place_is)
    (part_reached m (place pages k) pages k bs j (length got) (told.each n (place pages k) (Buffer pages k bs) into.buffer) into.fits))

pub received_told : (m : Mem) (parts : StructureSets) (n : ℕ) (c : Qh) (got : List ℕ) (r : Received) → Tells m parts → IsReceived (parts n) c got r → Tells (with_bytes m (pages_of c) (buffer_place c) got) (received_parts parts n got r)
received_told m parts n c got Nothing told none =
    subst (λ (x : Mem). Tells x parts) (with_bytes_none m (pages_of c) (buffer_place c) ∙ ap (with_bytes m (pages_of c) (buffer_place c)) (sym none)) told
received_told m parts n c got (Into pages k bs j) told into =
    subst (λ (ps : List ℕ). Tells (with_bytes m ps (buffer_place c) got) (put parts n (place pages k) (Buffer pages k (overwritten bs j got)))) (sym into.pages_are)
    (subst (λ (at : ℕ). Tells (with_bytes m pages at got) (put parts n (place pages k) (Buffer pages k (overwritten bs j got)))) (sym into.place_is)
    (bytes_are_told m parts n (place pages k) pages k bs j got told into.buffer into.fits into.bytes))

-- what isn't the buffer is as before
pub received_else : (parts : StructureSets) (n : ℕ) (c : Qh) (got : List ℕ) (r : Received) (b : ℕ) (s : Structure) → IsReceived (parts n) c got r → parts n b ≡ Some s → ((pages : List ℕ) (k : ℕ) (bs : List ℕ) → s ≢ Buffer pages k bs) → received_parts parts n got r n b ≡ Some s
received_else parts n c got Nothing b s none here other = here
received_else parts n c got (Into pages k bs j) b s into here other =
    put_else parts n (place pages k) (Buffer pages k (overwritten bs j got)) b (names_differ (parts n) b (place pages k) s (Buffer pages k bs) here into.buffer (other pages k bs)) ∙ here

-- ---- the three writes

-- memory after the bytes and the overlay
abbrev with_overlay : Mem → ℕ → Qh → Qh → List ℕ → Mem
with_overlay m a c new got = overlay_after (with_bytes m (pages_of c) (buffer_place c) got) a new

-- the token's write, by whether the qTD is active
token_back_at : Bool → Qh → Mem → Writing
token_back_at b q m = if b then record { memory = m; all = true } else record { memory = token_written m q.current q.token; all = reaches m q.current }

abbrev token_after : Bool → Qh → Mem → Mem
token_after b q m = if b then m else token_written m q.current q.token

wrote_token : (b : Bool) (q : Qh) (m : Mem) → reaches m q.current ≡ true → token_back_at b q m ≡ record { memory = token_after b q m; all = true }
unfolding token_back_at
wrote_token true q m reached = refl
wrote_token false q m reached = ap (λ (x : Bool). record { memory = token_written m q.current q.token; all = x }) reached

moved_front : (q c : Qh) (count : ℕ) → take 3 (qh_words (relinked q (moved c count))) ≡ take 3 (qh_words (relinked q c))
unfolding qh_words moved
moved_front q c count = refl

pub moved_current : (c : Qh) (count : ℕ) → (moved c count).current ≡ c.current
unfolding moved
moved_current c count = refl

token_in_range : (q : Qh) → IsQhInRange q → IsWordInRange token_rows q.token
token_in_range q (link, (chars, (caps, (current, (next, (alternate, (token, rest))))))) = token

-- the parts after the bytes and the overlay
abbrev parts_between : StructureSets → ℕ → ℕ → Qh → Qh → List ℕ → Received → StructureSets
parts_between parts n a q new got r = put (received_parts parts n got r) n a (QueueHead (relinked q new))

between_told : (m : Mem) (parts : StructureSets) (n a : ℕ) (q c : Qh) (count : ℕ) (got : List ℕ) (r : Received) (t : Qtd) → Tells m parts → CanBeWritten parts n a q c got r t → Tells (with_overlay m a c (moved c count) got) (parts_between parts n a q (moved c count) got r)
unfolding overlay_after
between_told m parts n a q c count got r t told can =
    overlay_is_told (with_bytes m (pages_of c) (buffer_place c) got) (received_parts parts n got r) n a q (moved c count) (received_told m parts n c got r told can.received)
    (received_else parts n c got r a (QueueHead q) can.received can.copy.head (head_is_no_buffer q)) (moved_in_range c count can.copy.range) (moved_front q c count ∙ can.copy.front)

pub between_element : (parts : StructureSets) (n a : ℕ) (q c new : Qh) (got : List ℕ) (r : Received) (t : Qtd) → CanBeWritten parts n a q c got r t → parts_between parts n a q new got r n c.current ≡ Some (Element t)
between_element parts n a q c new got r t can =
    put_else (received_parts parts n got r) n a (QueueHead (relinked q new)) c.current (names_differ (parts n) c.current a (Element t) (QueueHead q) can.element can.copy.head (element_is_no_head t q))
    ∙ received_else parts n c got r c.current (Element t) can.received can.element (element_is_no_buffer t)

-- memory that is told is told with the same structure put again
pub put_again : (m : Mem) (parts : StructureSets) (n a : ℕ) (s : Structure) → Tells m parts → parts n a ≡ Some s → Tells m (put parts n a s)
put_again m parts n a s told here =
    change_is_told m m parts n a s s told here (record { states = refl; size = refl; outside = λ other outside. refl }) (λ b has. has) (told.each n a s here)

token_told : (b : Bool) (m : Mem) (parts : StructureSets) (n : ℕ) (new : Qh) (e : ℕ) (t : Qtd) → Tells m parts → IsQhInRange new → new.current ≡ e → parts n e ≡ Some (Element t) → Tells (token_after b new m) (put parts n e (Element (if b then t else record t { token = new.token })))
token_told true m parts n new e t told range same here = put_again m parts n e (Element t) told here
token_told false m parts n new e t told range same here =
    subst (λ (i : ℕ). Tells (token_written m i new.token) (put parts n e (Element (record t { token = new.token })))) (sym same)
    (token_is_told m parts n e t new.token told here (token_in_range new range))

-- ---- the whole

pub written_whole : (m : Mem) (parts : StructureSets) (n a : ℕ) (q c : Qh) (o : Outcome) (got : List ℕ) (r : Received) (t : Qtd) → Tells m parts → CanBeWritten parts n a q c got r t → written_back a c o got m ≡ record { memory = token_after (moved c (moved_by o)).token.active (moved c (moved_by o)) (with_overlay m a c (moved c (moved_by o)) got); all = true }
unfolding written_back token_back_at overlay_after
written_whole m parts n a q c o got r t told can =
    let new : Qh = moved c (moved_by o) in
    let bytes = received_told m parts n c got r told can.received in
    let head = received_else parts n c got r a (QueueHead q) can.received can.copy.head (head_is_no_buffer q) in
    let between = between_told m parts n a q c (moved_by o) got r t told can in
    let element = between_element parts n a q c new got r t can in
    ap (λ (w : Writing). then_write (then_write w (overlay_back a new)) (token_back new)) (wrote_bytes m (pages_of c) (buffer_place c) got (received_fits m parts n c got r told can.copy.range can.received) (received_reached m parts n c got r told can.received))
    ∙ ap (λ (b : Bool). then_write (record { memory = with_overlay m a c new got; all = b }) (token_back new)) (head_reached (with_bytes m (pages_of c) (buffer_place c) got) (received_parts parts n got r) n a q bytes head)
    ∙ wrote_token new.token.active new (with_overlay m a c new got)
    (ap (reaches (with_overlay m a c new got)) (moved_current c (moved_by o)) ∙ element_reached (with_overlay m a c new got) (parts_between parts n a q new got r) n c.current t between element)

pub all_is_written : (m : Mem) (parts : StructureSets) (n a : ℕ) (q c : Qh) (o : Outcome) (got : List ℕ) (r : Received) (t : Qtd) → Tells m parts → CanBeWritten parts n a q c got r t → (written_back a c o got m).all ≡ true
all_is_written m parts n a q c o got r t told can = ap (λ (w : Writing). w.all) (written_whole m parts n a q c o got r t told can)

pub write_back_is_told : (m : Mem) (parts : StructureSets) (n a : ℕ) (q c : Qh) (o : Outcome) (got : List ℕ) (r : Received) (t : Qtd) → Tells m parts → CanBeWritten parts n a q c got r t → Tells (written_back a c o got m).memory (parts_back parts n a q c (moved_by o) got r t)
write_back_is_told m parts n a q c o got r t told can =
    let new : Qh = moved c (moved_by o) in
    subst (λ (w : Writing). Tells w.memory (parts_back parts n a q c (moved_by o) got r t)) (sym (written_whole m parts n a q c o got r t told can))
    (token_told new.token.active (with_overlay m a c new got) (parts_between parts n a q new got r) n new c.current t
    (between_told m parts n a q c (moved_by o) got r t told can) (moved_in_range c (moved_by o) can.copy.range) (moved_current c (moved_by o)) (between_element parts n a q c new got r t can))
