-- Of a qTD that wasn't harvested the overlay or its token counts the bytes that are told of it.
use Rattle.std.proofs.Common.{◌≡◌, ℕ, zero, suc, ◌+◌, ◌-◌, ◌*◌, ◌≤◌, ◌&&◌, nat_eq, Bool, true, false, cond, if◌then◌else◌, List, [], length, take, get_or, Some, None, ap, refl, sym, ◌∙◌, arith}
use Rattle.std.specs.Result.{result_ok}
use Rattle.std.proofs.lemmas.List.{nil_from_length}
use Rattle.law_driver_ring.proofs.Common.{unless_is, moved_is}
use Rattle.law_common.proofs.Lists.{take_again}
use Rattle.law_common.proofs.Numbers.{other_number}
use Rattle.word_mem.specs.Memory.{Mem, word_at}
use Rattle.word_mem.specs.Views.{words_at}
use Rattle.word_mem.proofs.Words.{get_or-words_in}
use Rattle.link_words.specs.Layout.{high_bits}
use Rattle.qh_qtd.specs.declared.token.Token.{Token}
use Rattle.qh_qtd.specs.declared.qtd.Qtd.{Qtd}
use Rattle.qh_qtd.specs.declared.queue_head.Qh.{Qh}
use Rattle.qh_qtd.specs.Token.{token_at}
use Rattle.qh_qtd.specs.QueueHead.{qh_read, qh_at, qh_bad}
use Rattle.mem_queues.specs.Structures.{reaches_queue_head}
use Rattle.law_structures.specs.lent_structures.Structures.{QueueHead, StructureSets, Tells}
use Rattle.law_structures.proofs.lemmas.lent_structures.Reading.{head_read}
use Rattle.law_structures.specs.lent_structures.Sound.{HasBuffer}
use Rattle.law_structures.proofs.lemmas.lent_structures.Altering.{found_element}
use Rattle.law_ring.specs.Hand.{Hand, Settled}
use Rattle.law_ring.specs.Effects.{bytes_in, buffer_of}
use Rattle.law_ring.specs.Told.{works_on, left_of, told_bytes, settled_bytes, hand_bytes, Told}
use Rattle.drv_table.specs.declared.content.QtdNote.{QtdNote}
use Rattle.drv_table.specs.Harvests.{token_in, buffer_bytes, is_current, left_now, moved_now}
use Rattle.law_driver_ring.specs.harvested_streams.Harvested.{IsNoted}
use Rattle.law_driver_ring.proofs.lemmas.harvested_streams.Harvesting.{token_is_read, bytes_are_read}
use Rattle.law_driver_ring.specs.told_harvests.Held.{IsDone, IsRead}
use Rattle.law_driver_ring.proofs.lemmas.told_harvests.Reading.{length_taken}
use Rattle.law_queues.specs.cancelled_bytes.Cancelled.{SettlesElsewhere}

-- ---- the queue head

read_is : (ws : List ℕ) (q : Qh) → result_ok (qh_read ws) ≡ Some q → qh_at ws ≡ q
unfolding qh_read
read_is ws q e = unless_is (qh_bad ws) (qh_at ws) q e

there_is : (b : Bool) (ws : List ℕ) (q : Qh) → cond b (result_ok (qh_read ws)) None ≡ Some q → qh_at ws ≡ q
there_is true ws q e = read_is ws q e
there_is false ws q e = absurd (cc)

token_in_words : (ws : List ℕ) → (qh_at ws).token ≡ token_at (get_or ws 6 0)
unfolding qh_at
token_in_words ws = refl

current_in_words : (ws : List ℕ) → (qh_at ws).current ≡ high_bits 5 (get_or ws 3 0)
unfolding qh_at
current_in_words ws = refl

module _ (m : Mem) (parts : StructureSets) (queue : ℕ) (q : Qh) (tells : Tells m parts) (head : parts (32 * queue) (32 * queue) ≡ Some (QueueHead q)) where
  head_is : qh_at (words_at m (32 * queue) 12) ≡ q
  head_is = there_is (reaches_queue_head m (32 * queue)) (words_at m (32 * queue) 12) q (head_read m parts (32 * queue) (32 * queue) q tells head)

  pub overlay_read : token_at (word_at m (32 * queue + 24)) ≡ q.token
  overlay_read = sym (ap token_at (get_or-words_in m.words (32 * queue) 12 6 (omega arith))) ∙ sym (token_in_words (words_at m (32 * queue) 12)) ∙ ap (λ (z : Qh). z.token) head_is

  pub current_read : high_bits 5 (word_at m (32 * queue + 12)) ≡ q.current
  current_read = sym (ap (high_bits 5) (get_or-words_in m.words (32 * queue) 12 3 (omega arith))) ∙ sym (current_in_words (words_at m (32 * queue) 12)) ∙ ap (λ (z : Qh). z.current) head_is

  -- the driver asks the same of the overlay as what is told
  works_now : (b : ℕ) → is_current m queue b ≡ works_on q (32 * b)
  works_now b =
      ap (λ (z : Token). z.active && nat_eq (high_bits 5 (word_at m (32 * queue + 12))) (32 * b)) overlay_read
      ∙ ap (λ (i : ℕ). q.token.active && nat_eq i (32 * b)) current_read

  left_is : (b : ℕ) (t : Qtd) → token_in m b ≡ t.token → left_now m queue b ≡ left_of q (32 * b) t
  left_is b t token =
      ap (λ (w : Bool). if w then (token_at (word_at m (32 * queue + 24))).total else (token_in m b).total) (works_now b)
      ∙ ap (λ (z : Token). if works_on q (32 * b) then z.total else (token_in m b).total) overlay_read
      ∙ ap (λ (z : Token). if works_on q (32 * b) then q.token.total else z.total) token

-- ---- what is told where its transaction was written back

pub words_tell : (hand : Hand) (n : ℕ) (q : Qh) (e : ℕ) (t : Qtd) (bs : List ℕ) → SettlesElsewhere hand n → hand_bytes hand n q e t bs ≡ told_bytes q e t bs
words_tell (Settled c z) n q e t bs k = ap (λ (b : Bool). if b && works_on q e then settled_bytes q t z bs else told_bytes q e t bs) (other_number c.at n k)
words_tell _ n q e t bs k = refl

-- ---- its bytes

no_bytes : (m : Mem) (note : QtdNote) → buffer_bytes m note 0 ≡ []
unfolding buffer_bytes
no_bytes m note = refl

abbrev no_list : List ℕ
no_list = []

take_none : (k : ℕ) → take k no_list ≡ no_list
take_none zero = refl
take_none (suc k) = refl

module _ (m : Mem) (parts : StructureSets) (hand : Hand) (queue : ℕ) (tells : Tells m parts) (elsewhere : SettlesElsewhere hand (32 * queue)) where
  told_is : (b : ℕ) (note : QtdNote) (z : List ℕ) → (r : IsRead (parts (32 * queue)) note b) → Told hand parts (32 * queue) (32 * b) z
      → z ≡ take (note.told - left_now m queue b) (buffer_of (parts (32 * queue)) r.qtd)
  told_is b note z r told =
      let bs : List ℕ = buffer_of (parts (32 * queue)) r.qtd in
      told.are ∙ ap (λ (t : Qtd). hand_bytes hand (32 * queue) told.queue (32 * b) t (buffer_of (parts (32 * queue)) t)) (found_element (parts (32 * queue) (32 * b)) told.qtd r.qtd told.here r.here)
      ∙ words_tell hand (32 * queue) told.queue (32 * b) r.qtd bs elsewhere
      ∙ ap (λ (i : ℕ). take (length bs - i) bs) (sym (left_is m parts queue told.queue tells told.head b r.qtd (token_is_read m parts (32 * queue) b r.qtd tells r.here)))
      ∙ ap (λ (i : ℕ). take (i - left_now m queue b) bs) r.long

  pub told_long : (b : ℕ) (note : QtdNote) (z : List ℕ) → IsRead (parts (32 * queue)) note b → Told hand parts (32 * queue) (32 * b) z → length z ≤ note.told
  told_long b note z r told =
      let is = ap length (told_is b note z r told) in
      let less = length_taken (note.told - left_now m queue b) (buffer_of (parts (32 * queue)) r.qtd) in
      let long = r.long in
      omega (arith, is, less, long)

  -- so many of its bytes are read from its buffer
  read_by : (k told b : ℕ) (note : QtdNote) → told ≡ note.told → k ≤ told → (r : IsRead (parts (32 * queue)) note b) → buffer_bytes m note k ≡ take k (buffer_of (parts (32 * queue)) r.qtd)
  read_by k zero b note is below r =
      let nothing : buffer_of (parts (32 * queue)) r.qtd ≡ [] = (let long = r.long in nil_from_length (buffer_of (parts (32 * queue)) r.qtd) (omega (arith, long, is))) in
      let none : k ≡ 0 = omega (arith, below) in
      ap (buffer_bytes m note) none ∙ no_bytes m note ∙ sym (take_none k) ∙ ap (take k) (sym nothing)
  read_by k (suc told) b note is below r =
      let has : HasBuffer (parts (32 * queue)) r.qtd note.told = r.buffer (omega (arith, is)) in
      let size = has.size in
      let noted : IsNoted note r.qtd has.bytes = record { told = sym has.size; places = λ j within. r.places j (omega (arith, within, size)) } in
      bytes_are_read m parts (32 * queue) r.qtd has.bytes note k tells has.here noted (omega (arith, below, is, size)) ∙ ap (take k) (sym (ap bytes_in has.here))

  pub qtd_counted : (b : ℕ) (note : QtdNote) (z : List ℕ) → IsRead (parts (32 * queue)) note b → Told hand parts (32 * queue) (32 * b) z → buffer_bytes m note (moved_now m queue b note false) ≡ z
  qtd_counted b note z r told =
      ap (buffer_bytes m note) (moved_is note.told (left_now m queue b)) ∙ read_by (note.told - left_now m queue b) note.told b note refl (omega arith) r ∙ sym (told_is b note z r told)

  -- what was noted of one that was harvested is what is told of it
  pub done_counted : (b k : ℕ) (note : QtdNote) (z : List ℕ) → IsRead (parts (32 * queue)) note b → IsDone hand parts (32 * queue) b k z → buffer_bytes m note k ≡ z
  done_counted b k note z r done =
      let is : z ≡ take (note.told - left_now m queue b) (buffer_of (parts (32 * queue)) r.qtd) = told_is b note z r done.told in
      ap (buffer_bytes m note) (sym done.count) ∙ read_by (length z) note.told b note refl (told_long b note z r done.told) r
      ∙ ap (λ (ys : List ℕ). take (length ys) (buffer_of (parts (32 * queue)) r.qtd)) is ∙ take_again (note.told - left_now m queue b) (buffer_of (parts (32 * queue)) r.qtd) ∙ sym is

pub qtd_is_counted : (m : Mem) (parts : StructureSets) (hand : Hand) (queue b : ℕ) (note : QtdNote) (z : List ℕ) → Tells m parts → SettlesElsewhere hand (32 * queue) → IsRead (parts (32 * queue)) note b
    → Told hand parts (32 * queue) (32 * b) z → buffer_bytes m note (moved_now m queue b note false) ≡ z
qtd_is_counted m parts hand queue b note z tells elsewhere r told = qtd_counted m parts hand queue tells elsewhere b note z r told
