-- What the report of a transfer tells: the bytes that were moved of each of its qTDs.
use Rattle.std.proofs.Common.{◌≡◌, ℕ, zero, suc, ◌+◌, ◌-◌, ◌*◌, ◌≤◌, ◌<◌, List, [], ◌∷◌, ◌++◌, length, take, ap, refl, sym, ◌∙◌, arith}
use Rattle.std.proofs.lemmas.List.{append_assoc, append-nil, length-append, take_all, nil_from_length}
use Rattle.law_common.proofs.Lists.{take_again}
use Rattle.word_mem.specs.Memory.{Mem}
use Rattle.qh_qtd.specs.declared.qtd.Qtd.{Qtd}
use Rattle.law_structures.specs.lent_structures.Structures.{StructureSets, Tells}
use Rattle.law_structures.specs.lent_structures.Sound.{HasBuffer}
use Rattle.law_structures.proofs.lemmas.lent_structures.Altering.{found_element}
use Rattle.law_ring.specs.Hand.{Hand}
use Rattle.law_ring.specs.Effects.{bytes_in, buffer_of}
use Rattle.law_ring.specs.QueueParts.{IsQueuePart}
use Rattle.drv_table.specs.declared.content.QtdNote.{QtdNote}
use Rattle.drv_table.specs.Harvests.{note_at, buffer_bytes, moved_bytes}
use Rattle.law_driver_ring.specs.harvested_streams.Harvested.{IsNoted}
use Rattle.law_driver_ring.proofs.lemmas.told_harvests.Done.{done_in_part}
use Rattle.law_driver_ring.proofs.lemmas.harvested_streams.Harvesting.{bytes_are_read}
use Rattle.law_driver_ring.specs.told_harvests.Held.{IsDone, AreHeld, none_held, one_held, AreUnmoved, told_of, IsRead, AreRead}

-- ---- one qTD

no_bytes : (m : Mem) (note : QtdNote) → buffer_bytes m note 0 ≡ []
unfolding buffer_bytes
no_bytes m note = refl

pub length_taken : (k : ℕ) (xs : List ℕ) → length (take k xs) ≤ length xs
length_taken zero xs = omega arith
length_taken (suc k) [] = omega arith
length_taken (suc k) (x ∷ xs) = let z = length_taken k xs in omega (arith, z)

module _ (m : Mem) (parts : StructureSets) (hand : Hand) (n : ℕ) (tells : Tells m parts) (at : IsQueuePart n (parts n)) where
  -- a done qTD's bytes are the first of its buffer
  done_is : (b k : ℕ) (x : List ℕ) (note : QtdNote) → (d : IsDone hand parts n b k x) → (r : IsRead (parts n) note b) → x ≡ take (length (buffer_of (parts n) r.qtd) - r.qtd.token.total) (buffer_of (parts n) r.qtd)
  done_is b k x note d r =
      done_in_part parts hand n (32 * b) r.qtd x at r.here (ap (λ (t : Qtd). t.token.active) (found_element (parts n (32 * b)) r.qtd d.qtd r.here d.here) ∙ d.off) d.told

  pub done_long : (b k : ℕ) (x : List ℕ) (note : QtdNote) → IsDone hand parts n b k x → IsRead (parts n) note b → length x ≤ note.told
  done_long b k x note d r =
      let is = ap length (done_is b k x note d r) in
      let less = length_taken (length (buffer_of (parts n) r.qtd) - r.qtd.token.total) (buffer_of (parts n) r.qtd) in
      let long = r.long in
      omega (arith, is, less, long)

  read_by : (told b k : ℕ) (x : List ℕ) (note : QtdNote) → told ≡ note.told → IsDone hand parts n b k x → IsRead (parts n) note b → buffer_bytes m note k ≡ x
  read_by zero b k x note is d r =
      let less = done_long b k x note d r in
      let nothing : x ≡ [] = nil_from_length x (omega (arith, less, is)) in
      ap (buffer_bytes m note) (sym d.count ∙ ap length nothing) ∙ no_bytes m note ∙ sym nothing
  read_by (suc told) b k x note is d r =
      let bs : List ℕ = buffer_of (parts n) r.qtd in
      let some : 0 < note.told = omega (arith, is) in
      let has : HasBuffer (parts n) r.qtd note.told = r.buffer some in
      let are : bs ≡ has.bytes = ap bytes_in has.here in
      let x_is : x ≡ take (length bs - r.qtd.token.total) bs = done_is b k x note d r in
      let less = done_long b k x note d r in
      let size = has.size in
      let noted : IsNoted note r.qtd has.bytes = record { told = sym has.size; places = λ j below. r.places j (omega (arith, below, size)) } in
      ap (buffer_bytes m note) (sym d.count) ∙ bytes_are_read m parts n r.qtd has.bytes note (length x) tells has.here noted (omega (arith, less, size))
      ∙ ap (take (length x)) (sym are) ∙ ap (λ (ys : List ℕ). take (length ys) bs) x_is ∙ take_again (length bs - r.qtd.token.total) bs ∙ sym x_is

  pub done_read : (b k : ℕ) (x : List ℕ) (note : QtdNote) → IsDone hand parts n b k x → IsRead (parts n) note b → buffer_bytes m note k ≡ x
  done_read b k x note d r = read_by note.told b k x note refl d r

  -- ---- all of them

  module _ (notes : List QtdNote) where
    one_more : (b i : ℕ) → moved_bytes notes m b (suc i) ≡ buffer_bytes m (note_at notes b) (note_at notes b).moved ++ moved_bytes notes m (note_at notes b).next i
    unfolding moved_bytes
    one_more b i = refl

    pub held_read : (b i c l k : ℕ) (xs : List ℕ) → k ≡ i + l → AreHeld hand parts n (note_at notes) b i c xs → AreRead (parts n) (note_at notes) b i → moved_bytes notes m b k ≡ xs ++ moved_bytes notes m c l
    held_read b i c l k xs is (none_held a) r = ap (moved_bytes notes m a) (let e : k ≡ l = omega (arith, is) in e)
    held_read b i c l k xs is (one_held a j d y ys first rest) r =
        ap (moved_bytes notes m a) (let e : k ≡ suc (j + l) = omega (arith, is) in e) ∙ one_more a (j + l)
        ∙ ap (λ (zs : List ℕ). zs ++ moved_bytes notes m (note_at notes a).next (j + l)) (done_read a (note_at notes a).moved y (note_at notes a) first r.0)
        ∙ ap (λ (zs : List ℕ). y ++ zs) (held_read (note_at notes a).next j d l (j + l) ys refl rest r.1) ∙ sym (append_assoc y ys (moved_bytes notes m d l))

    pub held_long : (b i c : ℕ) (xs : List ℕ) → AreHeld hand parts n (note_at notes) b i c xs → AreRead (parts n) (note_at notes) b i → length xs ≤ told_of (note_at notes) b i
    held_long b i c xs (none_held a) r = omega arith
    held_long b i c xs (one_held a j d y ys first rest) r =
        let more = held_long (note_at notes a).next j d ys rest r.1 in
        let less = done_long a (note_at notes a).moved y (note_at notes a) first r.0 in
        let both = length-append y ys in
        omega (arith, more, less, both)

  none_read : (notes : List QtdNote) (b i : ℕ) → AreUnmoved (note_at notes) b i → moved_bytes notes m b i ≡ []
  unfolding moved_bytes
  none_read notes b zero k = refl
  none_read notes b (suc i) k =
      ap (λ (j : ℕ). buffer_bytes m (note_at notes b) j ++ moved_bytes notes m (note_at notes b).next i) k.0 ∙ ap (λ (zs : List ℕ). zs ++ moved_bytes notes m (note_at notes b).next i) (no_bytes m (note_at notes b))
      ∙ none_read notes (note_at notes b).next i k.1

  told_more : (notes : List QtdNote) (b i j : ℕ) → i ≤ j → told_of (note_at notes) b i ≤ told_of (note_at notes) b j
  told_more notes b zero j less = omega arith
  told_more notes b (suc i) zero less = absurd (omega (arith, less))
  told_more notes b (suc i) (suc j) less = let z = told_more notes (note_at notes b).next i j (omega (arith, less)) in omega (arith, z)

  -- the report's bytes of a transfer of k qTDs, of which i are harvested and the others unmoved
  pub report_read : (notes : List QtdNote) (b i c l k most : ℕ) (xs : List ℕ) → k ≡ i + l → AreHeld hand parts n (note_at notes) b i c xs → AreRead (parts n) (note_at notes) b i → AreUnmoved (note_at notes) c l → told_of (note_at notes) b k ≤ most
      → take most (moved_bytes notes m b k) ≡ xs
  report_read notes b i c l k most xs is held read unmoved within =
      let more = told_more notes b i k (omega (arith, is)) in
      let long = held_long notes b i c xs held read in
      ap (take most) (held_read notes b i c l k xs is held read ∙ ap (λ (zs : List ℕ). xs ++ zs) (none_read notes c l unmoved) ∙ append-nil xs) ∙ take_all most xs (omega (arith, more, long, within))
