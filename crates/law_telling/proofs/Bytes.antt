-- What was moved, of qTDs that were read and of those that weren't.
use Rattle.std.proofs.Common.{◌≡◌, ℕ, zero, suc, ◌+◌, ◌-◌, ◌<◌, ◌≤◌, Bool, true, false, cond, List, [], ◌∷◌, ◌++◌, take, drop, refl, ap, sym, ◌∙◌, arith, append_assoc}
use Rattle.std.specs.Prelude.{nat_lt, if◌then◌else◌}
use Rattle.std.specs.List.{flat_map, range_with_len}
use Rattle.std.proofs.lemmas.Bool.Decides.{nat_tests}
use Rattle.std.proofs.lemmas.List.Concat.{flat_map-cons}
use Rattle.word_mem.specs.Memory.{Mem}
use Rattle.drv_table.specs.declared.content.QtdNote.{QtdNote}
use Rattle.drv_table.specs.declared.content.Transfer.{Transfer}
use Rattle.drv_table.specs.DriverContent.{waits_for}
use Rattle.drv_table.specs.Harvests.{note_at, buffer_bytes, moved_bytes, moved_now, bytes_now}
use Rattle.drv_table.specs.Parts.{Parts}
use Rattle.drv_table.specs.Releases.{cancelled_bytes}
use Rattle.drv_periodic_table.specs.declared.content.DescriptorNote.{DescriptorNote}
use Rattle.drv_periodic_table.specs.Descriptors.{slots_before, bytes_from, slot_told, told_from, split_told, told_bytes}
use Rattle.claims_answers.specs.Slots.{split_of, bytes_behind, left_of, bytes_of_slot, bytes_of_slots}
use Rattle.claims_answers.specs.Telling.{less, qtds_of, bytes_read, left_in, bytes_under_way, bytes_until_now, bytes_of_untold}

pub moved_is : (notes : List QtdNote) (m : Mem) (b n : ℕ) → moved_bytes notes m b n ≡ bytes_read notes m (qtds_of notes b n)
unfolding moved_bytes buffer_bytes
moved_is notes m b zero = refl
moved_is notes m b (suc n) =
    ap (λ (xs : List ℕ). buffer_bytes m (note_at notes b) (note_at notes b).moved ++ xs) (moved_is notes m (note_at notes b).next n)
    ∙ sym (flat_map-cons (λ (c : ℕ). buffer_bytes m (note_at notes c) (note_at notes c).moved) b (qtds_of notes (note_at notes b).next n))

module _ (notes : List QtdNote) (m : Mem) (q : ℕ) where
  -- none of them is read
  unread : (b n left : ℕ) → n ≤ left → bytes_now notes m q b n left ≡ bytes_under_way notes m q (qtds_of notes b n)
  unfolding bytes_now buffer_bytes
  unread b zero left low = refl
  unread b (suc n) left low =
      ap (λ (c : Bool). buffer_bytes m (note_at notes b) (moved_now m q b (note_at notes b) c) ++ bytes_now notes m q (note_at notes b).next
      n left) (off n left low)
      ∙ ap (λ (xs : List ℕ). buffer_bytes m (note_at notes b) (less (note_at notes b).told (left_in m q b)) ++ xs)
      (unread (note_at notes b).next n left (omega (arith, low)))
      ∙ sym (flat_map-cons (λ (c : ℕ). buffer_bytes m (note_at notes c) (less (note_at notes c).told (left_in m q c))) b
      (qtds_of notes (note_at notes b).next n))
    where
      off : (k l : ℕ) → suc k ≤ l → nat_lt l (suc k) ≡ false
      off k l h = grind (arith, nat_tests)

  some_read : (b n left : ℕ) (c : Bool) → nat_lt left (suc n) ≡ c
      → bytes_now notes m q (note_at notes b).next n left ≡ bytes_until_now notes m q (note_at notes b).next n left
      → bytes_now notes m q b (suc n) left ≡ bytes_until_now notes m q b (suc n) left
  unfolding bytes_now buffer_bytes
  some_read b n left true is rest =
      let low : left < suc n = grind (arith, nat_tests) in
      let one : suc n - left ≡ suc (n - left) = omega (arith, low) in
      ap (λ (c : Bool). buffer_bytes m (note_at notes b) (moved_now m q b (note_at notes b) c) ++ bytes_now notes m q (note_at notes b).next
      n left) is
      ∙ ap (λ (xs : List ℕ). buffer_bytes m (note_at notes b) (note_at notes b).moved ++ xs) rest
      ∙ sym (append_assoc (buffer_bytes m (note_at notes b) (note_at notes b).moved)
      (bytes_read notes m (take (n - left) (qtds_of notes (note_at notes b).next n)))
      (bytes_under_way notes m q (drop (n - left) (qtds_of notes (note_at notes b).next n))))
      ∙ ap (λ (xs : List ℕ). xs ++ bytes_under_way notes m q (drop (n - left) (qtds_of notes (note_at notes b).next n)))
      (sym (flat_map-cons (λ (c : ℕ). buffer_bytes m (note_at notes c) (note_at notes c).moved) b
      (take (n - left) (qtds_of notes (note_at notes b).next n))))
      ∙ ap (λ (k : ℕ). bytes_read notes m (take k (qtds_of notes b (suc n))) ++ bytes_under_way notes m q
      (drop k (qtds_of notes b (suc n)))) (sym one)
  some_read b n left false is rest =
      let high : suc n ≤ left = grind (arith, nat_tests) in
      let none : suc n - left ≡ 0 = omega (arith, high) in
      unread b (suc n) left high
      ∙ ap (λ (k : ℕ). bytes_read notes m (take k (qtds_of notes b (suc n))) ++ bytes_under_way notes m q
      (drop k (qtds_of notes b (suc n)))) (sym none)

  pub now_is : (b n left : ℕ) → bytes_now notes m q b n left ≡ bytes_until_now notes m q b n left
  unfolding bytes_now buffer_bytes
  now_is b zero left = let none : 0 - left ≡ 0 = omega arith in
      ap (λ (k : ℕ). bytes_read notes m (take k []) ++ bytes_under_way notes m q (drop k [])) (sym none)
  now_is b (suc n) left = some_read b n left (nat_lt left (suc n)) refl (now_is (note_at notes b).next n left)

pub cancelled_is : (p : Parts) (e q : ℕ) (ts : List Transfer)
    → cancelled_bytes p.driver.notes p.memory e q ts ≡ flat_map (bytes_of_untold p e q) ts
unfolding cancelled_bytes
cancelled_is p e q [] = refl
cancelled_is p e q (t ∷ ts) =
    ap (λ (xs : List ℕ). (if waits_for e t then take t.most xs else []) ++ cancelled_bytes p.driver.notes p.memory e q ts)
    (now_is p.driver.notes p.memory q t.first t.qtds t.left)
    ∙ ap (λ (xs : List ℕ). bytes_of_untold p e q t ++ xs) (cancelled_is p e q ts)
    ∙ sym (flat_map-cons (bytes_of_untold p e q) t ts)

-- ---- slots

module _ (note : DescriptorNote) (m : Mem) (b : ℕ) where
  slot_is : (u : ℕ) → slot_told note m b u ≡ bytes_of_slot note m b u
  unfolding bytes_from slots_before
  slot_is u = refl

  slots_from : (u n : ℕ) → told_from note m b u n ≡ flat_map (bytes_of_slot note m b) (range_with_len u n)
  unfolding told_from
  slots_from u zero = refl
  slots_from u (suc n) =
      ap (λ (xs : List ℕ). xs ++ told_from note m b (u + 1) n) (slot_is u)
      ∙ ap (λ (xs : List ℕ). bytes_of_slot note m b u ++ xs) (slots_from (u + 1) n)
      ∙ sym (flat_map-cons (bytes_of_slot note m b) u (range_with_len (u + 1) n))

  split_is : split_told note m b ≡ bytes_behind m note.buffer 0 (left_of note.slot (split_of m b).total)
  unfolding bytes_from
  split_is = refl

  pub slots_are : told_bytes note m b ≡ bytes_of_slots note m b
  slots_are =
      ap (λ (xs : List ℕ). cond note.split xs (told_from note m b 0 8)) split_is
      ∙ ap (λ (xs : List ℕ). cond note.split (bytes_behind m note.buffer 0 (left_of note.slot (split_of m b).total)) xs) (slots_from 0 8)
