-- The bytes of a descriptor's slots, one more, and those that fit.
use Rattle.std.proofs.Common.{◌≡◌, ℕ, zero, suc, ◌+◌, ◌-◌, ◌*◌, ◌<◌, ◌≤◌, min, Bool, true, false, cond, List, [], ◌∷◌, ◌++◌, length, map, take, arith, ap, sym, ◌∙◌, refl}
use Rattle.std.specs.List.{range_with_len}
use Rattle.word_mem.specs.Memory.{Mem}
use Rattle.word_mem.specs.Views.{byte_at}
use Rattle.bandwidth.specs.Placements.{has}
use Rattle.drv_periodic_table.specs.declared.content.DescriptorNote.{DescriptorNote}
use Rattle.drv_periodic_table.specs.Descriptors.{buffer_address, bytes_from, slots_before, slot_in, moved_in, slot_told, told_from, moved_beside, sitd_in, split_told}

range_more : (a n : ℕ) → range_with_len a (suc n) ≡ range_with_len a n ++ (a + n) ∷ []
range_more a zero = ap (λ k. k ∷ []) (let e : a ≡ a + 0 = omega arith in e)
range_more a (suc n) = ap (λ xs. a ∷ xs) (range_more (a + 1) n ∙ ap (λ k. range_with_len (a + 1) n ++ k ∷ []) (let e : a + 1 + n ≡ a + suc n = omega arith in e))

map_more : {X : Type 0} (f : ℕ → X) (xs : List ℕ) (k : ℕ) → map f (xs ++ k ∷ []) ≡ map f xs ++ f k ∷ []
map_more f [] k = refl
map_more f (x ∷ xs) k = ap (λ ys. f x ∷ ys) (map_more f xs k)

pub bytes_none : (m : Mem) (runs : List ℕ) (j : ℕ) → bytes_from m runs j 0 ≡ []
unfolding bytes_from
bytes_none m runs j = refl

pub bytes_more : (m : Mem) (runs : List ℕ) (j i : ℕ) → bytes_from m runs j (i + 1) ≡ bytes_from m runs j i ++ byte_at m (buffer_address runs (j + i)) ∷ []
unfolding bytes_from
bytes_more m runs j i =
    ap (λ n. map (λ k. byte_at m (buffer_address runs (j + k))) (range_with_len 0 n)) (let e : i + 1 ≡ suc i = omega arith in e)
    ∙ ap (map (λ k. byte_at m (buffer_address runs (j + k)))) (range_more 0 i ∙ ap (λ k. range_with_len 0 i ++ k ∷ []) (let e : 0 + i ≡ i = omega arith in e))
    ∙ map_more (λ k. byte_at m (buffer_address runs (j + k))) (range_with_len 0 i) i

length_range : (a n : ℕ) → length (range_with_len a n) ≡ n
length_range a zero = refl
length_range a (suc n) = ap suc (length_range (a + 1) n)

length_map : {X : Type 0} (f : ℕ → X) (xs : List ℕ) → length (map f xs) ≡ length xs
length_map f [] = refl
length_map f (x ∷ xs) = ap suc (length_map f xs)

length-bytes : (m : Mem) (runs : List ℕ) (j n : ℕ) → length (bytes_from m runs j n) ≡ n
unfolding bytes_from
length-bytes m runs j n = length_map (λ i. byte_at m (buffer_address runs (j + i))) (range_with_len 0 n) ∙ length_range 0 n

take_range : (a n k : ℕ) → take k (range_with_len a n) ≡ range_with_len a (min k n)
take_range a zero zero = refl
take_range a zero (suc k) = ap (range_with_len a) (let e : 0 ≡ min (suc k) 0 = omega arith in e)
take_range a (suc n) zero = ap (range_with_len a) (let e : 0 ≡ min 0 (suc n) = omega arith in e)
take_range a (suc n) (suc k) =
    ap (λ xs. a ∷ xs) (take_range (a + 1) n k) ∙ ap (range_with_len a) (let e : suc (min k n) ≡ min (suc k) (suc n) = omega arith in e)

take_map : {X : Type 0} (f : ℕ → X) (xs : List ℕ) (k : ℕ) → take k (map f xs) ≡ map f (take k xs)
take_map f xs zero = refl
take_map f [] (suc k) = refl
take_map f (x ∷ xs) (suc k) = ap (λ ys. f x ∷ ys) (take_map f xs k)

take_bytes : (m : Mem) (runs : List ℕ) (j n k : ℕ) → take k (bytes_from m runs j n) ≡ bytes_from m runs j (min k n)
unfolding bytes_from
take_bytes m runs j n k = take_map (λ i. byte_at m (buffer_address runs (j + i))) (range_with_len 0 n) k ∙ ap (map (λ i. byte_at m (buffer_address runs (j + i)))) (take_range 0 n k)

-- a slot's bytes, by whether the microframe has one
has_none : (note : DescriptorNote) (m : Mem) (b u : ℕ) → has note.smask u ≡ false → slot_told note m b u ≡ []
has_none note m b u e = ap (λ (t : Bool). cond t (bytes_from m note.buffer (slots_before note.smask u * note.slot) (moved_in note.slot (slot_in m b u).length)) []) e

has_some : (note : DescriptorNote) (m : Mem) (b u : ℕ) → has note.smask u ≡ true → slot_told note m b u ≡ bytes_from m note.buffer (slots_before note.smask u * note.slot) (moved_in note.slot (slot_in m b u).length)
has_some note m b u e = ap (λ (t : Bool). cond t (bytes_from m note.buffer (slots_before note.smask u * note.slot) (moved_in note.slot (slot_in m b u).length)) []) e

take_none : (k : ℕ) → ◌≡◌ {A = List ℕ} (take k []) []
take_none zero = refl
take_none (suc k) = refl

pub record Tells (note : DescriptorNote) (m : Mem) (b u most n : ℕ) (bytes : List ℕ) : Type 0 where
  pub bytes_are : bytes ≡ take most (slot_told note m b u)
  pub left : most - n ≡ most - length (slot_told note m b u)

pub slot_none : (note : DescriptorNote) (m : Mem) (b u most : ℕ) → has note.smask u ≡ false → Tells note m b u most 0 []
slot_none note m b u most e = record {
  bytes_are = sym (ap (take most) (has_none note m b u e) ∙ take_none most);
  left = ap (λ (xs : List ℕ). most - length xs) (sym (has_none note m b u e));
}

pub slot_taken : (note : DescriptorNote) (m : Mem) (b u most n : ℕ) → has note.smask u ≡ true → n ≡ min most (moved_in note.slot (slot_in m b u).length) → Tells note m b u most n (bytes_from m note.buffer (slots_before note.smask u * note.slot) n)
slot_taken note m b u most n e small =
    let long = length-bytes m note.buffer (slots_before note.smask u * note.slot) (moved_in note.slot (slot_in m b u).length) in
    let all = ap (λ (xs : List ℕ). length xs) (has_some note m b u e) ∙ long in
    record {
      bytes_are =
          ap (bytes_from m note.buffer (slots_before note.smask u * note.slot)) small
          ∙ sym (take_bytes m note.buffer (slots_before note.smask u * note.slot) (moved_in note.slot (slot_in m b u).length) most)
          ∙ ap (take most) (sym (has_some note m b u e));
      left = omega (arith, small, all);
    }

-- ---- slot by slot

take_both : (k : ℕ) (xs ys : List ℕ) → take k (xs ++ ys) ≡ take k xs ++ take (k - length xs) ys
take_both k [] ys = ap (λ n. take n ys) (let e : k ≡ k - 0 = omega arith in e) ∙ ap (λ xs. xs ++ take (k - 0) ys) (sym (take_none k))
take_both zero (x ∷ xs) ys = ap (λ n. take n ys) (let e : 0 ≡ 0 - suc (length xs) = omega arith in e)
take_both (suc k) (x ∷ xs) ys = ap (λ zs. x ∷ zs) (take_both k xs ys ∙ ap (λ n. take k xs ++ take n ys) (let e : k - length xs ≡ suc k - suc (length xs) = omega arith in e))

pub told_none : (note : DescriptorNote) (m : Mem) (b u n k : ℕ) → n ≤ u → take k (told_from note m b u (n - u)) ≡ []
unfolding told_from
told_none note m b u n k all = let e : n - u ≡ 0 = omega arith in ap (λ c. take k (told_from note m b u c)) e ∙ take_none k

pub told_more : (note : DescriptorNote) (m : Mem) (b u n k : ℕ) → u < n → take k (told_from note m b u (n - u)) ≡ take k (slot_told note m b u) ++ take (k - length (slot_told note m b u)) (told_from note m b (u + 1) (n - (u + 1)))
unfolding told_from
told_more note m b u n k below =
    let e : n - u ≡ suc (n - (u + 1)) = omega arith in
    ap (λ c. take k (told_from note m b u c)) e ∙ take_both k (slot_told note m b u) (told_from note m b (u + 1) (n - (u + 1)))

-- ---- the one slot of a siTD

pub split_taken : (note : DescriptorNote) (m : Mem) (b most n moved : ℕ) → moved ≡ moved_beside note.slot (sitd_in m b).total → n ≡ min most moved → bytes_from m note.buffer 0 n ≡ take most (split_told note m b)
split_taken note m b most n moved all small =
    ap (bytes_from m note.buffer 0) (small ∙ ap (λ k. min most k) all) ∙ sym (take_bytes m note.buffer 0 (moved_beside note.slot (sitd_in m b).total) most)
