-- The bytes of buffers, one more, and those that fit.
use Rattle.std.proofs.Common.{◌≡◌, ℕ, zero, suc, ◌+◌, ◌-◌, ◌<◌, ◌≤◌, min, List, [], ◌∷◌, ◌++◌, length, map, take, drop, arith, ap, sym, ◌∙◌, refl, cond, nat_lt, get_or, set}
use Rattle.std.specs.List.{range_with_len}
use Rattle.word_mem.specs.Memory.{Mem}
use Rattle.word_mem.specs.Views.{byte_at}
use Rattle.drv_table.specs.declared.content.QtdNote.{QtdNote}
use Rattle.std.proofs.Math.Seq.{drop-cons}
use Rattle.drv_table.specs.declared.content.Transfer.{Transfer}
use Rattle.drv_table.specs.DriverContent.{waits_for}
use Rattle.drv_table.specs.Harvests.{buffer_address, buffer_bytes, moved_bytes, note_at, bytes_now, moved_now}
use Rattle.drv_table.specs.Releases.{cancelled_bytes}
use Rattle.std.proofs.lemmas.List.Sums.{sum_by-cons}
use Rattle.drv_harvests.specs.Owed.{owed_of}
use Rattle.drv_harvests.proofs.Lists.{drop_past}

range_more : (a n : ℕ) → range_with_len a (suc n) ≡ range_with_len a n ++ (a + n) ∷ []
range_more a zero = ap (λ k. k ∷ []) (let e : a ≡ a + 0 = omega arith in e)
range_more a (suc n) = ap (λ xs. a ∷ xs) (range_more (a + 1) n ∙ ap (λ k. range_with_len (a + 1) n ++ k ∷ []) (let e : a + 1 + n ≡ a + suc n = omega arith in e))

map_more : {X : Type 0} (f : ℕ → X) (xs : List ℕ) (k : ℕ) → map f (xs ++ k ∷ []) ≡ map f xs ++ f k ∷ []
map_more f [] k = refl
map_more f (x ∷ xs) k = ap (λ ys. f x ∷ ys) (map_more f xs k)

pub buffer_none : (m : Mem) (note : QtdNote) → buffer_bytes m note 0 ≡ []
unfolding buffer_bytes
buffer_none m note = refl

pub buffer_more : (m : Mem) (note : QtdNote) (j : ℕ) → buffer_bytes m note (j + 1) ≡ buffer_bytes m note j ++ byte_at m (buffer_address note j) ∷ []
unfolding buffer_bytes
buffer_more m note j =
    ap (λ n. map (λ i. byte_at m (buffer_address note i)) (range_with_len 0 n)) (let e : j + 1 ≡ suc j = omega arith in e)
    ∙ ap (map (λ i. byte_at m (buffer_address note i))) (range_more 0 j ∙ ap (λ k. range_with_len 0 j ++ k ∷ []) (let e : 0 + j ≡ j = omega arith in e))
    ∙ map_more (λ i. byte_at m (buffer_address note i)) (range_with_len 0 j) j

length_range : (a n : ℕ) → length (range_with_len a n) ≡ n
length_range a zero = refl
length_range a (suc n) = ap suc (length_range (a + 1) n)

length_map : {X : Type 0} (f : ℕ → X) (xs : List ℕ) → length (map f xs) ≡ length xs
length_map f [] = refl
length_map f (x ∷ xs) = ap suc (length_map f xs)

pub length-buffer : (m : Mem) (note : QtdNote) (n : ℕ) → length (buffer_bytes m note n) ≡ n
unfolding buffer_bytes
length-buffer m note n = length_map (λ i. byte_at m (buffer_address note i)) (range_with_len 0 n) ∙ length_range 0 n

take_range : (a n k : ℕ) → take k (range_with_len a n) ≡ range_with_len a (min k n)
take_range a zero zero = refl
take_range a zero (suc k) = ap (range_with_len a) (let e : 0 ≡ min (suc k) 0 = omega arith in e)
take_range a (suc n) zero = ap (range_with_len a) (let e : 0 ≡ min 0 (suc n) = omega arith in e)
take_range a (suc n) (suc k) =
    ap (λ xs. a ∷ xs) (take_range (a + 1) n k) ∙ ap (range_with_len a) (let e : suc (min k n) ≡ min (suc k) (suc n) = omega arith in e)

take_map : {X : Type 0} (f : ℕ → X) (xs : List ℕ) (k : ℕ) → take k (map f xs) ≡ map f (take k xs)
take_map f xs zero = refl
take_map f [] (suc k) = refl
take_map f (x ∷ xs) (suc k) = ap (λ ys. f x ∷ ys) (take_map f xs k)

take_buffer : (m : Mem) (note : QtdNote) (n k : ℕ) → take k (buffer_bytes m note n) ≡ buffer_bytes m note (min k n)
unfolding buffer_bytes
take_buffer m note n k =
    take_map (λ i. byte_at m (buffer_address note i)) (range_with_len 0 n) k ∙ ap (map (λ i. byte_at m (buffer_address note i))) (take_range 0 n k)

take_nothing : (k : ℕ) → take {A = ℕ} k [] ≡ []
take_nothing zero = refl
take_nothing (suc k) = refl

take_append : (xs ys : List ℕ) (k : ℕ) → take k (xs ++ ys) ≡ take k xs ++ take (k - length xs) ys
take_append [] ys k =
    ap (λ n. take n ys) (let e : k ≡ k - 0 = omega arith in e) ∙ ap (λ xs. xs ++ take (k - 0) ys) (sym (take_nothing k))
take_append (x ∷ xs) ys zero = ap (λ n. take n ys) (let e : 0 ≡ 0 - suc (length xs) = omega arith in e)
take_append (x ∷ xs) ys (suc k) =
    ap (λ zs. x ∷ zs) (take_append xs ys k ∙ ap (λ n. take k xs ++ take n ys) (let e : k - length xs ≡ suc k - suc (length xs) = omega arith in e))

pub moved_more : (notes : List QtdNote) (m : Mem) (b n i left : ℕ) → i < n → take left (moved_bytes notes m b (n - i)) ≡ buffer_bytes m (note_at notes b) (min left (note_at notes b).moved) ++ take (left - min left (note_at notes b).moved) (moved_bytes notes m (note_at notes b).next (n - (i + 1)))
unfolding moved_bytes
moved_more notes m b n i left below =
    let note = note_at notes b in
    let e : n - i ≡ suc (n - (i + 1)) = omega arith in
    ap (λ k. take left (moved_bytes notes m b k)) e
    ∙ take_append (buffer_bytes m note note.moved) (moved_bytes notes m note.next (n - (i + 1))) left
    ∙ ap (λ xs. xs ++ take (left - length (buffer_bytes m note note.moved)) (moved_bytes notes m note.next (n - (i + 1)))) (take_buffer m note note.moved left)
    ∙ ap (λ k. buffer_bytes m note (min left note.moved) ++ take k (moved_bytes notes m note.next (n - (i + 1))))
    (let f : left - length (buffer_bytes m note note.moved) ≡ left - min left note.moved = omega (arith, length-buffer m note note.moved) in f)

pub moved_none : (notes : List QtdNote) (m : Mem) (b n i left : ℕ) → n ≤ i → take left (moved_bytes notes m b (n - i)) ≡ []
unfolding moved_bytes
moved_none notes m b n i left past =
    let e : n - i ≡ 0 = omega arith in
    ap (λ k. take left (moved_bytes notes m b k)) e ∙ take_nothing left

pub now_more : (notes : List QtdNote) (m : Mem) (q b n i left most : ℕ) → i < n → take most (bytes_now notes m q b (n - i) left) ≡ buffer_bytes m (note_at notes b) (min most (moved_now m q b (note_at notes b) (nat_lt left (n - i)))) ++ take (most - min most (moved_now m q b (note_at notes b) (nat_lt left (n - i)))) (bytes_now notes m q (note_at notes b).next (n - (i + 1)) left)
unfolding bytes_now
now_more notes m q b n i left most below =
    let note = note_at notes b in
    let e : n - i ≡ suc (n - (i + 1)) = omega arith in
    let moved = moved_now m q b note (nat_lt left (suc (n - (i + 1)))) in
    let same : moved ≡ moved_now m q b note (nat_lt left (n - i)) = ap (λ k. moved_now m q b note (nat_lt left k)) (sym e) in
    ap (λ k. take most (bytes_now notes m q b k left)) e
    ∙ take_append (buffer_bytes m note moved) (bytes_now notes m q note.next (n - (i + 1)) left) most
    ∙ ap (λ xs. xs ++ take (most - length (buffer_bytes m note moved)) (bytes_now notes m q note.next (n - (i + 1)) left)) (take_buffer m note moved most)
    ∙ ap (λ k. buffer_bytes m note (min most moved) ++ take k (bytes_now notes m q note.next (n - (i + 1)) left))
    (let f : most - length (buffer_bytes m note moved) ≡ most - min most moved = omega (arith, length-buffer m note moved) in f)
    ∙ ap (λ k. buffer_bytes m note (min most k) ++ take (most - min most k) (bytes_now notes m q note.next (n - (i + 1)) left)) same

pub now_none : (notes : List QtdNote) (m : Mem) (q b n i left most : ℕ) → n ≤ i → take most (bytes_now notes m q b (n - i) left) ≡ []
unfolding bytes_now
now_none notes m q b n i left most past =
    let e : n - i ≡ 0 = omega arith in
    ap (λ k. take most (bytes_now notes m q b k left)) e ∙ take_nothing most

drop_cons : (ts : List Transfer) (i : ℕ) (d : Transfer) → i < length ts → drop i ts ≡ get_or ts i d ∷ drop (i + 1) ts
drop_cons ts i d below = drop-cons ts i d below ∙ ap (λ j. get_or ts i d ∷ drop j ts) (let e : suc i ≡ i + 1 = omega arith in e)

pub cancelled_more : (notes : List QtdNote) (m : Mem) (e q : ℕ) (ts : List Transfer) (i : ℕ) (d : Transfer) → i < length ts → cancelled_bytes notes m e q (drop i ts) ≡ cond (waits_for e (get_or ts i d)) (take (get_or ts i d).most (bytes_now notes m q (get_or ts i d).first (get_or ts i d).qtds (get_or ts i d).left)) [] ++ cancelled_bytes notes m e q (drop (i + 1) ts)
unfolding cancelled_bytes
cancelled_more notes m e q ts i d below = ap (λ xs. cancelled_bytes notes m e q xs) (drop_cons ts i d below)

pub owed_more : (e : ℕ) (ts : List Transfer) (i : ℕ) (d : Transfer) → i < length ts → owed_of e (drop i ts) ≡ cond (waits_for e (get_or ts i d)) (get_or ts i d).most 0 + owed_of e (drop (i + 1) ts)
owed_more e ts i d below = ap (owed_of e) (drop_cons ts i d below) ∙ sum_by-cons (λ (t : Transfer). cond (waits_for e t) t.most 0) (get_or ts i d) (drop (i + 1) ts)

pub cancelled_none : (notes : List QtdNote) (m : Mem) (e q : ℕ) (ts : List Transfer) (i : ℕ) → length ts ≤ i → cancelled_bytes notes m e q (drop i ts) ≡ []
unfolding cancelled_bytes
cancelled_none notes m e q ts i past = ap (λ xs. cancelled_bytes notes m e q xs) (drop_past ts i past)

pub let_go_more : (f : Transfer → Transfer) (xs : List Transfer) (k : ℕ) (d : Transfer) → k < length xs → set (map f (take k xs) ++ drop k xs) k (f (get_or xs k d)) ≡ map f (take (k + 1) xs) ++ drop (k + 1) xs
let_go_more f [] k d below = absurd (omega arith)
let_go_more f (x ∷ xs) zero d below = refl
let_go_more f (x ∷ xs) (suc k) d below =
    ap (λ ys. f x ∷ ys) (let_go_more f xs k d (omega arith))
    ∙ ap (λ j. map f (take j (x ∷ xs)) ++ drop j (x ∷ xs)) (let e : suc (k + 1) ≡ suc k + 1 = omega arith in e)

pub get_let_go : (f : Transfer → Transfer) (xs : List Transfer) (k : ℕ) (d : Transfer) → get_or (map f (take k xs) ++ drop k xs) k d ≡ get_or xs k d
get_let_go f [] zero d = refl
get_let_go f [] (suc k) d = refl
get_let_go f (x ∷ xs) zero d = refl
get_let_go f (x ∷ xs) (suc k) d = get_let_go f xs k d

pub let_go_step : (f : Transfer → Transfer) (xs ys : List Transfer) (k : ℕ) (d y : Transfer) → k < length xs → ys ≡ map f (take k xs) ++ drop k xs → y ≡ f (get_or ys k d) → set ys k y ≡ map f (take (k + 1) xs) ++ drop (k + 1) xs
let_go_step f xs ys k d y below sofar one =
    ap (λ zs. set zs k y) sofar
    ∙ ap (λ z. set (map f (take k xs) ++ drop k xs) k z) (one ∙ ap (λ zs. f (get_or zs k d)) sofar ∙ ap f (get_let_go f xs k d))
    ∙ let_go_more f xs k d below
