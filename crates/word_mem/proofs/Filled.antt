-- A list with the same element written into places in a row.
use Rattle.std.proofs.Common.{◌≡◌, ℕ, ◌+◌, ◌<◌, ◌≤◌, List, [], ◌∷◌, ◌++◌, Some, length, take, drop, get_or, set, replicate, slice_get, append_assoc, arith, ap, sym, ◌∙◌, add-zero, ⊎_elim}
use Rattle.std.proofs.lemmas.Bool.{cases_lt}
use Rattle.std.proofs.lemmas.List.{take_all, take-append-drop, length-replicate, places}
use Rattle.std.proofs.lemmas.Option.{slice_get-get_or, slice_get_past}
use Rattle.std.proofs.lemmas.List.Edits.{fill_from_more}
use Rattle.word_mem.specs.Memory.{filled}

pub length-filled : {X : Type 0} (xs : List X) (first n : ℕ) (x : X) → first + n ≤ length xs → length (filled xs first n x) ≡ length xs
unfolding filled
length-filled xs first n x within = search (arith, places)

pub filled_none : {X : Type 0} (xs : List X) (first : ℕ) (x : X) → filled xs first 0 x ≡ xs
unfolding filled
filled_none xs first x = rw add-zero (take-append-drop first xs)

paste_is : {X : Type 0} (xs : List X) (first n : ℕ) (x : X) → take first xs ++ take n (replicate n x) ++ drop (first + n) xs ≡ filled xs first n x
unfolding filled
paste_is xs first n x = rw (take_all n (replicate n x) (omega (arith, length-replicate n x)), append_assoc)

pub filled_more : {X : Type 0} (xs : List X) (first n : ℕ) (x : X) → first + n < length xs → set (filled xs first n x) (first + n) x ≡ filled xs first (n + 1) x
filled_more xs first n x within =
    ap (λ ys. set ys (first + n) x) (sym (paste_is xs first n x)) ∙ fill_from_more xs first n x within ∙ paste_is xs first (n + 1) x

pub get_or-filled_inside : {X : Type 0} (xs : List X) (first n : ℕ) (x : X) (k : ℕ) (d : X) → first + n ≤ length xs → first ≤ k → k < first + n → get_or (filled xs first n x) k d ≡ x
unfolding filled
get_or-filled_inside xs first n x k d within from below = grind (arith, places)

pub get_or-filled_before : {X : Type 0} (xs : List X) (first n : ℕ) (x : X) (k : ℕ) (d : X) → first + n ≤ length xs → k < first → get_or (filled xs first n x) k d ≡ get_or xs k d
unfolding filled
get_or-filled_before xs first n x k d within before = grind (arith, places)

pub get_or-filled_after : {X : Type 0} (xs : List X) (first n : ℕ) (x : X) (k : ℕ) (d : X) → first + n ≤ length xs → first + n ≤ k → get_or (filled xs first n x) k d ≡ get_or xs k d
unfolding filled
get_or-filled_after xs first n x k d within after = grind (arith, places)

pub slice_get-filled_inside : {X : Type 0} (xs : List X) (first n : ℕ) (x : X) (k : ℕ) → first + n ≤ length xs → first ≤ k → k < first + n → slice_get (filled xs first n x) k ≡ Some x
slice_get-filled_inside xs first n x k within from below =
    slice_get-get_or (filled xs first n x) k x (omega (arith, length-filled xs first n x within))
    ∙ ap Some (get_or-filled_inside xs first n x k x within from below)

-- the same element at two places, or none at either
same_get : {X : Type 0} (xs ys : List X) (k : ℕ) → length xs ≡ length ys → ((d : X) → get_or xs k d ≡ get_or ys k d) → slice_get xs k ≡ slice_get ys k
same_get xs [] k same each = slice_get_past xs k (omega (arith, same))
same_get xs (y ∷ ys) k same each =
    ⊎_elim (λ (lt : k < length xs). slice_get-get_or xs k y lt ∙ ap Some (each y) ∙ sym (slice_get-get_or (y ∷ ys) k y (omega (arith, same))))
    (λ (ge : length xs ≤ k). slice_get_past xs k ge ∙ sym (slice_get_past (y ∷ ys) k (omega (arith, same)))) (cases_lt k (length xs))

pub slice_get-filled_before : {X : Type 0} (xs : List X) (first n : ℕ) (x : X) (k : ℕ) → first + n ≤ length xs → k < first → slice_get (filled xs first n x) k ≡ slice_get xs k
slice_get-filled_before xs first n x k within before =
    same_get (filled xs first n x) xs k (length-filled xs first n x within) (λ d. get_or-filled_before xs first n x k d within before)

pub slice_get-filled_after : {X : Type 0} (xs : List X) (first n : ℕ) (x : X) (k : ℕ) → first + n ≤ length xs → first + n ≤ k → slice_get (filled xs first n x) k ≡ slice_get xs k
slice_get-filled_after xs first n x k within after =
    same_get (filled xs first n x) xs k (length-filled xs first n x within) (λ d. get_or-filled_after xs first n x k d within after)
