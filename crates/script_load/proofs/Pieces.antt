-- Pieces one after the other.
use Rattle.std.proofs.Common.{◌≡◌, ℕ, ◌+◌, List, [], ◌∷◌, ◌++◌, refl, sym, ap, ◌∙◌, append_assoc, arith}
use Rattle.std.specs.Prelude.{map}
use Rattle.std.specs.List.{flat_map, range_with_len}
use Rattle.std.proofs.lemmas.List.{append-nil}
use Rattle.std.proofs.lemmas.List.Concat.{flat_map-append}
use Rattle.std.proofs.lemmas.List.FromFn.{map-range_with_len_more}
use Rattle.script_load.specs.declared.parts.LoadPart.{LoadPart}
use Rattle.script_load.specs.Load.{piece, part_text}

same : (xs : List ℕ) → map (λ x. x) xs ≡ xs
same [] = refl
same (x ∷ xs) = ap (λ ys. x ∷ ys) (same xs)

range_more : (n : ℕ) → range_with_len 0 (n + 1) ≡ range_with_len 0 n ++ n ∷ []
range_more n =
    let e : 0 + n ≡ n = omega arith in
    sym (same (range_with_len 0 (n + 1))) ∙ map-range_with_len_more (λ x. x) 0 n n e ∙ ap (λ xs. xs ++ n ∷ []) (same (range_with_len 0 n))

pub no_piece : (text : List ℕ) (part : LoadPart) (ds : List ℕ) → text ≡ text ++ part_text part ds 0
unfolding part_text
no_piece text part ds = sym (append-nil text)

-- one piece more
pub one_piece : (text : List ℕ) (part : LoadPart) (ds : List ℕ) (n : ℕ) → (text ++ part_text part ds n) ++ piece part ds n ≡ text ++ part_text part ds (n + 1)
unfolding part_text
one_piece text part ds n =
    append_assoc text (part_text part ds n) (piece part ds n)
    ∙ ap (λ xs. text ++ xs)
    (sym (ap (flat_map (piece part ds)) (range_more n) ∙ flat_map-append (piece part ds) (range_with_len 0 n) (n ∷ [])
    ∙ ap (λ xs. part_text part ds n ++ xs) (append-nil (piece part ds n))))

-- what is written with one piece more
pub more_text : (old new bytes text : List ℕ) (part : LoadPart) (ds : List ℕ) (n : ℕ) → new ≡ old ++ bytes → bytes ≡ piece part ds n → old ≡ text ++ part_text part ds n → new ≡ text ++ part_text part ds (n + 1)
more_text old new bytes text part ds n e is h = e ∙ ap (λ xs. old ++ xs) is ∙ ap (λ xs. xs ++ piece part ds n) h ∙ one_piece text part ds n
