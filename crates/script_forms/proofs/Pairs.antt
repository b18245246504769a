-- Pairs of hexadecimal digits, read two at a time.
use Rattle.std.proofs.Common.{◌≡◌, ℕ, ◌+◌, ◌<◌, ◌≤◌, true, List, [], ◌∷◌, ◌++◌, length, get_or, drop, Option, Some, None, arith, is_some, append_assoc, refl, ap, sym, ◌∙◌}
use Rattle.std.specs.Option.{option_map}
use Rattle.std.proofs.lemmas.List.{drop_more, drop_all, at_drop_more}
use Rattle.script_forms.specs.Syntax.{nibble, byte_of, onto, pairs}

pub pairs_more : (w : List ℕ) (i : ℕ) → i + 1 < length w → pairs (drop i w) ≡ onto (byte_of (nibble (get_or w i 0)) (nibble (get_or w (i + 1) 0))) (pairs (drop (i + 2) w))
pairs_more w i h =
    let next : i + 1 + 1 ≡ i + 2 = omega arith in
    at_drop_more pairs w i 0 (omega arith)
    ∙ ap (λ r. pairs (get_or w i 0 ∷ r)) (drop_more w (i + 1) 0 (omega arith))
    ∙ ap (λ k. pairs (get_or w i 0 ∷ get_or w (i + 1) 0 ∷ drop k w)) next

pub pairs_odd : (w : List ℕ) (i : ℕ) → i + 1 ≡ length w → pairs (drop i w) ≡ None
pairs_odd w i h =
    at_drop_more pairs w i 0 (omega arith)
    ∙ ap (λ r. pairs (get_or w i 0 ∷ r)) (drop_all (i + 1) w (omega arith))

pub pairs_end : (w : List ℕ) (i : ℕ) → length w ≤ i → pairs (drop i w) ≡ Some []
pairs_end w i h = ap pairs (drop_all i w h)

onto_some : (b : ℕ) (r : Option (List ℕ)) → is_some (onto (Some b) r) ≡ is_some r
onto_some b None = refl
onto_some b (Some bs) = refl

some_onto : (o : Option ℕ) (r : Option (List ℕ)) → is_some o ≡ true → is_some (onto o r) ≡ is_some r
some_onto None r h = cc
some_onto (Some b) r h = onto_some b r

-- a pair more, where it is two digits
pub keeps_pairs : (w : List ℕ) (i : ℕ) (o : Option ℕ) → i + 1 < length w → o ≡ byte_of (nibble (get_or w i 0)) (nibble (get_or w (i + 1) 0)) → is_some o ≡ true → is_some (pairs (drop (i + 2) w)) ≡ is_some (pairs (drop i w))
keeps_pairs w i o h e s =
    sym (some_onto o (pairs (drop (i + 2) w)) s) ∙ ap (λ x. is_some (onto x (pairs (drop (i + 2) w)))) e ∙ ap is_some (sym (pairs_more w i h))

map_onto : (xs : List ℕ) (b : ℕ) (r : Option (List ℕ)) → option_map (λ bs. (xs ++ b ∷ []) ++ bs) r ≡ option_map (λ bs. xs ++ bs) (onto (Some b) r)
map_onto xs b None = refl
map_onto xs b (Some bs) = ap Some (append_assoc xs (b ∷ []) bs)

-- a byte more
pub puts_byte : (w xs ys : List ℕ) (i : ℕ) (o : Option ℕ) (b : ℕ) → i + 1 < length w → o ≡ byte_of (nibble (get_or w i 0)) (nibble (get_or w (i + 1) 0)) → o ≡ Some b → ys ≡ xs ++ b ∷ [] → option_map (λ bs. ys ++ bs) (pairs (drop (i + 2) w)) ≡ option_map (λ bs. xs ++ bs) (pairs (drop i w))
puts_byte w xs ys i o b h e s p =
    ap (λ zs. option_map (λ bs. zs ++ bs) (pairs (drop (i + 2) w))) p
    ∙ map_onto xs b (pairs (drop (i + 2) w))
    ∙ ap (λ x. option_map (λ bs. xs ++ bs) (onto x (pairs (drop (i + 2) w)))) (sym s ∙ e)
    ∙ ap (option_map (λ bs. xs ++ bs)) (sym (pairs_more w i h))
