-- The first of what has left whose boundary is seen.
use Rattle.std.proofs.Common.{◌≡◌, ℕ, ◌+◌, ◌≤◌, ◌<◌, List, [], ◌∷◌, ◌++◌, length, map, take, drop, set, get_or, Some, None, ap, sym, ◌∙◌, arith}
use Rattle.std.proofs.lemmas.List.{length-map, length-take-le, drop_more, take_more, map-append, append_assoc}
use Rattle.std.proofs.Math.Seq.{set-append_seam, get_or-append_seam}
use Rattle.std.specs.Prelude.{option_map}
use Rattle.std.specs.List.{find, slice_get, position_or_len}
use Rattle.std.proofs.lemmas.List.Folds.{find_at}
use Rattle.std.proofs.lemmas.Option.{slice_get_past, slice_get-get_or}
use Rattle.drv_periodic.specs.declared.departures.Departure.{Departure}
use Rattle.drv_periodic.specs.Left.{is_gone}

abbrev id_in : Departure → ℕ
id_in d = d.id

pub none_gone : (ds : List Departure) → length ds ≤ position_or_len is_gone ds → None ≡ option_map id_in (find is_gone ds)
none_gone ds h = ap (λ o. option_map id_in o) (sym (find_at is_gone ds ∙ slice_get_past ds (position_or_len is_gone ds) h))

pub one_gone : (ds : List Departure) (n : ℕ) (d : Departure) → n ≡ position_or_len is_gone ds → n < length ds → d ≡ get_or ds n d → Some d.id ≡ option_map id_in (find is_gone ds)
one_gone ds n d e h g = ap (λ o. option_map id_in o) (sym (find_at is_gone ds ∙ ap (λ k. slice_get ds k) (sym e) ∙ slice_get-get_or ds n d h ∙ ap Some (sym g)))

-- the first k are changed
pub mapped_more : {X : Type 0} (f : X → X) (xs : List X) (k : ℕ) (d y : X) → k < length xs → y ≡ f (get_or xs k d) → set (map f (take k xs) ++ drop k xs) k y ≡ map f (take (k + 1) xs) ++ drop (k + 1) xs
mapped_more f xs k d y h e =
    let front = map f (take k xs) in
    let long : length front ≡ k = length-map (take k xs) f ∙ length-take-le k xs (omega (arith, h)) in
    ap (λ zs. set (front ++ zs) k y) (drop_more xs k d h) ∙ ap (λ n. set (front ++ get_or xs k d ∷ drop (k + 1) xs) n y) (sym long)
    ∙ set-append_seam front (get_or xs k d) (drop (k + 1) xs) y ∙ ap (λ z. front ++ z ∷ drop (k + 1) xs) e
    ∙ sym (ap (λ zs. map f zs ++ drop (k + 1) xs) (take_more xs k d h) ∙ ap (λ zs. zs ++ drop (k + 1) xs) (map-append f (take k xs) (get_or xs k d ∷ [])) ∙ append_assoc front (f (get_or xs k d) ∷ []) (drop (k + 1) xs))

pub mapped_at : {X : Type 0} (f : X → X) (xs : List X) (k : ℕ) (d : X) → k < length xs → get_or (map f (take k xs) ++ drop k xs) k d ≡ get_or xs k d
mapped_at f xs k d h =
    let front = map f (take k xs) in
    let long : length front ≡ k = length-map (take k xs) f ∙ length-take-le k xs (omega (arith, h)) in
    ap (λ zs. get_or (front ++ zs) k d) (drop_more xs k d h) ∙ ap (λ n. get_or (front ++ get_or xs k d ∷ drop (k + 1) xs) n d) (sym long) ∙ get_or-append_seam front (get_or xs k d) (drop (k + 1) xs) d
