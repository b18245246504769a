-- A text made of one piece after the other, of which so many are written.
use Rattle.std.proofs.Common.{◌≡◌, ℕ, ◌+◌, ◌<◌, List, [], ◌∷◌, ◌++◌, length, get_or, take, drop, Option, Some, None, Result, Ok, Err, append_assoc, ap, sym, ◌∙◌, subst, arith}
use Rattle.std.specs.List.{flat_map}
use Rattle.std.specs.Io.KnownBytes.{Appends}
use Rattle.std.proofs.lemmas.List.{take_more, take-append-drop, append-nil}
use Rattle.std.proofs.lemmas.List.Concat.{flat_map-append}
use Rattle.usb_base.specs.Outside.{AppendsPrefix, Prints, one_more}
use Rattle.usb_base.proofs.Known.{appends_join, prefix_more, prefix_after}

-- one piece more
flat_more : {X : Type 0} (f : X → List ℕ) (xs : List X) (i : ℕ) (x : X) → i < length xs → x ≡ get_or xs i x → flat_map f (take (i + 1) xs) ≡ flat_map f (take i xs) ++ f x
flat_more f xs i x h e =
    ap (λ ys. flat_map f ys) (take_more xs i x h)
    ∙ flat_map-append f (take i xs) (get_or xs i x ∷ [])
    ∙ ap (λ ys. flat_map f (take i xs) ++ ys) (append-nil (f (get_or xs i x)) ∙ ap f (sym e))

-- the pieces so far, the next one, and the others
flat_parts : {X : Type 0} (f : X → List ℕ) (xs : List X) (i : ℕ) (x : X) → i < length xs → x ≡ get_or xs i x → flat_map f xs ≡ flat_map f (take i xs) ++ (f x ++ flat_map f (drop (i + 1) xs))
flat_parts f xs i x h e =
    ap (λ ys. flat_map f ys) (sym (take-append-drop (i + 1) xs))
    ∙ flat_map-append f (take (i + 1) xs) (drop (i + 1) xs)
    ∙ ap (λ ys. ys ++ flat_map f (drop (i + 1) xs)) (flat_more f xs i x h e)
    ∙ append_assoc (flat_map f (take i xs)) (f x) (flat_map f (drop (i + 1) xs))

pub appends_piece : {X : Type 0} (a b c : Option (List ℕ)) (f : X → List ℕ) (xs : List X) (i : ℕ) (x : X) → i < length xs → x ≡ get_or xs i x → Appends a b (flat_map f (take i xs))
    → Appends b c (f x) → Appends a c (flat_map f (take (i + 1) xs))
appends_piece a b c f xs i x h e s k = subst (Appends a c) (sym (flat_more f xs i x h e)) (appends_join a b c (flat_map f (take i xs)) (f x) s k)

pub prefix_of_piece : {X : Type 0} (a b c : Option (List ℕ)) (f : X → List ℕ) (xs : List X) (i : ℕ) (x : X) → i < length xs → x ≡ get_or xs i x → Appends a b (flat_map f (take i xs))
    → AppendsPrefix b c (f x) → AppendsPrefix a c (flat_map f xs)
prefix_of_piece a b c f xs i x h e s k =
    subst (AppendsPrefix a c) (sym (flat_parts f xs i x h e))
    (prefix_after a b c (flat_map f (take i xs)) (f x ++ flat_map f (drop (i + 1) xs)) s (prefix_more b c (f x) (flat_map f (drop (i + 1) xs)) k))

-- nothing is written
pub appends_none : (a : Option (List ℕ)) → Appends a a []
appends_none None = tt
appends_none (Some bytes) = sym (append-nil bytes)

-- ---- a text that is written piece by piece, where what is left of it is known

-- what was written is the text but for its end
abbrev pub IsLeftOf : Option (List ℕ) → Option (List ℕ) → List ℕ → List ℕ → Type 0
IsLeftOf old now whole rest = (done : List ℕ) × Appends old now done × (whole ≡ done ++ rest)

pub left_begins : (a : Option (List ℕ)) (whole rest : List ℕ) → whole ≡ rest → IsLeftOf a a whole rest
left_begins a whole rest e = ([], appends_none a, e)

pub left_more : (a b c : Option (List ℕ)) (whole rest x later : List ℕ) → rest ≡ x ++ later → IsLeftOf a b whole rest → Appends b c x
    → IsLeftOf a c whole later
left_more a b c whole rest x later e h k = (
  h.0 ++ x,
  appends_join a b c h.0 x h.1 k,
  h.2 ∙ ap (λ ys. h.0 ++ ys) e ∙ sym (append_assoc h.0 x later),
)

pub left_ends : (a b c : Option (List ℕ)) (whole rest : List ℕ) → IsLeftOf a b whole rest → Appends b c rest → Appends a c whole
left_ends a b c whole rest h k = subst (Appends a c) (sym h.2) (appends_join a b c h.0 rest h.1 k)

pub left_cut : (a b c : Option (List ℕ)) (whole rest : List ℕ) → IsLeftOf a b whole rest → AppendsPrefix b c rest → AppendsPrefix a c whole
left_cut a b c whole rest h k = subst (AppendsPrefix a c) (sym h.2) (prefix_after a b c h.0 rest h.1 k)

pub left_cut_more : (a b c : Option (List ℕ)) (whole rest x later : List ℕ) → rest ≡ x ++ later → IsLeftOf a b whole rest
    → AppendsPrefix b c x → AppendsPrefix a c whole
left_cut_more a b c whole rest x later e h k =
    left_cut a b c whole rest h (subst (AppendsPrefix b c) (sym e) (prefix_more b c x later k))

module _ {K T E : Type 0} (written : K → Option (List ℕ)) (faults : K → ℕ) (old now new : K) where
  pub prints_end : (result : Result T E) (whole x : List ℕ) → IsLeftOf (written old) (written now) whole x → faults now ≡ faults old
      → Prints written faults now new result x → Prints written faults old new result whole
  prints_end (Ok t) whole x left same p = record {
    ok = left_ends (written old) (written now) (written new) whole x left p.ok;
    err = tt;
    stays = p.stays ∙ same;
    rises = tt;
    counted = omega (arith, p.counted, same);
  }
  prints_end (Err e) whole x left same p = record {
    ok = tt;
    err = left_cut (written old) (written now) (written new) whole x left p.err;
    stays = tt;
    rises = p.rises ∙ ap one_more same;
    counted = omega (arith, p.counted, same);
  }
