-- Pieces that pass through a page one after the other, and what a failure on the way leaves.
use Rattle.std.proofs.Common.{◌≡◌, ℕ, ◌+◌, ◌≤◌, ◌<◌, min, List, [], ◌++◌, length, take, drop, get_or, take-append-drop, Option, sym, ap, ◌∙◌, append_assoc, append-nil, subst, Result, Ok, Err, arith}
use Rattle.std.specs.Prelude.{OnOk}
use Rattle.std.specs.List.{flat_map}
use Rattle.std.proofs.lemmas.Grind.{flat_map-append}
use Rattle.std.proofs.lemmas.List.{take-append-le, take_min, take_more, drop_more, flat_map_more}
use Rattle.std.proofs.Math.Seq.{take-append-add}
use Rattle.std.proofs.KnownBytes.{Appends-trans, Appends-nil}
use Rattle.std.specs.Io.KnownBytes.{Appends}
use Rattle.usb_base.specs.Outside.{AppendsPrefix}
use Rattle.image_codec.specs.Printing.{Passes}

-- nothing passed
pub passes_none : (a : Option (List ℕ)) (held : List ℕ) → Passes a a held held []
passes_none a held = record { out = []; written = Appends-nil a; split = sym (append-nil held) }

-- a piece passed, and then another one
pub passes_join : (a b c : Option (List ℕ)) (p q r xs ys : List ℕ) → Passes a b p q xs → Passes b c q r ys → Passes a c p r (xs ++ ys)
passes_join a b c p q r xs ys first second = record {
  out = first.out ++ second.out;
  written = Appends-trans a b c first.out second.out first.written second.written;
  split = append_assoc first.out second.out r ∙ ap (λ (t : List ℕ). first.out ++ t) second.split ∙ sym (append_assoc first.out q ys)
      ∙ ap (λ (t : List ℕ). t ++ ys) first.split ∙ append_assoc p xs ys;
}

-- a front part of the bytes is one of more bytes
pub prefix_more : (a b : Option (List ℕ)) (xs ys : List ℕ) → AppendsPrefix a b xs → AppendsPrefix a b (xs ++ ys)
prefix_more a b xs ys h =
    let m = min h.0 (length xs) in
    let least : m ≤ length xs = omega arith in
    let same : take m (xs ++ ys) ≡ take h.0 xs = take-append-le m xs ys least ∙ take_min h.0 xs in
    (m, subst (Appends a b) (sym same) h.1)

-- a piece passed, and a front part of what followed it
pub prefix_after : (a b c : Option (List ℕ)) (p q xs ys : List ℕ) → Passes a b p q xs → AppendsPrefix b c (q ++ ys) → AppendsPrefix a c (p ++ (xs ++ ys))
prefix_after a b c p q xs ys first h =
    let whole : first.out ++ (q ++ ys) ≡ p ++ (xs ++ ys) =
    sym (append_assoc first.out q ys) ∙ ap (λ (t : List ℕ). t ++ ys) first.split ∙ append_assoc p xs ys in
    let front : first.out ++ take h.0 (q ++ ys) ≡ take (length first.out + h.0) (p ++ (xs ++ ys)) =
    sym (take-append-add first.out (q ++ ys) h.0) ∙ ap (take (length first.out + h.0)) whole in
    (length first.out + h.0, subst (Appends a c) front (Appends-trans a b c first.out _ first.written h.1))

-- the same, where the piece and what follows it are a part of all
pub prefix_within : (a b c : Option (List ℕ)) (p q xs ys zs all : List ℕ) → Passes a b p q xs → AppendsPrefix b c (q ++ ys) → xs ++ (ys ++ zs) ≡ all
    → AppendsPrefix a c (p ++ all)
prefix_within a b c p q xs ys zs all first h e =
    let longer = prefix_more a c (p ++ (xs ++ ys)) zs (prefix_after a b c p q xs ys first h) in
    let same : (p ++ (xs ++ ys)) ++ zs ≡ p ++ all = append_assoc p (xs ++ ys) zs ∙ ap (λ (t : List ℕ). p ++ t) (append_assoc xs ys zs ∙ e) in
    subst (AppendsPrefix a c) same longer

-- a piece passed, and then another one, which are all together
pub passes_all : (a b c : Option (List ℕ)) (p q r xs ys all : List ℕ) → Passes a b p q xs → Passes b c q r ys → xs ++ ys ≡ all → Passes a c p r all
passes_all a b c p q r xs ys all first second e = subst (Passes a c p r) e (passes_join a b c p q r xs ys first second)

-- what passed from an empty page, once the page is written
pub appends_flushed : (a b c : Option (List ℕ)) (q xs : List ℕ) → Passes a b [] q xs → Appends b c q → Appends a c xs
appends_flushed a b c q xs first h = subst (Appends a c) first.split (Appends-trans a b c first.out q first.written h)

-- what passed from an empty page, where the page isn't written whole
pub prefix_flushed : (a b c : Option (List ℕ)) (q xs : List ℕ) → Passes a b [] q xs → AppendsPrefix b c q → AppendsPrefix a c xs
prefix_flushed a b c q xs first h =
    let plain : xs ++ [] ≡ xs = append-nil xs in
    subst (AppendsPrefix a c) plain (prefix_after a b c [] q xs [] first (subst (AppendsPrefix b c) (sym (append-nil q)) h))

-- the texts of a list are those of its front, that of a place, and those of what follows it
pub flat_map-at : {X : Type 0} (f : X → List ℕ) (xs : List X) (i : ℕ) (d : X) → i < length xs
    → flat_map f (take i xs) ++ (f (get_or xs i d) ++ flat_map f (drop (i + 1) xs)) ≡ flat_map f xs
flat_map-at f xs i d h =
    let rest : flat_map f (drop i xs) ≡ f (get_or xs i d) ++ flat_map f (drop (i + 1) xs) = ap (flat_map f) (drop_more xs i d h) in
    ap (λ (t : List ℕ). flat_map f (take i xs) ++ t) (sym rest) ∙ sym (flat_map-append f (take i xs) (drop i xs)) ∙ ap (flat_map f) (take-append-drop i xs)

-- the texts of the front of a list, one place on
pub flat_map-more : {X : Type 0} (f : X → List ℕ) (xs : List X) (i : ℕ) (d : X) → i < length xs
    → flat_map f (take i xs) ++ f (get_or xs i d) ≡ flat_map f (take (i + 1) xs)
flat_map-more f xs i d h = flat_map_more f [] (take i xs) (get_or xs i d) ∙ ap (flat_map f) (sym (take_more xs i d h))

-- the same piece, written otherwise
pub passes_same : (a b : Option (List ℕ)) (p q xs ys : List ℕ) → xs ≡ ys → Passes a b p q xs → Passes a b p q ys
passes_same a b p q xs ys e h = subst (λ (t : List ℕ). Passes a b p q t) e h

pub prefix_same : (a b : Option (List ℕ)) (p xs ys : List ℕ) → xs ≡ ys → AppendsPrefix a b (p ++ xs) → AppendsPrefix a b (p ++ ys)
prefix_same a b p xs ys e h = subst (λ (t : List ℕ). AppendsPrefix a b (p ++ t)) e h

-- what holds anyway holds on a success
pub on_ok : {T E : Type 0} (r : Result T E) (P : Type 0) → P → OnOk r P
on_ok (Ok x) P p = p
on_ok (Err e) P p = tt

-- from an empty page
pub passes_from_empty : (a b : Option (List ℕ)) (p q xs : List ℕ) → p ≡ [] → Passes a b p q xs → Passes a b [] q xs
passes_from_empty a b p q xs e h = subst (λ (t : List ℕ). Passes a b t q xs) e h

pub prefix_from_empty : (a b : Option (List ℕ)) (p xs : List ℕ) → p ≡ [] → AppendsPrefix a b (p ++ xs) → AppendsPrefix a b xs
prefix_from_empty a b p xs e h = subst (λ (t : List ℕ). AppendsPrefix a b (t ++ xs)) e h

pub prefix_all : (a b : Option (List ℕ)) (p xs ys all : List ℕ) → xs ++ ys ≡ all → AppendsPrefix a b (p ++ xs) → AppendsPrefix a b (p ++ all)
prefix_all a b p xs ys all e h =
    subst (AppendsPrefix a b) (append_assoc p xs ys ∙ ap (λ (t : List ℕ). p ++ t) e) (prefix_more a b (p ++ xs) ys h)
