-- Writing one piece after another, when a write may fail.
use Rattle.std.proofs.Common.{◌≡◌, ℕ, ◌+◌, ◌≤◌, List, [], ◌∷◌, ◌++◌, length, take, drop, Option, Some, None, arith, refl, ap, sym, ◌∙◌, subst, inl, inr}
use Rattle.std.specs.Io.KnownBytes.{Appends}
use Rattle.std.proofs.lemmas.Bool.{cases_lt}
use Rattle.std.proofs.lemmas.List.{take-append-le, take-append-drop, take_all, append-nil}
use Rattle.std.proofs.Math.Seq.{take-add, take-append-add, take-append_seam}
use Rattle.usb_base.specs.Outside.{AppendsPrefix, Rose}
use Rattle.usb_base.proofs.Known.{appends_join}
use Rattle.hex.specs.Hex.{encode_with, encode_lower, lower_digits}

-- a front part of the first piece is one of both
pub prefix_of_first : (a b : Option (List ℕ)) (xs ys : List ℕ) → AppendsPrefix a b xs → AppendsPrefix a b (xs ++ ys)
prefix_of_first a b xs ys (n, h) = elim (cases_lt (length xs) n) [
  | inl l ↦ (length xs, rw (take-append_seam xs ys) (rw (take_all n xs (omega arith)) at h))
  | inr g ↦ (n, rw (take-append-le n xs ys g) h)
]

-- the first piece and a front part of the second are a front part of both
pub prefix_of_second : (a b c : Option (List ℕ)) (xs ys : List ℕ) → Appends a b xs → AppendsPrefix b c ys → AppendsPrefix a c (xs ++ ys)
prefix_of_second a b c xs ys h (n, k) = (length xs + n, rw (take-append-add xs ys n) (appends_join a b c xs (take n ys) h k))

-- nothing is a front part
pub appends_nothing : (a b : Option (List ℕ)) (xs : List ℕ) → Appends a b [] → AppendsPrefix a b xs
appends_nothing a b xs h = (0, h)

-- what rose in the second call rose in both
pub rose_later : (before between after : ℕ) → before ≤ between → Rose between after → Rose before after
rose_later before between after h (inl l) = inl (omega arith)
rose_later before between after h (inr l) = inr l

-- what rose in the first call rose in both
pub rose_earlier : (before between after : ℕ) → Rose before between → between ≤ after → Rose before after
rose_earlier before between after (inl l) h = inl (omega arith)
rose_earlier before between after (inr l) h = inr (omega arith)

-- digits of joined bytes
encode-append : (t xs ys : List ℕ) → encode_with t (xs ++ ys) ≡ encode_with t xs ++ encode_with t ys
unfolding encode_with
encode-append t [] ys = refl
encode-append t (x ∷ xs) ys = rw (encode-append t xs ys) refl

-- digits of the bytes up to a place and of some more
pub encode_more : (i n : ℕ) (xs : List ℕ) → encode_lower (take (i + n) xs) ≡ encode_lower (take i xs) ++ encode_lower (take n (drop i xs))
encode_more i n xs = ap encode_lower (take-add i n xs) ∙ encode-append lower_digits (take i xs) (take n (drop i xs))

pub encode_rest : (i : ℕ) (xs : List ℕ) → encode_lower xs ≡ encode_lower (take i xs) ++ encode_lower (drop i xs)
encode_rest i xs = ap encode_lower (sym (take-append-drop i xs)) ∙ encode-append lower_digits (take i xs) (drop i xs)

-- no digits
pub no_digits : (a : Option (List ℕ)) → Appends a a (encode_lower [])
unfolding encode_with
no_digits None = tt
no_digits (Some xs) = sym (append-nil xs)

-- the digits of the bytes up to a place, and a front part of those of some more
pub digits_failed : (a b c : Option (List ℕ)) (i n : ℕ) (xs ds : List ℕ) → Appends a b (encode_lower (take i xs)) → ds ≡ encode_lower (take n (drop i xs)) → AppendsPrefix b c ds → AppendsPrefix a c (encode_lower xs)
digits_failed a b c i n xs ds h e k =
    let more : AppendsPrefix b c (encode_lower (drop i xs)) = subst (AppendsPrefix b c) (sym (encode_rest n (drop i xs))) (prefix_of_first b c _ (encode_lower (drop n (drop i xs))) (subst (AppendsPrefix b c) e k)) in
    subst (AppendsPrefix a c) (sym (encode_rest i xs)) (prefix_of_second a b c _ _ h more)

-- the digits of the bytes up to a place, and those of some more
pub digits_more : (a b c : Option (List ℕ)) (i n : ℕ) (xs ds : List ℕ) → Appends a b (encode_lower (take i xs)) → ds ≡ encode_lower (take n (drop i xs)) → Appends b c ds → Appends a c (encode_lower (take (i + n) xs))
digits_more a b c i n xs ds h e k = subst (Appends a c) (sym (encode_more i n xs)) (appends_join a b c _ _ h (subst (Appends b c) e k))
