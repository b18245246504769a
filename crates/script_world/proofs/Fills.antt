-- Bytes of a seed, and packets, one more at a time.
use Rattle.std.proofs.Common.{◌≡◌, ℕ, ◌<◌, ◌+◌, ◌-◌, suc, List, [], ◌∷◌, ◌++◌, append_assoc, length, take, drop, min, replicate, arith, ap, sym, ◌∙◌, inl, inr}
use Rattle.std.proofs.lemmas.Bool.{cases_lt}
use Rattle.std.proofs.lemmas.List.{take_all, drop_all}
use Rattle.std.specs.List.{range_with_len}
use Rattle.std.specs.Simd.{first_chunks}

pub range_more : (i n : ℕ) → i < n → range_with_len i (n - i) ≡ i ∷ range_with_len (i + 1) (n - (i + 1))
range_more i n h = let e : n - i ≡ suc (n - (i + 1)) = omega arith in ap (range_with_len i) e

pub chunks_more : (max k n : ℕ) (xs : List ℕ) → k < n → first_chunks max (n - k) xs ≡ take max xs ∷ first_chunks max (n - (k + 1)) (drop max xs)
chunks_more max k n xs h = let e : n - k ≡ suc (n - (k + 1)) = omega arith in ap (λ m. first_chunks max m xs) e

pub replicate_more : {X : Type 0} (x : X) (i n : ℕ) → i < n → replicate (n - i) x ≡ x ∷ replicate (n - (i + 1)) x
replicate_more x i n h = let e : n - i ≡ suc (n - (i + 1)) = omega arith in ap (λ m. replicate m x) e

-- one thing more at the end is one thing less in front of the rest
pub put_one : {X : Type 0} (xs ys rest more all : List X) (x : X) → ys ≡ xs ++ x ∷ [] → rest ≡ x ∷ more → xs ++ rest ≡ all → ys ++ more ≡ all
put_one xs ys rest more all x p r e = ap (λ zs. zs ++ more) p ∙ append_assoc xs (x ∷ []) more ∙ ap (λ zs. xs ++ zs) (sym r) ∙ e

pub take_min : (m : ℕ) (xs : List ℕ) → take (min m (length xs)) xs ≡ take m xs
take_min m xs = elim (cases_lt (length xs) m) [
  | inl h ↦ let e : min m (length xs) ≡ length xs = omega arith in ap (λ n. take n xs) e ∙ take_all (length xs) xs (omega arith) ∙ sym (take_all m xs (omega arith))
  | inr h ↦ let e : min m (length xs) ≡ m = omega arith in ap (λ n. take n xs) e
]

pub drop_min : (m : ℕ) (xs : List ℕ) → drop (min m (length xs)) xs ≡ drop m xs
drop_min m xs = elim (cases_lt (length xs) m) [
  | inl h ↦ let e : min m (length xs) ≡ length xs = omega arith in ap (λ n. drop n xs) e ∙ drop_all (length xs) xs (omega arith) ∙ sym (drop_all m xs (omega arith))
  | inr h ↦ let e : min m (length xs) ≡ m = omega arith in ap (λ n. drop n xs) e
]

-- the next piece, and what is behind it
pub next_piece : (max k n cut : ℕ) (xs piece behind : List ℕ) → k < n → cut ≡ min max (length xs) → piece ≡ take cut xs → behind ≡ drop cut xs → first_chunks max (n - k) xs ≡ piece ∷ first_chunks max (n - (k + 1)) behind
next_piece max k n cut xs piece behind h c p b =
    let front : take max xs ≡ piece = sym (take_min max xs) ∙ ap (λ m. take m xs) (sym c) ∙ sym p in
    let back : drop max xs ≡ behind = sym (drop_min max xs) ∙ ap (λ m. drop m xs) (sym c) ∙ sym b in
    chunks_more max k n xs h ∙ ap (λ x. x ∷ first_chunks max (n - (k + 1)) (drop max xs)) front ∙ ap (λ ys. piece ∷ first_chunks max (n - (k + 1)) ys) back
