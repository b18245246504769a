-- When the bytes that were read are the input, and what is left then.
use Rattle.std.proofs.Common.{◌≡◌, ◌≤◌, ◌+◌, ℕ, List, [], ◌++◌, length, take, drop, Option, Some, None, IfSome, Result, Ok, Err, ap, sym, subst, refl, ◌∙◌, append_assoc, length-append, arith}
use Rattle.std.proofs.lemmas.Grind.{common_steps}
use Rattle.std.proofs.lemmas.List.{append-nil}
use Rattle.std.proofs.Math.Seq.{take-append_seam}
use Rattle.std.specs.Io.KnownBytes.{Consumes, IsAtEnd}
use Rattle.std.proofs.lemmas.List.{drop_at, drop_all}
use Rattle.std.specs.Io.KnownBytes.{Keeps}
use Rattle.std.specs.Prelude.{OnErr}
use Rattle.app_ends.specs.Input.{input_of, input_limit, rest_of, ReadsMore, ReadsAtMostMore}
use Rattle.app_ends.specs.Ends.{IsReadInPart}

whole : (n : ℕ) (xs : List ℕ) → length xs ≤ n → take n xs ≡ xs
whole n xs h = grind (arith, common_steps)

seam : (n : ℕ) (xs ys : List ℕ) → length xs ≡ n → take n (xs ++ ys) ≡ xs
seam n xs ys h = ap (λ k. take k (xs ++ ys)) (sym h) ∙ take-append_seam xs ys

pub read_to_the_end : (before after : Option (List ℕ)) (items : List ℕ) → Consumes before after items → IsAtEnd after → length items ≤ input_limit → IfSome before (λ xs. items ≡ input_of xs)
unfolding input_of
read_to_the_end None after items h e b = tt
read_to_the_end (Some xs) None items h e b = absurd h
read_to_the_end (Some xs) (Some ys) items h e b = sym (ap (take input_limit) (h ∙ ap (λ v. items ++ v) e ∙ append-nil items) ∙ whole input_limit items b)

pub read_to_the_limit : (before after : Option (List ℕ)) (items : List ℕ) → Consumes before after items → length items ≡ input_limit → IfSome before (λ xs. items ≡ input_of xs)
unfolding input_of
read_to_the_limit None after items h b = tt
read_to_the_limit (Some xs) None items h b = absurd h
read_to_the_limit (Some xs) (Some ys) items h b = sym (ap (take input_limit) h ∙ seam input_limit items ys b)

pub consumes_join : (a b c : Option (List ℕ)) (xs ys : List ℕ) → Consumes a b xs → Consumes b c ys → Consumes a c (xs ++ ys)
consumes_join None b c xs ys h k = tt
consumes_join (Some x) None c xs ys h k = absurd h
consumes_join (Some x) (Some y) None xs ys h k = absurd k
consumes_join (Some x) (Some y) (Some z) xs ys h k = h ∙ ap (λ v. xs ++ v) k ∙ sym (append_assoc xs ys z)

pub joins_more : (a b c : Option (List ℕ)) (old new : List ℕ) (n : ℕ) → Consumes a b old → ReadsMore b c old new n → Consumes a c new
joins_more a b c old new n h m = subst (λ v. Consumes a c v) (sym m.appended) (consumes_join a b c old m.moved h m.consumed)

pub grows : (b c : Option (List ℕ)) (old new : List ℕ) (n : ℕ) → ReadsMore b c old new n → length new ≡ length old + n
grows b c old new n m = ap length m.appended ∙ length-append old m.moved ∙ ap (λ k. length old + k) m.count

-- what is left where all was read, or as much as makes an input
pub left_at_end : (before after : Option (List ℕ)) (items : List ℕ) → Consumes before after items → IsAtEnd after → length items ≤ input_limit → IfSome before (λ xs. after ≡ Some (rest_of xs))
unfolding rest_of
left_at_end None after items h e b = tt
left_at_end (Some xs) None items h e b = absurd h
left_at_end (Some xs) (Some ys) items h e b =
    let all : xs ≡ items = h ∙ ap (λ v. items ++ v) e ∙ append-nil items in
    ap Some (e ∙ sym (ap (drop input_limit) all ∙ drop_all input_limit items b))

pub left_at_limit : (before after : Option (List ℕ)) (items : List ℕ) → Consumes before after items → length items ≡ input_limit → IfSome before (λ xs. after ≡ Some (rest_of xs))
unfolding rest_of
left_at_limit None after items h b = tt
left_at_limit (Some xs) None items h b = absurd h
left_at_limit (Some xs) (Some ys) items h b = ap Some (sym (ap (drop input_limit) h ∙ drop_at items ys input_limit b))

-- nothing moved
pub kept_consumes : (a b : Option (List ℕ)) → Keeps a b → Consumes a b []
kept_consumes None b h = tt
kept_consumes (Some x) None h = absurd h
kept_consumes (Some x) (Some y) h = sym h

-- what is left where reading ended before the input was whole
pub left_in_part : (a b c : Option (List ℕ)) (old : List ℕ) → Consumes a b old → ReadsAtMostMore b c old → IfSome a (λ xs. IsReadInPart xs c)
left_in_part None b c old h m = tt
left_in_part (Some xs) None c old h m = absurd h
left_in_part (Some xs) (Some ys) None old h m = absurd m.consumed
left_in_part (Some xs) (Some ys) (Some zs) old h m =
    let n = length (old ++ m.moved) in
    let long : n ≡ length old + length m.moved = length-append old m.moved in
    let all : xs ≡ (old ++ m.moved) ++ zs = h ∙ ap (λ v. old ++ v) m.consumed ∙ sym (append_assoc old m.moved zs) in
    (n, omega (arith, long, m.few), ap Some (sym (ap (drop n) all ∙ drop_at (old ++ m.moved) zs n refl)))

-- what holds anyway holds on an error
pub on_err : {T E : Type 0} (r : Result T E) (P : Type 0) → P → OnErr r P
on_err (Ok x) P p = tt
on_err (Err e) P p = p
