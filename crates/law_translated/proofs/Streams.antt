-- Packets of a stream by their number, and steps of counts.
use Rattle.std.proofs.Common.{◌≡◌, ℕ, suc, ◌+◌, ◌<◌, Bool, true, false, not, List, [], ◌∷◌, ◌++◌, length, take, drop, get_or, slice_get, Some, ap, sym, ◌∙◌, subst, arith, length-drop, drop-cons, add-one}
use Rattle.std.proofs.lemmas.Grind.{common_steps}
use Rattle.std.proofs.lemmas.Option.{slice_get-get_or}
use Rattle.std.specs.List.{concat}
use Rattle.law_pipe.specs.Pipe.{toggle_after, alike}
use Rattle.claims_base.specs.Prefix.{IsPrefix}
use Rattle.law_pipe.proofs.Agreement.{first_packets_begin, take_next, toggle_turns, alike_of, unlike_of}

-- a packet that is left is there
within : {A : Type 0} (xs : List A) (n : ℕ) (x : A) (rest : List A) → x ∷ rest ≡ drop n xs → n < length xs
within xs n x rest h = let e : length (x ∷ rest) ≡ length (drop n xs) = ap length h in omega (arith, e, length-drop n xs)

-- the first packet that is left is the next one
pub head_is_next : {A : Type 0} (xs : List A) (n : ℕ) (x : A) (rest : List A) → x ∷ rest ≡ drop n xs → slice_get xs n ≡ Some x
head_is_next xs n x rest h =
    let e : x ∷ rest ≡ get_or xs n x ∷ drop (suc n) xs = h ∙ drop-cons xs n x (within xs n x rest h) in
    let f : x ≡ get_or xs n x = cc in
    slice_get-get_or xs n x (within xs n x rest h) ∙ ap Some (sym f)

-- and the others are left after it
pub rest_is_left : {A : Type 0} (xs : List A) (n : ℕ) (x : A) (rest : List A) → x ∷ rest ≡ drop n xs → rest ≡ drop (n + 1) xs
rest_is_left xs n x rest h =
    let e : x ∷ rest ≡ get_or xs n x ∷ drop (suc n) xs = h ∙ drop-cons xs n x (within xs n x rest h) in
    let f : rest ≡ drop (suc n) xs = cc in
    rw add-one f

pub one_more_known : {A : Type 0} (left : List A) (x : A) (rest : List A) (known all : ℕ) → left ≡ x ∷ rest → known + length left ≡ all
    → known + 1 + length rest ≡ all
one_more_known left x rest known all l h = let e : length left ≡ length (x ∷ rest) = ap length l in omega (arith, e, h)

pub longer : {A : Type 0} (xs : List A) (x : A) → length (xs ++ x ∷ []) ≡ length xs + 1
longer xs x = grind (arith, common_steps)

-- one more packet, in order
pub next_in_order : {A : Type 0} (packets xs : List A) (x : A) → slice_get packets (length xs) ≡ Some x → xs ≡ take (length xs) packets
    → xs ++ x ∷ [] ≡ take (length (xs ++ x ∷ [])) packets
next_in_order packets xs x h o =
    ap (λ v. v ++ x ∷ []) o ∙ sym (take_next packets (length xs) x h) ∙ ap (λ k. take k packets) (sym (longer xs x))

-- the receiver's toggle after one more
pub parity_turns : {A : Type 0} (xs : List A) (x : A) (b : Bool) → b ≡ toggle_after (length xs)
    → not b ≡ toggle_after (length (xs ++ x ∷ []))
parity_turns xs x b e = ap not e ∙ sym (toggle_turns (length xs)) ∙ ap toggle_after (sym (longer xs x))

-- toggles of one number are alike, those of neighbours aren't
pub same_alike : (a b : Bool) (n : ℕ) → a ≡ toggle_after n → b ≡ toggle_after n → alike a b ≡ true
same_alike a b n e f = alike_of a b (e ∙ sym f)

pub next_unlike : (a b : Bool) (n : ℕ) → a ≡ toggle_after n → b ≡ toggle_after (n + 1) → alike a b ≡ false
next_unlike a b n e f = unlike_of a b (f ∙ toggle_turns n ∙ ap not (sym e))

pub never_both : {P : Type 0} (b : Bool) → b ≡ true → b ≡ false → P
never_both b h k = absurd (let v : true ≡ false = sym h ∙ k in cc)

-- the bytes of packets in order begin the stream
pub begins : (packets xs : List (List ℕ)) → xs ≡ take (length xs) packets → IsPrefix (concat xs) (concat packets)
begins packets xs o = subst (λ v. IsPrefix (concat v) (concat packets)) (sym o) (first_packets_begin packets (length xs))
