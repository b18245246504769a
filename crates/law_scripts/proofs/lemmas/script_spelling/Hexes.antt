-- Bytes and the words that spell them.
use Rattle.std.proofs.Common.{◌≡◌, ℕ, ◌+◌, ◌*◌, ◌/◌, ◌%◌, ◌<◌, ◌≤◌, suc, zero, Bool, true, ◌==◌, ◌&&◌, nat_lt, nat_le, List, [], ◌∷◌, length, Option, Some, None, unwrap_or, slice_index, arith, refl, ap, sym, ◌∙◌, subst, inl, inr}
use Rattle.std.specs.Option.{option_map_or}
use Rattle.std.proofs.lemmas.Bool.{cases_Bool, cases_lt, cases_eq, and_parts, and_right, eqb-true, ltb-true, lt-leb}
use Rattle.hex.specs.Hex.{encode_with, encode_lower, lower_digits}
use Rattle.script_forms.specs.Syntax.{nibble, byte_of, onto, pairs, hex_of, hex_word}
use Rattle.law_scripts.specs.script_spelling.Spelling.{AreBytes}

abbrev digit : ℕ → ℕ
digit d = slice_index lower_digits d

-- a test of all numbers below n
abbrev all_below : (ℕ → Bool) → ℕ → Bool
all_below p zero = true
all_below p (suc n) = p n && all_below p n

below_at : (p : ℕ → Bool) (n d : ℕ) → all_below p n ≡ true → d < n → p d ≡ true
below_at p zero d e h = absurd (omega arith)
below_at p (suc n) d e h = let q = and_parts (p n) (all_below p n) e in elim (cases_eq d n) [
  | inl s ↦ ap p s ∙ q.0
  | inr o ↦ below_at p n d q.1 (omega arith)
]

abbrev reads_back : ℕ → Bool
reads_back d = unwrap_or (nibble (digit d)) 99 == d

some_back : (o : Option ℕ) (d : ℕ) → d < 16 → unwrap_or o 99 ≡ d → o ≡ Some d
some_back None d h e = absurd (omega arith)
some_back (Some c) d h e = ap Some e

digit_reads : (d : ℕ) → d < 16 → nibble (digit d) ≡ Some d
digit_reads d h = some_back (nibble (digit d)) d h (eqb-true (unwrap_or (nibble (digit d)) 99) d (below_at reads_back 16 d refl h))

abbrev is_digit_of : ℕ → Bool
is_digit_of c = option_map_or (λ h. nat_lt h 16 && digit h == c) (nibble c) true

no_nibble : (c : ℕ) → 103 ≤ c → nibble c ≡ None
no_nibble c h = rw (and_right (nat_le 97 c) (nat_le c 102) (lt-leb c 102 (omega arith)), and_right (nat_le 48 c) (nat_le c 57) (lt-leb c 57 (omega arith))) refl

digit_is : (c h : ℕ) (o : Option ℕ) → o ≡ Some h → option_map_or (λ h. nat_lt h 16 && digit h == c) o true ≡ true → (h < 16) × (c ≡ digit h)
digit_is c h None e t = cc
digit_is c h (Some g) e t = let s : g ≡ h = cc in let p = and_parts (nat_lt g 16) (digit g == c) t in
    subst (λ k. (k < 16) × (c ≡ digit k)) s (ltb-true g 16 p.0, sym (eqb-true _ _ p.1))

nibble_digit : (c h : ℕ) → nibble c ≡ Some h → (h < 16) × (c ≡ digit h)
nibble_digit c h e = elim (cases_lt c 103) [
  | inl l ↦ digit_is c h (nibble c) e (below_at is_digit_of 103 c refl l)
  | inr g ↦ let n : None ≡ Some h = sym (no_nibble c g) ∙ e in cc
]

pub record Onto (o : Option ℕ) (p : Option (List ℕ)) (bs : List ℕ) : Type 0 where
  pub first : ℕ
  pub more : List ℕ
  pub byte : o ≡ Some first
  pub rest : p ≡ Some more
  pub all : bs ≡ first ∷ more

onto_parts : (o : Option ℕ) (p : Option (List ℕ)) (bs : List ℕ) → onto o p ≡ Some bs → Onto o p bs
onto_parts None p bs e = cc
onto_parts (Some b) None bs e = cc
onto_parts (Some b) (Some more) bs e = record { first = b; more = more; byte = refl; rest = refl; all = cc }

pub record Byte (h l : Option ℕ) (b : ℕ) : Type 0 where
  pub high : ℕ
  pub low : ℕ
  pub is_high : h ≡ Some high
  pub is_low : l ≡ Some low
  pub value : b ≡ high * 16 + low

byte_parts : (h l : Option ℕ) (b : ℕ) → byte_of h l ≡ Some b → Byte h l b
byte_parts None l b e = cc
byte_parts (Some high) None b e = cc
byte_parts (Some high) (Some low) b e = record { high = high; low = low; is_high = refl; is_low = refl; value = cc }

-- a byte more in front
encode_one : (x : ℕ) (xs : List ℕ) → encode_lower (x ∷ xs) ≡ digit (x / 16) ∷ digit (x % 16) ∷ encode_lower xs
unfolding encode_with
encode_one x xs = refl

pub pairs_spell : (w bs : List ℕ) → pairs w ≡ Some bs → AreBytes bs × (w ≡ encode_lower bs)
unfolding encode_with
pairs_spell [] bs e = let s : [] ≡ bs = cc in subst (λ ys. AreBytes ys × ([] ≡ encode_lower ys)) s (tt, refl)
pairs_spell (a ∷ []) bs e = cc
pairs_spell (a ∷ b ∷ rest) bs e =
    let o = onto_parts (byte_of (nibble a) (nibble b)) (pairs rest) bs e in
    let y = byte_parts (nibble a) (nibble b) o.first o.byte in
    let h = nibble_digit a y.high y.is_high in
    let l = nibble_digit b y.low y.is_low in
    let r = pairs_spell rest o.more o.rest in
    let small : o.first < 256 = omega (arith, y.value, h.0, l.0) in
    let upper : y.high ≡ o.first / 16 = omega (arith, y.value, h.0, l.0) in
    let lower : y.low ≡ o.first % 16 = omega (arith, y.value, h.0, l.0) in
    let first : a ≡ digit (o.first / 16) = h.1 ∙ ap digit upper in
    let second : b ≡ digit (o.first % 16) = l.1 ∙ ap digit lower in
    let word : a ∷ b ∷ rest ≡ encode_lower (o.first ∷ o.more) =
    ap (λ c. c ∷ b ∷ rest) first ∙ ap (λ c. digit (o.first / 16) ∷ c ∷ rest) second ∙ ap (λ r. digit (o.first / 16) ∷ digit (o.first % 16) ∷ r) r.1 ∙ sym (encode_one o.first o.more) in
    subst (λ ys. AreBytes ys × (a ∷ b ∷ rest ≡ encode_lower ys)) (sym o.all) ((small, r.0), word)

pub pairs_read : (bs : List ℕ) → AreBytes bs → pairs (encode_lower bs) ≡ Some bs
unfolding encode_with
pairs_read [] h = refl
pairs_read (x ∷ xs) h =
    let high : x / 16 < 16 = omega (arith, h.0) in
    let low : x % 16 < 16 = omega arith in
    let value : x / 16 * 16 + x % 16 ≡ x = omega arith in
    ap pairs (encode_one x xs)
    ∙ ap (λ o. onto (byte_of o (nibble (digit (x % 16)))) (pairs (encode_lower xs))) (digit_reads (x / 16) high)
    ∙ ap (λ o. onto (byte_of (Some (x / 16)) o) (pairs (encode_lower xs))) (digit_reads (x % 16) low)
    ∙ ap (λ p. onto (Some (x / 16 * 16 + x % 16)) p) (pairs_read xs h.1)
    ∙ ap (λ y. Some (y ∷ xs)) value

some_hex : (bs : List ℕ) (w : List ℕ) (o : Option ℕ) (p : Option (List ℕ)) → onto o p ≡ Some bs → w ≡ encode_lower bs → w ≡ hex_word bs
some_hex [] w o p e h = let r = onto_parts o p [] e in let bad : [] ≡ r.first ∷ r.more = r.all in cc
some_hex (b ∷ bs) w o p e h = h

dash : (c : ℕ) (bs : List ℕ) → hex_of (c ∷ []) ≡ Some bs → AreBytes bs × (c ∷ [] ≡ hex_word bs)
unfolding hex_of
dash c bs e = elim (cases_Bool (c == 45)) [
  | inl t ↦ let k = rw t at e in let s : [] ≡ bs = cc in let d : c ≡ 45 = eqb-true c 45 t in
      subst (λ ys. AreBytes ys × (c ∷ [] ≡ hex_word ys)) s (tt, ap (λ x. x ∷ []) d)
  | inr f ↦ let k = rw f at e in cc
]

-- what is read as bytes is spelled by them
pub hex_spells : (w bs : List ℕ) → hex_of w ≡ Some bs → AreBytes bs × (w ≡ hex_word bs)
unfolding hex_of
hex_spells [] bs e = cc
hex_spells (c ∷ []) bs e = dash c bs e
hex_spells (a ∷ b ∷ rest) bs e = let r = pairs_spell (a ∷ b ∷ rest) bs e in (r.0, some_hex bs (a ∷ b ∷ rest) (byte_of (nibble a) (nibble b)) (pairs rest) e r.1)

-- what bytes spell is read as them
pub hex_reads : (bs : List ℕ) → AreBytes bs → hex_of (hex_word bs) ≡ Some bs
unfolding hex_of encode_with
hex_reads [] h = refl
hex_reads (x ∷ xs) h = pairs_read (x ∷ xs) h

encode_length : (bs : List ℕ) → length (encode_lower bs) ≡ length bs + length bs
unfolding encode_with
encode_length [] = refl
encode_length (x ∷ xs) = omega (arith, encode_length xs, ap length (encode_one x xs))

not_sixteen : (n : ℕ) → n ≡ 1 → n ≡ 16 → ⊥
not_sixteen n h k = omega arith

-- sixteen digits are eight bytes
pub eight_bytes : (bs : List ℕ) → length (hex_word bs) ≡ 16 → length bs ≡ 8
eight_bytes [] h = absurd (not_sixteen (length (hex_word [])) refl h)
eight_bytes (x ∷ xs) h = omega (arith, encode_length (x ∷ xs))

pub sixteen_digits : (bs : List ℕ) → length bs ≡ 8 → length (hex_word bs) ≡ 16
sixteen_digits [] h = absurd (omega arith)
sixteen_digits (x ∷ xs) h = omega (arith, encode_length (x ∷ xs))
