-- Decimal words and their numbers.
use Rattle.std.proofs.Common.{◌≡◌, ℕ, ◌<◌, ◌^◌, ◌⊎◌, List, length, get_or, arith, Ok, Err, Some, None, Bool, true, false, ◌&&◌, refl, sym, ◌∙◌, ap, subst, inl, inr, lit<}
use Rattle.std.specs.Fmt.{decimal}
use Rattle.std.specs.Str.{IsUtf8}
use Rattle.std.specs.Str.Parse.{AllDigits, digits_value, ParsesUnsigned}
use Rattle.std.specs.Str.{bytes_eq}
use Rattle.std.specs.Bool.{nat_lt, if◌then◌else◌}
use Rattle.std.proofs.lemmas.Bool.{lt-ltb, ltb-true, and_parts, cases_Bool}
use Rattle.std.proofs.lemmas.Slice.Eq.{bytes_eq-Decides}
use Rattle.script_forms.specs.Syntax.{number_of}
use Rattle.std.proofs.Math.Nat.{eq-zero-or-pos, eq-or-lt_of_le}
use Rattle.std.proofs.lemmas.Str.{IsUtf8-from_ascii}
use Rattle.std.proofs.lemmas.Str.Parse.{IsNumeralModel, numerals_by_value, tells_digits, digit_at, parse_plain}
use Rattle.std.proofs.lemmas.Fmt.{IsAscii-decimal, decimal_digit, digits_decimal, decimal_nonempty, first_decimal, parse-decimal, decimal-digits_value, decimal_injective, digits_value-decimal}

own : IsNumeralModel (AllDigits 10) (digits_value 10)
own = numerals_by_value _ tells_digits

-- a decimal word is text
pub decimal_is_utf8 : (w : List ℕ) (n : ℕ) → n < 4294967296 → w ≡ decimal n → IsUtf8 w
decimal_is_utf8 w n h e = subst IsUtf8 (sym e) (IsUtf8-from_ascii (decimal n) (IsAscii-decimal n (omega arith)))

-- it begins with no plus, and with a zero only where that is all
begins_well : (n : ℕ) → n < 2 ^ 64 → (get_or (decimal n) 0 0 ≡ 43) ⊎ ((get_or (decimal n) 0 0 ≡ 48) × (1 < length (decimal n))) → ⊥
begins_well n h (inl e) = let d = digit_at (decimal n) 0 (digits_decimal own n h) (decimal_nonempty n h) in omega (arith, d.0)
begins_well n h (inr z) = elim (eq-zero-or-pos n) [
  | inl e ↦ let one : length (decimal n) ≡ 1 = ap (λ k. length (decimal k)) e ∙ ap length (decimal_digit 0 (lit< tt)) in omega (arith, z.1)
  | inr p ↦ omega (arith, z.0, first_decimal n p h)
]

pub decimal_begins : (w : List ℕ) (n : ℕ) → n < 4294967296 → w ≡ decimal n → (get_or w 0 0 ≡ 43) ⊎ ((get_or w 0 0 ≡ 48) × (1 < length w)) → ⊥
decimal_begins w n h e = rw e (begins_well n (omega arith))

-- what is parsed without a plus or a leading zero is spelled in decimal
pub parsed_is_decimal : (E : Type 0) (w : List ℕ) (n : ℕ) → ((get_or w 0 0 ≡ 43) ⊎ ((get_or w 0 0 ≡ 48) × (1 < length w)) → ⊥) → ParsesUnsigned {E = E} 32 10 w (Ok n) → w ≡ decimal n
parsed_is_decimal E w n plain h =
    let p = parse_plain own {E = E} 32 w (Ok n) h (λ e. plain (inl e)) in
    rw p.1 (sym (decimal-digits_value own w p.0.0 p.0.1 (λ e. elim (eq-or-lt_of_le p.0.1) [ inl o ↦ sym o | inr m ↦ absurd (plain (inr (e, m))) ]) (omega (arith, p.0.2))))

-- what isn't parsed isn't spelled in decimal
pub unparsed_is_no_decimal : {E : Type 0} (w : List ℕ) (n : ℕ) (e : E) → n < 4294967296 → w ≡ decimal n → ParsesUnsigned 32 10 w (Err e) → ⊥
unparsed_is_no_decimal {E} w n e h d p = let r : Err e ≡ Ok n = parse-decimal 32 n w (Err e) (omega arith) (omega arith) d p in cc

-- a word spells one number
pub decimal_once : (m n : ℕ) → m < 4294967296 → n < 4294967296 → decimal m ≡ decimal n → m ≡ n
decimal_once m n h k e = decimal_injective m n (omega arith) (omega arith) e

-- what a number's own digits spell
pub number_of_decimal : (n : ℕ) → n < 4294967296 → number_of (decimal n) ≡ Some n
unfolding number_of
number_of_decimal n h =
    let v : digits_value 10 (decimal n) ≡ n = digits_value-decimal own n (omega arith) in
    let t : nat_lt n 4294967296 ≡ true = lt-ltb n 4294967296 h in
    let s : bytes_eq (decimal n) (decimal n) ≡ true = (bytes_eq-Decides (decimal n) (decimal n)).1 refl in
    rw (v, t, s) refl

pub spelled_number : (w : List ℕ) (n : ℕ) → w ≡ decimal n → n < 4294967296 → number_of w ≡ Some n
spelled_number w n e h = rw e (number_of_decimal n h)

pub spells_none : (w : List ℕ) → ((n : ℕ) → n < 4294967296 → w ≡ decimal n → ⊥) → number_of w ≡ None
unfolding number_of
spells_none w h = elim (cases_Bool (nat_lt (digits_value 10 w) 4294967296 && bytes_eq w (decimal (digits_value 10 w)))) [
  | inl e ↦ let p = and_parts _ _ e in absurd (h (digits_value 10 w) (ltb-true _ _ p.0) ((bytes_eq-Decides w (decimal (digits_value 10 w))).0 p.1))
  | inr e ↦ rw e refl
]

checked : (w : List ℕ) (n m : ℕ) (b : Bool) → (b ≡ true → (n < 4294967296) × (w ≡ decimal n)) → (if b then Some n else None) ≡ Some m → (m < 4294967296) × (w ≡ decimal m)
checked w n m true f e = let s : n ≡ m = cc in subst (λ k. (k < 4294967296) × (w ≡ decimal k)) s (f refl)
checked w n m false f e = cc

-- what a word's number spells
pub spelled_by : (w : List ℕ) (n : ℕ) → number_of w ≡ Some n → (n < 4294967296) × (w ≡ decimal n)
unfolding number_of
spelled_by w n h =
    checked w (digits_value 10 w) n (nat_lt (digits_value 10 w) 4294967296 && bytes_eq w (decimal (digits_value 10 w)))
    (λ e. let p = and_parts _ _ e in (ltb-true _ _ p.0, (bytes_eq-Decides w (decimal (digits_value 10 w))).0 p.1)) h
