-- How many digits a number has.
use Rattle.std.proofs.Common.{◌≡◌, ℕ, ◌+◌, ◌/◌, ◌%◌, ◌≤◌, ◌<◌, [], ◌∷◌, ◌++◌, length, decimal, ap, ◌∙◌, length-append, arith}
use Rattle.std.proofs.lemmas.Fmt.{decimal_digit, decimal_step, length-decimal-le}

-- a number of two digits or more is its tenth and a digit
pub decimal_more : (n : ℕ) → 10 ≤ n → n < 4294967296 → decimal n ≡ decimal (n / 10) ++ ((48 + n % 10) ∷ [])
decimal_more n h small = decimal_step n h (omega arith)

pub length-decimal_more : (n : ℕ) → 10 ≤ n → n < 4294967296 → length (decimal n) ≡ length (decimal (n / 10)) + 1
length-decimal_more n h small = ap length (decimal_more n h small) ∙ length-append (decimal (n / 10)) ((48 + n % 10) ∷ [])

-- a number of 32 bits has ten digits at most
pub length-decimal : (n : ℕ) → n < 4294967296 → length (decimal n) ≤ 10
length-decimal n h = length-decimal-le 10 n (omega arith) (omega arith) (omega arith)

pub ruleset decimal_steps = (decimal_digit, decimal_more, length-decimal_more)

pub ruleset ten_digits = (length-decimal, length-append)
