-- The laws of layouts, for every table. What a structure says in the words is what the words say (`Says`); it is so
-- exactly where the words are the structure's and each field is in its range, and no bit breaks a row.
use Rattle.std.proofs.Common.{Ok, Err, ◌≡◌, ℕ, zero, suc, ◌+◌, ◌-◌, ◌*◌, ◌/◌, ◌%◌, ◌^◌, ◌<◌, ◌≤◌, Bool, true, false, ◌&&◌, ◌||◌, nat_eq, nat_lt, nat_le, List, [], ◌∷◌, length, Option, Some, None, refl, sym, ap, subst, ◌∙◌, arith, get_or, drop, drop-cons, get_or-drop, add-zero, add-one}
use Rattle.std.proofs.lemmas.List.{drop_all, drop-drop}
use Rattle.std.specs.Prelude.{◌==◌, slice_index}
use Rattle.std.proofs.Math.Dec.{eqb-suc-zero}
use Rattle.std.proofs.lemmas.Bool.{eqb-true, eq-eqb}
use Rattle.std.proofs.lemmas.Bool.Decides.{nat_tests}
use Rattle.std.proofs.lemmas.Nat.{shr_split, mod-pow-add, mod_below, pow_pos, same_from_place, mod_low, pow-add, mul-add-lt}
use Rattle.link_words.specs.declared.refusal.Bad.{Bad}
use Rattle.link_words.specs.Layout.{Reserved, Free, Above, Zero, Each, BitRow, Number, Flag, Address, Gap, flag, word_of, words_of, IsAllowed, IsWordInRange, IsInRange, bits, is_set, high_bits, BitRange, ranges_of, breaks, is_bad, first_bad_bit, bad_or_later, first_bad_from, first_bad, unless_bad, fits, is_sound_below, is_sound}
use Rattle.link_words.proofs.Bits.{first_bit_none, first_bit_all, bits_zero, zero_bits, unset_zero, pow_le}
use Rattle.link_words.proofs.Shifts.{flag_small}

-- the fields of a word are those of the structure
abbrev pub SaysWord : {A : Type 0} → List (BitRow A) → ℕ → A → Type 0
SaysWord [] w v = Unit {0}
SaysWord (Number high low reserved value ∷ rows) w v = (value v ≡ bits high low w) × SaysWord rows w v
SaysWord (Flag bit value ∷ rows) w v = (value v ≡ is_set bit w) × SaysWord rows w v
SaysWord (Address low value ∷ rows) w v = (value v ≡ high_bits low w) × SaysWord rows w v
SaysWord (Gap high low ∷ rows) w v = SaysWord rows w v

abbrev pub SaysFrom : {A : Type 0} → ℕ → List (List (BitRow A)) → List ℕ → A → Type 0
SaysFrom number [] ws v = Unit {0}
SaysFrom number (rows ∷ layout) ws v = SaysWord rows (slice_index ws number) v × SaysFrom (suc number) layout ws v

-- the fields of the words are those of the structure
abbrev pub Says : {A : Type 0} → List (List (BitRow A)) → List ℕ → A → Type 0
Says layout ws v = SaysFrom 0 layout ws v

-- ---- tests

both : (a b : Bool) → (a && b) ≡ true → (a ≡ true) × (b ≡ true)
both true b e = (refl, e)
both false b e = absurd cc

neither : (a b : Bool) → (a || b) ≡ false → (a ≡ false) × (b ≡ false)
neither true b e = absurd cc
neither false b e = (refl, e)

le_true : (a b : ℕ) → nat_le a b ≡ true → a ≤ b
le_true a b e = grind (arith, nat_tests)

lt_true : (a b : ℕ) → nat_lt a b ≡ true → a < b
lt_true a b e = grind (arith, nat_tests)

lt_false : (a b : ℕ) → nat_lt a b ≡ false → b ≤ a
lt_false a b e = grind (arith, nat_tests)

le_is : (a b : ℕ) → a ≤ b → nat_le a b ≡ true
le_is a b h = grind (arith, nat_tests)

not_lt : (a b : ℕ) → b ≤ a → nat_lt a b ≡ false
not_lt a b h = grind (arith, nat_tests)

eq_false : (n : ℕ) → nat_eq n 0 ≡ false → 0 < n
eq_false zero e = absurd cc
eq_false (suc n) e = omega arith

-- the test at the row's own lowest bit
and_true : (k : ℕ) (b : Bool) → (k == k && b) ≡ false → b ≡ false
and_true k b e = rw (same_test k) at e
  where
    same_test : (k : ℕ) → nat_eq k k ≡ true
    same_test k = eq-eqb k k refl

inside : (low high k : ℕ) (b : Bool) → low ≤ k → k ≤ high → (nat_le low k && nat_le k high && b) ≡ false → b ≡ false
inside low high k b from to e = rw (le_is low k from, le_is k high to) at e

-- what a sound row is
record IsSoundRow (high low top : ℕ) (reserved : Reserved) : Type 0 where
  ends : high + 1 ≡ top
  ordered : low ≤ high
  fit : fits reserved (high + 1 - low) ≡ true

sound_row : (high low top : ℕ) (reserved : Reserved) (rest : Bool) → (high + 1 == top && nat_le low high && fits reserved (high + 1 - low) && rest) ≡ true → IsSoundRow high low top reserved × (rest ≡ true)
sound_row high low top reserved rest e =
    let c = both _ rest e in
    let b = both _ (fits reserved (high + 1 - low)) c.0 in
    let a = both (high + 1 == top) (nat_le low high) b.0 in
    (record { ends = eqb-true _ _ a.0; ordered = le_true low high a.1; fit = b.1 }, c.1)

-- ---- from what the words say

-- no bit breaks the row, so its number is allowed
allowed : (reserved : Reserved) (high low w : ℕ) → low ≤ high → high < 32 → ((k : ℕ) → k < 32 → breaks reserved high low k w ≡ false) → IsAllowed reserved (high + 1 - low) (bits high low w)
allowed Free high low w ordered in_word free = mod_below (w / 2 ^ low) (2 ^ (high + 1 - low)) (pow_pos (high + 1 - low))
allowed (Above most) high low w ordered in_word free = lt_false most (bits high low w) (and_true low (nat_lt most (bits high low w)) (free low (omega arith)))
allowed Zero high low w ordered in_word free = (eq_false (bits high low w) (and_true low (bits high low w == 0) (free low (omega arith))), mod_below (w / 2 ^ low) (2 ^ (high + 1 - low)) (pow_pos (high + 1 - low)))
allowed Each high low w ordered in_word free = zero_bits w low (high + 1 - low) (λ k from to. unset_zero k w (inside low high k (is_set k w) from (omega arith) (free k (omega arith))))

flag_is : (k w : ℕ) → flag (is_set k w) ≡ w / 2 ^ k % 2
flag_is k w = by_value (w / 2 ^ k % 2) (omega arith)
  where
    by_value : (x : ℕ) → x < 2 → flag (nat_eq x 1) ≡ x
    by_value zero l = refl
    by_value (suc zero) l = refl
    by_value (suc (suc x)) l = absurd (omega arith)

-- the bits below high + 1 are those of the row and those below it
split_at : (w high low : ℕ) → low ≤ high → bits high low w * 2 ^ low + w % 2 ^ low ≡ w % 2 ^ (high + 1)
split_at w high low ordered =
    let width : high + 1 - low + low ≡ high + 1 = omega arith in
    sym (ap (λ m. w % 2 ^ m) (sym width) ∙ mod-pow-add w (high + 1 - low) low)

split_bit : (w bit : ℕ) → w / 2 ^ bit % 2 * 2 ^ bit + w % 2 ^ bit ≡ w % 2 ^ (bit + 1)
split_bit w bit =
    let one : bit + 1 - bit ≡ 1 = omega arith in
    ap (λ m. w / 2 ^ bit % 2 ^ m * 2 ^ bit + w % 2 ^ bit) (sym one) ∙ split_at w bit bit (omega arith)

whole_blocks : (a low : ℕ) → a * 2 ^ low % 2 ^ low ≡ 0
whole_blocks a low = ap (λ x. x % 2 ^ low) (plus_none (a * 2 ^ low)) ∙ mod_low a low 0 (pow_pos low)
  where
    plus_none : (x : ℕ) → x ≡ x + 0
    plus_none x = omega arith

joined_small : (a i b j : ℕ) → a < 2 ^ i → b < 2 ^ j → a * 2 ^ j + b < 2 ^ (i + j)
joined_small a i b j la lb = omega (arith, pow-add 2 i j, mul-add-lt a (2 ^ j) b (2 ^ i) la lb)

and_no : (a : Bool) → (a && false) ≡ false
and_no true = refl
and_no false = refl

not_zero : (n : ℕ) → 0 < n → nat_eq n 0 ≡ false
not_zero zero l = absurd (omega arith)
not_zero (suc n) l = eqb-suc-zero n

same_flag : (a b : Bool) → flag a ≡ flag b → a ≡ b
same_flag true true e = refl
same_flag false false e = refl
same_flag true false e = absurd (omega (arith, e))
same_flag false true e = absurd (omega (arith, e))

sound_address : (top low : ℕ) (rest : Bool) → (top == 32 && nat_lt low 32 && rest) ≡ true → (top ≡ 32) × (low < 32) × (rest ≡ true)
sound_address top low rest e =
    let b = both _ rest e in
    let a = both (top == 32) (nat_lt low 32) b.0 in
    (eqb-true top 32 a.0, lt_true low 32 a.1, b.1)

sound_gap : (high low top : ℕ) (rest : Bool) → (high + 1 == top && nat_le low high && rest) ≡ true → (high + 1 ≡ top) × (low ≤ high) × (rest ≡ true)
sound_gap high low top rest e =
    let b = both _ rest e in
    let a = both (high + 1 == top) (nat_le low high) b.0 in
    (eqb-true _ _ a.0, le_true low high a.1, b.1)

whole_word : (w : ℕ) → w < 2 ^ 32 → w % 2 ^ 32 ≡ w
whole_word w l = omega arith

says_word : {A : Type 0} (top : ℕ) (rows : List (BitRow A)) (w : ℕ) (v : A) → is_sound_below top rows ≡ true → top ≤ 32 → w < 2 ^ 32 → SaysWord rows w v → ((k : ℕ) → k < 32 → is_bad (ranges_of rows) k w ≡ false) → (word_of rows v ≡ w % 2 ^ top) × IsWordInRange rows v
says_word top [] w v sound in_word small says free = (rw (eqb-true top 0 sound) (omega arith), tt)
says_word top (Number high low reserved value ∷ rows) w v sound in_word small says free =
    let s = sound_row high low top reserved (is_sound_below low rows) sound in
    let low_in : low ≤ 32 = omega (arith, s.0.ends, s.0.ordered) in
    let later : (word_of rows v ≡ w % 2 ^ low) × IsWordInRange rows v = says_word low rows w v s.1 low_in small says.1 (λ k l. (neither (breaks reserved high low k w) (is_bad (ranges_of rows) k w) (free k l)).1) in
    let here = allowed reserved high low w s.0.ordered (omega (arith, s.0.ends)) (λ k l. (neither (breaks reserved high low k w) (is_bad (ranges_of rows) k w) (free k l)).0) in
    (rw (says.0, later.0, ← s.0.ends) (split_at w high low s.0.ordered), (subst (IsAllowed reserved (high + 1 - low)) (sym says.0) here, later.1))
says_word top (Flag bit value ∷ rows) w v sound in_word small says free =
    let s = both (bit + 1 == top) (is_sound_below bit rows) sound in
    let ends : bit + 1 ≡ top = eqb-true _ _ s.0 in
    let bit_in : bit ≤ 32 = omega arith in
    let later : (word_of rows v ≡ w % 2 ^ bit) × IsWordInRange rows v = says_word bit rows w v s.1 bit_in small says.1 free in
    (rw (says.0, flag_is, later.0, ← ends) (split_bit w bit), later.1)
says_word top (Address low value ∷ rows) w v sound in_word small says free =
    let s = sound_address top low (is_sound_below low rows) sound in
    let low_in : low ≤ 32 = omega (arith, s.1) in
    let later : (word_of rows v ≡ w % 2 ^ low) × IsWordInRange rows v = says_word low rows w v s.2 low_in small says.1 free in
    (rw (says.0, later.0, s.0) (omega (arith, shr_split w low)), (rw says.0 (whole_blocks (w / 2 ^ low) low), later.1))
says_word top (Gap high low ∷ rows) w v sound in_word small says free =
    let s = sound_gap high low top (is_sound_below low rows) sound in
    let low_in : low ≤ 32 = omega (arith, s.0, s.1) in
    let later : (word_of rows v ≡ w % 2 ^ low) × IsWordInRange rows v = says_word low rows w v s.2 low_in small says (λ k l. (neither (breaks Each high low k w) (is_bad (ranges_of rows) k w) (free k l)).1) in
    let none : bits high low w ≡ 0 = allowed Each high low w s.1 (omega (arith, s.0)) (λ k l. (neither (breaks Each high low k w) (is_bad (ranges_of rows) k w) (free k l)).0) in
    (rw later.0 (omega (arith, split_at w high low s.1, ap (λ x. x * 2 ^ low) none, ap (λ m. w % 2 ^ m) s.0)), later.1)

-- ---- to what the words say

-- an allowed number fits its bits
allowed_small : (reserved : Reserved) (width n : ℕ) → fits reserved width ≡ true → IsAllowed reserved width n → n < 2 ^ width
allowed_small Free width n fit h = h
allowed_small (Above most) width n fit h = omega (arith, lt_true most (2 ^ width) fit)
allowed_small Zero width n fit h = h.1
allowed_small Each width n fit h = omega (arith, pow_pos width)

-- the rows don't begin with an address, which may fill the word
abbrev starts_low : {A : Type 0} → List (BitRow A) → Bool
starts_low [] = true
starts_low (Number high low reserved value ∷ rows) = true
starts_low (Flag bit value ∷ rows) = true
starts_low (Address low value ∷ rows) = false
starts_low (Gap high low ∷ rows) = true

below_top : {A : Type 0} (top : ℕ) (rows : List (BitRow A)) → is_sound_below top rows ≡ true → top < 32 → starts_low rows ≡ true
below_top top [] sound below = refl
below_top top (Number high low reserved value ∷ rows) sound below = refl
below_top top (Flag bit value ∷ rows) sound below = refl
below_top top (Address low value ∷ rows) sound below =
    let s = sound_address top low (is_sound_below low rows) sound in
    absurd (omega (arith, s.0))
below_top top (Gap high low ∷ rows) sound below = refl

-- such rows fit below their top
word_small : {A : Type 0} (top : ℕ) (rows : List (BitRow A)) (v : A) → is_sound_below top rows ≡ true → top ≤ 32 → starts_low rows ≡ true → IsWordInRange rows v → word_of rows v < 2 ^ top
word_small top [] v sound in_word low_rows fit = pow_pos top
word_small top (Number high low reserved value ∷ rows) v sound in_word low_rows fit =
    let s = sound_row high low top reserved (is_sound_below low rows) sound in
    let below : low < 32 = omega (arith, s.0.ends, s.0.ordered) in
    let later : word_of rows v < 2 ^ low = word_small low rows v s.1 (omega arith) (below_top low rows s.1 below) fit.1 in
    let width : high + 1 - low + low ≡ top = omega (arith, s.0.ends, s.0.ordered) in
    let here : value v < 2 ^ (high + 1 - low) = allowed_small reserved (high + 1 - low) (value v) s.0.fit fit.0 in
    subst (λ m. value v * 2 ^ low + word_of rows v < 2 ^ m) width (joined_small (value v) (high + 1 - low) (word_of rows v) low here later)
word_small top (Flag bit value ∷ rows) v sound in_word low_rows fit =
    let s = both (bit + 1 == top) (is_sound_below bit rows) sound in
    let ends : 1 + bit ≡ top = omega (arith, eqb-true _ _ s.0) in
    let below : bit < 32 = omega arith in
    let later : word_of rows v < 2 ^ bit = word_small bit rows v s.1 (omega arith) (below_top bit rows s.1 below) fit in
    subst (λ m. flag (value v) * 2 ^ bit + word_of rows v < 2 ^ m) ends (joined_small (flag (value v)) 1 (word_of rows v) bit (flag_small (value v)) later)
word_small top (Address low value ∷ rows) v sound in_word low_rows fit = absurd cc
word_small top (Gap high low ∷ rows) v sound in_word low_rows fit =
    let s = sound_gap high low top (is_sound_below low rows) sound in
    let below : low < 32 = omega (arith, s.0, s.1) in
    let later : word_of rows v < 2 ^ low = word_small low rows v s.2 (omega arith) (below_top low rows s.2 below) fit in
    omega (arith, pow_le low top (omega (arith, s.0, s.1)))

-- the test of an allowed number finds nothing
not_broken : (reserved : Reserved) (high low w : ℕ) → low ≤ high → IsAllowed reserved (high + 1 - low) (bits high low w) → (k : ℕ) → breaks reserved high low k w ≡ false
not_broken Free high low w ordered h k = refl
not_broken (Above most) high low w ordered h k = rw (not_lt most (bits high low w) h) (and_no (k == low))
not_broken Zero high low w ordered h k = rw (not_zero (bits high low w) h.0) (and_no (k == low))
not_broken Each high low w ordered h k = outside (nat_le low k) (nat_le k high) refl refl
  where
    outside : (a b : Bool) → nat_le low k ≡ a → nat_le k high ≡ b → (a && b && is_set k w) ≡ false
    outside false b ea eb = refl
    outside true false ea eb = refl
    outside true true ea eb = bits_zero w low high ordered h k (le_true low k ea) (le_true k high eb)

-- What the structure's word says is the structure's, and no bit breaks a row. First for rows below an address.
low_word_says : {A : Type 0} (top : ℕ) (rows : List (BitRow A)) (w : ℕ) (v : A) → is_sound_below top rows ≡ true → top ≤ 32 → starts_low rows ≡ true → IsWordInRange rows v → word_of rows v ≡ w % 2 ^ top → SaysWord rows w v × ((k : ℕ) → is_bad (ranges_of rows) k w ≡ false)
low_word_says top [] w v sound in_word low_rows fit same = (tt, λ k. refl)
low_word_says top (Number high low reserved value ∷ rows) w v sound in_word low_rows fit same =
    let s = sound_row high low top reserved (is_sound_below low rows) sound in
    let below : low < 32 = omega (arith, s.0.ends, s.0.ordered) in
    let later_low = below_top low rows s.1 below in
    let later_small : word_of rows v < 2 ^ low = word_small low rows v s.1 (omega arith) later_low fit.1 in
    let joined : value v * 2 ^ low + word_of rows v ≡ bits high low w * 2 ^ low + w % 2 ^ low = same ∙ ap (λ m. w % 2 ^ m) (sym s.0.ends) ∙ sym (split_at w high low s.0.ordered) in
    let parts = same_from_place (value v) (word_of rows v) (bits high low w) (w % 2 ^ low) (2 ^ low) later_small (mod_below w (2 ^ low) (pow_pos low)) joined in
    let later = low_word_says low rows w v s.1 (omega arith) later_low fit.1 parts.1 in
    let here : IsAllowed reserved (high + 1 - low) (bits high low w) = subst (IsAllowed reserved (high + 1 - low)) parts.0 fit.0 in
    ((parts.0, later.0), λ k. rw (not_broken reserved high low w s.0.ordered here k) (later.1 k))
low_word_says top (Flag bit value ∷ rows) w v sound in_word low_rows fit same =
    let s = both (bit + 1 == top) (is_sound_below bit rows) sound in
    let ends : bit + 1 ≡ top = eqb-true _ _ s.0 in
    let below : bit < 32 = omega arith in
    let later_low = below_top bit rows s.1 below in
    let later_small : word_of rows v < 2 ^ bit = word_small bit rows v s.1 (omega arith) later_low fit in
    let joined : flag (value v) * 2 ^ bit + word_of rows v ≡ w / 2 ^ bit % 2 * 2 ^ bit + w % 2 ^ bit = same ∙ ap (λ m. w % 2 ^ m) (sym ends) ∙ sym (split_bit w bit) in
    let parts = same_from_place (flag (value v)) (word_of rows v) (w / 2 ^ bit % 2) (w % 2 ^ bit) (2 ^ bit) later_small (mod_below w (2 ^ bit) (pow_pos bit)) joined in
    let later = low_word_says bit rows w v s.1 (omega arith) later_low fit parts.1 in
    ((same_flag (value v) (is_set bit w) (parts.0 ∙ sym (flag_is bit w)), later.0), later.1)
low_word_says top (Address low value ∷ rows) w v sound in_word low_rows fit same = absurd cc
low_word_says top (Gap high low ∷ rows) w v sound in_word low_rows fit same =
    let s = sound_gap high low top (is_sound_below low rows) sound in
    let below : low < 32 = omega (arith, s.0, s.1) in
    let later_low = below_top low rows s.2 below in
    let later_small : word_of rows v < 2 ^ low = word_small low rows v s.2 (omega arith) later_low fit in
    let joined : 0 * 2 ^ low + word_of rows v ≡ bits high low w * 2 ^ low + w % 2 ^ low = omega (arith, same, ap (λ m. w % 2 ^ m) s.0, split_at w high low s.1) in
    let parts = same_from_place 0 (word_of rows v) (bits high low w) (w % 2 ^ low) (2 ^ low) later_small (mod_below w (2 ^ low) (pow_pos low)) joined in
    let later = low_word_says low rows w v s.2 (omega arith) later_low fit parts.1 in
    (later.0, λ k. rw (not_broken Each high low w s.1 (sym parts.0) k) (later.1 k))

whole_low : {A : Type 0} (rows : List (BitRow A)) (w : ℕ) (v : A) → is_sound_below 32 rows ≡ true → starts_low rows ≡ true → IsWordInRange rows v → word_of rows v ≡ w → SaysWord rows w v × ((k : ℕ) → is_bad (ranges_of rows) k w ≡ false)
whole_low rows w v sound low_rows fit same =
    let small : word_of rows v < 2 ^ 32 = word_small 32 rows v sound (omega arith) low_rows fit in
    low_word_says 32 rows w v sound (omega arith) low_rows fit (same ∙ sym (whole_word w (subst (λ x. x < 2 ^ 32) same small)))

word_says : {A : Type 0} (rows : List (BitRow A)) (w : ℕ) (v : A) → is_sound_below 32 rows ≡ true → IsWordInRange rows v → word_of rows v ≡ w → SaysWord rows w v × ((k : ℕ) → is_bad (ranges_of rows) k w ≡ false)
word_says [] w v sound fit same = whole_low [] w v sound refl fit same
word_says (Number high low reserved value ∷ rows) w v sound fit same = whole_low (Number high low reserved value ∷ rows) w v sound refl fit same
word_says (Flag bit value ∷ rows) w v sound fit same = whole_low (Flag bit value ∷ rows) w v sound refl fit same
word_says (Address low value ∷ rows) w v sound fit same =
    let s = sound_address 32 low (is_sound_below low rows) sound in
    let below : low < 32 = s.1 in
    let later_low = below_top low rows s.2 below in
    let later_small : word_of rows v < 2 ^ low = word_small low rows v s.2 (omega arith) later_low fit.1 in
    let blocks : value v / 2 ^ low * 2 ^ low ≡ value v = omega (arith, shr_split (value v) low, fit.0) in
    let joined : value v / 2 ^ low * 2 ^ low + word_of rows v ≡ w / 2 ^ low * 2 ^ low + w % 2 ^ low = ap (λ x. x + word_of rows v) blocks ∙ same ∙ sym (shr_split w low) in
    let parts = same_from_place (value v / 2 ^ low) (word_of rows v) (w / 2 ^ low) (w % 2 ^ low) (2 ^ low) later_small (mod_below w (2 ^ low) (pow_pos low)) joined in
    let later = low_word_says low rows w v s.2 (omega arith) later_low fit.1 parts.1 in
    ((sym blocks ∙ ap (λ x. x * 2 ^ low) parts.0, later.0), later.1)
word_says (Gap high low ∷ rows) w v sound fit same = whole_low (Gap high low ∷ rows) w v sound refl fit same

-- ---- whole structures

no_bad : (places : List BitRange) (w : ℕ) → first_bad_bit places w ≡ None → (k : ℕ) → k < 32 → is_bad places k w ≡ false
unfolding first_bad_bit
no_bad places w e k below = first_bit_all (λ k. is_bad places k w) 0 32 e k (omega arith) (omega arith)

none_bad : (places : List BitRange) (w : ℕ) → ((k : ℕ) → is_bad places k w ≡ false) → first_bad_bit places w ≡ None
unfolding first_bad_bit
none_bad places w h = first_bit_none (λ k. is_bad places k w) 0 32 (λ k from to. h k)

head_of : (k : ℕ) (ws : List ℕ) (x : ℕ) (xs : List ℕ) → (x ∷ xs) ≡ drop k ws → x ≡ slice_index ws k
head_of k ws x xs e = ap (λ (l : List ℕ). get_or l 0 0) e ∙ get_or-drop k ws 0 0 ∙ ap (λ m. get_or ws m 0) (add-zero k)

tail_of : (k : ℕ) (ws : List ℕ) (x : ℕ) (xs : List ℕ) → (x ∷ xs) ≡ drop k ws → xs ≡ drop (suc k) ws
tail_of k ws x xs e = ap (λ (l : List ℕ). drop 1 l) e ∙ drop-drop 1 k ws ∙ ap (λ m. drop m ws) (add-one k)

bad_then : (number : ℕ) (here : Option ℕ) (later : Option Bad) → bad_or_later number here later ≡ None → (here ≡ None) × (later ≡ None)
bad_then number None later e = (refl, e)
bad_then number (Some bit) later e = absurd cc

-- word k of a list, and what comes after it
word_split : (ws : List ℕ) (k : ℕ) → k < length ws → drop k ws ≡ slice_index ws k ∷ drop (suc k) ws
word_split ws k within = drop-cons ws k 0 within

says_from : {A : Type 0} (number : ℕ) (layout : List (List (BitRow A))) (ws : List ℕ) (v : A) → is_sound layout ≡ true → number + length layout ≡ length ws → ((k : ℕ) → slice_index ws k < 2 ^ 32) → SaysFrom number layout ws v → first_bad_from number layout ws ≡ None → (words_of layout v ≡ drop number ws) × IsInRange layout v
says_from number [] ws v sound lengths small says free = (sym (drop_all number ws (omega arith)), tt)
says_from number (rows ∷ layout) ws v sound lengths small says free =
    let s = both (is_sound_below 32 rows) (is_sound layout) sound in
    let f = bad_then number (first_bad_bit (ranges_of rows) (slice_index ws number)) _ free in
    let later = says_from (suc number) layout ws v s.1 (omega arith) small says.1 f.1 in
    let here = says_word 32 rows (slice_index ws number) v s.0 (omega arith) (small number) says.0 (no_bad (ranges_of rows) (slice_index ws number) f.0) in
    let word : word_of rows v ≡ slice_index ws number = here.0 ∙ whole_word (slice_index ws number) (small number) in
    (rw (word, later.0) (sym (word_split ws number (omega arith))), (here.1, later.1))

-- what no bit breaks is the words of what they say, and it is in its range
pub words_of-says : {A : Type 0} (layout : List (List (BitRow A))) (ws : List ℕ) (v : A) → is_sound layout ≡ true → length ws ≡ length layout → ((k : ℕ) → slice_index ws k < 2 ^ 32) → Says layout ws v → first_bad layout ws ≡ None → (words_of layout v ≡ ws) × IsInRange layout v
words_of-says layout ws v sound lengths small says free = says_from 0 layout ws v sound (omega arith) small says free

from_says : {A : Type 0} (number : ℕ) (layout : List (List (BitRow A))) (ws : List ℕ) (v : A) → is_sound layout ≡ true → IsInRange layout v → words_of layout v ≡ drop number ws → SaysFrom number layout ws v × (first_bad_from number layout ws ≡ None)
from_says number [] ws v sound fit same = (tt, refl)
from_says number (rows ∷ layout) ws v sound fit same =
    let s = both (is_sound_below 32 rows) (is_sound layout) sound in
    let word : word_of rows v ≡ slice_index ws number = head_of number ws (word_of rows v) (words_of layout v) same in
    let here = word_says rows (slice_index ws number) v s.0 fit.0 word in
    let later = from_says (suc number) layout ws v s.1 fit.1 (tail_of number ws (word_of rows v) (words_of layout v) same) in
    ((here.0, later.0), rw (none_bad (ranges_of rows) (slice_index ws number) here.1) later.1)

-- the words of a structure that is in its range say what it says, and no bit breaks a row
pub says-words_of : {A : Type 0} (layout : List (List (BitRow A))) (ws : List ℕ) (v : A) → is_sound layout ≡ true → IsInRange layout v → words_of layout v ≡ ws → Says layout ws v × (first_bad layout ws ≡ None)
says-words_of layout ws v sound fit same = from_says 0 layout ws v sound fit same

-- reading answers a structure where no bit breaks a row
pub unless_bad-ok : {A : Type 0} (bad : Option Bad) (said v : A) → unless_bad bad said ≡ Ok v → (bad ≡ None) × (said ≡ v)
unless_bad-ok None said v e = (refl, cc)
unless_bad-ok (Some bad) said v e = absurd cc

pub unless_bad-err : {A : Type 0} (bad : Option Bad) (said : A) (b : Bad) → unless_bad bad said ≡ Err b → bad ≡ Some b
unless_bad-err None said b e = absurd cc
unless_bad-err (Some bad) said b e = cc
