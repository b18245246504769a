-- What `and`, `or` and `not` say.
use Rattle.std.proofs.Common.{Bool, not, ◌≡◌, true, false, refl, ◌&&◌, ◌||◌, ap, if◌then◌else◌, ◌≤◌, arith, inl, inr, sym, ◌∙◌, cond}
use Rattle.std.proofs.lemmas.Bool.{false≢true, true≢false}
use Rattle.std.specs.Prelude.{◌⊎◌}

pub not_on : (b : Bool) → not b ≡ true → b ≡ false
not_on true e = absurd cc
not_on false e = refl

pub and_both : (a b : Bool) → (a && b) ≡ true → (a ≡ true) × (b ≡ true)
and_both true b h = (refl, h)
and_both false b h = absurd cc

pub right_or : (a b : Bool) → b ≡ true → (a || b) ≡ true
right_or true b e = refl
right_or false b e = e

pub left_or : (a b : Bool) → a ≡ true → (a || b) ≡ true
left_or a b e = ap (λ c. c || b) e

pub or_both : (a b : Bool) → (a || b) ≡ false → (a ≡ false) × (b ≡ false)
or_both true b e = cc
or_both false b e = (refl, e)

pub and_false : (b : Bool) → (b && false) ≡ false
and_false true = refl
and_false false = refl

pub off_by : (b : Bool) → (b ≡ true → ⊥) → b ≡ false
off_by true never = absurd (never refl)
off_by false never = refl

pub both_not : (b c : Bool) → c ≡ false → (b && c) ≡ false
both_not true c e = e
both_not false c e = refl

pub none_late : (late rest : Bool) → late ≡ false → rest ≡ false → (late || rest) ≡ false
none_late late rest h k = rw (h, k) refl

pub either_if : {A : Type 0} (P : A → Type 0) (b : Bool) (x y : A) → (b ≡ true → P x) → (b ≡ false → P y) → P (if b then x else y)
either_if P true x y h k = h refl
either_if P false x y h k = k refl

pub and_none : (x y : Bool) → x ≡ false → (x && y) ≡ false
and_none true y h = absurd cc
and_none false y h = refl

pub waits_by : (b c : Bool) → (b && not c) ≡ true → (b ≡ true) × (c ≡ false)
waits_by true false e = (refl, refl)
waits_by true true e = absurd (cc)
waits_by false c e = absurd (cc)

pub and_right : (a b : Bool) → (a && b) ≡ true → b ≡ true
and_right true b is = is
and_right false b is = absurd cc

pub either : {A : Type 0} (P : A → Type 0) (b : Bool) (x y : A) → P x → P y → P (if b then x else y)
either P true x y one other = one
either P false x y one other = other

pub both_true : (a b : Bool) → a ≡ true → b ≡ true → (a && b) ≡ true
both_true true b one two = two
both_true false b one two = one

pub or_true : (a : Bool) → a || true ≡ true
or_true true = refl
or_true false = refl

pub refused_by : (a b : Bool) → b ≡ true → (a && not b) ≡ false
refused_by true b is = ap not is
refused_by false b is = refl

pub first_of_both : (a b : Bool) → (a && b) ≡ true → a ≡ true
first_of_both true b e = refl
first_of_both false b e = absurd (false≢true e)

pub out_owed : (c g p : Bool) → 1 ≤ (if c || g || not p then 0 else 1) → c ≡ false
out_owed true g p one = absurd (omega (arith, one))
out_owed false g p one = refl

pub on_or_off : (b : Bool) → (b ≡ true) ⊎ (b ≡ false)
on_or_off true = inl refl
on_or_off false = inr refl

pub first_true : (a b : Bool) → a ≡ true → a || b ≡ true
first_true true b on = refl
first_true false b on = absurd (false≢true on)

pub second_true : (a b : Bool) → b ≡ true → a || b ≡ true
second_true true b on = refl
second_true false b on = on

pub both_parts : (a b : Bool) → a && b ≡ true → (a ≡ true) × (b ≡ true)
both_parts true b e = (refl, e)
both_parts false b e = absurd (false≢true e)

pub or_false : (b : Bool) → (b || false) ≡ b
or_false true = refl
or_false false = refl

pub and_on : (a b : Bool) → b ≡ true → (a && b) ≡ a
and_on true b is = is
and_on false b is = refl

pub either_way : (a b : Bool) → (a || b) ≡ (b || a)
either_way true true = refl
either_way true false = refl
either_way false true = refl
either_way false false = refl

pub less_met : (a b c : Bool) → (a || (b || false)) ≡ true → (a || (b || c)) ≡ true
less_met true b c on = refl
less_met false true c on = refl
less_met false false c on = absurd (false≢true on)

pub not_itself : (b : Bool) → b ≡ not b → ⊥
not_itself true h = cc
not_itself false h = cc

pub is_not : (b : Bool) → b ≡ true → b ≡ false → ⊥
is_not b on off = cc

pub owed_by : (r l : Bool) → 1 ≤ (if r && not l then 1 else 0) → (r ≡ true) × (l ≡ false)
owed_by true true one = absurd (omega (arith, one))
owed_by true false one = (refl, refl)
owed_by false l one = absurd (omega (arith, one))

pub both_second : (a b : Bool) → a && b ≡ true → b ≡ true
both_second true b e = e
both_second false b e = absurd (false≢true e)

pub or_joined : (a b c : Bool) → (a || (b || c)) ≡ ((a || b) || c)
or_joined true b c = refl
or_joined false b c = refl

pub named_not : (a b x : Bool) → x ≡ true → a ≡ false → a || (b && not x) ≡ true → ⊥
named_not true b x named low e = false≢true (sym low)
named_not false b false named low e = false≢true named
named_not false false true named low e = false≢true e
named_not false true true named low e = false≢true e

pub or_none : (a b : Bool) → b ≡ false → a || b ≡ true → a ≡ true
or_none true b off on = refl
or_none false b off on = absurd (false≢true (sym off ∙ on))

pub or_neither : (b c : Bool) → b || c ≡ false → (b ≡ false) × (c ≡ false)
or_neither true c e = absurd (false≢true (sym e))
or_neither false c e = (refl, e)

pub either_one : (a b : Bool) → (a || b) ≡ true → (a ≡ true) ⊎ (b ≡ true)
either_one true b on = inl refl
either_one false b on = inr on

pub not_not : (b : Bool) → not b ≡ false → b ≡ true
not_not true e = refl
not_not false e = sym e

pub later : (a b : Bool) → (a || b) ≡ true → a ≡ false → b ≡ true
later true b h e = absurd (false≢true (sym e))
later false b h e = h

pub is_low : (b c : Bool) → (not b && c) ≡ true → b ≡ false
is_low true c h = absurd (false≢true h)
is_low false c h = refl

pub not_high : (b : Bool) → true ≡ not b → b ≡ false
not_high true e = cc
not_high false e = refl

pub is_left : (a b : Bool) → a ≡ true → b ≡ false → (a && not b) ≡ true
is_left a b on off = ap (λ (c : Bool). c && not b) on ∙ ap (λ (c : Bool). true && not c) off

pub one_most : (b : Bool) → cond b 0 1 ≤ 1
one_most true = omega arith
one_most false = omega arith

pub and_true : (b : Bool) → b && true ≡ b
and_true true = refl
and_true false = refl

pub no_iso : (a b : Bool) → a || b ≡ false → a ≡ false
no_iso true b is = is
no_iso false b is = refl

pub held_is : (a b : Bool) → a && not b ≡ true → b ≡ false
held_is true false on = refl
held_is true true on = absurd (true≢false (sym on))
held_is false b on = absurd (true≢false (sym on))
