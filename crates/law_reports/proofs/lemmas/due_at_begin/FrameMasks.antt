-- The masks of an interrupt endpoint below a hub along a frame: in the microframe after its start-split, and in the one after each
-- microframe in which its complete-split was made or none comes, none was missed (EHCI 1.0, 4.12.2.1 and 4.12.2.4.1).
use Rattle.std.proofs.Common.{◌≡◌, ℕ, zero, suc, ◌+◌, ◌/◌, ◌%◌, ◌^◌, ◌<◌, ◌≤◌, Bool, true, false, not, List, [], ◌∷◌, map, ap, refl, sym}
use Rattle.std.proofs.Common.{subst, ◌∙◌}
use Rattle.std.proofs.Common.{⊎_elim, inl, inr, ◌⊎◌, arith, if◌then◌else◌}
use Rattle.std.specs.Prelude.{◌==◌, ◌&&◌, ◌||◌}
use Rattle.std.proofs.lemmas.Bool.{cases_Bool, eqb-true, eq-eqb, false≢true, true≢false}
use Rattle.qh_qtd.specs.declared.queue_head.Qh.{Qh}
use Rattle.hc_masks.specs.Masks.{has, is_after_first, is_last, lacks, with_bit}
use Rattle.hc_interrupt.specs.Turns.{microframe_of, tag_of, is_missed}

-- ---- remainders by powers of two

step_mod : (m u : ℕ) → u < 8 → m % 2 ^ suc u ≡ 0 → m % 2 ^ u ≡ 0
step_mod m zero low is = omega (arith, is)
step_mod m (suc zero) low is = omega (arith, is)
step_mod m (suc (suc zero)) low is = omega (arith, is)
step_mod m (suc (suc (suc zero))) low is = omega (arith, is)
step_mod m (suc (suc (suc (suc zero)))) low is = omega (arith, is)
step_mod m (suc (suc (suc (suc (suc zero))))) low is = omega (arith, is)
step_mod m (suc (suc (suc (suc (suc (suc zero)))))) low is = omega (arith, is)
step_mod m (suc (suc (suc (suc (suc (suc (suc zero))))))) low is = omega (arith, is)
step_mod m (suc (suc (suc (suc (suc (suc (suc (suc u)))))))) low is = absurd (omega (arith, low))

bit_mod : (m u : ℕ) → u < 8 → m / 2 ^ u % 2 ≡ 1 → m % 2 ^ suc u ≡ 0 → ⊥
bit_mod m zero low on is = omega (arith, on, is)
bit_mod m (suc zero) low on is = omega (arith, on, is)
bit_mod m (suc (suc zero)) low on is = omega (arith, on, is)
bit_mod m (suc (suc (suc zero))) low on is = omega (arith, on, is)
bit_mod m (suc (suc (suc (suc zero)))) low on is = omega (arith, on, is)
bit_mod m (suc (suc (suc (suc (suc zero))))) low on is = omega (arith, on, is)
bit_mod m (suc (suc (suc (suc (suc (suc zero)))))) low on is = omega (arith, on, is)
bit_mod m (suc (suc (suc (suc (suc (suc (suc zero))))))) low on is = omega (arith, on, is)
bit_mod m (suc (suc (suc (suc (suc (suc (suc (suc u)))))))) low on is = omega (arith, low)

test_off : (n : ℕ) → (n ≡ 0 → ⊥) → not (n == 0) ≡ true
test_off n off = by (n == 0) refl
  where
    by : (b : Bool) → (n == 0) ≡ b → not (n == 0) ≡ true
    by true is = absurd (off (eqb-true n 0 is))
    by false is = ap not is

on_test : (n : ℕ) → not (n == 0) ≡ true → n ≡ 0 → ⊥
on_test n is none = true≢false (sym is ∙ ap not (eq-eqb n 0 none))

-- the microframe after one that comes after the start-split, and the one after the start-split
pub later_after : (mask u : ℕ) → u < 8 → is_after_first mask u ≡ true → is_after_first mask (suc u) ≡ true
later_after mask u low is = test_off (mask % 2 ^ suc u) (λ none. on_test (mask % 2 ^ u) is (step_mod mask u low none))

pub bit_after : (mask u : ℕ) → u < 8 → has mask u ≡ true → is_after_first mask (suc u) ≡ true
bit_after mask u low is = test_off (mask % 2 ^ suc u) (λ none. bit_mod mask u low (eqb-true (mask / 2 ^ u % 2) 1 is) none)

-- ---- one microframe more is done

odd_next : (done u : ℕ) → u < 8 → (done / 2 ^ u % 2 ≡ 1 → ⊥) → (done + 2 ^ u) / 2 ^ u % 2 ≡ 1
odd_next done zero low off = omega (arith, off)
odd_next done (suc zero) low off = omega (arith, off)
odd_next done (suc (suc zero)) low off = omega (arith, off)
odd_next done (suc (suc (suc zero))) low off = omega (arith, off)
odd_next done (suc (suc (suc (suc zero)))) low off = omega (arith, off)
odd_next done (suc (suc (suc (suc (suc zero))))) low off = omega (arith, off)
odd_next done (suc (suc (suc (suc (suc (suc zero)))))) low off = omega (arith, off)
odd_next done (suc (suc (suc (suc (suc (suc (suc zero))))))) low off = omega (arith, off)
odd_next done (suc (suc (suc (suc (suc (suc (suc (suc u)))))))) low off = absurd (omega (arith, low))

same_below : (done u v : ℕ) → u < 8 → v < u → (done + 2 ^ u) / 2 ^ v % 2 ≡ done / 2 ^ v % 2
same_below done zero v low less = absurd (omega (arith, less))
same_below done (suc zero) zero low less = omega arith
same_below done (suc zero) (suc v) low less = absurd (omega (arith, less))
same_below done (suc (suc zero)) zero low less = omega arith
same_below done (suc (suc zero)) (suc zero) low less = omega arith
same_below done (suc (suc zero)) (suc (suc v)) low less = absurd (omega (arith, less))
same_below done (suc (suc (suc zero))) zero low less = omega arith
same_below done (suc (suc (suc zero))) (suc zero) low less = omega arith
same_below done (suc (suc (suc zero))) (suc (suc zero)) low less = omega arith
same_below done (suc (suc (suc zero))) (suc (suc (suc v))) low less = absurd (omega (arith, less))
same_below done (suc (suc (suc (suc zero)))) zero low less = omega arith
same_below done (suc (suc (suc (suc zero)))) (suc zero) low less = omega arith
same_below done (suc (suc (suc (suc zero)))) (suc (suc zero)) low less = omega arith
same_below done (suc (suc (suc (suc zero)))) (suc (suc (suc zero))) low less = omega arith
same_below done (suc (suc (suc (suc zero)))) (suc (suc (suc (suc v)))) low less = absurd (omega (arith, less))
same_below done (suc (suc (suc (suc (suc zero))))) zero low less = omega arith
same_below done (suc (suc (suc (suc (suc zero))))) (suc zero) low less = omega arith
same_below done (suc (suc (suc (suc (suc zero))))) (suc (suc zero)) low less = omega arith
same_below done (suc (suc (suc (suc (suc zero))))) (suc (suc (suc zero))) low less = omega arith
same_below done (suc (suc (suc (suc (suc zero))))) (suc (suc (suc (suc zero)))) low less = omega arith
same_below done (suc (suc (suc (suc (suc zero))))) (suc (suc (suc (suc (suc v))))) low less = absurd (omega (arith, less))
same_below done (suc (suc (suc (suc (suc (suc zero)))))) zero low less = omega arith
same_below done (suc (suc (suc (suc (suc (suc zero)))))) (suc zero) low less = omega arith
same_below done (suc (suc (suc (suc (suc (suc zero)))))) (suc (suc zero)) low less = omega arith
same_below done (suc (suc (suc (suc (suc (suc zero)))))) (suc (suc (suc zero))) low less = omega arith
same_below done (suc (suc (suc (suc (suc (suc zero)))))) (suc (suc (suc (suc zero)))) low less = omega arith
same_below done (suc (suc (suc (suc (suc (suc zero)))))) (suc (suc (suc (suc (suc zero))))) low less = omega arith
same_below done (suc (suc (suc (suc (suc (suc zero)))))) (suc (suc (suc (suc (suc (suc v)))))) low less = absurd (omega (arith, less))
same_below done (suc (suc (suc (suc (suc (suc (suc zero))))))) zero low less = omega arith
same_below done (suc (suc (suc (suc (suc (suc (suc zero))))))) (suc zero) low less = omega arith
same_below done (suc (suc (suc (suc (suc (suc (suc zero))))))) (suc (suc zero)) low less = omega arith
same_below done (suc (suc (suc (suc (suc (suc (suc zero))))))) (suc (suc (suc zero))) low less = omega arith
same_below done (suc (suc (suc (suc (suc (suc (suc zero))))))) (suc (suc (suc (suc zero)))) low less = omega arith
same_below done (suc (suc (suc (suc (suc (suc (suc zero))))))) (suc (suc (suc (suc (suc zero))))) low less = omega arith
same_below done (suc (suc (suc (suc (suc (suc (suc zero))))))) (suc (suc (suc (suc (suc (suc zero)))))) low less = omega arith
same_below done (suc (suc (suc (suc (suc (suc (suc zero))))))) (suc (suc (suc (suc (suc (suc (suc v))))))) low less = absurd (omega (arith, less))
same_below done (suc (suc (suc (suc (suc (suc (suc (suc u)))))))) v low less = absurd (omega (arith, low))

over_last : (mask u v : ℕ) → mask / 2 ^ u ≡ 1 → u < v → v < 8 → mask / 2 ^ v % 2 ≡ 1 → ⊥
over_last mask zero zero is less low on = omega (arith, less)
over_last mask zero (suc zero) is less low on = omega (arith, is, on)
over_last mask zero (suc (suc zero)) is less low on = omega (arith, is, on)
over_last mask zero (suc (suc (suc zero))) is less low on = omega (arith, is, on)
over_last mask zero (suc (suc (suc (suc zero)))) is less low on = omega (arith, is, on)
over_last mask zero (suc (suc (suc (suc (suc zero))))) is less low on = omega (arith, is, on)
over_last mask zero (suc (suc (suc (suc (suc (suc zero)))))) is less low on = omega (arith, is, on)
over_last mask zero (suc (suc (suc (suc (suc (suc (suc zero))))))) is less low on = omega (arith, is, on)
over_last mask zero (suc (suc (suc (suc (suc (suc (suc (suc v)))))))) is less low on = omega (arith, low)
over_last mask (suc zero) zero is less low on = omega (arith, less)
over_last mask (suc zero) (suc zero) is less low on = omega (arith, less)
over_last mask (suc zero) (suc (suc zero)) is less low on = omega (arith, is, on)
over_last mask (suc zero) (suc (suc (suc zero))) is less low on = omega (arith, is, on)
over_last mask (suc zero) (suc (suc (suc (suc zero)))) is less low on = omega (arith, is, on)
over_last mask (suc zero) (suc (suc (suc (suc (suc zero))))) is less low on = omega (arith, is, on)
over_last mask (suc zero) (suc (suc (suc (suc (suc (suc zero)))))) is less low on = omega (arith, is, on)
over_last mask (suc zero) (suc (suc (suc (suc (suc (suc (suc zero))))))) is less low on = omega (arith, is, on)
over_last mask (suc zero) (suc (suc (suc (suc (suc (suc (suc (suc v)))))))) is less low on = omega (arith, low)
over_last mask (suc (suc zero)) zero is less low on = omega (arith, less)
over_last mask (suc (suc zero)) (suc zero) is less low on = omega (arith, less)
over_last mask (suc (suc zero)) (suc (suc zero)) is less low on = omega (arith, less)
over_last mask (suc (suc zero)) (suc (suc (suc zero))) is less low on = omega (arith, is, on)
over_last mask (suc (suc zero)) (suc (suc (suc (suc zero)))) is less low on = omega (arith, is, on)
over_last mask (suc (suc zero)) (suc (suc (suc (suc (suc zero))))) is less low on = omega (arith, is, on)
over_last mask (suc (suc zero)) (suc (suc (suc (suc (suc (suc zero)))))) is less low on = omega (arith, is, on)
over_last mask (suc (suc zero)) (suc (suc (suc (suc (suc (suc (suc zero))))))) is less low on = omega (arith, is, on)
over_last mask (suc (suc zero)) (suc (suc (suc (suc (suc (suc (suc (suc v)))))))) is less low on = omega (arith, low)
over_last mask (suc (suc (suc zero))) zero is less low on = omega (arith, less)
over_last mask (suc (suc (suc zero))) (suc zero) is less low on = omega (arith, less)
over_last mask (suc (suc (suc zero))) (suc (suc zero)) is less low on = omega (arith, less)
over_last mask (suc (suc (suc zero))) (suc (suc (suc zero))) is less low on = omega (arith, less)
over_last mask (suc (suc (suc zero))) (suc (suc (suc (suc zero)))) is less low on = omega (arith, is, on)
over_last mask (suc (suc (suc zero))) (suc (suc (suc (suc (suc zero))))) is less low on = omega (arith, is, on)
over_last mask (suc (suc (suc zero))) (suc (suc (suc (suc (suc (suc zero)))))) is less low on = omega (arith, is, on)
over_last mask (suc (suc (suc zero))) (suc (suc (suc (suc (suc (suc (suc zero))))))) is less low on = omega (arith, is, on)
over_last mask (suc (suc (suc zero))) (suc (suc (suc (suc (suc (suc (suc (suc v)))))))) is less low on = omega (arith, low)
over_last mask (suc (suc (suc (suc zero)))) zero is less low on = omega (arith, less)
over_last mask (suc (suc (suc (suc zero)))) (suc zero) is less low on = omega (arith, less)
over_last mask (suc (suc (suc (suc zero)))) (suc (suc zero)) is less low on = omega (arith, less)
over_last mask (suc (suc (suc (suc zero)))) (suc (suc (suc zero))) is less low on = omega (arith, less)
over_last mask (suc (suc (suc (suc zero)))) (suc (suc (suc (suc zero)))) is less low on = omega (arith, less)
over_last mask (suc (suc (suc (suc zero)))) (suc (suc (suc (suc (suc zero))))) is less low on = omega (arith, is, on)
over_last mask (suc (suc (suc (suc zero)))) (suc (suc (suc (suc (suc (suc zero)))))) is less low on = omega (arith, is, on)
over_last mask (suc (suc (suc (suc zero)))) (suc (suc (suc (suc (suc (suc (suc zero))))))) is less low on = omega (arith, is, on)
over_last mask (suc (suc (suc (suc zero)))) (suc (suc (suc (suc (suc (suc (suc (suc v)))))))) is less low on = omega (arith, low)
over_last mask (suc (suc (suc (suc (suc zero))))) zero is less low on = omega (arith, less)
over_last mask (suc (suc (suc (suc (suc zero))))) (suc zero) is less low on = omega (arith, less)
over_last mask (suc (suc (suc (suc (suc zero))))) (suc (suc zero)) is less low on = omega (arith, less)
over_last mask (suc (suc (suc (suc (suc zero))))) (suc (suc (suc zero))) is less low on = omega (arith, less)
over_last mask (suc (suc (suc (suc (suc zero))))) (suc (suc (suc (suc zero)))) is less low on = omega (arith, less)
over_last mask (suc (suc (suc (suc (suc zero))))) (suc (suc (suc (suc (suc zero))))) is less low on = omega (arith, less)
over_last mask (suc (suc (suc (suc (suc zero))))) (suc (suc (suc (suc (suc (suc zero)))))) is less low on = omega (arith, is, on)
over_last mask (suc (suc (suc (suc (suc zero))))) (suc (suc (suc (suc (suc (suc (suc zero))))))) is less low on = omega (arith, is, on)
over_last mask (suc (suc (suc (suc (suc zero))))) (suc (suc (suc (suc (suc (suc (suc (suc v)))))))) is less low on = omega (arith, low)
over_last mask (suc (suc (suc (suc (suc (suc zero)))))) zero is less low on = omega (arith, less)
over_last mask (suc (suc (suc (suc (suc (suc zero)))))) (suc zero) is less low on = omega (arith, less)
over_last mask (suc (suc (suc (suc (suc (suc zero)))))) (suc (suc zero)) is less low on = omega (arith, less)
over_last mask (suc (suc (suc (suc (suc (suc zero)))))) (suc (suc (suc zero))) is less low on = omega (arith, less)
over_last mask (suc (suc (suc (suc (suc (suc zero)))))) (suc (suc (suc (suc zero)))) is less low on = omega (arith, less)
over_last mask (suc (suc (suc (suc (suc (suc zero)))))) (suc (suc (suc (suc (suc zero))))) is less low on = omega (arith, less)
over_last mask (suc (suc (suc (suc (suc (suc zero)))))) (suc (suc (suc (suc (suc (suc zero)))))) is less low on = omega (arith, less)
over_last mask (suc (suc (suc (suc (suc (suc zero)))))) (suc (suc (suc (suc (suc (suc (suc zero))))))) is less low on = omega (arith, is, on)
over_last mask (suc (suc (suc (suc (suc (suc zero)))))) (suc (suc (suc (suc (suc (suc (suc (suc v)))))))) is less low on = omega (arith, low)
over_last mask (suc (suc (suc (suc (suc (suc (suc zero))))))) zero is less low on = omega (arith, less)
over_last mask (suc (suc (suc (suc (suc (suc (suc zero))))))) (suc zero) is less low on = omega (arith, less)
over_last mask (suc (suc (suc (suc (suc (suc (suc zero))))))) (suc (suc zero)) is less low on = omega (arith, less)
over_last mask (suc (suc (suc (suc (suc (suc (suc zero))))))) (suc (suc (suc zero))) is less low on = omega (arith, less)
over_last mask (suc (suc (suc (suc (suc (suc (suc zero))))))) (suc (suc (suc (suc zero)))) is less low on = omega (arith, less)
over_last mask (suc (suc (suc (suc (suc (suc (suc zero))))))) (suc (suc (suc (suc (suc zero))))) is less low on = omega (arith, less)
over_last mask (suc (suc (suc (suc (suc (suc (suc zero))))))) (suc (suc (suc (suc (suc (suc zero)))))) is less low on = omega (arith, less)
over_last mask (suc (suc (suc (suc (suc (suc (suc zero))))))) (suc (suc (suc (suc (suc (suc (suc zero))))))) is less low on = omega (arith, less)
over_last mask (suc (suc (suc (suc (suc (suc (suc zero))))))) (suc (suc (suc (suc (suc (suc (suc (suc v)))))))) is less low on = omega (arith, low)
over_last mask (suc (suc (suc (suc (suc (suc (suc (suc u)))))))) v is less low on = omega (arith, less, low)

no_bit : (b : Bool) → (b ≡ true → ⊥) → b ≡ false
no_bit true off = absurd (off refl)
no_bit false off = refl

-- no microframe after the last one of a mask stands in it
pub none_over : (mask u v : ℕ) → is_last mask u ≡ true → u < v → v < 8 → has mask v ≡ false
none_over mask u v last less low =
    no_bit (has mask v) (λ on. over_last mask u v (eqb-true (mask / 2 ^ u) 1 last) less low (eqb-true (mask / 2 ^ v % 2) 1 on))

bit_by : (done u : ℕ) (b : Bool) → u < 8 → has done u ≡ b → has (if b then done else done + 2 ^ u) u ≡ true
bit_by done u true low is = is
bit_by done u false low is =
    eq-eqb ((done + 2 ^ u) / 2 ^ u % 2) 1
    (odd_next done u low (λ on. true≢false (sym (eq-eqb (done / 2 ^ u % 2) 1 on) ∙ is)))

bit_on : (done u : ℕ) → u < 8 → has (with_bit done u) u ≡ true
bit_on done u low = bit_by done u (has done u) low refl

beside_by : (done u v : ℕ) (b : Bool) → u < 8 → v < u → has (if b then done else done + 2 ^ u) v ≡ has done v
beside_by done u v true low less = refl
beside_by done u v false low less = ap (λ (n : ℕ). n == 1) (same_below done u v low less)

lacks_same : (mask a b n : ℕ) → ((v : ℕ) → v < n → has a v ≡ has b v) → lacks mask a n ≡ lacks mask b n
unfolding lacks
lacks_same mask a b zero same = refl
lacks_same mask a b (suc n) same =
    ap (λ (c : Bool). c || (has mask n && not (has a n))) (lacks_same mask a b n (λ v less. same v (omega (arith, less))))
    ∙ ap (λ (c : Bool). lacks mask b n || (has mask n && not c)) (same n (omega arith))

none_left : (a b c : Bool) → a ≡ false → (b ≡ false ⊎ c ≡ true) → (a || (b && not c)) ≡ false
none_left false false c was how = refl
none_left false true true was how = refl
none_left false true false was (inl off) = absurd (true≢false off)
none_left false true false was (inr on) = absurd (false≢true on)
none_left true b c was how = absurd (true≢false was)

-- no complete-split of a microframe before the next one is lacked
pub rest_lacks : (mask done u : ℕ) → lacks mask done u ≡ false → has mask u ≡ false → lacks mask done (suc u) ≡ false
unfolding lacks
rest_lacks mask done u was off = none_left (lacks mask done u) (has mask u) (has done u) was (inl off)

pub done_lacks : (mask done u : ℕ) → u < 8 → lacks mask done u ≡ false → lacks mask (with_bit done u) (suc u) ≡ false
unfolding lacks
done_lacks mask done u low was =
    none_left (lacks mask (with_bit done u) u) (has mask u) (has (with_bit done u) u)
    (lacks_same mask (with_bit done u) done u (λ v less. beside_by done u v (has done u) low less) ∙ was) (inr (bit_on done u low))

pub none_lacks : (mask done n : ℕ) → ((v : ℕ) → v < n → has mask v ≡ false) → lacks mask done n ≡ false
unfolding lacks
none_lacks mask done zero none = refl
none_lacks mask done (suc n) none =
    none_left (lacks mask done n) (has mask n) (has done n) (none_lacks mask done n (λ v less. none v (omega (arith, less))))
    (inl (none n (omega arith)))

-- ---- none was missed

pub record IsOnTime (f : ℕ) (q : Qh) : Type 0 where
  pub tag : q.frame_tag ≡ tag_of f
  pub after : is_after_first q.smask (microframe_of f) ≡ true
  pub all : lacks q.cmask q.c_prog (microframe_of f) ≡ false

all_three : (a b c : Bool) → (not a || (not b || c)) ≡ false → (a ≡ true) × ((b ≡ true) × (c ≡ false))
all_three true true false is = (refl, (refl, refl))
all_three true true true is = absurd (true≢false is)
all_three true false c is = absurd (true≢false is)
all_three false b c is = absurd (true≢false is)

three_all : (a b c : Bool) → a ≡ true → b ≡ true → c ≡ false → (not a || (not b || c)) ≡ false
three_all true true false x y z = refl
three_all false b c x y z = absurd (false≢true x)
three_all true false c x y z = absurd (false≢true y)
three_all true true true x y z = absurd (true≢false z)

pub is_on_time : (f : ℕ) (q : Qh) → is_missed f q ≡ false → IsOnTime f q
is_on_time f q is =
    let t = all_three (q.frame_tag == tag_of f) (is_after_first q.smask (microframe_of f)) (lacks q.cmask q.c_prog (microframe_of f)) is in
    record { tag = eqb-true q.frame_tag (tag_of f) t.0; after = t.1.0; all = t.1.1 }

pub none_missed : (f : ℕ) (q : Qh) → IsOnTime f q → is_missed f q ≡ false
none_missed f q t =
    three_all (q.frame_tag == tag_of f) (is_after_first q.smask (microframe_of f)) (lacks q.cmask q.c_prog (microframe_of f))
    (eq-eqb q.frame_tag (tag_of f) t.tag) t.after t.all

-- in microframe 0 one was missed
pub missed_at_first : (f : ℕ) (q : Qh) → microframe_of f ≡ 0 → is_missed f q ≡ true
missed_at_first f q first = by (is_missed f q) refl
  where
    none : (m u : ℕ) → u ≡ 0 → is_after_first m u ≡ false
    none m u is = ap (λ (n : ℕ). is_after_first m n) is ∙ ap not (eq-eqb (m % 1) 0 (omega arith))

    by : (b : Bool) → is_missed f q ≡ b → is_missed f q ≡ true
    by true is = is
    by false is = absurd (true≢false (sym (is_on_time f q is).after ∙ none q.smask (microframe_of f) first))

-- ---- the next microframe of the frame

pub record IsNextOf (f g : ℕ) : Type 0 where
  pub low : microframe_of f < 8
  pub next : microframe_of g ≡ suc (microframe_of f)
  pub frame : tag_of g ≡ tag_of f

-- with as much done in z, a queue head with the masks and the tag of q
pub record HasMasksOf (q z : Qh) : Type 0 where
  pub smask : z.smask ≡ q.smask
  pub cmask : z.cmask ≡ q.cmask
  pub tag : z.frame_tag ≡ q.frame_tag

pub next_on_time : (f g : ℕ) (q z : Qh) → IsNextOf f g → HasMasksOf q z → IsOnTime f q
    → lacks q.cmask z.c_prog (suc (microframe_of f)) ≡ false → IsOnTime g z
next_on_time f g q z n m t none = record {
  tag = m.tag ∙ t.tag ∙ sym n.frame;
  after =
      ap (λ (mask : ℕ). is_after_first mask (microframe_of g)) m.smask ∙ ap (is_after_first q.smask) n.next
      ∙ later_after q.smask (microframe_of f) n.low t.after;
  all = ap (λ (mask : ℕ). lacks mask z.c_prog (microframe_of g)) m.cmask ∙ ap (lacks q.cmask z.c_prog) n.next ∙ none;
}

-- .. after its start-split
pub started_on_time : (f g : ℕ) (z : Qh) → IsNextOf f g → z.frame_tag ≡ tag_of f → has z.smask (microframe_of f) ≡ true
    → lacks z.cmask z.c_prog (suc (microframe_of f)) ≡ false → IsOnTime g z
started_on_time f g z n tag bit none = record {
  tag = tag ∙ sym n.frame;
  after = ap (is_after_first z.smask) n.next ∙ bit_after z.smask (microframe_of f) n.low bit;
  all = ap (lacks z.cmask z.c_prog) n.next ∙ none;
}
